use Rattle.std.proofs.Common.{◌≡◌, ◌+◌, ◌-◌, ◌<◌, ◌≤◌, length, take}
use Rattle.bd_leaf.specs.Leaves.{entries_size}
use Rattle.bd_leaf.proofs.halves.middle.Given as goal

-- entries on both sides; those before the place count no more than half and one entry
abbrev pub invariant-loop-place : goal.invariant-loop-place
invariant-loop-place l =
    record {
      some : 1 ≤ l.place;
      within : l.place < length l.entries;
      counts : l.before ≡ entries_size (take l.place l.entries);
      few : l.before ≤ l.half + 1558;
    }

abbrev pub decreases-loop-place : goal.decreases-loop-place
decreases-loop-place l = length l.entries - l.place
