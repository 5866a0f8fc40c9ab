use Rattle.std.proofs.Common.{◌≤◌, ◌-◌, length, drop}
use Rattle.bd_leaf.specs.Points.{messages_of}
use Rattle.bd_leaf.proofs.Merges.{IsUnderway}
use Rattle.bd_leaf.proofs.merging.merged.Given as goal

abbrev pub invariant-loop-at : goal.invariant-loop-at
invariant-loop-at l =
    record {
      within : l.low ≤ length l.entries;
      short : l.at ≤ length l.points;
      underway : IsUnderway l.entries (messages_of l.points) l.new.items (drop l.low l.entries) (messages_of (drop l.at l.points));
    }

abbrev pub decreases-loop-at : goal.decreases-loop-at
decreases-loop-at l = length l.points - l.at
