use Rattle.std.proofs.Common.{◌≡◌, ℕ, ◌+◌, ◌<◌, ◌≤◌, ◌^◌, take, nat_eq}
use Rattle.std.specs.Option.{unwrap_or}
use Rattle.std.specs.HashMap.{get}
use Rattle.bd_counts.specs.Naming.{times_among}
use Rattle.bd_memnodes.specs.Maps.{count_in}
use Rattle.bd_memnodes.proofs.plan.check_counts.Given as goal

-- the counts with the names so far
abbrev pub invariant-loop-name : goal.invariant-loop-name
invariant-loop-name l = record {
  raised : (c : ℕ) → unwrap_or (get nat_eq l.raised c) (count_in l.counts c) ≡ count_in l.counts c + times_among (take l.name-index l.names) c;
  fits : (c : ℕ) → 1 ≤ times_among (take l.name-index l.names) c → count_in l.counts c + times_among (take l.name-index l.names) c < 2 ^ 64;
}
