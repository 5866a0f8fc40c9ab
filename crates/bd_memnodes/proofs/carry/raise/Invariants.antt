use Rattle.std.proofs.Common.{◌≡◌, ℕ, ◌+◌, take, nat_eq, IsSome}
use Rattle.std.specs.HashMap.{get}
use Rattle.bd_counts.specs.Naming.{times_among}
use Rattle.bd_memnodes.specs.Maps.{count_in}
use Rattle.bd_memnodes.proofs.carry.raise.Given as goal

-- the names so far are counted
abbrev pub invariant-loop-name : goal.invariant-loop-name
invariant-loop-name l = record {
  raised : (c : ℕ) → count_in l.counts c ≡ count_in l.fn.counts c + times_among (take l.name-index l.names) c;
  there : (c : ℕ) → IsSome (get nat_eq l.fn.counts c) → IsSome (get nat_eq l.counts c);
}
