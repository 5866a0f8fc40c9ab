use Rattle.std.proofs.Common.{ℕ, IsTrue}
use Rattle.bd_pager.specs.Counting.{is_in_memory}
use Rattle.bd_pager.specs.Places.{spots_in}
use Rattle.bd_pager.proofs.EarlyLemmas.{IsOver}
use Rattle.bd_pager.proofs.early.stale.Given as goal

-- those that were looked at are in memory
abbrev pub invariant-loop-id : goal.invariant-loop-id
invariant-loop-id l =
    (goal.iterator-loop-id).can_next l.id-iterator
    × (goal.iterator-loop-id).is_finite l.id-iterator
    × IsOver (λ (id : ℕ). IsTrue (is_in_memory (spots_in l.spots id))) l.listed l.id-iterator
