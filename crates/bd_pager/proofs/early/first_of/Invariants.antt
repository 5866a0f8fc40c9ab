use Rattle.std.proofs.Common.{◌≢◌}
use Rattle.bd_pager.specs.Counting.{IsListed}
use Rattle.bd_pager.specs.Places.{spots_in}
use Rattle.bd_pager.proofs.EarlyLemmas.{IsFirstOf, IsOver}
use Rattle.bd_pager.proofs.early.first_of.Given as goal

-- it is the first of those that were looked at
abbrev pub invariant-loop-id : goal.invariant-loop-id
invariant-loop-id l =
    (goal.iterator-loop-id).can_next l.id-iterator
    × (goal.iterator-loop-id).is_finite l.id-iterator
    × (l.first ≢ l.root → IsListed l.listed l.first)
    × IsOver (IsFirstOf l.root (spots_in l.spots) l.first) l.listed l.id-iterator
