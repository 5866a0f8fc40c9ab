use Rattle.std.proofs.Common.{ℕ, drop}
use Rattle.std.specs.List.{AllByRecursion}
use Rattle.bd_format.specs.Slots.{IsLowerLevel}
use Rattle.bd_table.specs.Entries.{level_at}
use Rattle.bd_check.proofs.naming.are_lower.Given as goal

-- it holds of all if it holds of those that are left
abbrev pub invariant-loop-id : goal.invariant-loop-id
invariant-loop-id l =
    AllByRecursion (λ (c : ℕ). IsLowerLevel l.level (level_at l.entries c)) (drop l.id-index l.ids)
    → AllByRecursion (λ (c : ℕ). IsLowerLevel l.level (level_at l.entries c)) l.ids
