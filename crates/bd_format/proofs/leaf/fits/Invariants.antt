use Rattle.std.proofs.Common.{◌≡◌, ◌+◌, drop}
use Rattle.std.specs.List.{sum_by}
use Rattle.bd_limits.specs.Limits.{leaf_limit}
use Rattle.bd_node.specs.Shape.{entry_size}
use Rattle.bd_format.proofs.leaf.fits.Given as goal

-- what is left of the limit, and the entries that are left
abbrev pub invariant-loop-entry : goal.invariant-loop-entry
invariant-loop-entry l = sum_by entry_size l.entries + l.left ≡ leaf_limit + sum_by entry_size (drop l.entry-index l.entries)
