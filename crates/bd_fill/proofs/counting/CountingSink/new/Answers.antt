-- Nothing is counted of no byte.
use Rattle.std.proofs.Common.{sym, ap, ◌∙◌}
use Rattle.bd_fill.specs.Counting.{tally_of}
use Rattle.bd_fill.proofs.Tallies.{tally_none}
use Rattle.bd_fill.proofs.counting.CountingSink.new.Goals as goal

pub invariant_of-result : goal.invariant_of-result
invariant_of-result c = c.new.ensures ∙ sym tally_none ∙ ap tally_of (sym c.new-2.ensures)
