-- The byte is counted after those before it.
use Rattle.std.proofs.Common.{sym, ap, ◌∙◌}
use Rattle.bd_fill.specs.Counting.{tally_byte, tally_of}
use Rattle.bd_fill.proofs.Tallies.{tally_push}
use Rattle.bd_fill.proofs.counting.CountingSink.count.Goals as goal

pub invariant_of-self : goal.invariant_of-self
invariant_of-self c =
    let b = c.args.byte.now in
    c.after-self-inside.ensures ∙ ap (λ t. tally_byte t b) c.self.invariant
    ∙ sym (tally_push c.self.inside.history.bytes b) ∙ ap tally_of (sym c.and-self-inside.ensures)
