use Rattle.std.proofs.Common.{◌≡◌, ◌∙◌, ap, subst}
use Rattle.bd_tally.specs.Counts.{AreRising, first_wrong}
use Rattle.bd_tally.specs.Seen.{named_so_far}
use Rattle.bd_tally.proofs.Wrongs.{found_right, found_wrong}
use Rattle.bd_tally.proofs.owed.Owed.wrong.Goals as goal

pub returns-clause-none : goal.returns-clause-none
returns-clause-none c nodes t seen has =
    let is : c.first_wrong.result ≡ first_wrong c.args.self.now = c.first_wrong.ensures ∙ ap first_wrong (c.as_slice.ensures.value ∙ c.self.view_is) in
    found_right (named_so_far nodes t seen) t.entries c.args.self.now c.first_wrong.result has is

pub returns-clause-least : goal.returns-clause-least
returns-clause-least c nodes t seen has =
    let is : c.first_wrong.result ≡ first_wrong c.args.self.now = c.first_wrong.ensures ∙ ap first_wrong (c.as_slice.ensures.value ∙ c.self.view_is) in
    found_wrong (named_so_far nodes t seen) t.entries c.args.self.now c.first_wrong.result (subst AreRising c.self.view_is c.self.invariant) has is
