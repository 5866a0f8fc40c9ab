use Rattle.std.proofs.Common.{subst, Option}
use Rattle.bd_entries.specs.declared.mark.Mark.{Mark}
use Rattle.bd_entries.specs.Passes.{IsMarkedTo}
use Rattle.bd_entries.proofs.Passing.{ended_whole, ended_broken}
use Rattle.bd_entries.proofs.check.verdict_at_end.Goals as goal

pub returns-in-Some : goal.returns-in-Some
returns-in-Some c = λ has_modes at low most passed few ends.
    ended_whole has_modes at low most c.args.pass.now.keys c.in-Some.field-0 passed.below
    (subst (λ (o : Option Mark). IsMarkedTo has_modes at low c.args.pass.now.keys o) c.in-Some.is passed.seen) few ends

pub returns-in-None : goal.returns-in-None
returns-in-None c = λ has_modes at low most passed few ends.
    ended_broken has_modes at low most c.args.pass.now.keys passed.below
    (subst (λ (o : Option Mark). IsMarkedTo has_modes at low c.args.pass.now.keys o) c.in-None.is passed.seen) ends
