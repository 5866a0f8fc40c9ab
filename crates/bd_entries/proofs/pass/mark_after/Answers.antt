use Rattle.bd_entries.proofs.Passing.{first_after, next_after}
use Rattle.bd_entries.proofs.pass.mark_after.Goals as goal

pub returns-in-None : goal.returns-in-None
returns-in-None c = λ at low keys below seen next.
    first_after c.args.has_modes at low keys c.args.key.now c.args.value.now c.args.mark c.first_mark.result c.in-None.is c.first_mark.ensures below seen next

pub returns-in-Some : goal.returns-in-Some
returns-in-Some c = λ at low keys below seen next.
    next_after c.args.has_modes at low keys c.args.key.now c.args.value.now c.args.mark c.in-Some.mark c.next_mark.result c.in-Some.is c.next_mark.ensures seen next
