-- What is held of the bytes so far and of these.
use Rattle.std.proofs.Common.{◌∙◌, arith}
use Rattle.std.proofs.lemmas.Grind.{common_steps}
use Rattle.bd_shell.proofs.Held.{held_none, held_more}
use Rattle.bd_shell.proofs.shell.hold.Goals as goal

pub returns-then-is_empty-clause-ok : goal.returns-then-is_empty-clause-ok
returns-then-is_empty-clause-ok c = held_none c.args.line.now.items c.args.bytes.now c.requires (grind (arith, common_steps))

pub returns-clause-ok : goal.returns-clause-ok
returns-clause-ok c =
    c.in_ok-extend_from_slice.ensures.items
    ∙ held_more c.args.line.now.items c.args.bytes.now c.min-count.result c.requires (grind (arith, common_steps))
