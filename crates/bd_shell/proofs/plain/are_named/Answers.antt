-- Each of them is one.
use Rattle.std.proofs.Common.{subst}
use Rattle.std.proofs.lemmas.List.Elements.{All-more}
use Rattle.bd_script.specs.Replies.{IsNamed}
use Rattle.bd_shell.proofs.plain.are_named.Goals as goal

pub loop-listed-preserved : goal.loop-listed-preserved
loop-listed-preserved c =
    All-more IsNamed c.args.names.now c.loop-listed.listed-index c.listed-item.result c.loop-listed-test.true c.loop-listed.invariant (subst IsNamed c.listed-item.is c.is_named.ensures)
