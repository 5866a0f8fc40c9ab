use Rattle.bd_copy.proofs.Copies.{on_copy_step}
use Rattle.bd_copy.proofs.copying.copy_step.Goals as goal

pub returns : goal.returns
returns c =
    on_copy_step c.args.root c.args.next c.args.parent.now c.args.place c.args.copy c.deref-node.result.now c.in_ok-above.above c.below_step.result c.deref-node.ensures c.requires.within c.in_ok-above.ensures c.below_step.ensures
