use Rattle.bd_flush.proofs.CarveCommits.{goto_of, on_carve_step}
use Rattle.bd_flush.proofs.carving.carve_step.Goals as goal

pub carve-requires-clause-goto : goal.carve-requires-clause-goto
carve-requires-clause-goto g c =
    goto_of (g.S.NodeStore.table c.args.store.now).level c.deref-node.result.now c.args.parent.now.node.value c.args.place c.args.index c.requires.can.edge c.deref-node.ensures c.requires.can.oldest

pub returns : goal.returns
returns g c =
    on_carve_step (g.S.NodeStore.table c.args.store.now) c.args.parent.now c.args.place c.args.index c.deref-node.result.now c.in_ok-carved.carved c.requires.can.edge c.args.root c.change_step.result c.deref-node.ensures c.requires.root c.requires.can.here c.requires.can.oldest c.in_ok-carved.ensures.node c.change_step.ensures
