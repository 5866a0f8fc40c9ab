-- A small batch has room, and is put after the root's messages.
use Rattle.bd_effects.proofs.Fitting.{small_fits}
use Rattle.bd_effects.proofs.OnNodes.{is_appended}
use Rattle.bd_effects.proofs.sending.append.Goals as goal

pub apply-requires : goal.apply-requires
apply-requires g c = small_fits c.args.list.now (g.S.NodeStore.table c.args.tree.now.store) c.requires.small c.requires.room

pub returns-clause-appended : goal.returns-clause-appended
returns-clause-appended g c = λ known sound.
    is_appended c.apply.result (g.S.NodeStore.nodes c.args.tree.now.store) (g.S.NodeStore.table c.args.tree.now.store) c.args.list.now (g.S.NodeStore.nodes c.apply.new.self.store) (g.S.NodeStore.table c.apply.new.self.store) sound
    (c.apply.ensures.committed known sound)
