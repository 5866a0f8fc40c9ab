-- A graft, in the words of its parts.
use Rattle.bd_effects.proofs.OnNodes.{is_graft_made, is_walked}
use Rattle.bd_effects.proofs.sending.graft.Goals as goal

pub returns-clause-walked : goal.returns-clause-walked
returns-clause-walked g c =
    is_walked c.graft.result (g.S.NodeStore.table c.args.tree.now.store) (g.S.NodeStore.table c.graft.new.self.store) c.graft.new.self.walk c.graft.ensures.table c.graft.ensures.height c.graft.ensures.few

pub returns-clause-made : goal.returns-clause-made
returns-clause-made g c = λ known sound.
    is_graft_made c.graft.result (g.S.NodeStore.nodes c.args.tree.now.store) (g.S.NodeStore.table c.args.tree.now.store) c.args.s.now c.args.d.now c.args.keep (g.S.NodeStore.nodes c.graft.new.self.store) (g.S.NodeStore.table c.graft.new.self.store)
    c.graft.new.self.walk (c.graft.ensures.step known sound) (c.graft.ensures.others known sound) (c.graft.ensures.walk known sound)
