use Rattle.bd_tree.proofs.Reclaiming.{same_failed}
use Rattle.bd_tree.proofs.map.TreeKeyMap.graft.Goals as goal

pub returns-clause-kept : goal.returns-clause-kept
returns-clause-kept g c = λ known.
    same_failed g.S.NodeStore c.args.self.now.store c.graft.new.self.store c.graft.result known.0 c.graft.ensures.err
