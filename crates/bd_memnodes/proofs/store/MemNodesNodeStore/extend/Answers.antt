use Rattle.bd_node.specs.declared.node.Node.{Node}
use Rattle.bd_node.specs.Steps.{IsRootOf, IsStep, extend_step}
use Rattle.bd_memnodes.proofs.Views.{to_kept}
use Rattle.bd_memnodes.proofs.store.MemNodesNodeStore.extend.Goals as goal

pub extend-requires-clause-step : goal.extend-requires-clause-step
extend-requires-clause-step c =
    to_kept (λ n t. (root : Node) → IsRootOf t root → IsStep t (extend_step t root c.args.made c.args.list)) c.self.inside.kept c.self.inside.visits c.args.self.now c.self.view_is c.requires
