use Rattle.std.proofs.Common.{subst}
use Rattle.bd_node.specs.declared.node.Node.{Node}
use Rattle.bd_node.specs.Nodes.{names}
use Rattle.bd_query.specs.Looks.{IsNamedIn}
use Rattle.bd_query.proofs.Going.{lower_base}
use Rattle.bd_query.proofs.ways.fetched.Goals as goal

pub returns-clause-lower : goal.returns-clause-lower
returns-clause-lower g c =
    lower_base (g.S.NodeStore.table c.args.store.now) ((g.S.NodeStore.table c.args.store.now).level c.args.id) c.in_ok-node.node.value c.in_ok-part_of.field-0.base c.in_ok-node.ensures.shape
    (subst (λ (n : Node). IsNamedIn (names n) c.in_ok-part_of.field-0.base) c.deref.ensures c.in_ok-part_of.ensures.named)
