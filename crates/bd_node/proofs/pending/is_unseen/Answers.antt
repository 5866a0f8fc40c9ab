use Rattle.std.proofs.Common.{ap, ◌∙◌}
use Rattle.std.specs.Ordering.{is_lt}
use Rattle.bd_node.proofs.Unseen.{unseen_then, unseen_else}
use Rattle.bd_node.proofs.pending.is_unseen.Goals as goal

pub returns-then-edge-place : goal.returns-then-edge-place
returns-then-edge-place c =
    unseen_then c.is_lt.result c.args.place c.args.key.now c.as_slice.result.now c.args.edges.now c.edge_of-edge.result.now c.requires c.edge_of-edge.ensures c.if-edge-place.true (c.is_lt.ensures ∙ ap is_lt c.cmp.ensures) c.as_slice.ensures

pub returns-else-edge-place : goal.returns-else-edge-place
returns-else-edge-place c = unseen_else c.args.place c.args.key.now c.args.edges.now c.edge_of-edge.result.now c.requires c.edge_of-edge.ensures c.if-edge-place.false
