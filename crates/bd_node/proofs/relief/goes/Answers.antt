use Rattle.std.specs.Option.{option_copied}
use Rattle.bd_node.proofs.Going.{edge_read, below_end, going_test}
use Rattle.bd_node.proofs.relief.goes.Goals as goal

pub can_touch-requires : goal.can_touch-requires
can_touch-requires c =
    below_end c.args.edges.now c.args.place c.index-edges-place.result c.as_slice.result.now (option_copied c.end_of.result) c.requires.rising
    (edge_read c.args.edges.now c.args.place c.index-edges-place.result c.requires.within c.index-edges-place.is) c.as_slice.ensures c.end_of.ensures

pub returns : goal.returns
returns c =
    going_test c.args.edges.now c.args.place c.args.from c.args.at c.args.message.now c.index-edges-place.result c.can_touch.result c.as_slice.result.now (option_copied c.end_of.result)
    (edge_read c.args.edges.now c.args.place c.index-edges-place.result c.requires.within c.index-edges-place.is) c.as_slice.ensures c.end_of.ensures c.if-at-from.false c.if-edge-at.false c.can_touch.ensures
