use Rattle.std.specs.Option.{option_copied}
use Rattle.bd_node.proofs.Parts.{edge_here}
use Rattle.bd_cover.proofs.Covers.{place_low, end_read, rising_read, past_all, none_more, first_one, none_at_all}
use Rattle.bd_cover.proofs.covering.first_covered.Goals as goal

pub newest-requires : goal.newest-requires
newest-requires c =
    rising_read c.args.node.now c.loop-place.place c.index-edges-place.result (option_copied c.end_of.result) c.requires
    (edge_here c.edges-edges.result.now c.args.node.now c.loop-place.place c.index-edges-place.result c.edges-edges.ensures (place_low c.args.node.now c.edges-edges.result.now c.loop-place.place c.edges-edges.ensures c.loop-place-test.true) c.index-edges-place.is)
    (end_read c.args.node.now c.edges-edges.result.now c.loop-place.place (option_copied c.end_of.result) c.edges-edges.ensures c.end_of.ensures)

pub returns-in-Some : goal.returns-in-Some
returns-in-Some c =
    first_one c.args.cover c.args.node.now c.loop-place.place c.in-Some.at c.index-edges-place.result c.buffer-buffer.result.now (option_copied c.end_of.result) c.loop-place.invariant
    (edge_here c.edges-edges.result.now c.args.node.now c.loop-place.place c.index-edges-place.result c.edges-edges.ensures (place_low c.args.node.now c.edges-edges.result.now c.loop-place.place c.edges-edges.ensures c.loop-place-test.true) c.index-edges-place.is)
    c.buffer-buffer.ensures
    (end_read c.args.node.now c.edges-edges.result.now c.loop-place.place (option_copied c.end_of.result) c.edges-edges.ensures c.end_of.ensures)
    c.in-Some.ensures

pub loop-place-preserved : goal.loop-place-preserved
loop-place-preserved c =
    none_more c.args.cover c.args.node.now c.loop-place.place c.index-edges-place.result c.buffer-buffer.result.now (option_copied c.end_of.result) c.loop-place.invariant
    (edge_here c.edges-edges.result.now c.args.node.now c.loop-place.place c.index-edges-place.result c.edges-edges.ensures (place_low c.args.node.now c.edges-edges.result.now c.loop-place.place c.edges-edges.ensures c.loop-place-test.true) c.index-edges-place.is)
    c.buffer-buffer.ensures
    (end_read c.args.node.now c.edges-edges.result.now c.loop-place.place (option_copied c.end_of.result) c.edges-edges.ensures c.end_of.ensures)
    c.in_default.ensures

pub returns : goal.returns
returns c = none_at_all c.args.cover c.args.node.now c.loop-place.place c.loop-place.invariant (past_all c.args.node.now c.edges-edges.result.now c.loop-place.place c.edges-edges.ensures c.loop-place-test.false)
