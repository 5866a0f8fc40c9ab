use Rattle.std.specs.Option.{option_copied}
use Rattle.bd_message.proofs.Finds.{not_both}
use Rattle.bd_node.proofs.Parts.{edge_here}
use Rattle.bd_cover.proofs.Covers.{place_low, end_read, rising_read, past_all}
use Rattle.bd_cover.proofs.Cuts.{none_cut_more, first_cut_here, no_cut_in}
use Rattle.bd_cover.proofs.covering.first_cut.Goals as goal

pub has_cut-requires : goal.has_cut-requires
has_cut-requires c =
    rising_read c.args.node.now c.loop-place.place c.index-edges-place.result (option_copied c.end_of.result) c.requires
    (edge_here c.edges-edges.result.now c.args.node.now c.loop-place.place c.index-edges-place.result c.edges-edges.ensures (place_low c.args.node.now c.edges-edges.result.now c.loop-place.place c.edges-edges.ensures c.loop-place-test.true) c.index-edges-place.is)
    (end_read c.args.node.now c.edges-edges.result.now c.loop-place.place (option_copied c.end_of.result) c.edges-edges.ensures c.end_of.ensures)

pub returns-then-has_cut : goal.returns-then-has_cut
returns-then-has_cut c =
    first_cut_here c.args.node.now c.loop-place.place c.index-edges-place.result c.buffer-buffer.result.now (option_copied c.end_of.result) c.loop-place.invariant
    (edge_here c.edges-edges.result.now c.args.node.now c.loop-place.place c.index-edges-place.result c.edges-edges.ensures (place_low c.args.node.now c.edges-edges.result.now c.loop-place.place c.edges-edges.ensures c.loop-place-test.true) c.index-edges-place.is)
    c.buffer-buffer.ensures
    (end_read c.args.node.now c.edges-edges.result.now c.loop-place.place (option_copied c.end_of.result) c.edges-edges.ensures c.end_of.ensures)
    (c.has_cut.ensures.0 c.if-has_cut.true)

pub loop-place-preserved : goal.loop-place-preserved
loop-place-preserved c =
    none_cut_more c.args.node.now c.loop-place.place c.index-edges-place.result c.buffer-buffer.result.now (option_copied c.end_of.result) c.loop-place.invariant
    (edge_here c.edges-edges.result.now c.args.node.now c.loop-place.place c.index-edges-place.result c.edges-edges.ensures (place_low c.args.node.now c.edges-edges.result.now c.loop-place.place c.edges-edges.ensures c.loop-place-test.true) c.index-edges-place.is)
    c.buffer-buffer.ensures
    (end_read c.args.node.now c.edges-edges.result.now c.loop-place.place (option_copied c.end_of.result) c.edges-edges.ensures c.end_of.ensures)
    (λ cut. not_both (c.has_cut.ensures.1 cut) c.if-has_cut.false)

pub returns : goal.returns
returns c = no_cut_in c.args.node.now c.loop-place.place c.loop-place.invariant (past_all c.args.node.now c.edges-edges.result.now c.loop-place.place c.edges-edges.ensures c.loop-place-test.false)
