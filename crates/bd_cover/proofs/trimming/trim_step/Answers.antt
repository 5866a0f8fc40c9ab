use Rattle.std.specs.Option.{option_copied}
use Rattle.bd_path.specs.Made.{AreKnown}
use Rattle.bd_copy.proofs.Copied.{child_read, kept_child, is_asking, end_read}
use Rattle.bd_cover.proofs.Trims.{trim_made, bytes_read}
use Rattle.bd_cover.proofs.trimming.trim_step.Goals as goal

pub fetch-requires : goal.fetch-requires
fetch-requires g c = kept_child (g.S.NodeStore.table c.args.store.now) c.args.node.now c.args.place c.in-Some.id c.index-edges-place.result (child_read (g.S.NodeStore.table c.args.store.now) c.args.node.now c.args.place c.in-Some.id c.deref.result.now c.edges-edges.result.now c.index-edges-place.result (record { parent_is = c.requires.fetched; edge = c.requires.child.edge; here = c.requires.child.asks.here; child = c.requires.child.child; child_is = c.requires.child.asks.child_is }) c.deref.ensures c.edges-edges.ensures c.index-edges-place.is c.in-Some.is)

pub asked_of-requires-clause-asking : goal.asked_of-requires-clause-asking
asked_of-requires-clause-asking g c = is_asking (g.S.NodeStore.table c.args.store.now) c.args.node.now c.args.place c.in-Some.id c.index-edges-place.result (option_copied c.end_of-hi.result) (child_read (g.S.NodeStore.table c.args.store.now) c.args.node.now c.args.place c.in-Some.id c.deref.result.now c.edges-edges.result.now c.index-edges-place.result (record { parent_is = c.requires.fetched; edge = c.requires.child.edge; here = c.requires.child.asks.here; child = c.requires.child.child; child_is = c.requires.child.asks.child_is }) c.deref.ensures c.edges-edges.ensures c.index-edges-place.is c.in-Some.is) (end_read c.args.node.now.node.value c.deref.result.now c.args.place c.edges-edges.result.now (option_copied c.end_of-hi.result) c.deref.ensures c.edges-edges.ensures c.end_of-hi.ensures)

pub returns-clause-step : goal.returns-clause-step
returns-clause-step g c =
    trim_made (AreKnown g.S.NodeStore c.args.store.now) (g.S.NodeStore.nodes c.args.store.now) (g.S.NodeStore.table c.args.store.now) c.args.node.now c.args.place c.index-edges-place.result c.in-Some.id c.in_ok-child.child c.deref-2.result.now (option_copied c.end_of-hi.result) c.in_ok-made.made c.root-root.result c.in_ok-change_step.field-0
    (child_read (g.S.NodeStore.table c.args.store.now) c.args.node.now c.args.place c.in-Some.id c.deref.result.now c.edges-edges.result.now c.index-edges-place.result (record { parent_is = c.requires.fetched; edge = c.requires.child.edge; here = c.requires.child.asks.here; child = c.requires.child.child; child_is = c.requires.child.asks.child_is }) c.deref.ensures c.edges-edges.ensures c.index-edges-place.is c.in-Some.is) c.in_ok-child.ensures.id c.in_ok-child.ensures.fetched (λ known. c.in_ok-child.ensures.contents known.0) c.deref-2.ensures (end_read c.args.node.now.node.value c.deref.result.now c.args.place c.edges-edges.result.now (option_copied c.end_of-hi.result) c.deref.ensures c.edges-edges.ensures c.end_of-hi.ensures) c.in_ok-made.ensures.node c.root-root.ensures.value c.in_ok-change_step.ensures

pub returns-clause-bytes : goal.returns-clause-bytes
returns-clause-bytes g c = λ e here. bytes_read c.args.node.now.node.value c.args.place c.index-edges-place.result e ((child_read (g.S.NodeStore.table c.args.store.now) c.args.node.now c.args.place c.in-Some.id c.deref.result.now c.edges-edges.result.now c.index-edges-place.result (record { parent_is = c.requires.fetched; edge = c.requires.child.edge; here = c.requires.child.asks.here; child = c.requires.child.child; child_is = c.requires.child.asks.child_is }) c.deref.ensures c.edges-edges.ensures c.index-edges-place.is c.in-Some.is).here) here c.asked_of.ensures.bytes
