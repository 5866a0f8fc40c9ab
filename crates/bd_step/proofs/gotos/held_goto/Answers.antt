use Rattle.std.proofs.Common.{◌≡◌, ℕ, ap, ◌∙◌}
use Rattle.std.specs.Option.{option_copied}
use Rattle.bd_node.specs.Parts.{edges_of, buffer_of}
use Rattle.bd_flush.specs.GoingDown.{child_level}
use Rattle.bd_node.proofs.Parts.{edge_here}
use Rattle.bd_path.proofs.EdgesAt.{kept_child}
use Rattle.bd_step.proofs.Reading.{read_rising}
use Rattle.bd_step.proofs.OldestGotos.{names_kept, level_read, level_none, on_none, on_some}
use Rattle.bd_step.proofs.gotos.held_goto.Goals as goal
use Rattle.bd_step.proofs.gotos.held_goto.Goals.{in-Some, in-None}

pub level-top-requires : goal.level-top-requires
level-top-requires g c =
    kept_child (g.S.NodeStore.table c.args.store.now) c.args.parent.now c.args.place c.in-Some.child c.index-edges-place.result c.requires.fetched
    (edge_here c.edges-edges.result.now c.args.parent.now.node.value c.args.place c.index-edges-place.result (c.edges-edges.ensures ∙ ap edges_of c.deref.ensures) c.requires.within c.index-edges-place.is) c.in-Some.is

pub oldest_goto-requires-clause-kept : goal.oldest_goto-requires-clause-kept
oldest_goto-requires-clause-kept g c =
    names_kept (g.S.NodeStore.table c.args.store.now) ((g.S.NodeStore.table c.args.store.now).level c.args.parent.now.id) c.args.parent.now.node.value c.buffer.result.now c.requires.fetched.own (c.buffer.ensures ∙ ap buffer_of c.deref-2.ensures)

pub oldest_goto-requires-clause-rising : goal.oldest_goto-requires-clause-rising
oldest_goto-requires-clause-rising g c =
    read_rising c.args.parent.now.node.value c.args.place c.index-edges-place.result c.edges-edges.result.now (option_copied c.end_of.result)
    (record { shape = c.requires.fetched.own.shape; same = c.edges-edges.ensures ∙ ap edges_of c.deref.ensures; low = c.requires.within; read = c.index-edges-place.is }) c.end_of.ensures

pub returns-clause-none : goal.returns-clause-none
returns-clause-none g c =
    let level : ℕ → ℕ = (g.S.NodeStore.table c.args.store.now).level in
    let top_is : c.match-edge.top ≡ child_level level c.index-edges-place.result.child = elim c.match-edge.branch [
      | in-Some w ↦ level_read level c.index-edges-place.result.child w.in-Some.child c.match-edge.top w.in-Some.is (w.top-is ∙ w.level-top.ensures)
      | in-None w ↦ level_none level c.index-edges-place.result.child c.match-edge.top w.in-None.is w.top-is
    ] in
    on_none level c.match-edge.top c.args.parent.now.node.value c.args.place c.index-edges-place.result c.edges-edges.result.now c.buffer.result.now (option_copied c.end_of.result) c.oldest_goto.result
    (record { shape = c.requires.fetched.own.shape; same = c.edges-edges.ensures ∙ ap edges_of c.deref.ensures; low = c.requires.within; read = c.index-edges-place.is }) c.end_of.ensures (c.buffer.ensures ∙ ap buffer_of c.deref-2.ensures) top_is c.oldest_goto.ensures

pub returns-clause-some : goal.returns-clause-some
returns-clause-some g c =
    let level : ℕ → ℕ = (g.S.NodeStore.table c.args.store.now).level in
    let top_is : c.match-edge.top ≡ child_level level c.index-edges-place.result.child = elim c.match-edge.branch [
      | in-Some w ↦ level_read level c.index-edges-place.result.child w.in-Some.child c.match-edge.top w.in-Some.is (w.top-is ∙ w.level-top.ensures)
      | in-None w ↦ level_none level c.index-edges-place.result.child c.match-edge.top w.in-None.is w.top-is
    ] in
    on_some level c.match-edge.top c.args.parent.now.node.value c.args.place c.index-edges-place.result c.edges-edges.result.now c.buffer.result.now (option_copied c.end_of.result) c.oldest_goto.result
    (record { shape = c.requires.fetched.own.shape; same = c.edges-edges.ensures ∙ ap edges_of c.deref.ensures; low = c.requires.within; read = c.index-edges-place.is }) c.end_of.ensures (c.buffer.ensures ∙ ap buffer_of c.deref-2.ensures) top_is c.oldest_goto.ensures
