use Rattle.std.proofs.Common.{List, sym, subst, arith}
use Rattle.bd_node.specs.declared.node.Edge.{Edge}
use Rattle.bd_node.specs.Shape.{AreRising}
use Rattle.bd_cover.specs.Covering.{IsRun}
use Rattle.bd_cover.proofs.Decided.{message_low, read_at, read_message, read_low, read_few, read_rising, read_loose, on_decided}
use Rattle.bd_cover.proofs.deciding.decided.Goals as goal

pub decided_edge-requires-clause-low : goal.decided_edge-requires-clause-low
decided_edge-requires-clause-low c =
    message_low c.args.node.now c.args.at c.index-buffer-at.result c.requires.shape
    (read_message c.args.node.now c.args.place c.args.at c.edges-edges.result.now c.buffer-buffer.result.now c.index-edges-place.result c.index-buffer-at.result
    (read_at c.args.node.now c.args.place c.args.at c.edges-edges.result.now c.buffer-buffer.result.now c.index-edges-place.result c.index-buffer-at.result c.requires.shape c.requires.covered c.edges-edges.ensures c.index-edges-place.is c.buffer-buffer.ensures c.index-buffer-at.is))

pub overflow_add-place : goal.overflow_add-place
overflow_add-place c =
    omega (
      arith,
      read_few c.args.node.now c.args.place c.args.at c.edges-edges.result.now c.buffer-buffer.result.now c.index-edges-place.result c.index-buffer-at.result
          (read_at c.args.node.now c.args.place c.args.at c.edges-edges.result.now c.buffer-buffer.result.now c.index-edges-place.result c.index-buffer-at.result c.requires.shape c.requires.covered c.edges-edges.ensures c.index-edges-place.is c.buffer-buffer.ensures c.index-buffer-at.is),
    )

pub split_at-requires : goal.split_at-requires
split_at-requires c =
    read_low c.args.node.now c.args.place c.args.at c.edges-edges.result.now c.buffer-buffer.result.now c.index-edges-place.result c.index-buffer-at.result
    (read_at c.args.node.now c.args.place c.args.at c.edges-edges.result.now c.buffer-buffer.result.now c.index-edges-place.result c.index-buffer-at.result c.requires.shape c.requires.covered c.edges-edges.ensures c.index-edges-place.is c.buffer-buffer.ensures c.index-buffer-at.is)

pub run_length-count-requires : goal.run_length-count-requires
run_length-count-requires c =
    subst AreRising (sym c.split_at.ensures.back)
    (read_rising c.args.node.now c.args.place c.args.at c.edges-edges.result.now c.buffer-buffer.result.now c.index-edges-place.result c.index-buffer-at.result
    (read_at c.args.node.now c.args.place c.args.at c.edges-edges.result.now c.buffer-buffer.result.now c.index-edges-place.result c.index-buffer-at.result c.requires.shape c.requires.covered c.edges-edges.ensures c.index-edges-place.is c.buffer-buffer.ensures c.index-buffer-at.is))

pub join-requires-clause-loose : goal.join-requires-clause-loose
join-requires-clause-loose c =
    read_loose c.args.node.now c.args.place c.args.at c.run_length-count.result c.edges-edges.result.now c.buffer-buffer.result.now c.index-edges-place.result c.in_ok-edge.edge c.index-buffer-at.result
    (read_at c.args.node.now c.args.place c.args.at c.edges-edges.result.now c.buffer-buffer.result.now c.index-edges-place.result c.index-buffer-at.result c.requires.shape c.requires.covered c.edges-edges.ensures c.index-edges-place.is c.buffer-buffer.ensures c.index-buffer-at.is)
    (subst (λ (l : List Edge). IsRun c.buffer-buffer.result.now c.args.at l c.run_length-count.result) c.split_at.ensures.back c.run_length-count.ensures.run) c.in_ok-edge.ensures

pub returns : goal.returns
returns c =
    on_decided c.args.node.now c.args.place c.args.at c.run_length-count.result c.edges-edges.result.now c.buffer-buffer.result.now c.index-edges-place.result c.in_ok-edge.edge c.index-buffer-at.result c.join.result
    (read_at c.args.node.now c.args.place c.args.at c.edges-edges.result.now c.buffer-buffer.result.now c.index-edges-place.result c.index-buffer-at.result c.requires.shape c.requires.covered c.edges-edges.ensures c.index-edges-place.is c.buffer-buffer.ensures c.index-buffer-at.is)
    (subst (λ (l : List Edge). IsRun c.buffer-buffer.result.now c.args.at l c.run_length-count.result) c.split_at.ensures.back c.run_length-count.ensures.run) c.in_ok-edge.ensures c.join.ensures
