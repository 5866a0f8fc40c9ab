use Rattle.bd_node.specs.Nodes.{edge_names}
use Rattle.std.proofs.Common.{sym, subst, drop, ◌+◌}
use Rattle.std.specs.Prelude.{flat_map}
use Rattle.bd_memnodes.specs.declared.kept.Kept.{Kept}
use Rattle.bd_memnodes.proofs.Loops.{IsTaking, loop_done, loop_one, loop_none, edge_one, edge_none}
use Rattle.bd_memnodes.proofs.kept.Kept.take_back_edges.Goals.{in-Some, in_default}
use Rattle.bd_memnodes.proofs.kept.Kept.take_back_edges.Goals as goal

pub loop-edge-preserved : goal.loop-edge-preserved
loop-edge-preserved c =
    let P : Kept → Type 0 = λ kept. IsTaking (flat_map edge_names c.args.edges.now) (flat_map edge_names (drop (c.loop-edge.edge-index + 1) c.args.edges.now)) c.args.self.now kept in
    elim c.match-edge.branch [
      | in-Some w ↦ subst P (sym w.self-is)
          (loop_one edge_names c.args.edges.now c.loop-edge.edge-index c.edge-item.result w.in-Some.child c.args.self.now c.loop-edge.self w.take_back.new.self
          c.loop-edge-test.true c.edge-item.is (edge_one c.edge-item.result w.in-Some.child w.in-Some.is) c.loop-edge.invariant
          (record { counts = w.take_back.ensures.counts; taken = w.take_back.ensures.taken; room = w.take_back.ensures.room; moved = w.take_back.ensures.moved; head = w.take_back.ensures.head }))
      | in_default w ↦ subst P (sym w.self-is)
          (loop_none edge_names c.args.edges.now c.loop-edge.edge-index c.edge-item.result c.args.self.now c.loop-edge.self
          c.loop-edge-test.true c.edge-item.is (edge_none c.edge-item.result w.in_default.is) c.loop-edge.invariant)
    ]

pub returns-clause-taken : goal.returns-clause-taken
returns-clause-taken c = (loop_done edge_names c.args.edges.now c.loop-edge.edge-index c.args.self.now c.loop-edge.self c.loop-edge-test.false c.loop-edge.invariant).taken
