use Rattle.std.specs.Prelude.{flat_map}
use Rattle.bd_node.specs.Nodes.{edge_names, message_names, times}
use Rattle.bd_counts.specs.Naming.{times_among}
use Rattle.bd_memnodes.proofs.Loops.{both_taken, inner_times}
use Rattle.bd_memnodes.proofs.kept.Kept.take_back_names.Goals as goal

pub returns-in-Inner-clause-taken : goal.returns-in-Inner-clause-taken
returns-in-Inner-clause-taken c =
    both_taken (times_among (flat_map edge_names c.as_slice.result.now)) (times_among (flat_map message_names c.as_slice-in-Inner.result.now)) (times c.args.node.now)
    c.args.self.now c.take_back_edges.new.self c.take_back_messages.new.self
    (inner_times c.args.node.now c.in-Inner.level c.in-Inner.edges c.as_slice.result.now c.in-Inner.buffer c.as_slice-in-Inner.result.now c.in-Inner.is c.as_slice.ensures c.as_slice-in-Inner.ensures)
    c.take_back_edges.ensures.taken c.take_back_messages.ensures.taken
