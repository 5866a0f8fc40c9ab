use Rattle.std.proofs.Common.{◌≡◌, ◌+◌, ◌<◌, ◌≤◌, length, reverse}
use Rattle.bd_node.specs.Nodes.{level_of}
use Rattle.bd_node.specs.Parts.{edges_of}
use Rattle.bd_path.specs.Fetching.{IsFetched, IsOwn, AreOwn}
use Rattle.bd_path.specs.Raising.{IsWayUp}
use Rattle.bd_step.specs.Ways.{IsUpToRoot, IsFromEdge, IsOnWay}
use Rattle.bd_step.proofs.ways.step_from.Given as goal

abbrev pub invariant-loop-nodes : goal.invariant-loop-nodes
invariant-loop-nodes g l = record {
  table : g.S.NodeStore.table l.store ≡ g.S.NodeStore.table l.fn.store;
  fetched : IsFetched (g.S.NodeStore.table l.fn.store) l.here;
  inner : 1 ≤ level_of l.here.node.value;
  room : length (edges_of l.here.node.value) ≤ 14;
  within : l.at < length (edges_of l.here.node.value);
  under : IsUpToRoot (g.S.NodeStore.table l.fn.store) l.here;
  edge : IsFromEdge l.fn.parent l.fn.place l.here l.at;
  known : g.S.NodeStore.is_known l.fn.store → g.S.NodeStore.is_known l.store;
  nodes : g.S.NodeStore.is_known l.fn.store → g.S.NodeStore.nodes l.store ≡ g.S.NodeStore.nodes l.fn.store;
  read : g.S.NodeStore.reads l.fn.store l.store;
  faults : g.S.NodeStore.fault_count l.store ≡ g.S.NodeStore.fault_count l.fn.store;
  visits : g.S.NodeStore.visit_count l.store + (g.S.NodeStore.table l.fn.store).level l.here.id
      ≤ g.S.NodeStore.visit_count l.fn.store + (g.S.NodeStore.table l.fn.store).level l.fn.parent.id;
  loans : g.S.NodeStore.loans l.store ≡ g.S.NodeStore.loans l.fn.store;
  own : g.S.NodeStore.is_known l.fn.store → IsOwn (g.S.NodeStore.nodes l.fn.store) (g.S.NodeStore.table l.fn.store) l.fn.parent
      → IsOwn (g.S.NodeStore.nodes l.fn.store) (g.S.NodeStore.table l.fn.store) l.here;
  reached : g.S.NodeStore.is_known l.fn.store → IsOwn (g.S.NodeStore.nodes l.fn.store) (g.S.NodeStore.table l.fn.store) l.fn.parent
      → IsOnWay (g.S.NodeStore.nodes l.fn.store) (g.S.NodeStore.table l.fn.store) l.fn.parent.id l.fn.place l.here.id l.at;
  way : IsWayUp (g.S.NodeStore.table l.fn.store) l.here.id (reverse l.above.items);
  way_there : g.S.NodeStore.is_known l.fn.store → IsOwn (g.S.NodeStore.nodes l.fn.store) (g.S.NodeStore.table l.fn.store) l.fn.parent
      → AreOwn (g.S.NodeStore.nodes l.fn.store) (g.S.NodeStore.table l.fn.store) (reverse l.fn.above.items)
      → AreOwn (g.S.NodeStore.nodes l.fn.store) (g.S.NodeStore.table l.fn.store) (reverse l.above.items);
}

abbrev pub decreases-loop-nodes : goal.decreases-loop-nodes
decreases-loop-nodes g l = (g.S.NodeStore.table l.fn.store).level l.here.id
