use Rattle.std.proofs.Common.{◌≡◌, ◌+◌, ◌≤◌, reverse}
use Rattle.bd_node.specs.Tables.{IsSound}
use Rattle.bd_path.specs.Fetching.{IsFetched, IsOwn, AreOwn}
use Rattle.bd_path.specs.Raising.{IsWayUp}
use Rattle.bd_step.specs.Settling.{IsPlainUp, IsPassedTo}
use Rattle.bd_step.proofs.settling.unsettled.Given as goal

-- the node that is looked at, those above it, and what is left of the prefix
abbrev pub invariant-loop-place : goal.invariant-loop-place
invariant-loop-place g l = record {
  table : g.S.NodeStore.table l.store ≡ g.S.NodeStore.table l.fn.store;
  fetched : IsFetched (g.S.NodeStore.table l.fn.store) l.here;
  way : IsWayUp (g.S.NodeStore.table l.fn.store) l.here.id (reverse l.above.items);
  plain : IsPlainUp l.here.id (reverse l.above.items);
  known : g.S.NodeStore.is_known l.fn.store → g.S.NodeStore.is_known l.store;
  nodes : g.S.NodeStore.is_known l.fn.store → g.S.NodeStore.nodes l.store ≡ g.S.NodeStore.nodes l.fn.store;
  read : g.S.NodeStore.reads l.fn.store l.store;
  faults : g.S.NodeStore.fault_count l.store ≡ g.S.NodeStore.fault_count l.fn.store;
  visits : g.S.NodeStore.visit_count l.store + (g.S.NodeStore.table l.fn.store).level l.here.id
      ≤ g.S.NodeStore.visit_count l.fn.store + ((g.S.NodeStore.table l.fn.store).level (g.S.NodeStore.table l.fn.store).root + 1);
  loans : g.S.NodeStore.loans l.store ≡ g.S.NodeStore.loans l.fn.store;
  own : g.S.NodeStore.is_known l.fn.store → IsSound (g.S.NodeStore.nodes l.fn.store) (g.S.NodeStore.table l.fn.store)
      → IsOwn (g.S.NodeStore.nodes l.fn.store) (g.S.NodeStore.table l.fn.store) l.here;
  all_own : g.S.NodeStore.is_known l.fn.store → IsSound (g.S.NodeStore.nodes l.fn.store) (g.S.NodeStore.table l.fn.store)
      → AreOwn (g.S.NodeStore.nodes l.fn.store) (g.S.NodeStore.table l.fn.store) (reverse l.above.items);
  passed : g.S.NodeStore.is_known l.fn.store → IsSound (g.S.NodeStore.nodes l.fn.store) (g.S.NodeStore.table l.fn.store)
      → IsPassedTo (g.S.NodeStore.nodes l.fn.store) (g.S.NodeStore.table l.fn.store) l.fn.prefix l.here.id l.left;
}

abbrev pub decreases-loop-place : goal.decreases-loop-place
decreases-loop-place g l = (g.S.NodeStore.table l.fn.store).level l.here.id
