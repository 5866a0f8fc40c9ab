use Rattle.std.proofs.Common.{◌≡◌, ◌≤◌, ◌-◌, ◌++◌, List, ℕ}
use Rattle.bd_keys.specs.Keys.{IsKey}
use Rattle.bd_node.specs.Meaning.{at}
use Rattle.bd_node.specs.Tables.{IsKept, IsSound}
use Rattle.bd_resolve.specs.Following.{AreNoneOr}
use Rattle.bd_node.proofs.Visited.{VisitsTo}
use Rattle.bd_resolve.proofs.resolving.resolve.Given as goal

abbrev pub invariant-loop-store : goal.invariant-loop-store
invariant-loop-store g l = record {
  table : g.S.NodeStore.table l.store ≡ g.S.NodeStore.table l.fn.store;
  here : IsKept (g.S.NodeStore.table l.fn.store) l.id;
  low : (g.S.NodeStore.table l.fn.store).level l.id ≤ (g.S.NodeStore.table l.fn.store).level l.fn.child;
  known : g.S.NodeStore.is_known l.fn.store → g.S.NodeStore.is_known l.store;
  nodes : g.S.NodeStore.is_known l.fn.store → g.S.NodeStore.nodes l.store ≡ g.S.NodeStore.nodes l.fn.store;
  read : g.S.NodeStore.reads l.fn.store l.store;
  faults : g.S.NodeStore.fault_count l.store ≡ g.S.NodeStore.fault_count l.fn.store;
  visits : VisitsTo (g.S.NodeStore.visit_count l.fn.store) (g.S.NodeStore.visit_count l.store) ((g.S.NodeStore.table l.fn.store).level l.fn.child) ((g.S.NodeStore.table l.fn.store).level l.id);
  counted : AreNoneOr ((g.S.NodeStore.table l.fn.store).level l.fn.child - (g.S.NodeStore.table l.fn.store).level l.id) (g.S.NodeStore.visit_count l.fn.store) (g.S.NodeStore.visit_count l.store);
  loans : g.S.NodeStore.loans l.store ≡ g.S.NodeStore.loans l.fn.store;
  value : g.S.NodeStore.is_known l.fn.store → IsSound (g.S.NodeStore.nodes l.fn.store) (g.S.NodeStore.table l.fn.store) → (k : List ℕ) → IsKey k
      → at (g.S.NodeStore.nodes l.fn.store) l.id (l.prefix ++ k) ≡ at (g.S.NodeStore.nodes l.fn.store) l.fn.child (l.fn.source ++ k);
}

abbrev pub decreases-loop-store : goal.decreases-loop-store
decreases-loop-store g l = (g.S.NodeStore.table l.fn.store).level l.id
