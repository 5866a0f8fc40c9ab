use Rattle.std.proofs.Common.{◌≡◌, ◌+◌, ◌≤◌, take}
use Rattle.std.specs.List.{AllZip, sum_by}
use Rattle.bd_node.specs.Tables.{IsSound}
use Rattle.bd_copy.specs.Shortening.{goto_way, way_visits, IsShortMessage, IsSameMessage}
use Rattle.bd_copy.proofs.shortening.short_messages.Given as goal

abbrev pub invariant-loop-message : goal.invariant-loop-message
invariant-loop-message g l = record {
  table : g.S.NodeStore.table l.store ≡ g.S.NodeStore.table l.fn.store;
  known : g.S.NodeStore.is_known l.fn.store → g.S.NodeStore.is_known l.store;
  nodes : g.S.NodeStore.is_known l.fn.store → g.S.NodeStore.nodes l.store ≡ g.S.NodeStore.nodes l.fn.store;
  read : g.S.NodeStore.reads l.fn.store l.store;
  faults : g.S.NodeStore.fault_count l.store ≡ g.S.NodeStore.fault_count l.fn.store;
  visits : g.S.NodeStore.visit_count l.store ≤ g.S.NodeStore.visit_count l.fn.store
      + sum_by (λ m. way_visits (g.S.NodeStore.table l.fn.store) (goto_way m)) (take l.message-index l.list);
  loans : g.S.NodeStore.loans l.store ≡ g.S.NodeStore.loans l.fn.store;
  short : AllZip (IsShortMessage (g.S.NodeStore.table l.fn.store)) (take l.message-index l.list) l.made.items;
  same : g.S.NodeStore.is_known l.fn.store → IsSound (g.S.NodeStore.nodes l.fn.store) (g.S.NodeStore.table l.fn.store)
      → AllZip (IsSameMessage (g.S.NodeStore.nodes l.fn.store)) (take l.message-index l.list) l.made.items;
}
