use Rattle.std.proofs.Common.{◌≡◌}
use Rattle.bd_node.specs.Meaning.{at}
use Rattle.bd_node.specs.Tables.{IsSound}
use Rattle.bd_query.specs.Stretches.{way_limit}
use Rattle.bd_query.proofs.AskLemmas.{IsSearching}
use Rattle.bd_query.proofs.SearchLemmas.{IsLow, places_above}
use Rattle.bd_query.proofs.search.scan.Given as goal

abbrev pub invariant-turns : goal.invariant-turns
invariant-turns g l = record {
  table : g.S.NodeStore.table l.store ≡ g.S.NodeStore.table l.fn.store;
  known : g.S.NodeStore.is_known l.fn.store → g.S.NodeStore.is_known l.store;
  nodes : g.S.NodeStore.is_known l.fn.store → g.S.NodeStore.nodes l.store ≡ g.S.NodeStore.nodes l.fn.store;
  read : g.S.NodeStore.reads l.fn.store l.store;
  faults : g.S.NodeStore.fault_count l.store ≡ g.S.NodeStore.fault_count l.fn.store;
  loans : g.S.NodeStore.loans l.store ≡ g.S.NodeStore.loans l.fn.store;
  low : g.S.NodeStore.is_known l.fn.store → IsSound (g.S.NodeStore.nodes l.fn.store) (g.S.NodeStore.table l.fn.store)
      → IsLow (at (g.S.NodeStore.nodes l.fn.store) l.fn.root) l.fn.from l.fn.within l.low.items;
  ways : g.S.NodeStore.is_known l.fn.store → IsSound (g.S.NodeStore.nodes l.fn.store) (g.S.NodeStore.table l.fn.store)
      → IsSearching (g.S.NodeStore.nodes l.fn.store) l.fn.root l.fn.from l.low.items (g.S.NodeStore.visit_count l.fn.store) (g.S.NodeStore.visit_count l.store);
}

abbrev pub decreases-turns : goal.decreases-turns
decreases-turns g l = places_above (way_limit ((g.S.NodeStore.table l.fn.store).level l.fn.root)) l.low.items
