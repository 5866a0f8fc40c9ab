use Rattle.std.proofs.Common.{◌≡◌, ℕ}
use Rattle.bd_node.specs.Meaning.{at}
use Rattle.bd_node.specs.Tables.{IsKept, IsSound}
use Rattle.bd_query.specs.Looks.{patched}
use Rattle.bd_query.specs.Asks.{AreVisitsOfWay, AreVisitsOfPart}
use Rattle.bd_node.proofs.Visited.{VisitsTo}
use Rattle.bd_query.proofs.ways.get.Given as goal

abbrev pub invariant-loop-patches : goal.invariant-loop-patches
invariant-loop-patches g l = record {
  table : g.S.NodeStore.table l.store ≡ g.S.NodeStore.table l.fn.store;
  here : IsKept (g.S.NodeStore.table l.fn.store) l.id;
  known : g.S.NodeStore.is_known l.fn.store → g.S.NodeStore.is_known l.store;
  nodes : g.S.NodeStore.is_known l.fn.store → g.S.NodeStore.nodes l.store ≡ g.S.NodeStore.nodes l.fn.store;
  read : g.S.NodeStore.reads l.fn.store l.store;
  faults : g.S.NodeStore.fault_count l.store ≡ g.S.NodeStore.fault_count l.fn.store;
  visits : VisitsTo (g.S.NodeStore.visit_count l.fn.store) (g.S.NodeStore.visit_count l.store) ((g.S.NodeStore.table l.fn.store).level l.fn.root) ((g.S.NodeStore.table l.fn.store).level l.id);
  loans : g.S.NodeStore.loans l.store ≡ g.S.NodeStore.loans l.fn.store;
  value : g.S.NodeStore.is_known l.fn.store → IsSound (g.S.NodeStore.nodes l.fn.store) (g.S.NodeStore.table l.fn.store)
      → patched l.patches.items (at (g.S.NodeStore.nodes l.fn.store) l.id l.asked) ≡ at (g.S.NodeStore.nodes l.fn.store) l.fn.root l.fn.key;
  way : g.S.NodeStore.is_known l.fn.store → IsSound (g.S.NodeStore.nodes l.fn.store) (g.S.NodeStore.table l.fn.store) → (final : ℕ)
      → AreVisitsOfWay (g.S.NodeStore.nodes l.fn.store) l.id l.asked (g.S.NodeStore.visit_count l.store) final → AreVisitsOfWay (g.S.NodeStore.nodes l.fn.store) l.fn.root l.fn.key (g.S.NodeStore.visit_count l.fn.store) final;
  part : g.S.NodeStore.is_known l.fn.store → IsSound (g.S.NodeStore.nodes l.fn.store) (g.S.NodeStore.table l.fn.store) → (final : ℕ)
      → AreVisitsOfPart (g.S.NodeStore.nodes l.fn.store) l.id l.asked (g.S.NodeStore.visit_count l.store) final → AreVisitsOfPart (g.S.NodeStore.nodes l.fn.store) l.fn.root l.fn.key (g.S.NodeStore.visit_count l.fn.store) final;
}

abbrev pub decreases-loop-patches : goal.decreases-loop-patches
decreases-loop-patches g l = (g.S.NodeStore.table l.fn.store).level l.id
