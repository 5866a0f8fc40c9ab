use Rattle.std.proofs.Common.{◌≡◌, ◌-◌, ◌+◌, ◌++◌, List, length, ℕ, Some}
use Rattle.std.specs.Prelude.{◌⊎◌}
use Rattle.bd_keys.specs.Keys.{IsKey}
use Rattle.bd_message.specs.Effect.{acts}
use Rattle.bd_node.specs.Meaning.{at}
use Rattle.bd_node.specs.Tables.{IsKept, IsSound, root_at}
use Rattle.bd_node.specs.Stores.{visited}
use Rattle.bd_resolve.specs.Following.{AreNoneOr}
use Rattle.bd_node.proofs.Visited.{VisitsTo}
use Rattle.bd_graft.specs.Layers.{laid, AreLayers}
use Rattle.bd_graft.proofs.Visits.{IsGone}
use Rattle.bd_graft.proofs.Ways.{IsWayOn}
use Rattle.bd_graft.proofs.walking.walk.Given as goal

abbrev pub invariant-loop-store : goal.invariant-loop-store
invariant-loop-store g l = record {
  table : g.S.NodeStore.table l.store ≡ g.S.NodeStore.table l.fn.store;
  here : IsKept (g.S.NodeStore.table l.fn.store) l.id;
  layers : AreLayers (g.S.NodeStore.table l.fn.store) ((g.S.NodeStore.table l.fn.store).level (g.S.NodeStore.table l.fn.store).root + 1) l.layers.items (Some (record { child = l.id; source = l.asked }));
  known : g.S.NodeStore.is_known l.fn.store → g.S.NodeStore.is_known l.store;
  nodes : g.S.NodeStore.is_known l.fn.store → g.S.NodeStore.nodes l.store ≡ g.S.NodeStore.nodes l.fn.store;
  read : g.S.NodeStore.reads l.fn.store l.store;
  faults : g.S.NodeStore.fault_count l.store ≡ g.S.NodeStore.fault_count l.fn.store;
  visits : VisitsTo (g.S.NodeStore.visit_count l.fn.store) (g.S.NodeStore.visit_count l.store) ((g.S.NodeStore.table l.fn.store).level (g.S.NodeStore.table l.fn.store).root) ((g.S.NodeStore.table l.fn.store).level l.id);
  counted : AreNoneOr ((g.S.NodeStore.table l.fn.store).level (g.S.NodeStore.table l.fn.store).root - (g.S.NodeStore.table l.fn.store).level l.id) (g.S.NodeStore.visit_count l.fn.store) (g.S.NodeStore.visit_count l.store);
  next : visited (g.S.NodeStore.visit_count l.store) 1 ≡ visited (g.S.NodeStore.visit_count l.fn.store) (length l.layers.items + 1);
  root : (l.id ≡ (g.S.NodeStore.table l.fn.store).root) ⊎ IsGone (g.S.NodeStore.is_known l.fn.store) (g.S.NodeStore.nodes l.fn.store) (g.S.NodeStore.table l.fn.store) (g.S.NodeStore.visit_count l.fn.store) (g.S.NodeStore.visit_count l.store) (length l.layers.items);
  loans : g.S.NodeStore.loans l.store ≡ g.S.NodeStore.loans l.fn.store;
  way : g.S.NodeStore.is_known l.fn.store → IsSound (g.S.NodeStore.nodes l.fn.store) (g.S.NodeStore.table l.fn.store) → IsWayOn (g.S.NodeStore.nodes l.fn.store) (g.S.NodeStore.table l.fn.store).root l.fn.prefix l.layers.items l.id l.asked;
  value : g.S.NodeStore.is_known l.fn.store → IsSound (g.S.NodeStore.nodes l.fn.store) (g.S.NodeStore.table l.fn.store) → (k : List ℕ) → IsKey k
      → acts (at (g.S.NodeStore.nodes l.fn.store)) (laid l.layers.items) k (at (g.S.NodeStore.nodes l.fn.store) l.id (l.asked ++ k)) ≡ root_at (g.S.NodeStore.nodes l.fn.store) (g.S.NodeStore.table l.fn.store) (l.fn.prefix ++ k);
}

abbrev pub decreases-loop-store : goal.decreases-loop-store
decreases-loop-store g l = (g.S.NodeStore.table l.fn.store).level l.id
