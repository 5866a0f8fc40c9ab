use Rattle.std.proofs.Common.{◌≡◌, ℕ, suc, ◌+◌, ◌<◌, ◌≤◌, length}
use Rattle.bd_cover.proofs.Nothing.{ArePassed}
use Rattle.bd_cover.proofs.baring.+looks_left.Given as goal

abbrev pub decreases-looks_left : goal.decreases-looks_left
decreases-looks_left g l = l.looks

abbrev pub invariant-loop-place : goal.invariant-loop-place
invariant-loop-place g l = record {
  low : l.place ≤ length l.edges;
  table : g.S.NodeStore.table l.store ≡ g.S.NodeStore.table l.fn.store;
  known : g.S.NodeStore.is_known l.fn.store → g.S.NodeStore.is_known l.store;
  nodes : g.S.NodeStore.is_known l.fn.store → g.S.NodeStore.nodes l.store ≡ g.S.NodeStore.nodes l.fn.store;
  read : g.S.NodeStore.reads l.fn.store l.store;
  faults : g.S.NodeStore.fault_count l.store ≡ g.S.NodeStore.fault_count l.fn.store;
  loans : g.S.NodeStore.loans l.store ≡ g.S.NodeStore.loans l.fn.store;
  fewer : l.rest < l.looks;
  visits : g.S.NodeStore.visit_count l.store + l.rest ≤ g.S.NodeStore.visit_count l.fn.store + l.looks;
  passed : g.S.NodeStore.is_known l.fn.store → (depth : ℕ) → l.looks ≤ suc depth → ArePassed (g.S.NodeStore.nodes l.fn.store) l.ask.keys l.edges l.place l.looks l.rest depth;
}
