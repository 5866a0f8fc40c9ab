use Rattle.std.proofs.Common.{◌≡◌, ℕ, ◌+◌, drop}
use Rattle.std.specs.List.{sum_by}
use Rattle.bd_node.specs.declared.node.Change.{Change}
use Rattle.bd_node.specs.Tables.{times_in, one_if}
use Rattle.bd_counts.specs.Naming.{times_among}
use Rattle.bd_counts.proofs.owing.owed_names.Given as goal

-- the names in what the changed nodes so far were, and those to come
abbrev pub invariant-loop-change : goal.invariant-loop-change
invariant-loop-change g l = record {
  table : g.S.Counted.table l.source ≡ g.S.Counted.table l.fn.source;
  known : g.S.Counted.is_known l.fn.source → g.S.Counted.is_known l.source;
  nodes : g.S.Counted.is_known l.fn.source → g.S.Counted.nodes l.source ≡ g.S.Counted.nodes l.fn.source;
  read : g.S.Counted.reads l.fn.source l.source;
  loans : g.S.Counted.loans l.source ≡ g.S.Counted.loans l.fn.source;
  visits : g.S.Counted.visit_count l.source ≡ g.S.Counted.visit_count l.fn.source;
  faults : g.S.Counted.fault_count l.source ≡ g.S.Counted.fault_count l.fn.source;
  owed : g.S.Counted.is_known l.fn.source → (c : ℕ)
      → times_among l.owed.items c + sum_by (λ (d : Change). times_in (g.S.Counted.nodes l.fn.source d.id) c) (drop l.change-index l.step.changes)
      ≡ one_if (g.S.Counted.table l.fn.source).root c + sum_by (λ (d : Change). times_in (g.S.Counted.nodes l.fn.source d.id) c) l.step.changes;
}
