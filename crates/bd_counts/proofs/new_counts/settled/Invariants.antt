use Rattle.std.proofs.Common.{◌≡◌, ◌+◌, length}
use Rattle.bd_node.specs.Tables.{sum_below}
use Rattle.bd_counts.specs.Counting.{IsRecount, IsOwing}
use Rattle.bd_counts.specs.Frames.{OfSound, IsAccount, counts_over}
use Rattle.bd_counts.proofs.new_counts.settled.Given as goal

-- the names that are left are owed
abbrev pub invariant-loop-id : goal.invariant-loop-id
invariant-loop-id g l = record {
  table : g.S.Counted.table l.source ≡ g.S.Counted.table l.fn.source;
  known : g.S.Counted.is_known l.fn.source → g.S.Counted.is_known l.source;
  nodes : g.S.Counted.is_known l.fn.source → g.S.Counted.nodes l.source ≡ g.S.Counted.nodes l.fn.source;
  read : g.S.Counted.reads l.fn.source l.source;
  loans : g.S.Counted.loans l.source ≡ g.S.Counted.loans l.fn.source;
  visits : g.S.Counted.visit_count l.source ≡ g.S.Counted.visit_count l.fn.source;
  faults : g.S.Counted.fault_count l.source ≡ g.S.Counted.fault_count l.fn.source;
  counts : IsRecount (g.S.Counted.table l.fn.source) l.step (counts_over g.S.Counted l.fn.source l.recount.counts) l.recount.gone.items;
  owing : OfSound g.S.Counted l.fn.source (IsOwing (g.S.Counted.nodes l.fn.source) (g.S.Counted.table l.fn.source) l.step (counts_over g.S.Counted l.fn.source l.recount.counts) l.owed.items);
  account : IsAccount g.S.Counted l.fn.source l.step l.recount.counts l.recount.gone.items l.owed.items;
}

-- each name that is taken back is one count less
abbrev pub decreases-loop-id : goal.decreases-loop-id
decreases-loop-id g l = sum_below ((g.S.Counted.table l.fn.source).next + length l.step.made) (counts_over g.S.Counted l.fn.source l.recount.counts)
