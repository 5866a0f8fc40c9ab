-- Counters that are worn, where less is known of the nodes.
use Rattle.std.proofs.Common.{List, ℕ, refl, inl, inr}
use Rattle.bd_command.specs.declared.Command.{Command}
use Rattle.bd_message.specs.declared.fault.Counter.{Counter}
use Rattle.bd_node.specs.Meaning.{Nodes}
use Rattle.bd_node.specs.Tables.{Table}
use Rattle.bd_step.specs.declared.ways.FlushStep.{FlushStep}
use Rattle.bd_step.specs.declared.ways.Site.{Site}
use Rattle.bd_step.specs.Beginning.{IsWornFrom}
use Rattle.bd_step.specs.Settling.{IsWornToSettle}
use Rattle.bd_step.specs.Steps.{IsWornStep, IsWornToFlush}
use Rattle.bd_step.proofs.Making.{step_known}
use Rattle.bd_view.specs.Trees.{IsWornToStep}
use Rattle.bd_view.specs.Trees.IsWornToStep.{worn_at_root, worn_at_source}

-- the same step of a flush
step_where : (K L : Type 0) (nodes : Nodes) (t : Table) (step : FlushStep) (which : Counter) → (L → K) → IsWornStep K nodes t step which → IsWornStep L nodes t step which
step_where K L nodes t step which knows h =
    elim h [
      | inl w ↦ inl (record { step = w.step; is = step_known L K nodes nodes t step w.step (λ l. (knows l, refl)) w.is; worn = w.worn })
      | inr high ↦ inr high
    ]

-- one that begins at an edge
pub from_where : (K L : Type 0) (nodes : Nodes) (t : Table) (site : Site) (which : Counter) → (L → K) → IsWornFrom K nodes t site.above site.parent site.place which → IsWornFrom L nodes t site.above site.parent site.place which
from_where K L nodes t site which knows h = record {
  step = h.step;
  begins = h.begins;
  due = h.due;
  way = h.way;
  stands = λ l. h.stands (knows l);
  reached = λ l. h.reached (knows l);
  worn = step_where K L nodes t h.step which knows h.worn;
}

-- one from the root
flush_where : (K L : Type 0) (nodes : Nodes) (t : Table) (which : Counter) → (L → K) → IsWornToFlush K nodes t which → IsWornToFlush L nodes t which
flush_where K L nodes t which knows h = record {
  step = h.step;
  to_do = h.to_do;
  way = h.way;
  here = λ l. h.here (knows l);
  worn = step_where K L nodes t h.step which knows h.worn;
}

-- one on the way of a prefix
settle_where : (K L : Type 0) (nodes : Nodes) (t : Table) (s : List ℕ) (which : Counter) → (L → K) → IsWornToSettle K nodes t s which → IsWornToSettle L nodes t s which
settle_where K L nodes t s which knows h = record {
  site = h.site;
  due = h.due;
  here = λ l. h.here (knows l);
  worn = from_where K L nodes t h.site which knows h.worn;
}

-- one of a command
pub worn_where : (K L : Type 0) (nodes : Nodes) (t : Table) (c : Command) (which : Counter) → (L → K) → IsWornToStep K nodes t c which → IsWornToStep L nodes t c which
worn_where K L nodes t c which knows (worn_at_root waits h) = worn_at_root waits (flush_where K L nodes t which knows h)
worn_where K L nodes t c which knows (worn_at_source s few is h) = worn_at_source s few is (settle_where K L nodes t s which knows h)
