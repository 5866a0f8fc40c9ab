-- Pushes are steps that begin at an edge for which a Cut is pending.
use Rattle.std.proofs.Common.{Result, Ok, Err}
use Rattle.std.specs.Prelude.{OnOk, ℕ}
use Rattle.bd_node.specs.declared.node.Node.{Node}
use Rattle.bd_node.specs.Meaning.{Nodes}
use Rattle.bd_node.specs.Tables.{Table}
use Rattle.bd_path.specs.Flushed.{IsFlushed}
use Rattle.bd_step.specs.Ways.{HasPendingAt}
use Rattle.bd_cover.specs.Covering.{HasCut}
use Rattle.bd_cover.specs.Reclaimed.{IsReclaimed}
use Rattle.bd_cover.proofs.Changed.{as_reclaimed}

pub cut_pending : (n : Node) (place : ℕ) → HasCut n place → HasPendingAt n place
cut_pending n place h = record {
  edge = h.edge;
  here = h.here;
  pending = record { index = h.cut.at; message = h.cut.message; there = h.cut.there; pending = h.cut.pending };
}

pub on_flushed : {T E : Type 0} (nodes : Nodes) (t : Table) (new : Nodes) (u : Table) (r : Result T E) → OnOk r (IsFlushed nodes t new u) → OnOk r (IsReclaimed nodes t new u)
on_flushed nodes t new u (Ok x) h = as_reclaimed nodes t new u h
on_flushed nodes t new u (Err e) h = tt
