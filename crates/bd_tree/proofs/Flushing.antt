-- A step of a flush leaves what the tree has.
use Rattle.std.proofs.Common.{◌≡◌, ℕ, ◌⊎◌, Bool, true, false, List, refl, ap, ◌∙◌, Result, Ok, Err, inl, inr}
use Rattle.bd_message.specs.declared.fault.MapFault.{MapFault}
use Rattle.bd_node.specs.Meaning.{Nodes}
use Rattle.bd_node.specs.Tables.{Table, root_at}
use Rattle.bd_path.specs.Flushed.{IsFlushed}

is_done : (r : Result Bool MapFault) → r ≡ Ok true ⊎ (r ≡ Ok true → ⊥)
is_done (Ok true) = inl refl
is_done (Ok false) = inr (λ e. cc)
is_done (Err fault) = inr (λ e. cc)

-- nodes after a call that makes a step of a flush or nothing
pub record IsAfterFlush (nodes : Nodes) (t : Table) (new : Nodes) (u : Table) (r : Result Bool MapFault) : Type 0 where
  pub step : r ≡ Ok true → IsFlushed nodes t new u
  pub table : (r ≡ Ok true → ⊥) → u ≡ t
  pub same : (r ≡ Ok true → ⊥) → new ≡ nodes

pub same_tree : (nodes : Nodes) (t : Table) (new : Nodes) (u : Table) (r : Result Bool MapFault) → IsAfterFlush nodes t new u r → (k : List ℕ) → root_at new u k ≡ root_at nodes t k
same_tree nodes t new u r h k =
    elim (is_done r) [
      | inl done ↦ (h.step done).same k
      | inr not ↦ ap (λ (f : Nodes). root_at f u k) (h.same not) ∙ ap (λ (v : Table). root_at nodes v k) (h.table not)
    ]
