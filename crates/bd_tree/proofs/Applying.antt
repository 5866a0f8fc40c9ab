-- What messages after those of the root leave.
use Rattle.std.proofs.Common.{◌≡◌, ℕ, List, refl, sym, ap, subst, Some, Result, Ok, Err, OnOk}
use Rattle.bd_message.specs.declared.message.Message.{Message}
use Rattle.bd_message.specs.KeyMaps.{IsApplied}
use Rattle.bd_node.specs.declared.node.Node.{Node}
use Rattle.bd_node.specs.Meaning.{Nodes, at}
use Rattle.bd_node.specs.Tables.{Table, IsKept, IsStored, IsSound, root_at}
use Rattle.bd_node.specs.Steps.{IsCommitted, append_step, HasGrown}
use Rattle.bd_node.specs.Stores.{FitsRoot}
use Rattle.bd_tree.specs.Trees.{TreeState}
use Rattle.bd_node.proofs.Appending.{append-meaning}
use Rattle.bd_node.proofs.Stepping.{isolated_root}

-- how the root's messages grow
pub record IsGrown {T E : Type 0} (nodes : Nodes) (t : Table) (list : List Message) (new : Nodes) (u : Table) (r : Result T E) : Type 0 where
  pub sound : IsSound nodes t
  pub fits : FitsRoot t list
  pub committed : (root : Node) → nodes t.root ≡ Some root → OnOk r (IsCommitted nodes t (append_step t root list) new u)
  pub table : OnOk r (HasGrown t list u)

on_ok : {T E : Type 0} (P Q R : Type 0) (r : Result T E) → OnOk r P → OnOk r Q → (P → Q → R) → OnOk r R
on_ok P Q R (Ok x) p q f = f p q
on_ok P Q R (Err e) p q f = tt

then : {T E : Type 0} (nodes : Nodes) (t : Table) (list : List Message) (new : Nodes) (u : Table) (r : Result T E) (R : Type 0) → IsGrown nodes t list new u r
    → ((root : Node) → nodes t.root ≡ Some root → IsCommitted nodes t (append_step t root list) new u → HasGrown t list u → R) → OnOk r R
then nodes t list new u r R h f =
    let stored : IsStored nodes t t.root = h.sound.each t.root h.sound.table.root in
    on_ok (IsCommitted nodes t (append_step t stored.node list) new u) (HasGrown t list u) R r (h.committed stored.node stored.there) h.table (f stored.node stored.there)

pub applied : {T E : Type 0} (nodes : Nodes) (t : Table) (list : List Message) (new : Nodes) (u : Table) (r : Result T E) → IsGrown nodes t list new u r → OnOk r (IsApplied (root_at nodes t) list (root_at new u))
applied nodes t list new u r h =
    then nodes t list new u r (IsApplied (root_at nodes t) list (root_at new u)) h
    (λ root there c is k key. append-meaning nodes t root list new u h.sound there h.fits c (ap (λ (v : Table). v.root) is.is) k key)

pub others : {T E : Type 0} (nodes : Nodes) (t : Table) (list : List Message) (new : Nodes) (u : Table) (r : Result T E) → IsGrown nodes t list new u r
    → OnOk r ((id : ℕ) → IsKept t id → (id ≡ t.root → ⊥) → (k : List ℕ) → at new id k ≡ at nodes id k)
others nodes t list new u r h =
    then nodes t list new u r ((id : ℕ) → IsKept t id → (id ≡ t.root → ⊥) → (k : List ℕ) → at new id k ≡ at nodes id k) h
    (λ root there c is id kept other k. isolated_root nodes t (append_step t root list) new u h.sound c (refl, tt) id kept (subst (λ (v : Table). IsKept v id) (sym is.is) kept) other k)

pub stays_sound : {T E : Type 0} (nodes : Nodes) (t : Table) (list : List Message) (new : Nodes) (u : Table) (r : Result T E) → IsGrown nodes t list new u r → OnOk r (IsSound new u)
stays_sound nodes t list new u r h = then nodes t list new u r (IsSound new u) h (λ root there c is. c.sound)

-- what fits fits the same store, and so do equal messages
pub fits_again : {S : Type 0} (table : S → Table) {a b : TreeState S} {l m : List Message} → m ≡ l → a ≡ b → FitsRoot (table b.store) l → FitsRoot (table a.store) m
fits_again {S} table {a} {b} {l} {m} same_list same_tree h =
    subst (λ (s : TreeState S). FitsRoot (table s.store) m) (sym same_tree) (subst (λ (k : List Message). FitsRoot (table b.store) k) (sym same_list) h)
