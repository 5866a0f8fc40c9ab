-- The root with more messages.
use Rattle.std.proofs.Common.{◌≡◌, ℕ, ◌+◌, ◌-◌, suc, Bool, false, sym, ap, subst, ◌∙◌, inl, inr, List, Some, cond, eqb, Result, Ok, Err, OnOk, IsTrue}
use Rattle.std.specs.List.{sum_by}
use Rattle.std.proofs.lemmas.Bool.{cases_eq, cond-true, cond-false, eq-eqb, ne_eqb}
use Rattle.bd_message.specs.declared.message.Message.{Message}
use Rattle.bd_message.specs.Messages.{size}
use Rattle.bd_node.specs.declared.node.Node.{Node}
use Rattle.bd_node.specs.Nodes.{height_of, appended}
use Rattle.bd_node.specs.Meaning.{Nodes}
use Rattle.bd_node.specs.Tables.{Table, IsSound}
use Rattle.bd_node.specs.Stores.{FitsRoot}
use Rattle.bd_node.specs.Steps.{after, append_step, grown, with_touched, HasGrown, IsCommitted}
use Rattle.bd_node.proofs.Appending.{level_appended, append_sound, is_appended}
use Rattle.bd_memnodes.specs.Stored.{table_of}

-- no level changes
same_levels : (nodes new : Nodes) (t : Table) (root : Node) (list : List Message) → nodes t.root ≡ Some root → ((i : ℕ) → new i ≡ cond (eqb t.root i) (Some (appended root list)) (nodes i))
    → (i : ℕ) → height_of (new i) - 1 ≡ height_of (nodes i) - 1
same_levels nodes new t root list there is i =
    elim (cases_eq t.root i) [
      | inl same ↦ ap (λ o. height_of o - 1) (is i ∙ cond-true (eqb t.root i) (Some (appended root list)) (nodes i) (eq-eqb t.root i same))
          ∙ ap (λ n. suc n - 1) (level_appended root list)
          ∙ sym (ap (λ o. height_of o - 1) (ap nodes (sym same) ∙ there))
      | inr other ↦ ap (λ o. height_of o - 1) (is i ∙ cond-false (eqb t.root i) (Some (appended root list)) (nodes i) (ne_eqb t.root i other))
    ]

-- the table has only grown
pub grown_table : (nodes new : Nodes) (counts : ℕ → ℕ) (at more all next : ℕ) (root : Node) (list : List Message) → nodes at ≡ Some root
    → ((i : ℕ) → new i ≡ cond (eqb at i) (Some (appended root list)) (nodes i)) → all ≡ more + sum_by size list
    → table_of new counts at all next ≡ grown (table_of nodes counts at more next) list
grown_table nodes new counts at more all next root list there is all_is = λ j. record {
  count = counts;
  level = λ id. same_levels nodes new (table_of nodes counts at more next) root list there is id j;
  root = at;
  size = all_is j;
  next = next;
  touched = λ id. false;
}

-- what a store has after it
pub append_done : (nodes new : Nodes) (t u : Table) (root : Node) (list : List Message) → IsSound nodes t → FitsRoot t list → nodes t.root ≡ Some root
    → ((i : ℕ) → new i ≡ cond (eqb t.root i) (Some (appended root list)) (nodes i)) → u ≡ grown t list → IsCommitted nodes t (append_step t root list) new u
append_done nodes new t u root list s fits there is table =
    let same : new ≡ after nodes t (append_step t root list) = is_appended nodes new t root list s is in
    record {
      stays = λ id kept. ap (λ (m : Nodes). m id) same;
      sound = subst (λ (v : Table). IsSound new v) (sym table) (subst (λ (m : Nodes). IsSound m (grown t list)) (sym same) (append_sound nodes t root list s there fits));
    }

-- and none of its nodes is told as touched
pub on_ok_grown : {T E : Type 0} (t : Table) (list : List Message) (u : Table) (r : Result T E) → OnOk r (u ≡ grown t list) → ((id : ℕ) → IsTrue (u.touched id) → ⊥) → OnOk r (HasGrown t list u)
on_ok_grown t list u (Ok x) is none = record {
  is = is ∙ ap (λ (f : ℕ → Bool). with_touched f (grown t list)) (ap (λ (v : Table). v.touched) (sym is));
  touched = λ id on. absurd (none id on);
}
on_ok_grown t list u (Err e) is none = tt
