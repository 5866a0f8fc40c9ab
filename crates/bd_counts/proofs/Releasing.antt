-- What taking back one name leaves.
use Rattle.std.proofs.Common.{◌≡◌, ℕ, ◌+◌, ◌≤◌, refl, sym, ap, subst, ◌∙◌, None, arith, inl, inr}
use Rattle.std.proofs.lemmas.Bool.{cases_eq}
use Rattle.bd_node.specs.Meaning.{Nodes}
use Rattle.bd_node.specs.Tables.{times_in, one_if, references}
use Rattle.bd_node.specs.Closed.{IsClosed, without}
use Rattle.bd_node.proofs.Sums.{sum_same}
use Rattle.bd_node.proofs.Sound.{one_if-same, one_if-other}
use Rattle.bd_node.proofs.Closing.{by_node, without-same, without-other, without-there, dropped}
use Rattle.bd_node.proofs.Counting.{counts_dropped}
use Rattle.bd_counts.specs.Releasing.{IsReleasing, IsLess}

-- equal nodes have equal references
pub same_references : (nodes other : Nodes) (next root : ℕ) → ((id : ℕ) → nodes id ≡ other id) → (c : ℕ) → references nodes next root c ≡ references other next root c
same_references nodes other next root same c =
    ap (λ s. s + one_if root c) (sum_same next (λ i. times_in (nodes i) c) (λ i. times_in (other i) c) (λ i low. ap (λ o. times_in o c) (same i)))

-- nodes that are gone at an id, and nowhere else
pub is_without : (nodes new : Nodes) (d : ℕ) → new d ≡ None → ((id : ℕ) → (id ≡ d → ⊥) → new id ≡ nodes id) → (id : ℕ) → new id ≡ without nodes d id
is_without nodes new d gone others id =
    elim (cases_eq id d) [
      | inl same ↦ ap new same ∙ gone ∙ sym (without-same nodes d) ∙ sym (ap (without nodes d) same)
      | inr other ↦ others id other ∙ sym (without-other nodes d id other)
    ]

pub references_without : (nodes : Nodes) (next root d : ℕ) → IsClosed nodes next root → (c : ℕ) → references (without nodes d) next root c + times_in (nodes d) c ≡ references nodes next root c
references_without nodes next root d closed c =
    by_node (references (without nodes d) next root c + times_in (nodes d) c ≡ references nodes next root c) (nodes d)
    (λ none.
    let same : references (without nodes d) next root c ≡ references nodes next root c = same_references (without nodes d) nodes next root (λ id. sym (is_without nodes nodes d none (λ i other. refl) id)) c in
    let no_times : times_in (nodes d) c ≡ 0 = ap (λ o. times_in o c) none in
    omega arith)
    (λ n there. counts_dropped nodes next root d (closed.below d n there) c)

pub less_other : (id : ℕ) (counts new : ℕ → ℕ) → IsLess id counts new → (c : ℕ) → (c ≡ id → ⊥) → new c ≡ counts c
less_other id counts new less c other =
    let zero_if : one_if id c ≡ 0 = one_if-other id c (λ e. other (sym e)) in
    let e : new c + one_if id c ≡ counts c = less.each c in
    omega arith

-- a name is taken back, and another one is left
pub taken_one : (first : Nodes) (next root id : ℕ) (nodes : Nodes) (counts new_counts owed new_owed : ℕ → ℕ) → IsLess id counts new_counts → 1 ≤ new_counts id
    → ((c : ℕ) → owed c ≡ one_if id c + new_owed c)
    → IsReleasing first next root nodes counts owed → IsReleasing first next root nodes new_counts new_owed
taken_one first next root id nodes counts new_counts owed new_owed less some is h = record {
  closed = h.closed;
  stays = h.stays;
  used = λ i n there.
      elim (cases_eq i id) [
        | inl same ↦ subst (λ (j : ℕ). 1 ≤ new_counts j) (sym same) some
        | inr other ↦ subst (λ (k : ℕ). 1 ≤ k) (sym (less_other id counts new_counts less i other)) (h.used i n there)
      ];
  exact = λ c.
      let a : new_counts c + one_if id c ≡ counts c = less.each c in
      let b : counts c ≡ references nodes next root c + owed c = h.exact c in
      let d : owed c ≡ one_if id c + new_owed c = is c in
      omega arith;
}

-- the last name is taken back, and the node goes
pub taken_last : (first : Nodes) (next root id : ℕ) (nodes new : Nodes) (counts new_counts owed new_owed rest : ℕ → ℕ) → IsLess id counts new_counts → new_counts id ≡ 0
    → ((i : ℕ) → new i ≡ without nodes id i) → ((c : ℕ) → owed c ≡ one_if id c + rest c) → ((c : ℕ) → new_owed c ≡ times_in (nodes id) c + rest c)
    → IsReleasing first next root nodes counts owed → IsReleasing first next root new new_counts new_owed
taken_last first next root id nodes new counts new_counts owed new_owed rest less none gone is new_is h =
    let is_gone : new ≡ without nodes id = λ i j. gone j i in
    let same_if : one_if id id ≡ 1 = one_if-same id in
    let none_left : references nodes next root id ≡ 0 =
    let a : new_counts id + one_if id id ≡ counts id = less.each id in
    let b : counts id ≡ references nodes next root id + owed id = h.exact id in
    let d : owed id ≡ one_if id id + rest id = is id in
    omega arith in
    subst (λ (m : Nodes). IsReleasing first next root m new_counts new_owed) (sym is_gone)
    (record {
      closed = dropped nodes next root id h.closed none_left;
      stays = λ i n there. h.stays i n (without-there nodes id i n there).1;
      used = λ i n there.
          subst (λ (k : ℕ). 1 ≤ k) (sym (less_other id counts new_counts less i (without-there nodes id i n there).0)) (h.used i n (without-there nodes id i n there).1);
      exact = λ c.
          let a : new_counts c + one_if id c ≡ counts c = less.each c in
          let b : counts c ≡ references nodes next root c + owed c = h.exact c in
          let d : owed c ≡ one_if id c + rest c = is c in
          let f : new_owed c ≡ times_in (nodes id) c + rest c = new_is c in
          let e : references (without nodes id) next root c + times_in (nodes id) c ≡ references nodes next root c = references_without nodes next root id h.closed c in
          omega arith;
    })

pub same_owed : (first : Nodes) (next root : ℕ) (nodes : Nodes) (counts owed other : ℕ → ℕ) → ((c : ℕ) → other c ≡ owed c)
    → IsReleasing first next root nodes counts owed → IsReleasing first next root nodes counts other
same_owed first next root nodes counts owed other same h = record {
  closed = h.closed;
  stays = h.stays;
  used = h.used;
  exact = λ c. h.exact c ∙ ap (λ n. references nodes next root c + n) (sym (same c));
}
