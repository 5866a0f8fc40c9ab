-- A store's first nodes.
use Rattle.std.proofs.Common.{◌≡◌, ℕ, sym, ap, subst, ◌∙◌, arith, inl, inr, List, [], nat_eq, Option, None, Some, eqb}
use Rattle.std.specs.Option.{option_map, unwrap_or}
use Rattle.std.specs.HashMap.{HashMap, get, Updates}
use Rattle.std.specs.Map.{lookup}
use Rattle.std.specs.declared.rc.Rc.{Rc}
use Rattle.std.proofs.lemmas.Bool.{cases_eq, cond-false, ne_eqb}
use Rattle.bd_node.specs.declared.node.Node.{Node}
use Rattle.bd_node.specs.Meaning.{Nodes}
use Rattle.bd_node.specs.Tables.{Table, IsSound, sum_below, one_if, references}
use Rattle.bd_node.specs.New.{new_root, new_nodes, new_table}
use Rattle.bd_node.proofs.Sound.{one_if-same, one_if-other}
use Rattle.bd_node.proofs.LawLemmas.{new_sound}
use Rattle.bd_memnodes.specs.Maps.{nodes_in, count_in}
use Rattle.bd_memnodes.specs.Stored.{table_of}

empty_get : {X S : Type 0} (m : HashMap ℕ X S) → m.entries ≡ [] → (q : ℕ) → get nat_eq m q ≡ None
empty_get {X} m empty q = ap (λ (es : List (ℕ × X)). lookup (nat_eq q) es) empty

pub fresh_nodes : {S Z : Type 0} (start m : HashMap ℕ (Rc Node Z) S) (shared : Rc Node Z) → start.entries ≡ [] → Updates nat_eq start m 1 (Some shared) → shared.value ≡ new_root → nodes_in m ≡ new_nodes
fresh_nodes {S} {Z} start m shared empty updates is = λ i id.
    (let each : (q : ℕ) → nodes_in m q ≡ new_nodes q = λ q.
    elim (cases_eq q 1) [
      | inl same ↦ (let at_one : nodes_in m 1 ≡ new_nodes 1 = ap (λ (o : Option (Rc Node Z)). option_map (λ s. s.value) o) updates.1 ∙ ap Some is in
          subst (λ (k : ℕ). nodes_in m k ≡ new_nodes k) (sym same) at_one)
      | inr other ↦ ap (λ (o : Option (Rc Node Z)). option_map (λ s. s.value) o) (updates.2 q (ne_eqb 1 q (λ e. other (sym e))) ∙ empty_get start empty q)
          ∙ sym (cond-false (eqb q 1) (Some new_root) None (ne_eqb q 1 other))
    ] in each id) i

no_references : (c : ℕ) → references new_nodes 2 1 c ≡ one_if 1 c
unfolding sum_below
no_references c = omega arith

pub fresh_counts : {S : Type 0} (start m : HashMap ℕ ℕ S) → start.entries ≡ [] → Updates nat_eq start m 1 (Some 1) → count_in m ≡ references new_nodes 2 1
fresh_counts {S} start m empty updates = λ i c.
    (let each : (q : ℕ) → count_in m q ≡ references new_nodes 2 1 q = λ q.
    elim (cases_eq 1 q) [
      | inl same ↦ subst (λ (k : ℕ). count_in m k ≡ references new_nodes 2 1 k) same (ap (λ (o : Option ℕ). unwrap_or o 0) updates.1 ∙ sym (one_if-same 1) ∙ sym (no_references 1))
      | inr other ↦ ap (λ (o : Option ℕ). unwrap_or o 0) (updates.2 q (ne_eqb 1 q other) ∙ empty_get start empty q) ∙ sym (one_if-other 1 q other) ∙ sym (no_references q)
    ] in each c) i

pub fresh_table : (nodes : Nodes) (counts : ℕ → ℕ) → nodes ≡ new_nodes → counts ≡ references new_nodes 2 1 → table_of nodes counts 1 0 2 ≡ new_table
fresh_table nodes counts same_nodes same_counts =
    ap (λ (n : Nodes). table_of n counts 1 0 2) same_nodes ∙ ap (λ (f : ℕ → ℕ). table_of new_nodes f 1 0 2) same_counts

pub fresh_sound : (nodes : Nodes) (counts : ℕ → ℕ) → nodes ≡ new_nodes → counts ≡ references new_nodes 2 1 → IsSound nodes (table_of nodes counts 1 0 2)
fresh_sound nodes counts same_nodes same_counts =
    subst (λ (n : Nodes). IsSound n (table_of nodes counts 1 0 2)) (sym same_nodes)
    (subst (λ (t : Table). IsSound new_nodes t) (sym (fresh_table nodes counts same_nodes same_counts)) new_sound)
