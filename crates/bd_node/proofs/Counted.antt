-- How often a part of names names a node, and how often all of them do.
use Rattle.std.proofs.Common.{◌≡◌, ℕ, zero, suc, ◌≤◌, true, false, cond, List, [], ◌∷◌, ◌++◌, subst, Some, arith}
use Rattle.std.specs.Prelude.{slice_get, count_by, ◌==◌}
use Rattle.std.specs.List.{flat_map}
use Rattle.std.specs.Ordering.{is_lt}
use Rattle.std.proofs.lemmas.Option.{same_Some, none-some}
use Rattle.std.proofs.lemmas.List.Sums.{sum_by-append}
use Rattle.bd_keys.specs.Keys.{key_cmp}
use Rattle.bd_message.specs.declared.message.Message.{Message}
use Rattle.bd_node.specs.declared.node.Edge.{Edge}
use Rattle.bd_node.specs.Nodes.{edge_names, message_names, edge_from, edge_of}

-- ---- the names before and after others

pub counted_first : (c : ℕ) (xs ys : List ℕ) → count_by (λ name. name == c) xs ≤ count_by (λ name. name == c) (xs ++ ys)
counted_first c xs ys = omega (arith, sum_by-append (λ (x : ℕ). cond (x == c) 1 0) xs ys)

pub counted_second : (c : ℕ) (xs ys : List ℕ) → count_by (λ name. name == c) ys ≤ count_by (λ name. name == c) (xs ++ ys)
counted_second c xs ys = omega (arith, sum_by-append (λ (x : ℕ). cond (x == c) 1 0) xs ys)

-- ---- those of one message or edge

pub message_counted : (ms : List Message) (i : ℕ) (m : Message) (c : ℕ) → slice_get ms i ≡ Some m → count_by (λ name. name == c) (message_names m) ≤ count_by (λ name. name == c) (flat_map message_names ms)
message_counted [] i m c there = absurd (none-some m there)
message_counted (n ∷ ms) zero m c there = subst (λ (q : Message). count_by (λ name. name == c) (message_names q) ≤ count_by (λ name. name == c) (flat_map message_names (n ∷ ms))) (same_Some n m there) (counted_first c (message_names n) (flat_map message_names ms))
message_counted (n ∷ ms) (suc i) m c there =
    let h : count_by (λ name. name == c) (message_names m) ≤ count_by (λ name. name == c) (flat_map message_names ms) = message_counted ms i m c there in
    let more : count_by (λ name. name == c) (flat_map message_names ms) ≤ count_by (λ name. name == c) (message_names n ++ flat_map message_names ms) = counted_second c (message_names n) (flat_map message_names ms) in
    omega arith

edge_counted : (e : Edge) (es : List Edge) (k : List ℕ) (c : ℕ) → count_by (λ name. name == c) (edge_names (edge_from e es k)) ≤ count_by (λ name. name == c) (flat_map edge_names (e ∷ es))
edge_counted e [] k c = counted_first c (edge_names e) []
edge_counted e (f ∷ es) k c =
    elim (is_lt (key_cmp k f.pivot)) as (λ b. count_by (λ name. name == c) (edge_names (cond b e (edge_from f es k))) ≤ count_by (λ name. name == c) (flat_map edge_names (e ∷ f ∷ es))) [
      | true ↦ counted_first c (edge_names e) (flat_map edge_names (f ∷ es))
      | false ↦ (let h : count_by (λ name. name == c) (edge_names (edge_from f es k)) ≤ count_by (λ name. name == c) (flat_map edge_names (f ∷ es)) = edge_counted f es k c in
          let more : count_by (λ name. name == c) (flat_map edge_names (f ∷ es)) ≤ count_by (λ name. name == c) (edge_names e ++ flat_map edge_names (f ∷ es)) = counted_second c (edge_names e) (flat_map edge_names (f ∷ es)) in
          omega arith)
    ]

pub edge_of_counted : (es : List Edge) (k : List ℕ) (e : Edge) (c : ℕ) → edge_of es k ≡ Some e → count_by (λ name. name == c) (edge_names e) ≤ count_by (λ name. name == c) (flat_map edge_names es)
edge_of_counted [] k e c there = absurd (none-some e there)
edge_of_counted (f ∷ es) k e c there = subst (λ (d : Edge). count_by (λ name. name == c) (edge_names d) ≤ count_by (λ name. name == c) (flat_map edge_names (f ∷ es))) (same_Some (edge_from f es k) e there) (edge_counted f es k c)
