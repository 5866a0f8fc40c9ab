-- What the nodes have is the one function that meets each node's equation.
use Rattle.std.proofs.Common.{◌≡◌, ℕ, zero, suc, ◌<◌, ◌≤◌, false, cond, List, refl, sym, ap, ◌∙◌, Option, None, Some, arith}
use Rattle.std.specs.List.{AllByRecursion}
use Rattle.bd_message.specs.Effect.{NodesAt}
use Rattle.bd_node.specs.declared.node.Node.{Node}
use Rattle.bd_node.specs.Nodes.{level_of, height_of, names, node_at, is_key}
use Rattle.bd_node.specs.Meaning.{Nodes, found_at, at_within, at, IsBelowLevel, IsLevelled, Meets}
use Rattle.bd_node.proofs.Lookup.{Agree, each_weaker, node_has-same}

pub height_below : (level : ℕ) (o : Option Node) → IsBelowLevel level o → height_of o ≤ level
height_below level None h = absurd h
height_below level (Some n) h = omega arith

pub found_at-same : (f g : NodesAt) (o : Option Node) (k : List ℕ) → ((n : Node) → o ≡ Some n → AllByRecursion (Agree f g) (names n)) → found_at f o k ≡ found_at g o k
found_at-same f g None k h = refl
found_at-same f g (Some n) k h = node_has-same f g n k (h n refl)

found_at-none : (f : NodesAt) (o : Option Node) (k : List ℕ) → height_of o ≤ 0 → found_at f o k ≡ None
found_at-none f None k h = refl
found_at-none f (Some n) k h = absurd (omega arith)

-- with a depth of the height and more the depth says nothing
enough : (nodes : Nodes) → IsLevelled nodes → (d e id : ℕ) → height_of (nodes id) ≤ d → height_of (nodes id) ≤ e → Agree (at_within nodes d) (at_within nodes e) id
unfolding at_within
enough nodes levelled zero zero id h g = λ k. refl
enough nodes levelled zero (suc e) id h g = λ k. sym (found_at-none (at_within nodes e) (nodes id) k h)
enough nodes levelled (suc d) zero id h g = λ k. found_at-none (at_within nodes d) (nodes id) k g
enough nodes levelled (suc d) (suc e) id h g = λ k.
    found_at-same (at_within nodes d) (at_within nodes e) (nodes id) k (λ n there.
    let high : height_of (nodes id) ≡ suc (level_of n) = ap height_of there in
    each_weaker (λ c. IsBelowLevel (level_of n) (nodes c)) (Agree (at_within nodes d) (at_within nodes e))
    (λ c below. let low : height_of (nodes c) ≤ level_of n = height_below (level_of n) (nodes c) below in enough nodes levelled d e c (omega arith) (omega arith))
    (names n) (levelled.each id n there))

-- what the nodes have meets each equation
pub at-meets : (nodes : Nodes) → IsLevelled nodes → Meets nodes (at nodes)
unfolding at_within at
at-meets nodes levelled = record {
  each = λ id n there k.
      ap (λ h. at_within nodes h id k) (ap height_of there)
      ∙ ap (λ o. found_at (at_within nodes (level_of n)) o k) there
      ∙ node_has-same (at_within nodes (level_of n)) (at nodes) n k
      (each_weaker (λ c. IsBelowLevel (level_of n) (nodes c)) (Agree (at_within nodes (level_of n)) (at nodes))
      (λ c below. enough nodes levelled (level_of n) (height_of (nodes c)) c (height_below (level_of n) (nodes c) below) (omega arith))
      (names n) (levelled.each id n there));
}

there_below : (nodes : Nodes) (level c : ℕ) (P : Type 0) (o : Option Node) → nodes c ≡ o → IsBelowLevel level o → ((m : Node) → nodes c ≡ Some m → level_of m < level → P) → P
there_below nodes level c P None e below then = absurd below
there_below nodes level c P (Some m) e below then = then m e below

-- two that meet the equations agree at each node
agree_within : (nodes : Nodes) → IsLevelled nodes → (f g : NodesAt) → Meets nodes f → Meets nodes g → (d id : ℕ) (n : Node) → nodes id ≡ Some n → level_of n < d → Agree f g id
agree_within nodes levelled f g mf mg zero id n there low = absurd (omega arith)
agree_within nodes levelled f g mf mg (suc d) id n there low = λ k.
    mf.each id n there k
    ∙ node_has-same f g n k
    (each_weaker (λ c. IsBelowLevel (level_of n) (nodes c)) (Agree f g)
    (λ c below. there_below nodes (level_of n) c (Agree f g c) (nodes c) refl below (λ m at_c lower. agree_within nodes levelled f g mf mg d c m at_c (omega arith)))
    (names n) (levelled.each id n there))
    ∙ sym (mg.each id n there k)

pub meets_agree : (nodes : Nodes) → IsLevelled nodes → (f g : NodesAt) → Meets nodes f → Meets nodes g → (id : ℕ) (n : Node) → nodes id ≡ Some n → Agree f g id
meets_agree nodes levelled f g mf mg id n there = agree_within nodes levelled f g mf mg (suc (level_of n)) id n there (omega arith)

-- where there is no node there is nothing
pub at-none : (nodes : Nodes) (id : ℕ) (k : List ℕ) → nodes id ≡ None → at nodes id k ≡ None
unfolding at_within at
at-none nodes id k e = ap (λ o. at_within nodes (height_of o) id k) e

found_at-others : (f : NodesAt) (o : Option Node) (k : List ℕ) → is_key k ≡ false → found_at f o k ≡ None
found_at-others f None k h = refl
found_at-others f (Some n) k h = ap (λ b. cond b (node_at f n k) None) h

within-others : (nodes : Nodes) (d id : ℕ) (k : List ℕ) → is_key k ≡ false → at_within nodes d id k ≡ None
unfolding at_within
within-others nodes zero id k h = refl
within-others nodes (suc d) id k h = found_at-others (at_within nodes d) (nodes id) k h

-- nor at a list that isn't one of bytes
pub at-others : (nodes : Nodes) (id : ℕ) (k : List ℕ) → is_key k ≡ false → at nodes id k ≡ None
unfolding at
at-others nodes id k h = within-others nodes (height_of (nodes id)) id k h

-- ---- nodes that are the same in a closed set

within_untouched : (nodes new : Nodes) (S : ℕ → Type 0) → ((id : ℕ) → S id → new id ≡ nodes id) → ((id : ℕ) (n : Node) → S id → nodes id ≡ Some n → AllByRecursion S (names n))
    → (d id : ℕ) → S id → Agree (at_within new d) (at_within nodes d) id
unfolding at_within
within_untouched nodes new S same closed zero id s = λ k. refl
within_untouched nodes new S same closed (suc d) id s = λ k.
    ap (λ o. found_at (at_within new d) o k) (same id s)
    ∙ found_at-same (at_within new d) (at_within nodes d) (nodes id) k
    (λ n there. each_weaker S (Agree (at_within new d) (at_within nodes d)) (λ c at_c. within_untouched nodes new S same closed d c at_c) (names n) (closed id n s there))

-- what names only what is the same has the same
pub at_untouched : (nodes new : Nodes) (S : ℕ → Type 0) → ((id : ℕ) → S id → new id ≡ nodes id) → ((id : ℕ) (n : Node) → S id → nodes id ≡ Some n → AllByRecursion S (names n))
    → (id : ℕ) → S id → Agree (at new) (at nodes) id
unfolding at
at_untouched nodes new S same closed id s = λ k.
    ap (λ h. at_within new h id k) (ap height_of (same id s)) ∙ within_untouched nodes new S same closed (height_of (nodes id)) id s k
