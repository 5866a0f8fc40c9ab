-- Points in the order of their keys.
use Rattle.std.proofs.Common.{◌≡◌, ℕ, zero, suc, ◌<◌, ◌≤◌, false, not, ◌&&◌, List, [], ◌∷◌, length, refl, sym, ap, ◌∙◌, arith, inl, inr, Ordering, Less, Equal, Greater, get_or}
use Rattle.std.specs.Prelude.{Bool, Option, ◌⊎◌}
use Rattle.std.specs.Ordering.{is_lt, ordering_reverse}
use Rattle.std.specs.Cmp.{IsStrictWeakOrder}
use Rattle.std.specs.Cmp.Lexicographic.{same_text}
use Rattle.std.specs.List.{AllByRecursion}
use Rattle.std.specs.List.Sorted.{IsPermutation, IsSortedBy, IsStableBy, ties}
use Rattle.std.proofs.lemmas.Bool.{cases_Bool}
use Rattle.std.proofs.lemmas.Cmp.{nat_list_cmp_total as total}
use Rattle.std.proofs.lemmas.List.Elements.{All-from_recursion, recursion_from_All, filter_agree}
use Rattle.std.proofs.lemmas.List.Sorted.{ranks_by, sorted_far, All-permutation, IsPermutation-map, sum_by-IsPermutation}
use Rattle.bd_keys.specs.Keys.{key_cmp, IsAtLeast}
use Rattle.bd_message.specs.declared.message.Message.{Message}
use Rattle.bd_message.specs.Effect.{NodesAt, same_key, acts}
use Rattle.bd_node.specs.Index.{own_key}
use Rattle.bd_node.proofs.Edges.{lt_isnt}
use Rattle.bd_leaf.specs.Points.{IsPoint, IsSorted, AreInTurn, growth, message_of, messages_of}
use Rattle.bd_leaf.specs.declared.points.Point.{Point}
use Rattle.bd_leaf.proofs.Finds.{apart_below, apart_above, same_key-refl, tied, above}
use Rattle.bd_leaf.proofs.OnKeys.{IsOther, acts-other, acts-filter}

-- the key of a point
abbrev key_of : Point → List ℕ
key_of p = own_key (message_of p)

-- one point's key is below the other's
abbrev pub comes_before : Point → Point → Bool
comes_before p q = is_lt (key_cmp (key_of p) (key_of q))

pub ranks : IsStrictWeakOrder comes_before
ranks = ranks_by total key_of

-- keys of which neither is below the other are the same
tied_same : (a b : List ℕ) → (not (is_lt (key_cmp a b)) && not (is_lt (key_cmp b a))) ≡ same_key a b
tied_same a b =
    elim (key_cmp a b) as (λ (o : Ordering). key_cmp a b ≡ o → (not (is_lt o) && not (is_lt (key_cmp b a))) ≡ same_key a b) [
      | Less ↦ λ less. sym (apart_below a b less)
      | Equal ↦ λ same.
          ap (λ (o : Ordering). not (is_lt o)) (total.antisymm b a ∙ ap ordering_reverse same)
          ∙ sym (same_key-refl b) ∙ ap (λ (l : List ℕ). same_key l b) (sym (tied a b same))
      | Greater ↦ λ more. ap (λ (o : Ordering). not (is_lt o)) (above a b more) ∙ sym (apart_above a b (above a b more))
    ] refl

-- some point is at the key, or none of these
found : (ps : List Point) (k : List ℕ) → AllByRecursion IsPoint (messages_of ps) → ((x : Point) × (key_of x ≡ k)) ⊎ AllByRecursion (IsOther k) (messages_of ps)
found [] k h = inr tt
found (p ∷ ps) k h =
    elim (cases_Bool (same_key k (key_of p))) as (λ _. ((x : Point) × (key_of x ≡ k)) ⊎ AllByRecursion (IsOther k) (messages_of (p ∷ ps))) [
      | inl same ↦ inl (p, sym (same_text k (key_of p) (sym same)))
      | inr other ↦ elim (found ps k h.1) as (λ _. ((x : Point) × (key_of x ≡ k)) ⊎ AllByRecursion (IsOther k) (messages_of (p ∷ ps))) [
        | inl x ↦ inl x
        | inr none ↦ inr ((h.0.point, other), none)
      ]
    ]

each_moved : (P : Message → Type 0) (xs ys : List Point) → IsPermutation xs ys → AllByRecursion P (messages_of xs) → AllByRecursion P (messages_of ys)
each_moved P xs ys moved h =
    recursion_from_All P (messages_of ys) (All-permutation P (messages_of xs) (messages_of ys) (IsPermutation-map message_of xs ys moved) (All-from_recursion P (messages_of xs) h))

same_acts : (below : NodesAt) (xs ys : List Point) (k : List ℕ) (o : Option (List ℕ)) → AllByRecursion IsPoint (messages_of xs) → IsPermutation xs ys → IsStableBy comes_before xs ys → acts below (messages_of ys) k o ≡ acts below (messages_of xs) k o
same_acts below xs ys k o h moved stable =
    elim (found xs k h) as (λ _. acts below (messages_of ys) k o ≡ acts below (messages_of xs) k o) [
      | inl x ↦ (let agree : (p : Point) → same_key k (key_of p) ≡ ties comes_before x.0 p = λ p. ap (λ (l : List ℕ). same_key l (key_of p)) (sym x.1) ∙ sym (tied_same (key_of x.0) (key_of p)) in
          let test : Point → Bool = λ p. same_key k (key_of p) in
          acts-filter below ys k o (each_moved IsPoint xs ys moved h)
          ∙ ap (λ (ps : List Point). acts below (messages_of ps) k o) (filter_agree test (ties comes_before x.0) agree ys ∙ stable x.0 ∙ sym (filter_agree test (ties comes_before x.0) agree xs))
          ∙ sym (acts-filter below xs k o h))
      | inr none ↦ acts-other below (messages_of ys) k o (each_moved (IsOther k) xs ys moved none) ∙ sym (acts-other below (messages_of xs) k o none)
    ]

each_far : (q : Point) (ps : List Point) → ((j : ℕ) (d : Point) → j < length ps → comes_before (get_or ps j d) q ≡ false) → AllByRecursion (λ (n : Message). IsAtLeast (own_key n) (key_of q)) (messages_of ps)
each_far q [] h = tt
each_far q (p ∷ ps) h = (lt_isnt (key_cmp (key_of p) (key_of q)) (h zero p (omega arith)), each_far q ps (λ j d low. h (suc j) d (omega arith)))

far_turn : (ps : List Point) → ((i j : ℕ) (d : Point) → i ≤ j → j < length ps → comes_before (get_or ps j d) (get_or ps i d) ≡ false) → AreInTurn (messages_of ps)
far_turn [] h = tt
far_turn (p ∷ ps) h = (each_far p ps (λ j d low. h zero (suc j) d (omega arith) (omega arith)), far_turn ps (λ i j d le low. h (suc i) (suc j) d (omega arith) (omega arith)))

pub sorted_points : (xs ys : List Point) → AllByRecursion IsPoint (messages_of xs) → IsPermutation xs ys → IsSortedBy comes_before ys → IsStableBy comes_before xs ys → IsSorted (messages_of xs) (messages_of ys)
sorted_points xs ys h moved sorted stable = record {
  each = each_moved IsPoint xs ys moved h;
  turn = far_turn ys (sorted_far comes_before ranks ys sorted);
  acted = λ below k o. same_acts below xs ys k o h moved stable;
  growth = sum_by-IsPermutation growth (messages_of xs) (messages_of ys) (IsPermutation-map message_of xs ys moved);
}
