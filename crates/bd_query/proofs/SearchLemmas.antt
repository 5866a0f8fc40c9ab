-- How a search goes on, and that it ends.
use Rattle.std.proofs.Common.{◌≡◌, ℕ, zero, suc, ◌+◌, ◌-◌, ◌<◌, ◌≤◌, List, [], ◌∷◌, length, refl, sym, ap, subst, ◌∙◌, Option, None, Some, arith, inl, inr, Less, Greater, true, false}
use Rattle.std.specs.Prelude.{IsSome}
use Rattle.std.proofs.lemmas.Bool.{cases_order, cases_Bool}
use Rattle.bd_keys.specs.Keys.{IsKey, IsBelow, IsAtLeast, Begins}
use Rattle.bd_keys.proofs.Order.{first_less, first_same, first_more, not_below_nil, IsKey-rest, Begins-cons, Begins-uncons}
use Rattle.bd_message.specs.KeyMaps.{At, IsFound, IsNext, IsNextEntry}
use Rattle.bd_node.specs.Nodes.{is_key}
use Rattle.bd_node.specs.Meaning.{Nodes, at}
use Rattle.bd_node.proofs.Lookup.{key-is_key, is_key-key}
use Rattle.bd_node.proofs.LawLemmas.{others_have_nothing}
use Rattle.bd_query.specs.declared.turns.Turn.{Turn}
use Rattle.bd_query.specs.declared.turns.Turn.TheVariants.{Found, Passed}
use Rattle.bd_query.specs.Stretches.{IsEnd, IsEmpty, IsTurn, PassesTo}
use Rattle.bd_query.specs.Asks.{AreVisitsOfWay}
use Rattle.bd_query.proofs.AskLemmas.{IsSearching, searching_on}
use Rattle.bd_query.proofs.EndLemmas.{below_or_least, least_trans}
use Rattle.bd_node.proofs.Touched.{least_back}

-- ---- the place of a key among all keys of at most so many bytes

-- so many times a number
times : ℕ → ℕ → ℕ
times zero w = 0
times (suc b) w = w + times b w

-- how many places there are
width : ℕ → ℕ
width zero = 1
width (suc n) = times 257 (width n)

-- the place of a key, which is that of its first bytes; the lower the key, the lower the place
place : ℕ → List ℕ → ℕ
place zero k = 0
place (suc n) [] = 0
place (suc n) (b ∷ k) = times (suc b) (width n) + place n k

-- how many places are above a key's
pub places_above : ℕ → List ℕ → ℕ
places_above n k = width n - place n k

times_suc : (b w : ℕ) → times (suc b) w ≡ w + times b w
unfolding times
times_suc b w = refl

times_le : (b c w : ℕ) → b ≤ c → times b w ≤ times c w
unfolding times
times_le zero c w le = omega arith
times_le (suc b) zero w le = absurd (omega arith)
times_le (suc b) (suc c) w le = (let h : times b w ≤ times c w = times_le b c w (omega arith) in omega arith)

times_more : (b c w : ℕ) → b < c → times b w + w ≤ times c w
times_more b c w low = (let h : times (suc b) w ≤ times c w = times_le (suc b) c w low in let e : times (suc b) w ≡ w + times b w = times_suc b w in omega arith)

width_suc : (n : ℕ) → width (suc n) ≡ times 257 (width n)
unfolding width
width_suc n = refl

place_cons : (n b : ℕ) (k : List ℕ) → place (suc n) (b ∷ k) ≡ times (suc b) (width n) + place n k
unfolding place
place_cons n b k = refl

place_nil : (n : ℕ) → place n [] ≡ 0
unfolding place
place_nil zero = refl
place_nil (suc n) = refl

place_zero : (k : List ℕ) → place zero k ≡ 0
unfolding place
place_zero k = refl

width_zero : width zero ≡ 1
unfolding width
width_zero = refl

width_some : (n : ℕ) → 1 ≤ width n
width_some zero = (let e : width zero ≡ 1 = width_zero in omega arith)
width_some (suc n) =
    let h : 1 ≤ width n = width_some n in
    let e : width (suc n) ≡ times 257 (width n) = width_suc n in
    let more : times 256 (width n) + width n ≤ times 257 (width n) = times_more 256 257 (width n) (omega arith) in
    omega arith

place_within : (n : ℕ) (k : List ℕ) → IsKey k → place n k < width n
place_within zero k is_k = (let e : place zero k ≡ 0 = place_zero k in let f : width zero ≡ 1 = width_zero in omega arith)
place_within (suc n) [] is_k = (let e : place (suc n) [] ≡ 0 = place_nil (suc n) in let some : 1 ≤ width (suc n) = width_some (suc n) in omega arith)
place_within (suc n) (b ∷ k) is_k =
    let h : place n k < width n = place_within n k (IsKey-rest b k is_k) in
    let byte : b < 256 = is_k 0 in
    let more : times (suc b) (width n) + width n ≤ times 257 (width n) = times_more (suc b) 257 (width n) (omega arith) in
    let e : width (suc n) ≡ times 257 (width n) = width_suc n in
    let f : place (suc n) (b ∷ k) ≡ times (suc b) (width n) + place n k = place_cons n b k in
    omega arith

place_rises : (n : ℕ) (k l : List ℕ) → IsKey k → IsKey l → IsBelow k l → length l ≤ n → place n k < place n l
place_rises n k [] is_k is_l below short = absurd (not_below_nil k below)
place_rises zero k (c ∷ l) is_k is_l below short = absurd (omega arith)
place_rises (suc n) [] (c ∷ l) is_k is_l below short =
    let e : place (suc n) [] ≡ 0 = place_nil (suc n) in
    let f : place (suc n) (c ∷ l) ≡ times (suc c) (width n) + place n l = place_cons n c l in
    let g : times (suc c) (width n) ≡ width n + times c (width n) = times_suc c (width n) in
    let some : 1 ≤ width n = width_some n in
    omega arith
place_rises (suc n) (b ∷ k) (c ∷ l) is_k is_l below short =
    let e : place (suc n) (b ∷ k) ≡ times (suc b) (width n) + place n k = place_cons n b k in
    let f : place (suc n) (c ∷ l) ≡ times (suc c) (width n) + place n l = place_cons n c l in
    elim (cases_order b c) [
      | inl same ↦
          let rest : place n k < place n l = place_rises n k l (IsKey-rest b k is_k) (IsKey-rest c l is_l) (sym (first_same b k l) ∙ subst (λ (d : ℕ). IsBelow (b ∷ k) (d ∷ l)) (sym same) below) (omega arith) in
          let head : times (suc b) (width n) ≡ times (suc c) (width n) = ap (λ (d : ℕ). times (suc d) (width n)) same in
          omega arith
      | inr o ↦ elim o [
        | inl lt ↦ (let h : place n k < width n = place_within n k (IsKey-rest b k is_k) in
            let more : times (suc b) (width n) + width n ≤ times (suc c) (width n) = times_more (suc b) (suc c) (width n) (omega arith) in omega arith)
        | inr gt ↦ (let x : Less ≡ Greater = sym below ∙ first_more b c k l gt in absurd (cc))
      ]
    ]

-- an end above a key has fewer places above it
pub fewer_places : (n : ℕ) (k l : List ℕ) → IsKey k → IsKey l → IsEnd k n (Some l) → places_above n l < places_above n k
unfolding places_above
fewer_places n k l is_k is_l h =
    let rises : place n k < place n l = place_rises n k l is_k is_l h.above h.short in
    let within : place n l < width n = place_within n l is_l in
    omega arith

-- ---- the keys that are looked for

none_some : (o : Option (List ℕ)) → o ≡ None → IsSome o → ⊥
none_some None e some = cc
none_some (Some v) e some = cc

-- a key that begins with a prefix is at least the prefix
pub begins_least : (k p : List ℕ) → Begins k p → IsAtLeast k p
begins_least k [] begins less = not_below_nil k less
begins_least [] (a ∷ p) begins less = (let e : zero ≡ suc (length p) = ap (λ (l : List ℕ). length l) begins in absurd (omega arith))
begins_least (b ∷ k) (a ∷ p) begins less =
    let parts = Begins-uncons b a k p begins in
    begins_least k p parts.1 (sym (first_same b k p) ∙ subst (λ (d : ℕ). IsBelow (b ∷ k) (d ∷ p)) (sym parts.0) less)

-- between a prefix and a key that begins with it all begin with it
begins_between : (p low k : List ℕ) → IsAtLeast low p → IsAtLeast k low → Begins k p → Begins low p
begins_between [] low k from until begins = refl
begins_between (a ∷ p) [] k from until begins = absurd (from refl)
begins_between (a ∷ p) (b ∷ low) [] from until begins = (let e : zero ≡ suc (length p) = ap (λ (l : List ℕ). length l) begins in absurd (omega arith))
begins_between (a ∷ p) (b ∷ low) (c ∷ k) from until begins =
    let parts = Begins-uncons c a k p begins in
    elim (cases_order a b) [
      | inl same ↦
          let rest : Begins low p = begins_between p low k
          (λ less. from (subst (λ (d : ℕ). IsBelow (d ∷ low) (a ∷ p)) same (first_same a low p ∙ less)))
          (λ less. until (subst (λ (d : ℕ). IsBelow (c ∷ k) (d ∷ low)) (parts.0 ∙ same) (first_same c k low ∙ less))) parts.1 in
          subst (λ (d : ℕ). Begins (d ∷ low) (a ∷ p)) same (Begins-cons a low p rest)
      | inr o ↦ elim o [
        | inl lt ↦ absurd (until (first_less c b k low (let e : c ≡ a = parts.0 in omega arith)))
        | inr gt ↦ absurd (from (first_less b a low p gt))
      ]
    ]

-- what has a value is a key
some_key : (nodes : Nodes) (id : ℕ) (k : List ℕ) → IsSome (at nodes id k) → IsKey k
some_key nodes id k some =
    elim (cases_Bool (is_key k)) [
      | inl key ↦ key-is_key k key
      | inr other ↦ (let none : at nodes id k ≡ None = others_have_nothing nodes id k (λ key. (let e : true ≡ false = sym (is_key-key k key) ∙ other in (cc))) in
          absurd (none_some (at nodes id k) none some))
    ]

-- keys that are looked for are at least this one, which is one that may be found
pub record IsLow (has : At) (from within low : List ℕ) : Type 0 where
  pub from_on : IsAtLeast low from
  pub within_on : IsAtLeast low within
  pub rest : (k : List ℕ) → IsFound has from within k → IsAtLeast k low

-- the greater of the two is the first of them
pub low_first : (has : At) (from within low : List ℕ) → IsAtLeast low from → IsAtLeast low within → ((k : List ℕ) → IsAtLeast k from → IsAtLeast k within → IsAtLeast k low) → IsLow has from within low
low_first has from within low from_on within_on least = record {
  from_on = from_on;
  within_on = within_on;
  rest = λ k found. least k found.1 (begins_least k within found.2);
}

-- a turn that passes to an end goes on there
pub low_passed : (nodes : Nodes) (id : ℕ) (from within low end : List ℕ) → IsLow (at nodes id) from within low → IsAtLeast end low → IsEmpty (at nodes id) low (Some end) → IsLow (at nodes id) from within end
low_passed nodes id from within low end h on empty = record {
  from_on = least_trans end low from on h.from_on;
  within_on = least_trans end low within on h.within_on;
  rest = λ k found. elim (below_or_least k end) [
    | inl below ↦ absurd (none_some (at nodes id k) (empty k (some_key nodes id k found.0) (h.rest k found, below)) found.0)
    | inr least ↦ least
  ];
}

-- one that passes all ends the search
pub low_past : (nodes : Nodes) (id : ℕ) (from within low : List ℕ) → IsLow (at nodes id) from within low → IsEmpty (at nodes id) low None → IsNext (at nodes id) from within None
low_past nodes id from within low h empty k found =
    none_some (at nodes id k) (empty k (some_key nodes id k found.0) (h.rest k found, tt)) found.0

-- and so does one where the key doesn't begin as it is to
pub low_other : (has : At) (from within low : List ℕ) → IsLow has from within low → (Begins low within → ⊥) → IsNext has from within None
low_other has from within low h other k found = other (begins_between within low k h.within_on (h.rest k found) found.2)

-- one that finds a value at the key has found it
pub low_found : (has : At) (from within low value : List ℕ) → IsLow has from within low → Begins low within → has low ≡ Some value → IsNextEntry has from within (Some (low, value))
low_found has from within low value h begins is = (((subst (λ (o : Option (List ℕ)). IsSome o) (sym is) refl, h.from_on, begins), h.rest), is)

-- ---- the search

-- what is known of one turn of a search, where all keys are looked for from one on
pub record IsTurned (from within low slice : List ℕ) (most : ℕ) (turn : Turn) : Type 0 where
  pub slice_is : slice ≡ low
  pub passes : PassesTo slice most turn
  pub bytes : IsKey slice

pub turned_fewer : (from within low slice end bytes items : List ℕ) (most : ℕ) (turn : Turn) (some : Option (List ℕ)) → IsTurned from within low slice most turn → turn ≡ Passed some → some ≡ Some end → bytes ≡ end → items ≡ end → IsKey bytes
    → places_above most items < places_above most low
turned_fewer from within low slice end bytes items most turn some h is_passed is_some same_bytes same_items is_end =
    let passes : PassesTo slice most (Passed (Some end)) = subst (λ (t : Turn). PassesTo slice most t) (is_passed ∙ ap (λ (e : Option (List ℕ)). Passed e) is_some) h.passes in
    subst (λ (k : List ℕ). places_above most k < places_above most low) (sym same_items)
    (subst (λ (k : List ℕ). places_above most end < places_above most k) h.slice_is
    (fewer_places most slice end h.bytes (subst (λ (k : List ℕ). IsKey k) same_bytes is_end) passes))

pub turned_low : (nodes : Nodes) (id : ℕ) (from within low slice end items : List ℕ) (most : ℕ) (turn : Turn) (some : Option (List ℕ)) → IsTurned from within low slice most turn → turn ≡ Passed some → some ≡ Some end → items ≡ end
    → IsTurn (at nodes id) slice turn → IsLow (at nodes id) from within low → IsLow (at nodes id) from within items
turned_low nodes id from within low slice end items most turn some h is_passed is_some same_items said low_is =
    let passed : turn ≡ Passed (Some end) = is_passed ∙ ap (λ (e : Option (List ℕ)). Passed e) is_some in
    let passes : PassesTo slice most (Passed (Some end)) = subst (λ (t : Turn). PassesTo slice most t) passed h.passes in
    let empty : IsTurn (at nodes id) slice (Passed (Some end)) = subst (λ (t : Turn). IsTurn (at nodes id) slice t) passed said in
    subst (λ (k : List ℕ). IsLow (at nodes id) from within k) (sym same_items)
    (low_passed nodes id from within slice end (subst (λ (k : List ℕ). IsLow (at nodes id) from within k) (sym h.slice_is) low_is) (least_back slice end passes.above) empty)

pub turned_past : (nodes : Nodes) (id : ℕ) (from within low slice : List ℕ) (turn : Turn) (some : Option (List ℕ)) → slice ≡ low → turn ≡ Passed some → some ≡ None
    → IsTurn (at nodes id) slice turn → IsLow (at nodes id) from within low → IsNext (at nodes id) from within None
turned_past nodes id from within low slice turn some slice_is is_passed is_none said low_is =
    low_past nodes id from within slice (subst (λ (k : List ℕ). IsLow (at nodes id) from within k) (sym slice_is) low_is)
    (subst (λ (t : Turn). IsTurn (at nodes id) slice t) (is_passed ∙ ap (λ (e : Option (List ℕ)). Passed e) is_none) said)

pub turned_found : (nodes : Nodes) (id : ℕ) (from within low slice value : List ℕ) (turn : Turn) → slice ≡ low → turn ≡ Found value
    → IsTurn (at nodes id) slice turn → IsLow (at nodes id) from within low → Begins slice within → IsNextEntry (at nodes id) from within (Some (low, value))
turned_found nodes id from within low slice value turn slice_is is_found said low_is begins_it =
    subst (λ (k : List ℕ). IsNextEntry (at nodes id) from within (Some (k, value))) slice_is
    (low_found (at nodes id) from within slice value (subst (λ (k : List ℕ). IsLow (at nodes id) from within k) (sym slice_is) low_is) begins_it
    (subst (λ (t : Turn). IsTurn (at nodes id) slice t) is_found said))

pub turned_ways : (nodes : Nodes) (id : ℕ) (from within low slice end items : List ℕ) (most : ℕ) (turn : Turn) (some : Option (List ℕ)) (before now after : ℕ) → IsTurned from within low slice most turn → turn ≡ Passed some → some ≡ Some end → items ≡ end
    → IsSearching nodes id from low before now → AreVisitsOfWay nodes id slice now after → IsSearching nodes id from items before after
turned_ways nodes id from within low slice end items most turn some before now after h is_passed is_some same_items searching way =
    let passes : PassesTo slice most (Passed (Some end)) = subst (λ (t : Turn). PassesTo slice most t) (is_passed ∙ ap (λ (e : Option (List ℕ)). Passed e) is_some) h.passes in
    subst (λ (k : List ℕ). IsSearching nodes id from k before after) (sym same_items)
    (searching_on nodes id from slice end before now after (subst (λ (k : List ℕ). IsSearching nodes id from k before now) (sym h.slice_is) searching) way passes.above)
