-- Messages on ranges of keys by the prefixes of their keys: that the order holds, and what a search finds.
use Rattle.std.proofs.Common.{◌≡◌, ℕ, zero, suc, ◌+◌, ◌-◌, ◌/◌, ◌<◌, ◌≤◌, Bool, true, false, not, cond, ltb, List, [], ◌∷◌, ◌++◌, length, take, get_or, refl, sym, ap, subst, ◌∙◌, arith, inl, inr, Option, None, Some}
use Rattle.std.specs.Prelude.{◌&&◌, nat_eq, nat_le, slice_get}
use Rattle.std.specs.List.{insert}
use Rattle.std.specs.Ordering.{is_lt}
use Rattle.std.specs.declared.cmp.Ordering.{Ordering}
use Rattle.std.specs.declared.cmp.Ordering.TheVariants.{Less, Equal, Greater}
use Rattle.std.proofs.lemmas.Bool.{cases_Bool, cases_lt, cond-true, cond-false, and_parts}
use Rattle.std.proofs.lemmas.Bool.Decides.{nat_tests}
use Rattle.std.proofs.lemmas.Cmp.{nat_list_cmp_total as total}
use Rattle.std.proofs.lemmas.List.Edits.{length-insert}
use Rattle.std.proofs.lemmas.Option.{slice_get_read, none-some, same_Some}
use Rattle.bd_keys.specs.Keys.{key_cmp, IsBelow, IsAtLeast}
use Rattle.bd_keys.proofs.Order.{first_less, first_same, not_below_itself, not_below_nil, below_from}
use Rattle.bd_message.specs.declared.message.Message.{Message}
use Rattle.bd_message.specs.declared.message.Message.TheVariants.{Put, Del, Patch, Cut, Goto}
use Rattle.bd_message.specs.Effect.{begins, is_cut}
use Rattle.bd_message.specs.Freeing.{stem}
use Rattle.bd_node.specs.declared.index.Index.{Index}
use Rattle.bd_node.specs.Indexes.{IsCopy}
use Rattle.bd_node.specs.Index.{is_range_in, touches_in, is_point_at, is_range_at, touches_at, has, first_of, last_of, IsNextAmong, IsNewestAmong}
use Rattle.bd_node.specs.Stems.{stem_in, stem_at, AreByStem, IsUpTo, shared, IsPassed, IsOldestFrom, IsNewestFrom, is_found, older, newer}
use Rattle.bd_node.proofs.Spots.{true_false, has_place}
use Rattle.bd_node.proofs.Indexing.{inserted, has_inserted, has_new, each_inserted, each_in_order, point_no_range, front_get}

-- ---- what the program reads

pub read_stem : (list : List Message) (p : ℕ) (m : Message) (own : List ℕ) → p < length list → m ≡ get_or list p m → own ≡ stem m → stem_at list p ≡ own
read_stem list p m own within is own_is = ap stem_in (slice_get_read list (length list) p m refl within is) ∙ sym own_is

-- ---- the order of prefixes

-- of two keys in order the later isn't below the earlier
below_at_least : (k l : List ℕ) → IsBelow k l → IsAtLeast l k
below_at_least k l below less = not_below_itself k (total.trans k l k below less)

no_later : (list : List Message) (count : ℕ) (stems : List ℕ) (p q : ℕ) → AreByStem list count stems → p ≤ q → q < length stems → IsAtLeast (stem_at list (get_or stems q 0)) (stem_at list (get_or stems p 0))
no_later list count stems p q by le within =
    elim (cases_lt p q) [
      | inl less ↦ by.order p q less within
      | inr more ↦ (let e : p ≡ q = omega arith in subst (λ (j : ℕ). IsAtLeast (stem_at list (get_or stems q 0)) (stem_at list (get_or stems j 0))) (sym e) (not_below_itself (stem_at list (get_or stems q 0))))
    ]

-- ---- halving

-- the places below one have no prefix above the key, and those from another on have one
pub record IsStemHalving (list : List Message) (stems k : List ℕ) (low high : ℕ) : Type 0 where
  pub within : low ≤ high
  pub end : high ≤ length stems
  pub lower : (q : ℕ) → q < low → IsAtLeast k (stem_at list (get_or stems q 0))
  pub upper : (q : ℕ) → high ≤ q → q < length stems → IsBelow k (stem_at list (get_or stems q 0))

pub stem_up : (list : List Message) (count : ℕ) (stems k own : List ℕ) (low high middle : ℕ) → AreByStem list count stems → IsStemHalving list stems k low high → low < high → middle ≡ low + (high - low) / 2
    → stem_at list (get_or stems middle 0) ≡ own → is_lt (key_cmp k own) ≡ false → IsStemHalving list stems k (middle + 1) high
stem_up list count stems k own low high middle by h some is own_is test =
    let end : high ≤ length stems = h.end in
    let least : IsAtLeast k (stem_at list (get_or stems middle 0)) = λ less. true_false (is_lt (key_cmp k own)) (ap is_lt (subst (λ (l : List ℕ). key_cmp k l ≡ Less) own_is less)) test in
    record {
      within = omega arith;
      end = end;
      lower = λ q below less. least (below_from k (stem_at list (get_or stems q 0)) (stem_at list (get_or stems middle 0)) less (no_later list count stems q middle by (omega arith) (omega arith)));
      upper = h.upper;
    }

less_of : (o : Ordering) → is_lt o ≡ true → o ≡ Less
less_of Less h = refl
less_of Equal h = absurd (true_false _ h refl)
less_of Greater h = absurd (true_false _ h refl)

pub stem_down : (list : List Message) (count : ℕ) (stems k own : List ℕ) (low high middle : ℕ) → AreByStem list count stems → IsStemHalving list stems k low high → low < high → middle ≡ low + (high - low) / 2
    → stem_at list (get_or stems middle 0) ≡ own → is_lt (key_cmp k own) ≡ true → IsStemHalving list stems k low middle
stem_down list count stems k own low high middle by h some is own_is test =
    let end : high ≤ length stems = h.end in
    let below : IsBelow k (stem_at list (get_or stems middle 0)) = subst (λ (l : List ℕ). IsBelow k l) (sym own_is) (less_of (key_cmp k own) test) in
    record {
      within = omega arith;
      end = omega arith;
      lower = h.lower;
      upper = λ q least within. below_from k (stem_at list (get_or stems middle 0)) (stem_at list (get_or stems q 0)) below (no_later list count stems middle q by least within);
    }

pub stem_end : (list : List Message) (stems k : List ℕ) (low high : ℕ) → IsStemHalving list stems k low high → high ≤ low → IsUpTo list stems k low
stem_end list stems k low high h over =
    let end : high ≤ length stems = h.end in
    let within : low ≤ high = h.within in
    record { within = omega arith; low = h.lower; high = λ q least inside. h.upper q (omega arith) inside }

-- ---- beginnings of a key

-- a prefix is no longer than its keys
begins_length : (key p : List ℕ) → begins key p ≡ true → length p ≤ length key
begins_length key [] h = omega arith
begins_length [] (x ∷ p) h = absurd (true_false false h refl)
begins_length (b ∷ key) (x ∷ p) h =
    let parts = and_parts (nat_eq x b) (begins key p) h in
    let more : length p ≤ length key = begins_length key p parts.1 in omega arith

shared_less : (a b : ℕ) (own key : List ℕ) → a < b → shared (a ∷ own) (b ∷ key) ≡ 0
shared_less a b own key less = cond-true (ltb a b) 0 (cond (ltb b a) (suc (length key)) (suc (shared own key))) (grind (arith, nat_tests))

shared_more : (a b : ℕ) (own key : List ℕ) → b < a → shared (a ∷ own) (b ∷ key) ≡ suc (length key)
shared_more a b own key less =
    cond-false (ltb a b) 0 (cond (ltb b a) (suc (length key)) (suc (shared own key))) (grind (arith, nat_tests))
    ∙ cond-true (ltb b a) (suc (length key)) (suc (shared own key)) (grind (arith, nat_tests))

shared_same : (a b : ℕ) (own key : List ℕ) → a ≡ b → shared (a ∷ own) (b ∷ key) ≡ suc (shared own key)
shared_same a b own key same =
    cond-false (ltb a b) 0 (cond (ltb b a) (suc (length key)) (suc (shared own key))) (grind (arith, nat_tests))
    ∙ cond-false (ltb b a) (suc (length key)) (suc (shared own key)) (grind (arith, nat_tests))

-- each beginning of a key that isn't above a prefix is at most that long
shared_longest : (own key p : List ℕ) → begins key p ≡ true → IsAtLeast own p → length p ≤ shared own key
shared_longest own key [] h least = omega arith
shared_longest [] key (x ∷ p) h least = absurd (least refl)
shared_longest (a ∷ own) [] (x ∷ p) h least = absurd (true_false false h refl)
shared_longest (a ∷ own) (b ∷ key) (x ∷ p) h least =
    let parts = and_parts (nat_eq x b) (begins key p) h in
    let eq : nat_eq x b ≡ true = parts.0 in
    let same : x ≡ b = grind (arith, nat_tests) in
    elim (cases_lt a b) [
      | inl less ↦ absurd (least (subst (λ (y : ℕ). key_cmp (a ∷ own) (y ∷ p) ≡ Less) (sym same) (first_less a b own p less)))
      | inr over ↦ (elim (cases_lt b a) [
        | inl more ↦ (let e : shared (a ∷ own) (b ∷ key) ≡ suc (length key) = shared_more a b own key more in
            let l : length p ≤ length key = begins_length key p parts.1 in omega arith)
        | inr under ↦ (let ab : a ≡ b = omega arith in
            let e : shared (a ∷ own) (b ∷ key) ≡ suc (shared own key) = shared_same a b own key ab in
            let rest : IsAtLeast own p = λ less. least (subst (λ (y : ℕ). key_cmp (a ∷ own) (y ∷ p) ≡ Less) (ab ∙ sym same) (first_same a own p ∙ less)) in
            let l : length p ≤ shared own key = shared_longest own key p parts.1 rest in omega arith)
      ])
    ]

-- and the longest is below a prefix that isn't one
shared_below : (own key : List ℕ) → begins key own ≡ false → IsBelow (take (shared own key) key) own
shared_below [] key h = absurd (true_false false (sym h) refl)
shared_below (a ∷ own) [] h = refl
shared_below (a ∷ own) (b ∷ key) h =
    elim (cases_lt a b) [
      | inl less ↦ subst (λ (n : ℕ). IsBelow (take n (b ∷ key)) (a ∷ own)) (sym (shared_less a b own key less)) refl
      | inr over ↦ (elim (cases_lt b a) [
        | inl more ↦ subst (λ (n : ℕ). IsBelow (take n (b ∷ key)) (a ∷ own)) (sym (shared_more a b own key more)) (first_less b a (take (length key) key) own more)
        | inr under ↦ (let ab : a ≡ b = omega arith in
            let eq : nat_eq a b ≡ true = grind (arith, nat_tests) in
            let rest : begins key own ≡ false = sym (ap (λ (c : Bool). c && begins key own) eq) ∙ h in
            subst (λ (n : ℕ). IsBelow (take n (b ∷ key)) (a ∷ own)) (sym (shared_same a b own key ab))
            (subst (λ (y : ℕ). IsBelow (y ∷ take (shared own key) key) (a ∷ own)) ab (first_same a (take (shared own key) key) own ∙ shared_below own key rest)))
      ])
    ]

-- a beginning of a key isn't above a longer one
begins_short : (key p : List ℕ) (n : ℕ) → begins key p ≡ true → length p ≤ n → IsAtLeast (take n key) p
begins_short key [] n h le = not_below_nil (take n key)
begins_short [] (x ∷ p) n h le = absurd (true_false false h refl)
begins_short (b ∷ key) (x ∷ p) zero h le = absurd (omega arith)
begins_short (b ∷ key) (x ∷ p) (suc n) h le =
    let parts = and_parts (nat_eq x b) (begins key p) h in
    let eq : nat_eq x b ≡ true = parts.0 in
    let same : x ≡ b = grind (arith, nat_tests) in
    λ less. begins_short key p n parts.1 (omega arith) (sym (first_same b (take n key) p) ∙ subst (λ (y : ℕ). key_cmp (b ∷ take n key) (y ∷ p) ≡ Less) same less)

-- ---- the next places down

pub passed_one : (list : List Message) (stems k : List ℕ) (at : ℕ) → 0 < at → IsPassed list stems k at (at - 1)
passed_one list stems k at some = record { less = omega arith; none = λ q least within. absurd (omega arith) }

pub passed_far : (list : List Message) (stems k own : List ℕ) (at before n : ℕ) → AreByStem list (length list) stems → 0 < at → at ≤ length stems → stem_at list (get_or stems (at - 1) 0) ≡ own → begins k own ≡ false → n ≡ shared own k
    → IsUpTo list stems (take n k) before → IsPassed list stems k at before
passed_far list stems k own at before n by some within own_is other n_is up =
    let last : IsBelow (take n k) (stem_at list (get_or stems (at - 1) 0)) = subst (λ (l : List ℕ). IsBelow (take n k) l) (sym own_is) (subst (λ (c : ℕ). IsBelow (take c k) own) (sym n_is) (shared_below own k other)) in
    record {
      less = elim (cases_lt (at - 1) before) [
        | inl more ↦ absurd (up.low (at - 1) more last)
        | inr le ↦ omega arith
      ];
      none = λ q least less. elim (cases_Bool (begins k (stem_at list (get_or stems q 0)))) [
        | inr none ↦ none
        | inl some ↦ (let no_more : IsAtLeast own (stem_at list (get_or stems q 0)) = subst (λ (l : List ℕ). IsAtLeast l (stem_at list (get_or stems q 0))) own_is (by.order q (at - 1) (omega arith) (omega arith)) in
            let short : length (stem_at list (get_or stems q 0)) ≤ n = subst (λ (c : ℕ). length (stem_at list (get_or stems q 0)) ≤ c) (sym n_is) (shared_longest own k (stem_at list (get_or stems q 0)) some no_more) in
            absurd (begins_short k (stem_at list (get_or stems q 0)) n some short (up.high q least (omega arith))))
      ];
    }

-- ---- what is found

-- a message on a range that can change what stands at a key has a prefix of it
touch_begins : (o : Option Message) (k : List ℕ) → is_range_in o ≡ true → begins k (stem_in o) ≡ false → touches_in o k ≡ false
touch_begins None k is h = refl
touch_begins (Some (Put key value)) k is h = absurd (true_false false is refl)
touch_begins (Some (Del key)) k is h = absurd (true_false false is refl)
touch_begins (Some (Patch key off bytes)) k is h = absurd (true_false false is refl)
touch_begins (Some (Cut prefix from)) k is h = ap (λ (c : Bool). c && not (is_lt (key_cmp (Rattle.bd_message.specs.Effect.rest prefix k) from))) h
touch_begins (Some (Goto prefix source child)) k is h = h

not_passed : (list : List Message) (stems k : List ℕ) (at before q : ℕ) → AreByStem list (length list) stems → IsPassed list stems k at before → before ≤ q → q + 1 < at → q < length stems → touches_at list (get_or stems q 0) k ≡ false
not_passed list stems k at before q by passed least less within =
    touch_begins (slice_get list (get_or stems q 0)) k (by.range q within) (passed.none q least less)

found_parts : (list : List Message) (place from : ℕ) (k : List ℕ) → is_found list place from k ≡ true → (from ≤ place) × (touches_at list place k ≡ true)
found_parts list place from k h =
    let parts = and_parts (nat_le from place) (touches_at list place k) h in
    let le : nat_le from place ≡ true = parts.0 in
    let low : from ≤ place = grind (arith, nat_tests) in (low, parts.1)

not_found : (list : List Message) (place from : ℕ) (k : List ℕ) → is_found list place from k ≡ false → from ≤ place → touches_at list place k ≡ false
not_found list place from k h low =
    let le : nat_le from place ≡ true = grind (arith, nat_tests) in
    sym (ap (λ (c : Bool). c && touches_at list place k) le) ∙ h

-- what holds of the places from a spot on, of the last one below it, and of those between holds from there
each_lower : (P : ℕ → Type 0) (stems : List ℕ) (at before : ℕ) → 0 < at → at ≤ length stems → ((q : ℕ) → at ≤ q → q < length stems → P q) → P (at - 1) → ((q : ℕ) → before ≤ q → q + 1 < at → P q)
    → (q : ℕ) → before ≤ q → q < length stems → P q
each_lower P stems at before some within old last between q least inside =
    elim (cases_lt q at) [
      | inr le ↦ old q le inside
      | inl less ↦ (elim (cases_lt (q + 1) at) [
        | inl below ↦ between q least below
        | inr le ↦ (let e : at - 1 ≡ q = omega arith in subst P e last)
      ])
    ]

oldest_yes : (list : List Message) (stems k : List ℕ) (from at : ℕ) (found : Option ℕ) → AreByStem list (length list) stems → 0 < at → at ≤ length stems → (before : ℕ) → IsPassed list stems k at before
    → is_found list (get_or stems (at - 1) 0) from k ≡ true → IsOldestFrom list stems at from k found → IsOldestFrom list stems before from k (first_of (Some (get_or stems (at - 1) 0)) found)
oldest_yes list stems k from at None by some within before passed is_so old =
    let parts = found_parts list (get_or stems (at - 1) 0) from k is_so in (
      parts.0,
      by.below (at - 1) (omega arith),
      parts.1,
      each_lower (λ (q : ℕ). from ≤ get_or stems q 0 → get_or stems q 0 < get_or stems (at - 1) 0 → touches_at list (get_or stems q 0) k ≡ false) stems at before some within
          (λ q least inside low less. old q least inside low)
          (λ low less. absurd (omega arith))
          (λ q least below low less. not_passed list stems k at before q by passed least below (omega arith)),
    )
oldest_yes list stems k from at (Some b) by some within before passed is_so old =
    elim (cases_lt (get_or stems (at - 1) 0) b) [
      | inl less ↦ subst (λ (o : Option ℕ). IsOldestFrom list stems before from k o) (sym (cond-true (ltb (get_or stems (at - 1) 0) b) (Some (get_or stems (at - 1) 0)) (Some b) (grind (arith, nat_tests))))
          (let parts = found_parts list (get_or stems (at - 1) 0) from k is_so in (
            parts.0,
            by.below (at - 1) (omega arith),
            parts.1,
            each_lower (λ (q : ℕ). from ≤ get_or stems q 0 → get_or stems q 0 < get_or stems (at - 1) 0 → touches_at list (get_or stems q 0) k ≡ false) stems at before some within
                (λ q least inside low first. old.3 q least inside low (omega arith))
                (λ low first. absurd (omega arith))
                (λ q least below low first. not_passed list stems k at before q by passed least below (omega arith)),
          ))
      | inr more ↦ subst (λ (o : Option ℕ). IsOldestFrom list stems before from k o) (sym (cond-false (ltb (get_or stems (at - 1) 0) b) (Some (get_or stems (at - 1) 0)) (Some b) (grind (arith, nat_tests)))) (
        old.0,
        old.1,
        old.2,
        each_lower (λ (q : ℕ). from ≤ get_or stems q 0 → get_or stems q 0 < b → touches_at list (get_or stems q 0) k ≡ false) stems at before some within old.3
            (λ low first. absurd (omega arith))
            (λ q least below low first. not_passed list stems k at before q by passed least below (omega arith)),
      )
    ]

oldest_no : (list : List Message) (stems k : List ℕ) (from at : ℕ) (found : Option ℕ) → AreByStem list (length list) stems → 0 < at → at ≤ length stems → (before : ℕ) → IsPassed list stems k at before
    → is_found list (get_or stems (at - 1) 0) from k ≡ false → IsOldestFrom list stems at from k found → IsOldestFrom list stems before from k found
oldest_no list stems k from at None by some within before passed isnt old =
    each_lower (λ (q : ℕ). from ≤ get_or stems q 0 → touches_at list (get_or stems q 0) k ≡ false) stems at before some within old
    (λ low. not_found list (get_or stems (at - 1) 0) from k isnt low)
    (λ q least below low. not_passed list stems k at before q by passed least below (omega arith))
oldest_no list stems k from at (Some b) by some within before passed isnt old = (
  old.0,
  old.1,
  old.2,
  each_lower (λ (q : ℕ). from ≤ get_or stems q 0 → get_or stems q 0 < b → touches_at list (get_or stems q 0) k ≡ false) stems at before some within old.3
      (λ low first. not_found list (get_or stems (at - 1) 0) from k isnt low)
      (λ q least below low first. not_passed list stems k at before q by passed least below (omega arith)),
)

pub oldest_step : (list : List Message) (stems k : List ℕ) (from at : ℕ) (found : Option ℕ) → AreByStem list (length list) stems → 0 < at → at ≤ length stems → (before : ℕ) → IsPassed list stems k at before
    → IsOldestFrom list stems at from k found → IsOldestFrom list stems before from k (older list (get_or stems (at - 1) 0) from k found)
oldest_step list stems k from at found by some within before passed old =
    elim (cases_Bool (is_found list (get_or stems (at - 1) 0) from k)) [
      | inl is_so ↦ subst (λ (o : Option ℕ). IsOldestFrom list stems before from k o) (sym (cond-true (is_found list (get_or stems (at - 1) 0) from k) (first_of (Some (get_or stems (at - 1) 0)) found) found is_so)) (oldest_yes list stems k from at found by some within before passed is_so old)
      | inr isnt ↦ subst (λ (o : Option ℕ). IsOldestFrom list stems before from k o) (sym (cond-false (is_found list (get_or stems (at - 1) 0) from k) (first_of (Some (get_or stems (at - 1) 0)) found) found isnt)) (oldest_no list stems k from at found by some within before passed isnt old)
    ]

pub oldest_end : (list : List Message) (stems k : List ℕ) (from at : ℕ) (found : Option ℕ) → AreByStem list (length list) stems → at ≤ 0 → IsOldestFrom list stems at from k found → IsNextAmong is_range_at list from k found
oldest_end list stems k from at None by none old = λ i low high is.
    let there = has_place stems i (by.all i high is) in
    let e : get_or stems there.0 0 ≡ i = there.2 in
    subst (λ (j : ℕ). touches_at list j k ≡ false) e (old there.0 (omega arith) there.1 (omega arith))
oldest_end list stems k from at (Some b) by none old = (
  old.0,
  old.1,
  old.2,
  (λ i low high is.
      let inside : b < length list = old.1 in
      let there = has_place stems i (by.all i (omega arith) is) in
      let e : get_or stems there.0 0 ≡ i = there.2 in
      subst (λ (j : ℕ). touches_at list j k ≡ false) e (old.3 there.0 (omega arith) there.1 (omega arith) (omega arith))),
)

newest_yes : (list : List Message) (stems k : List ℕ) (from at : ℕ) (found : Option ℕ) → AreByStem list (length list) stems → 0 < at → at ≤ length stems → (before : ℕ) → IsPassed list stems k at before
    → is_found list (get_or stems (at - 1) 0) from k ≡ true → IsNewestFrom list stems at from k found → IsNewestFrom list stems before from k (last_of (Some (get_or stems (at - 1) 0)) found)
newest_yes list stems k from at None by some within before passed is_so old =
    let parts = found_parts list (get_or stems (at - 1) 0) from k is_so in
    let least_place : from ≤ get_or stems (at - 1) 0 = parts.0 in (
      parts.0,
      by.below (at - 1) (omega arith),
      parts.1,
      each_lower (λ (q : ℕ). get_or stems (at - 1) 0 < get_or stems q 0 → touches_at list (get_or stems q 0) k ≡ false) stems at before some within
          (λ q least inside later. old q least inside (omega arith))
          (λ later. absurd (omega arith))
          (λ q least below later. not_passed list stems k at before q by passed least below (omega arith)),
    )
newest_yes list stems k from at (Some b) by some within before passed is_so old =
    elim (cases_lt (get_or stems (at - 1) 0) b) [
      | inl less ↦ subst (λ (o : Option ℕ). IsNewestFrom list stems before from k o) (sym (cond-true (ltb (get_or stems (at - 1) 0) b) (Some b) (Some (get_or stems (at - 1) 0)) (grind (arith, nat_tests)))) (
        old.0,
        old.1,
        old.2,
        each_lower (λ (q : ℕ). b < get_or stems q 0 → touches_at list (get_or stems q 0) k ≡ false) stems at before some within old.3
            (λ later. absurd (omega arith))
            (λ q least below later. not_passed list stems k at before q by passed least below (omega arith)),
      )
      | inr more ↦ subst (λ (o : Option ℕ). IsNewestFrom list stems before from k o) (sym (cond-false (ltb (get_or stems (at - 1) 0) b) (Some b) (Some (get_or stems (at - 1) 0)) (grind (arith, nat_tests))))
          (let parts = found_parts list (get_or stems (at - 1) 0) from k is_so in (
            parts.0,
            by.below (at - 1) (omega arith),
            parts.1,
            each_lower (λ (q : ℕ). get_or stems (at - 1) 0 < get_or stems q 0 → touches_at list (get_or stems q 0) k ≡ false) stems at before some within
                (λ q least inside later. old.3 q least inside (omega arith))
                (λ later. absurd (omega arith))
                (λ q least below later. not_passed list stems k at before q by passed least below (omega arith)),
          ))
    ]

newest_no : (list : List Message) (stems k : List ℕ) (from at : ℕ) (found : Option ℕ) → AreByStem list (length list) stems → 0 < at → at ≤ length stems → (before : ℕ) → IsPassed list stems k at before
    → is_found list (get_or stems (at - 1) 0) from k ≡ false → IsNewestFrom list stems at from k found → IsNewestFrom list stems before from k found
newest_no list stems k from at None by some within before passed isnt old =
    each_lower (λ (q : ℕ). from ≤ get_or stems q 0 → touches_at list (get_or stems q 0) k ≡ false) stems at before some within old
    (λ low. not_found list (get_or stems (at - 1) 0) from k isnt low)
    (λ q least below low. not_passed list stems k at before q by passed least below (omega arith))
newest_no list stems k from at (Some b) by some within before passed isnt old =
    let low : from ≤ b = old.0 in (
      old.0,
      old.1,
      old.2,
      each_lower (λ (q : ℕ). b < get_or stems q 0 → touches_at list (get_or stems q 0) k ≡ false) stems at before some within old.3
          (λ later. not_found list (get_or stems (at - 1) 0) from k isnt (omega arith))
          (λ q least below later. not_passed list stems k at before q by passed least below (omega arith)),
    )

pub newest_step : (list : List Message) (stems k : List ℕ) (from at : ℕ) (found : Option ℕ) → AreByStem list (length list) stems → 0 < at → at ≤ length stems → (before : ℕ) → IsPassed list stems k at before
    → IsNewestFrom list stems at from k found → IsNewestFrom list stems before from k (newer list (get_or stems (at - 1) 0) from k found)
newest_step list stems k from at found by some within before passed old =
    elim (cases_Bool (is_found list (get_or stems (at - 1) 0) from k)) [
      | inl is_so ↦ subst (λ (o : Option ℕ). IsNewestFrom list stems before from k o) (sym (cond-true (is_found list (get_or stems (at - 1) 0) from k) (last_of (Some (get_or stems (at - 1) 0)) found) found is_so)) (newest_yes list stems k from at found by some within before passed is_so old)
      | inr isnt ↦ subst (λ (o : Option ℕ). IsNewestFrom list stems before from k o) (sym (cond-false (is_found list (get_or stems (at - 1) 0) from k) (last_of (Some (get_or stems (at - 1) 0)) found) found isnt)) (newest_no list stems k from at found by some within before passed isnt old)
    ]

pub newest_end : (list : List Message) (stems k : List ℕ) (from at : ℕ) (found : Option ℕ) → AreByStem list (length list) stems → at ≤ 0 → IsNewestFrom list stems at from k found → IsNewestAmong is_range_at list from k found
newest_end list stems k from at None by none old = λ i low high is.
    let there = has_place stems i (by.all i high is) in
    let e : get_or stems there.0 0 ≡ i = there.2 in
    subst (λ (j : ℕ). touches_at list j k ≡ false) e (old there.0 (omega arith) there.1 (omega arith))
newest_end list stems k from at (Some b) by none old = (
  old.0,
  old.1,
  old.2,
  (λ i later high is.
      let there = has_place stems i (by.all i high is) in
      let e : get_or stems there.0 0 ≡ i = there.2 in
      subst (λ (j : ℕ). touches_at list j k ≡ false) e (old.3 there.0 (omega arith) there.1 (omega arith))),
)

-- ---- putting a place in

pub with_stem : (list : List Message) (stems : List ℕ) (n at : ℕ) → AreByStem list n stems → n < length list → is_range_at list n ≡ true → IsUpTo list stems (stem_at list n) at → AreByStem list (n + 1) (insert stems at n)
with_stem list stems n at by inside is up =
    let fits : at ≤ length stems = up.within in
    let long : length (insert stems at n) ≡ length stems + 1 = length-insert stems at n fits in
    record {
      known = omega arith;
      order = λ p q less within. each_in_order (λ (i j : ℕ). IsAtLeast (stem_at list j) (stem_at list i)) stems at n p q fits less (omega arith) by.order up.low
          (λ r least w. below_at_least (stem_at list n) (stem_at list (get_or stems r 0)) (up.high r least w)) (inserted stems at n p fits) (inserted stems at n q fits);
      below = λ q within. each_inserted (λ (j : ℕ). j < n + 1) stems at n q fits (omega arith) (λ r w. (let l : get_or stems r 0 < n = by.below r w in omega arith)) (omega arith) (inserted stems at n q fits);
      range = λ q within. each_inserted (λ (j : ℕ). is_range_at list j ≡ true) stems at n q fits (omega arith) by.range is (inserted stems at n q fits);
      all = λ i less h. elim (cases_lt i n) [
        | inl old ↦ has_inserted stems at n i fits (by.all i old h)
        | inr le ↦ (let e : n ≡ i = omega arith in subst (λ (j : ℕ). has (insert stems at n) j ≡ true) e (has_new stems at n fits))
      ];
    }

pub without_stem : (list : List Message) (stems : List ℕ) (n : ℕ) → AreByStem list n stems → n < length list → is_point_at list n ≡ true → AreByStem list (n + 1) stems
without_stem list stems n by inside is = record {
  known = omega arith;
  order = by.order;
  below = λ q within. (let l : get_or stems q 0 < n = by.below q within in omega arith);
  range = by.range;
  all = λ i less h. elim (cases_lt i n) [
    | inl old ↦ by.all i old h
    | inr le ↦ (let e : n ≡ i = omega arith in absurd (point_no_range (slice_get list i) (subst (λ (j : ℕ). is_point_at list j ≡ true) e is) h))
  ];
}

pub no_stems : (list : List Message) → AreByStem list 0 []
no_stems list = record {
  known = omega arith;
  order = λ p q less within. absurd (omega arith);
  below = λ q within. absurd (omega arith);
  range = λ q within. absurd (omega arith);
  all = λ i less h. absurd (omega arith);
}

pub more_stems : (xs ys : List Message) (stems : List ℕ) → AreByStem xs (length xs) stems → AreByStem (xs ++ ys) (length xs) stems
more_stems xs ys stems by =
    let same : (i : ℕ) → i < length xs → slice_get (xs ++ ys) i ≡ slice_get xs i = front_get xs ys in
    record {
      known = (let e : length (xs ++ ys) ≡ length xs + length ys = Rattle.std.proofs.Common.length-append xs ys in omega arith);
      order = λ p q less within.
          subst (λ (o : Option Message). IsAtLeast (stem_in o) (stem_at (xs ++ ys) (get_or stems p 0))) (sym (same (get_or stems q 0) (by.below q within)))
          (subst (λ (o : Option Message). IsAtLeast (stem_at xs (get_or stems q 0)) (stem_in o)) (sym (same (get_or stems p 0) (by.below p (omega arith))))
          (by.order p q less within));
      below = by.below;
      range = λ q within. ap is_range_in (same (get_or stems q 0) (by.below q within)) ∙ by.range q within;
      all = λ i less h. by.all i less (sym (ap is_range_in (same i less)) ∙ h);
    }

pub copied_stems : (list : List Message) (n : ℕ) (a b : Option Index) (x : Index) → IsCopy a b → ((y : Index) → a ≡ Some y → AreByStem list n y.stems.items) → b ≡ Some x → AreByStem list n x.stems.items
copied_stems list n None None x copy old is = absurd (none-some x is)
copied_stems list n None (Some b) x copy old is = absurd copy
copied_stems list n (Some a) None x copy old is = absurd copy
copied_stems list n (Some a) (Some b) x copy old is =
    let moved : AreByStem list n b.stems.items = subst (λ (p : List ℕ). AreByStem list n p) (sym copy.2) (old a refl) in
    subst (λ (y : Index). AreByStem list n y.stems.items) (same_Some b x is) moved
