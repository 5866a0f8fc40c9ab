-- What is found among messages on one key and among the others, together, and what scans find.
use Rattle.std.proofs.Common.{◌≡◌, ℕ, ◌+◌, ◌<◌, ◌≤◌, Bool, true, false, not, ltb, List, length, get_or, refl, sym, ap, subst, ◌∙◌, arith, inl, inr, ◌⊎◌, Option, None, Some}
use Rattle.std.specs.Prelude.{◌&&◌, IfSome, slice_get}
use Rattle.std.proofs.lemmas.Bool.{cases_Bool, cases_lt, cond-true, cond-false, and_parts, and_from}
use Rattle.std.proofs.lemmas.Bool.Decides.{nat_tests}
use Rattle.std.proofs.lemmas.Option.{slice_get_read, slice_get_past, none-some, same_Some}
use Rattle.std.proofs.lemmas.Cmp.{nat_list_cmp_total as total}
use Rattle.bd_keys.specs.Keys.{IsBelow, IsAtLeast}
use Rattle.bd_node.specs.declared.index.Index.{Index}
use Rattle.bd_node.specs.Indexes.{IsCopy}
use Rattle.bd_node.proofs.Indexing.{point_within}
use Rattle.bd_node.proofs.Edges.{lt_is, lt_isnt, less_lt, not_below_itself}
use Rattle.bd_message.specs.declared.message.Message.{Message}
use Rattle.bd_node.specs.Touching.{touches, NoneTouches, IsNextTouching}
use Rattle.bd_node.specs.Index.{is_point, is_point_in, is_range_in, touches_in, is_point_at, is_range_at, touches_at, key_at, is_nearer, first_of, last_of, IsIndex, IsNearest, IsNextPoint, IsNextAmong, IsNewestAmong, IsNewestTouching}
use Rattle.bd_node.proofs.Spots.{true_false}

-- a message is on one key or on a range
kind_in : (o : Option Message) (k : List ℕ) → touches_in o k ≡ true → (is_point_in o ≡ true) ⊎ (is_range_in o ≡ true)
kind_in None k h = absurd (true_false false h refl)
kind_in (Some m) k h = elim (cases_Bool (is_point m)) [ inl one ↦ inl one | inr more ↦ inr (ap not more) ]

-- where neither kind can change what stands at the key, none can
pub neither : (list : List Message) (i : ℕ) (k : List ℕ) → (is_point_at list i ≡ true → touches_at list i k ≡ false) → (is_range_at list i ≡ true → touches_at list i k ≡ false) → touches_at list i k ≡ false
neither list i k one more =
    elim (cases_Bool (touches_at list i k)) [
      | inr none ↦ none
      | inl some ↦ (elim (kind_in (slice_get list i) k some) [ inl h ↦ one h | inr h ↦ more h ])
    ]

pub there_in : (o : Option Message) (k : List ℕ) → touches_in o k ≡ true → (m : Message) × (o ≡ Some m) × (touches m k ≡ true)
there_in None k h = absurd (true_false false h refl)
there_in (Some m) k h = (m, refl, h)

pub none_touches : (list : List Message) (from to : ℕ) (k : List ℕ) → ((i : ℕ) → from ≤ i → i < to → touches_at list i k ≡ false) → NoneTouches list from to k
none_touches list from to k h i m low high there = sym (ap (λ (o : Option Message). touches_in o k) there) ∙ h i low high

pub next_found : (list : List Message) (from place : ℕ) (k : List ℕ) → from ≤ place → touches_at list place k ≡ true → ((i : ℕ) → from ≤ i → i < place → touches_at list i k ≡ false) → IsNextTouching list from k (Some place)
next_found list from place k low some none = (low, none_touches list from place k none, there_in (slice_get list place) k some)

pub next_either : (list : List Message) (from : ℕ) (k : List ℕ) (a b : Option ℕ) → IsNextAmong is_point_at list from k a → IsNextAmong is_range_at list from k b → IsNextTouching list from k (first_of a b)
next_either list from k None None h j = none_touches list from (length list) k (λ i low high. neither list i k (h i low high) (j i low high))
next_either list from k None (Some b) h j =
    next_found list from b k j.0 j.2 (λ i low high. neither list i k (h i low (let l : b < length list = j.1 in omega arith)) (j.3 i low high))
next_either list from k (Some a) None h j =
    next_found list from a k h.0 h.2 (λ i low high. neither list i k (h.3 i low high) (j i low (let l : a < length list = h.1 in omega arith)))
next_either list from k (Some a) (Some b) h j =
    elim (cases_lt a b) [
      | inl less ↦ subst (λ (o : Option ℕ). IsNextTouching list from k o) (sym (cond-true (ltb a b) (Some a) (Some b) (grind (arith, nat_tests))))
          (next_found list from a k h.0 h.2 (λ i low high. neither list i k (h.3 i low high) (j.3 i low (omega arith))))
      | inr more ↦ subst (λ (o : Option ℕ). IsNextTouching list from k o) (sym (cond-false (ltb a b) (Some a) (Some b) (grind (arith, nat_tests))))
          (next_found list from b k j.0 j.2 (λ i low high. neither list i k (h.3 i low (omega arith)) (j.3 i low high)))
    ]

pub newest_either : (list : List Message) (from : ℕ) (k : List ℕ) (a b : Option ℕ) → IsNewestAmong is_point_at list from k a → IsNewestAmong is_range_at list from k b → IsNewestTouching list from k (last_of a b)
newest_either list from k None None h j = λ i low high. neither list i k (h i low high) (j i low high)
newest_either list from k None (Some b) h j =
    (j.0, j.1, j.2, λ i low high. neither list i k (h i (let l : from ≤ b = j.0 in omega arith) high) (j.3 i low high))
newest_either list from k (Some a) None h j =
    (h.0, h.1, h.2, λ i low high. neither list i k (h.3 i low high) (j i (let l : from ≤ a = h.0 in omega arith) high))
newest_either list from k (Some a) (Some b) h j =
    elim (cases_lt a b) [
      | inl less ↦ subst (λ (o : Option ℕ). IsNewestTouching list from k o) (sym (cond-true (ltb a b) (Some b) (Some a) (grind (arith, nat_tests))))
          (j.0, j.1, j.2, λ i low high. neither list i k (h.3 i (omega arith) high) (j.3 i low high))
      | inr more ↦ subst (λ (o : Option ℕ). IsNewestTouching list from k o) (sym (cond-false (ltb a b) (Some b) (Some a) (grind (arith, nat_tests))))
          (h.0, h.1, h.2, λ i low high. neither list i k (h.3 i low high) (j.3 i (omega arith) high))
    ]

-- ---- scans

pub range_read : (list : List Message) (p : ℕ) (m : Message) (b v : Bool) → p < length list → m ≡ get_or list p m → b ≡ is_point m → b ≡ v → is_range_at list p ≡ not v
range_read list p m b v within is b_is b_v = ap is_range_in (slice_get_read list (length list) p m refl within is) ∙ ap not (sym b_is ∙ b_v)

pub range_past : (list : List Message) (i : ℕ) → length list ≤ i → is_range_at list i ≡ false
range_past list i past = ap is_range_in (slice_get_past list i past)

pub nearest_within : (list : List Message) (from to : ℕ) (k : List ℕ) (found : Option ℕ) → to ≤ length list → IsNearest list from to k found → IfSome found (λ other. other < length list)
nearest_within list from to k None le h = tt
nearest_within list from to k (Some p) le h = (let l : p < to = h.1 in omega arith)

and_false : (a b : Bool) → (a && b) ≡ false → a ≡ true → b ≡ false
and_false a b h i = sym (ap (λ (c : Bool). c && b) i) ∙ h

pub nearer_step : (list : List Message) (from place : ℕ) (k : List ℕ) (found : Option ℕ) → from ≤ place → IsNearest list from place k found → is_nearer list place k found ≡ true → IsNearest list from (place + 1) k (Some place)
nearer_step list from place k None low h nearer_is =
    let parts = and_parts _ _ nearer_is in
    let above : IsBelow k (key_at list place) = lt_is _ parts.1 in (
      low,
      omega arith,
      parts.0,
      above,
      (λ i least high is over. elim (cases_lt i place) [
        | inl less ↦ absurd (h i least less is over)
        | inr le ↦ (let e : place ≡ i = omega arith in subst (λ (j : ℕ). IsAtLeast (key_at list j) (key_at list place)) e (not_below_itself (key_at list place)))
      ]),
    )
nearer_step list from place k (Some p) low h nearer_is =
    let parts = and_parts _ _ nearer_is in
    let front = and_parts _ _ parts.0 in
    let above : IsBelow k (key_at list place) = lt_is _ front.1 in
    let nearer : IsBelow (key_at list place) (key_at list p) = lt_is _ parts.1 in (
      low,
      omega arith,
      front.0,
      above,
      (λ i least high is over. elim (cases_lt i place) [
        | inl less ↦ (λ under. h.4 i least less is over (total.trans (key_at list i) (key_at list place) (key_at list p) under nearer))
        | inr le ↦ (let e : place ≡ i = omega arith in subst (λ (j : ℕ). IsAtLeast (key_at list j) (key_at list place)) e (not_below_itself (key_at list place)))
      ]),
    )

pub further_step : (list : List Message) (from place : ℕ) (k : List ℕ) (found : Option ℕ) → IsNearest list from place k found → is_nearer list place k found ≡ false → IsNearest list from (place + 1) k found
further_step list from place k None h further =
    λ i least high is. elim (cases_lt i place) [
      | inl less ↦ h i least less is
      | inr le ↦ (let e : place ≡ i = omega arith in
          let here : is_point_at list place ≡ true = subst (λ (j : ℕ). is_point_at list j ≡ true) (sym e) is in
          subst (λ (j : ℕ). IsAtLeast k (key_at list j)) e (lt_isnt _ (and_false _ _ further here)))
    ]
further_step list from place k (Some p) h further = (
  h.0,
  (let l : p < place = h.1 in omega arith),
  h.2,
  h.3,
  (λ i least high is over. elim (cases_lt i place) [
    | inl less ↦ h.4 i least less is over
    | inr le ↦ (let e : place ≡ i = omega arith in
        let here : is_point_at list place ≡ true = subst (λ (j : ℕ). is_point_at list j ≡ true) (sym e) is in
        let above : IsBelow k (key_at list place) = subst (λ (j : ℕ). IsBelow k (key_at list j)) (sym e) over in
        subst (λ (j : ℕ). IsAtLeast (key_at list j) (key_at list p)) e (lt_isnt _ (and_false _ _ further (and_from _ _ here (less_lt _ above)))))
  ]),
)

pub nearest_end : (list : List Message) (from to : ℕ) (k : List ℕ) (found : Option ℕ) → length list ≤ to → IsNearest list from to k found → IsNextPoint list from k found
nearest_end list from to k None past h = λ i least is. h i least (let l : i < length list = point_within list i is in omega arith) is
nearest_end list from to k (Some p) past h =
    (h.0, h.2, h.3, λ i least is over. h.4 i least (let l : i < length list = point_within list i is in omega arith) is over)

-- ---- copies

pub copied_index : (list : List Message) (n : ℕ) (a b : Option Index) (x : Index) → IsCopy a b → ((y : Index) → a ≡ Some y → IsIndex list n y.points.items y.ranges.items) → b ≡ Some x → IsIndex list n x.points.items x.ranges.items
copied_index list n None None x copy old is = absurd (none-some x is)
copied_index list n None (Some b) x copy old is = absurd copy
copied_index list n (Some a) None x copy old is = absurd copy
copied_index list n (Some a) (Some b) x copy old is =
    let same : b ≡ x = same_Some b x is in
    let moved : IsIndex list n b.points.items b.ranges.items = subst (λ (p : List ℕ). IsIndex list n p b.ranges.items) (sym copy.0) (subst (λ (r : List ℕ). IsIndex list n a.points.items r) (sym copy.1) (old a refl)) in
    subst (λ (y : Index). IsIndex list n y.points.items y.ranges.items) same moved
