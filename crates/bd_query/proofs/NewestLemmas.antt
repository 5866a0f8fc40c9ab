-- The newest message that changes a key, and how far no newer one changes a key.
use Rattle.std.proofs.Common.{◌≡◌, ℕ, ◌+◌, ◌<◌, ◌≤◌, true, false, List, length, refl, sym, ap, subst, ◌∙◌, arith, inl, inr, Option, None, Some}
use Rattle.std.specs.Prelude.{slice_get, IfSome}
use Rattle.std.proofs.lemmas.Bool.{cases_Bool, cases_lt}
use Rattle.bd_keys.specs.Keys.{IsBelow, IsBelowEnd, IsAtLeast, InRange}
use Rattle.bd_message.specs.declared.message.Message.{Message}
use Rattle.bd_node.specs.Touching.{touches, NoneTouches}
use Rattle.bd_node.specs.Index.{touches_in, is_point_at, is_range_at, key_at, touches_at, IsNewestTouching, IsNextPoint, IsNextRange}
use Rattle.bd_node.proofs.Spots.{true_false}
use Rattle.bd_node.proofs.Indexing.{point_touches, touches_point}
use Rattle.bd_node.proofs.Asking.{neither, none_touches, there_in}
use Rattle.bd_query.proofs.EndLemmas.{least_trans, below_or_same, below_or_least}
use Rattle.bd_node.proofs.Touched.{least_back}
use Rattle.bd_query.specs.Stretches.{IsWithin, NoneFrom, NoneAmong, IsNewest, after}

none_in : (o : Option Message) (k : List ℕ) → ((m : Message) → o ≡ Some m → touches m k ≡ false) → touches_in o k ≡ false
none_in None k h = refl
none_in (Some m) k h = h m refl

-- no message there can change what stands at the key
pub none_at : (list : List Message) (from i : ℕ) (k : List ℕ) → NoneTouches list from (length list) k → from ≤ i → i < length list → touches_at list i k ≡ false
none_at list from i k none low high = none_in (slice_get list i) k (λ m there. none i m low high there)

-- what isn't above a key is below an end if that is
below_end : (a k : List ℕ) (end : Option (List ℕ)) → IsAtLeast k a → IsBelowEnd k end → IsBelowEnd a end
below_end a k None least below = tt
below_end a k (Some e) least below =
    elim (below_or_least a e) [ inl less ↦ less | inr more ↦ absurd (least_trans k a e least more below) ]

pub points_before : (list : List Message) (from place : ℕ) (m : Message) (lo : List ℕ) (new : Option (List ℕ)) → NoneTouches list from (length list) lo → IsNextPoint list from lo (Some place) → slice_get list place ≡ Some m
    → ((k : List ℕ) → InRange lo new k → touches m k ≡ false) → NoneAmong is_point_at list from lo new
points_before list from place m lo new none next there untouched k within i low high is =
    elim (cases_Bool (touches_at list i k)) [
      | inr none_here ↦ none_here
      | inl some ↦ (let key : key_at list i ≡ k = touches_point (slice_get list i) k is some in
          elim (below_or_same lo k within.0) [
            | inr same ↦ absurd (true_false _ some (subst (λ (l : List ℕ). touches_at list i l ≡ false) same (none_at list from i lo none low high)))
            | inl above ↦ (let least : IsAtLeast k (key_at list place) = subst (λ (l : List ℕ). IsAtLeast l (key_at list place)) key (next.3 i low is (subst (λ (l : List ℕ). IsBelow lo l) (sym key) above)) in
                let in_new : InRange lo new (key_at list place) = (least_back lo (key_at list place) next.2, below_end (key_at list place) k new least within.1) in
                let can : touches m (key_at list place) ≡ true = sym (ap (λ (o : Option Message). touches_in o (key_at list place)) there) ∙ point_touches (slice_get list place) (key_at list place) next.1 refl in
                absurd (true_false _ can (untouched (key_at list place) in_new)))
          ])
    ]

pub points_none : (list : List Message) (from : ℕ) (lo : List ℕ) (end : Option (List ℕ)) → NoneTouches list from (length list) lo → IsNextPoint list from lo None → NoneAmong is_point_at list from lo end
points_none list from lo end none next k within i low high is =
    elim (cases_Bool (touches_at list i k)) [
      | inr none_here ↦ none_here
      | inl some ↦ (let key : key_at list i ≡ k = touches_point (slice_get list i) k is some in
          elim (below_or_same lo k within.0) [
            | inr same ↦ absurd (true_false _ some (subst (λ (l : List ℕ). touches_at list i l ≡ false) same (none_at list from i lo none low high)))
            | inl above ↦ absurd (next i low is (subst (λ (l : List ℕ). IsBelow lo l) (sym key) above))
          ])
    ]

-- what a search over ranges keeps
pub record IsPassed (list : List Message) (from at : ℕ) (lo : List ℕ) (end : Option (List ℕ)) : Type 0 where
  pub later : from ≤ at
  pub none : (k : List ℕ) → InRange lo end k → (i : ℕ) → from ≤ i → i < at → is_range_at list i ≡ true → touches_at list i k ≡ false

pub passed_more : (list : List Message) (from at place : ℕ) (m : Message) (lo : List ℕ) (end new : Option (List ℕ)) → IsPassed list from at lo end → IsNextRange list at (Some place) → slice_get list place ≡ Some m → IsWithin new end
    → ((k : List ℕ) → InRange lo new k → touches m k ≡ false) → IsPassed list from (place + 1) lo new
passed_more list from at place m lo end new h next there within untouched =
    let later : from ≤ at = h.later in
    let past : at ≤ place = next.0 in
    record {
      later = omega arith;
      none = λ k in_new i low high is. elim (cases_lt i at) [
        | inl less ↦ h.none k (in_new.0, within k in_new.1) i low less is
        | inr least ↦ (elim (cases_lt i place) [
          | inl less ↦ absurd (true_false _ is (next.2 i least less))
          | inr le ↦ (let e : place ≡ i = omega arith in
              subst (λ (j : ℕ). touches_at list j k ≡ false) e (ap (λ (o : Option Message). touches_in o k) there ∙ untouched k in_new))
        ])
      ];
    }

pub passed_all : (list : List Message) (from at : ℕ) (lo : List ℕ) (end : Option (List ℕ)) → IsPassed list from at lo end → IsNextRange list at None → NoneAmong is_range_at list from lo end
passed_all list from at lo end h next k within i low high is =
    elim (cases_lt i at) [
      | inl less ↦ h.none k within i low less is
      | inr least ↦ absurd (true_false _ is (next i least))
    ]

-- neither kind changes a key up to the end
pub none_of_both : (list : List Message) (from : ℕ) (lo : List ℕ) (end new : Option (List ℕ)) → NoneAmong is_point_at list from lo end → IsWithin new end → NoneAmong is_range_at list from lo new → NoneFrom list from lo new
none_of_both list from lo end new points within ranges k in_new =
    none_touches list from (length list) k (λ i low high. neither list i k (points k (in_new.0, within k in_new.1) i low high) (ranges k in_new i low high))

-- the newest message, and none newer
pub newest_is : (list : List Message) (seen : ℕ) (lo : List ℕ) (place : Option ℕ) (end : Option (List ℕ)) → IsNewestTouching list seen lo place → NoneFrom list (after place seen) lo end → IsNewest list seen lo place end
newest_is list seen lo None end h none = none
newest_is list seen lo (Some place) end h none = (h.0, none, there_in (slice_get list place) lo h.2)

pub none_after : (list : List Message) (seen : ℕ) (lo : List ℕ) (place : Option ℕ) → IsNewestTouching list seen lo place → NoneTouches list (after place seen) (length list) lo
none_after list seen lo None h = none_touches list seen (length list) lo h
none_after list seen lo (Some place) h = none_touches list (place + 1) (length list) lo (λ i low high. h.3 i (omega arith) high)

pub newest_within : (list : List Message) (seen : ℕ) (lo : List ℕ) (place : Option ℕ) → IsNewestTouching list seen lo place → IfSome place (λ p. p < length list)
newest_within list seen lo None h = tt
newest_within list seen lo (Some place) h = h.1
