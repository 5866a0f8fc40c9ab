-- What an index says of messages, and that it holds after messages are put in.
use Rattle.std.proofs.Common.{◌≡◌, ℕ, zero, suc, ◌+◌, ◌-◌, ◌<◌, ◌≤◌, Bool, true, false, not, List, [], ◌∷◌, ◌++◌, length, get_or, refl, sym, ap, subst, ◌∙◌, arith, inl, inr, ⊎_elim, Option, None, Some}
use Rattle.std.specs.Prelude.{slice_get}
use Rattle.std.specs.List.{insert}
use Rattle.std.specs.declared.cmp.Ordering.{Ordering}
use Rattle.std.specs.declared.cmp.Ordering.TheVariants.{Less, Equal, Greater}
use Rattle.std.specs.Ordering.{is_lt, nat_cmp, ordering_reverse, ordering_then}
use Rattle.std.proofs.lemmas.Bool.{cases_Bool, cases_lt}
use Rattle.std.proofs.lemmas.Cmp.{nat_list_cmp_total as total, tied_itself}
use Rattle.std.proofs.lemmas.Option.{slice_get_read}
use Rattle.std.proofs.lemmas.List.Edits.{get_or-insert_below, get_or-insert_at, get_or-insert_above, length-insert, insert_end}
use Rattle.bd_message.specs.Effect.{same_key}
use Rattle.bd_node.specs.Touching.{touches}
use Rattle.bd_keys.specs.Keys.{key_cmp, IsBelow, IsAtLeast}
use Rattle.bd_keys.proofs.Order.{nat_less, nat_same, nat_more}
use Rattle.bd_message.specs.declared.message.Message.{Message}
use Rattle.bd_message.specs.declared.message.Message.TheVariants.{Put, Del, Patch, Cut, Goto}
use Rattle.bd_message.proofs.Finds.{tied, same_key-true, same_key-refl}
use Rattle.bd_node.specs.Index.{own_key, is_point_in, is_range_in, key_in, touches_in, is_point_at, is_range_at, key_at, touches_at, spot, is_before, has, IsIndex, IsPosition, IsCountBelow, IsNextAmong, IsNewestAmong, IsNextRange, IsNextPoint}
use Rattle.bd_node.proofs.Spots.{true_false, not_after, has_place, has_at}

-- ---- messages on one key

-- a message on this key can change what stands there
pub point_touches : (o : Option Message) (k : List ℕ) → is_point_in o ≡ true → key_in o ≡ k → touches_in o k ≡ true
point_touches None k is same = absurd (true_false false is refl)
point_touches (Some (Put key value)) k is same = subst (λ (l : List ℕ). touches_in (Some (Put key value)) l ≡ true) same (same_key-refl key)
point_touches (Some (Del key)) k is same = subst (λ (l : List ℕ). touches_in (Some (Del key)) l ≡ true) same (same_key-refl key)
point_touches (Some (Patch key off bytes)) k is same = subst (λ (l : List ℕ). touches_in (Some (Patch key off bytes)) l ≡ true) same (same_key-refl key)
point_touches (Some (Cut prefix from)) k is same = absurd (true_false false is refl)
point_touches (Some (Goto prefix source child)) k is same = absurd (true_false false is refl)

-- and one that can is on it
pub touches_point : (o : Option Message) (k : List ℕ) → is_point_in o ≡ true → touches_in o k ≡ true → key_in o ≡ k
touches_point None k is h = absurd (true_false false is refl)
touches_point (Some (Put key value)) k is h = sym (same_key-true k key h)
touches_point (Some (Del key)) k is h = sym (same_key-true k key h)
touches_point (Some (Patch key off bytes)) k is h = sym (same_key-true k key h)
touches_point (Some (Cut prefix from)) k is h = absurd (true_false false is refl)
touches_point (Some (Goto prefix source child)) k is h = absurd (true_false false is refl)

-- a message that is there is at a place of the list
pub point_within : (list : List Message) (i : ℕ) → is_point_at list i ≡ true → i < length list
point_within [] i h = absurd (true_false false h refl)
point_within (m ∷ ms) zero h = omega arith
point_within (m ∷ ms) (suc i) h = (let l : i < length ms = point_within ms i h in omega arith)

pub range_within : (list : List Message) (i : ℕ) → is_range_at list i ≡ true → i < length list
range_within [] i h = absurd (true_false false h refl)
range_within (m ∷ ms) zero h = omega arith
range_within (m ∷ ms) (suc i) h = (let l : i < length ms = range_within ms i h in omega arith)

-- ---- the order

spot_same : (k l : List ℕ) (p j : ℕ) → k ≡ l → ordering_then (key_cmp k l) (nat_cmp p j) ≡ nat_cmp p j
spot_same k l p j same = ap (λ (o : Ordering). ordering_then o (nat_cmp p j)) (ap (λ (x : List ℕ). key_cmp k x) (sym same) ∙ tied_itself total k)

pub spot_less : (k l : List ℕ) (p j : ℕ) → key_cmp k l ≡ Less → is_lt (ordering_then (key_cmp k l) (nat_cmp p j)) ≡ true
spot_less k l p j h = ap (λ (o : Ordering). is_lt (ordering_then o (nat_cmp p j))) h

pub spot_more : (k l : List ℕ) (p j : ℕ) → key_cmp k l ≡ Greater → is_lt (ordering_then (key_cmp k l) (nat_cmp p j)) ≡ false
spot_more k l p j h = ap (λ (o : Ordering). is_lt (ordering_then o (nat_cmp p j))) h

pub same_before : (list : List Message) (k : List ℕ) (p j : ℕ) → key_at list p ≡ k → p < j → is_before list p (k, j) ≡ true
same_before list k p j same less = ap is_lt (spot_same (key_at list p) k p j same ∙ nat_less p j less)

pub same_after : (list : List Message) (k : List ℕ) (p j : ℕ) → key_at list p ≡ k → j ≤ p → is_before list p (k, j) ≡ false
same_after list k p j same le =
    elim (cases_lt j p) [
      | inl less ↦ ap is_lt (spot_same (key_at list p) k p j same ∙ nat_more p j less)
      | inr more ↦ (let e : j ≡ p = omega arith in ap is_lt (spot_same (key_at list p) k p j same ∙ subst (λ (x : ℕ). nat_cmp p x ≡ Equal) (sym e) (nat_same p)))
    ]

pub before_same : (list : List Message) (k : List ℕ) (p j : ℕ) → key_at list p ≡ k → is_before list p (k, j) ≡ true → p < j
before_same list k p j same h =
    elim (cases_lt p j) [ inl less ↦ less | inr more ↦ absurd (true_false _ h (same_after list k p j same more)) ]

pub after_same : (list : List Message) (k : List ℕ) (p j : ℕ) → key_at list p ≡ k → is_before list p (k, j) ≡ false → j ≤ p
after_same list k p j same h =
    elim (cases_lt p j) [ inl less ↦ absurd (true_false _ (same_before list k p j same less) h) | inr more ↦ more ]

pub by_cmp : (G : Type 0) (o : Ordering) → (o ≡ Less → G) → (o ≡ Equal → G) → (o ≡ Greater → G) → G
by_cmp G Less a b c = a refl
by_cmp G Equal a b c = b refl
by_cmp G Greater a b c = c refl

greater_less : (k l : List ℕ) → key_cmp k l ≡ Greater → key_cmp l k ≡ Less
greater_less k l h = total.antisymm l k ∙ ap ordering_reverse h

less_greater : (k l : List ℕ) → key_cmp k l ≡ Less → key_cmp l k ≡ Greater
less_greater k l h = total.antisymm l k ∙ ap ordering_reverse h

-- one of a greater key doesn't come before
pub above_after : (list : List Message) (k : List ℕ) (p j : ℕ) → IsBelow k (key_at list p) → is_before list p (k, j) ≡ false
above_after list k p j above = spot_more (key_at list p) k p j (less_greater k (key_at list p) above)

-- what doesn't come before the key with a place after its own is of a greater key
pub after_above : (list : List Message) (k : List ℕ) (p j : ℕ) → p < j → is_before list p (k, j) ≡ false → IsBelow k (key_at list p)
after_above list k p j less h =
    by_cmp (IsBelow k (key_at list p)) (key_cmp (key_at list p) k)
    (λ e. absurd (true_false _ (spot_less (key_at list p) k p j e) h))
    (λ e. absurd (true_false _ (same_before list k p j (tied (key_at list p) k e) less) h))
    (λ e. greater_less (key_at list p) k e)

-- what comes before another is of no greater key
pub before_least : (list : List Message) (p i : ℕ) → is_before list p (spot list i) ≡ true → IsAtLeast (key_at list i) (key_at list p)
before_least list p i h less = true_false _ h (spot_more (key_at list p) (key_at list i) p i (less_greater (key_at list i) (key_at list p) less))

-- what stands between a key with two places is of the key
between_same : (list : List Message) (k : List ℕ) (p i from : ℕ) → key_at list i ≡ k → is_before list p (k, from) ≡ false → is_before list p (spot list i) ≡ true → key_at list p ≡ k
between_same list k p i from same late first =
    by_cmp (key_at list p ≡ k) (key_cmp (key_at list p) k)
    (λ e. absurd (true_false _ (spot_less (key_at list p) k p from e) late))
    (λ e. tied (key_at list p) k e)
    (λ e. absurd (true_false _ first (spot_more (key_at list p) (key_at list i) p i (subst (λ (l : List ℕ). key_cmp (key_at list p) l ≡ Greater) (sym same) e))))

between_newer : (list : List Message) (k : List ℕ) (p i end : ℕ) → key_at list i ≡ k → is_before list p (k, end) ≡ true → is_before list i (spot list p) ≡ true → key_at list p ≡ k
between_newer list k p i end same first later =
    by_cmp (key_at list p ≡ k) (key_cmp (key_at list p) k)
    (λ e. absurd (true_false _ later (spot_more (key_at list i) (key_at list p) i p (subst (λ (l : List ℕ). key_cmp l (key_at list p) ≡ Greater) (sym same) (less_greater (key_at list p) k e)))))
    (λ e. tied (key_at list p) k e)
    (λ e. absurd (true_false _ first (spot_more (key_at list p) k p end e)))

-- ---- what the index finds among messages on one key

pub next_on_some : (list : List Message) (points ranges k : List ℕ) (from at : ℕ) → IsIndex list (length list) points ranges → IsPosition list points (k, from) at → at < length points → key_at list (get_or points at 0) ≡ k
    → IsNextAmong is_point_at list from k (Some (get_or points at 0))
next_on_some list points ranges k from at ix pos within same = (
  after_same list k (get_or points at 0) from same (pos.after at (omega arith) within),
  ix.below at within,
  point_touches (slice_get list (get_or points at 0)) k (ix.point at within) same,
  (λ i low high is. elim (cases_Bool (touches_at list i k)) [
    | inr none ↦ none
    | inl some ↦ (let key : key_at list i ≡ k = touches_point (slice_get list i) k is some in
        let there = has_place points i (ix.all_points i (let l : get_or points at 0 < length list = ix.below at within in omega arith) is) in
        let key_q : key_at list (get_or points there.0 0) ≡ k = subst (λ (j : ℕ). key_at list j ≡ k) (sym there.2) key in
        elim (cases_lt there.0 at) [
          | inl less ↦ (let l : get_or points there.0 0 < from = before_same list k (get_or points there.0 0) from key_q (pos.before there.0 less) in
              let e : get_or points there.0 0 ≡ i = there.2 in absurd (omega arith))
          | inr more ↦ (elim (cases_lt at there.0) [
            | inl less ↦ (let b : is_before list (get_or points at 0) (k, get_or points there.0 0) ≡ true = subst (λ (l : List ℕ). is_before list (get_or points at 0) (l, get_or points there.0 0) ≡ true) key_q (ix.order.each at there.0 less there.1) in
                let l : get_or points at 0 < get_or points there.0 0 = before_same list k (get_or points at 0) (get_or points there.0 0) same b in
                let e : get_or points there.0 0 ≡ i = there.2 in absurd (omega arith))
            | inr le ↦ (let s : there.0 ≡ at = omega arith in
                let f : get_or points there.0 0 ≡ get_or points at 0 = ap (λ (j : ℕ). get_or points j 0) s in
                let e : get_or points there.0 0 ≡ i = there.2 in absurd (omega arith))
          ])
        ])
  ]),
)

pub next_on_none : (list : List Message) (points ranges k : List ℕ) (from at : ℕ) → IsIndex list (length list) points ranges → IsPosition list points (k, from) at → (at < length points → key_at list (get_or points at 0) ≡ k → ⊥)
    → IsNextAmong is_point_at list from k None
next_on_none list points ranges k from at ix pos other i low high is =
    elim (cases_Bool (touches_at list i k)) [
      | inr none ↦ none
      | inl some ↦ (let key : key_at list i ≡ k = touches_point (slice_get list i) k is some in
          let there = has_place points i (ix.all_points i high is) in
          let key_q : key_at list (get_or points there.0 0) ≡ k = subst (λ (j : ℕ). key_at list j ≡ k) (sym there.2) key in
          let inside : there.0 < length points = there.1 in
          elim (cases_lt there.0 at) [
            | inl less ↦ (let l : get_or points there.0 0 < from = before_same list k (get_or points there.0 0) from key_q (pos.before there.0 less) in
                let e : get_or points there.0 0 ≡ i = there.2 in absurd (omega arith))
            | inr more ↦ (elim (cases_lt at there.0) [
              | inl less ↦ absurd (other (omega arith) (between_same list k (get_or points at 0) (get_or points there.0 0) from key_q (pos.after at (omega arith) (omega arith)) (ix.order.each at there.0 less there.1)))
              | inr le ↦ (let s : there.0 ≡ at = omega arith in absurd (other (omega arith) (subst (λ (j : ℕ). key_at list (get_or points j 0) ≡ k) s key_q)))
            ])
          ])
    ]

pub newest_on_some : (list : List Message) (points ranges k : List ℕ) (from at last : ℕ) → IsIndex list (length list) points ranges → IsPosition list points (k, length list) at → at ≡ last + 1 → from ≤ get_or points last 0 → key_at list (get_or points last 0) ≡ k
    → IsNewestAmong is_point_at list from k (Some (get_or points last 0))
newest_on_some list points ranges k from at last ix pos is_last low same =
    let size : at ≤ length points = pos.within in
    let within : last < length points = omega arith in (
      low,
      ix.below last within,
      point_touches (slice_get list (get_or points last 0)) k (ix.point last within) same,
      (λ i newer high is. elim (cases_Bool (touches_at list i k)) [
        | inr none ↦ none
        | inl some ↦ (let key : key_at list i ≡ k = touches_point (slice_get list i) k is some in
            let there = has_place points i (ix.all_points i high is) in
            let key_q : key_at list (get_or points there.0 0) ≡ k = subst (λ (j : ℕ). key_at list j ≡ k) (sym there.2) key in
            let e : get_or points there.0 0 ≡ i = there.2 in
            elim (cases_lt there.0 last) [
              | inl less ↦ (let b : is_before list (get_or points there.0 0) (k, get_or points last 0) ≡ true = subst (λ (l : List ℕ). is_before list (get_or points there.0 0) (l, get_or points last 0) ≡ true) same (ix.order.each there.0 last less within) in
                  let l : get_or points there.0 0 < get_or points last 0 = before_same list k (get_or points there.0 0) (get_or points last 0) key_q b in absurd (omega arith))
              | inr more ↦ (elim (cases_lt last there.0) [
                | inl less ↦ (let l : length list ≤ get_or points there.0 0 = after_same list k (get_or points there.0 0) (length list) key_q (pos.after there.0 (omega arith) there.1) in absurd (omega arith))
                | inr le ↦ (let s : there.0 ≡ last = omega arith in
                    let f : get_or points there.0 0 ≡ get_or points last 0 = ap (λ (j : ℕ). get_or points j 0) s in absurd (omega arith))
              ])
            ])
      ]),
    )

pub newest_on_none : (list : List Message) (points ranges k : List ℕ) (from at : ℕ) → IsIndex list (length list) points ranges → IsPosition list points (k, length list) at
    → ((last : ℕ) → at ≡ last + 1 → from ≤ get_or points last 0 → key_at list (get_or points last 0) ≡ k → ⊥) → IsNewestAmong is_point_at list from k None
newest_on_none list points ranges k from at ix pos other i low high is =
    elim (cases_Bool (touches_at list i k)) [
      | inr none ↦ none
      | inl some ↦ (let key : key_at list i ≡ k = touches_point (slice_get list i) k is some in
          let there = has_place points i (ix.all_points i high is) in
          let key_q : key_at list (get_or points there.0 0) ≡ k = subst (λ (j : ℕ). key_at list j ≡ k) (sym there.2) key in
          let e : get_or points there.0 0 ≡ i = there.2 in
          let size : at ≤ length points = pos.within in
          elim (cases_lt there.0 at) [
            | inr more ↦ (let l : length list ≤ get_or points there.0 0 = after_same list k (get_or points there.0 0) (length list) key_q (pos.after there.0 more there.1) in absurd (omega arith))
            | inl less ↦ (let last : ℕ = at - 1 in
                let is_last : at ≡ last + 1 = omega arith in
                let within : last < length points = omega arith in
                elim (cases_lt there.0 last) [
                  | inl below ↦ (let b = ix.order.each there.0 last below within in
                      let same : key_at list (get_or points last 0) ≡ k = between_newer list k (get_or points last 0) (get_or points there.0 0) (length list) key_q (pos.before last (omega arith)) b in
                      let c : is_before list (get_or points there.0 0) (k, get_or points last 0) ≡ true = subst (λ (l : List ℕ). is_before list (get_or points there.0 0) (l, get_or points last 0) ≡ true) same b in
                      let l : get_or points there.0 0 < get_or points last 0 = before_same list k (get_or points there.0 0) (get_or points last 0) key_q c in
                      absurd (other last is_last (omega arith) same))
                  | inr le ↦ (let s : there.0 ≡ last = omega arith in
                      let f : get_or points there.0 0 ≡ get_or points last 0 = ap (λ (j : ℕ). get_or points j 0) s in
                      absurd (other last is_last (omega arith) (subst (λ (j : ℕ). key_at list (get_or points j 0) ≡ k) s key_q)))
                ])
          ])
    ]

pub next_point_some : (list : List Message) (points ranges k : List ℕ) (from at : ℕ) → IsIndex list (length list) points ranges → at < length points → from ≤ get_or points at 0 → is_before list (get_or points at 0) (k, length list) ≡ false
    → ((q : ℕ) → q < at → from ≤ get_or points q 0 → is_before list (get_or points q 0) (k, length list) ≡ true) → IsNextPoint list from k (Some (get_or points at 0))
next_point_some list points ranges k from at ix within low late skipped = (
  low,
  ix.point at within,
  after_above list k (get_or points at 0) (length list) (ix.below at within) late,
  (λ i least is above.
      let there = has_place points i (ix.all_points i (point_within list i is) is) in
      let e : get_or points there.0 0 ≡ i = there.2 in
      let above_q : IsBelow k (key_at list (get_or points there.0 0)) = subst (λ (j : ℕ). IsBelow k (key_at list j)) (sym e) above in
      elim (cases_lt there.0 at) [
        | inl less ↦ absurd (true_false _ (skipped there.0 less (omega arith)) (above_after list k (get_or points there.0 0) (length list) above_q))
        | inr more ↦ (elim (cases_lt at there.0) [
          | inl less ↦ subst (λ (j : ℕ). IsAtLeast (key_at list j) (key_at list (get_or points at 0))) e (before_least list (get_or points at 0) (get_or points there.0 0) (ix.order.each at there.0 less there.1))
          | inr le ↦ (let s : at ≡ there.0 = omega arith in
              let f : get_or points at 0 ≡ i = ap (λ (j : ℕ). get_or points j 0) s ∙ e in
              subst (λ (j : ℕ). IsAtLeast (key_at list j) (key_at list (get_or points at 0))) f (Rattle.bd_node.proofs.Edges.not_below_itself (key_at list (get_or points at 0))))
        ])
      ]),
)

pub next_point_none : (list : List Message) (points ranges k : List ℕ) (from : ℕ) → IsIndex list (length list) points ranges
    → ((q : ℕ) → q < length points → from ≤ get_or points q 0 → is_before list (get_or points q 0) (k, length list) ≡ true) → IsNextPoint list from k None
next_point_none list points ranges k from ix skipped i least is above =
    let there = has_place points i (ix.all_points i (point_within list i is) is) in
    let e : get_or points there.0 0 ≡ i = there.2 in
    let above_q : IsBelow k (key_at list (get_or points there.0 0)) = subst (λ (j : ℕ). IsBelow k (key_at list j)) (sym e) above in
    true_false _ (skipped there.0 there.1 (omega arith)) (above_after list k (get_or points there.0 0) (length list) above_q)

-- ---- what it finds among the others

pub next_over_some : (list : List Message) (points ranges k : List ℕ) (from first at : ℕ) → IsIndex list (length list) points ranges → IsCountBelow ranges from first → first ≤ at → at < length ranges → touches_at list (get_or ranges at 0) k ≡ true
    → ((q : ℕ) → q < at → from ≤ get_or ranges q 0 → touches_at list (get_or ranges q 0) k ≡ false) → IsNextAmong is_range_at list from k (Some (get_or ranges at 0))
next_over_some list points ranges k from first at ix low le within some none = (
  low.over at le within,
  ix.under at within,
  some,
  (λ i least high is.
      let there = has_place ranges i (ix.all_ranges i (range_within list i is) is) in
      let e : get_or ranges there.0 0 ≡ i = there.2 in
      elim (cases_lt there.0 at) [
        | inl less ↦ subst (λ (j : ℕ). touches_at list j k ≡ false) e (none there.0 less (omega arith))
        | inr more ↦ (let l : get_or ranges at 0 ≤ get_or ranges there.0 0 = not_after ranges at there.0 ix.rising more there.1 in absurd (omega arith))
      ]),
)

pub over_none : (list : List Message) (points ranges k : List ℕ) (from : ℕ) → IsIndex list (length list) points ranges
    → ((q : ℕ) → q < length ranges → from ≤ get_or ranges q 0 → touches_at list (get_or ranges q 0) k ≡ false) → (i : ℕ) → from ≤ i → i < length list → is_range_at list i ≡ true → touches_at list i k ≡ false
over_none list points ranges k from ix none i least high is =
    let there = has_place ranges i (ix.all_ranges i high is) in
    let e : get_or ranges there.0 0 ≡ i = there.2 in
    subst (λ (j : ℕ). touches_at list j k ≡ false) e (none there.0 there.1 (omega arith))

pub newest_over_some : (list : List Message) (points ranges k : List ℕ) (from first at : ℕ) → IsIndex list (length list) points ranges → IsCountBelow ranges from first → first ≤ at → at < length ranges → touches_at list (get_or ranges at 0) k ≡ true
    → ((q : ℕ) → at + 1 ≤ q → q < length ranges → touches_at list (get_or ranges q 0) k ≡ false) → IsNewestAmong is_range_at list from k (Some (get_or ranges at 0))
newest_over_some list points ranges k from first at ix low le within some none = (
  low.over at le within,
  ix.under at within,
  some,
  (λ i newer high is.
      let there = has_place ranges i (ix.all_ranges i high is) in
      let e : get_or ranges there.0 0 ≡ i = there.2 in
      elim (cases_lt at there.0) [
        | inl less ↦ subst (λ (j : ℕ). touches_at list j k ≡ false) e (none there.0 (omega arith) there.1)
        | inr more ↦ (let l : get_or ranges there.0 0 ≤ get_or ranges at 0 = not_after ranges there.0 at ix.rising more within in absurd (omega arith))
      ]),
)

pub newest_over_none : (list : List Message) (points ranges k : List ℕ) (from first : ℕ) → IsIndex list (length list) points ranges → IsCountBelow ranges from first
    → ((q : ℕ) → first ≤ q → q < length ranges → touches_at list (get_or ranges q 0) k ≡ false) → IsNewestAmong is_range_at list from k None
newest_over_none list points ranges k from first ix low none =
    over_none list points ranges k from ix
    (λ q within least. elim (cases_lt q first) [
      | inl less ↦ (let l : get_or ranges q 0 < from = low.below q less in absurd (omega arith))
      | inr more ↦ none q more within
    ])

pub next_range_some : (list : List Message) (points ranges : List ℕ) (from at : ℕ) → IsIndex list (length list) points ranges → IsCountBelow ranges from at → at < length ranges → IsNextRange list from (Some (get_or ranges at 0))
next_range_some list points ranges from at ix low within = (
  low.over at (omega arith) within,
  ix.range at within,
  (λ i least high. elim (cases_Bool (is_range_at list i)) [
    | inr none ↦ none
    | inl some ↦ (let there = has_place ranges i (ix.all_ranges i (range_within list i some) some) in
        let e : get_or ranges there.0 0 ≡ i = there.2 in
        elim (cases_lt there.0 at) [
          | inl less ↦ (let l : get_or ranges there.0 0 < from = low.below there.0 less in absurd (omega arith))
          | inr more ↦ (let l : get_or ranges at 0 ≤ get_or ranges there.0 0 = not_after ranges at there.0 ix.rising more there.1 in absurd (omega arith))
        ])
  ]),
)

pub next_range_none : (list : List Message) (points ranges : List ℕ) (from at : ℕ) → IsIndex list (length list) points ranges → IsCountBelow ranges from at → length ranges ≤ at → IsNextRange list from None
next_range_none list points ranges from at ix low past i least =
    elim (cases_Bool (is_range_at list i)) [
      | inr none ↦ none
      | inl some ↦ (let there = has_place ranges i (ix.all_ranges i (range_within list i some) some) in
          let e : get_or ranges there.0 0 ≡ i = there.2 in
          let l : get_or ranges there.0 0 < from = low.below there.0 (let m : there.0 < length ranges = there.1 in omega arith) in absurd (omega arith))
    ]

-- ---- what the program reads

pub read_key : (list : List Message) (p : ℕ) (m : Message) (own k : List ℕ) → p < length list → m ≡ get_or list p m → own ≡ own_key m → same_key own k ≡ true → key_at list p ≡ k
read_key list p m own k within is own_is same =
    ap key_in (slice_get_read list (length list) p m refl within is) ∙ sym own_is ∙ same_key-true own k same

pub read_other : (list : List Message) (p : ℕ) (m : Message) (own k : List ℕ) → p < length list → m ≡ get_or list p m → own ≡ own_key m → same_key own k ≡ false → key_at list p ≡ k → ⊥
read_other list p m own k within is own_is other same =
    let e : own ≡ k = own_is ∙ sym (ap key_in (slice_get_read list (length list) p m refl within is)) ∙ same in
    true_false _ (subst (λ (l : List ℕ). same_key own l ≡ true) e (same_key-refl own)) other

pub read_touches : (list : List Message) (p : ℕ) (m : Message) (k : List ℕ) (b v : Bool) → p < length list → m ≡ get_or list p m → b ≡ touches m k → b ≡ v → touches_at list p k ≡ v
read_touches list p m k b v within is b_is b_v =
    ap (λ (o : Option Message). touches_in o k) (slice_get_read list (length list) p m refl within is) ∙ sym b_is ∙ b_v

-- ---- putting a place in

-- what stands at a place after one is put in
pub data IsInserted (xs : List ℕ) (at y q : ℕ) : Type 0 where
  low : q < at → get_or (insert xs at y) q 0 ≡ get_or xs q 0 → IsInserted xs at y q
  here : q ≡ at → get_or (insert xs at y) q 0 ≡ y → IsInserted xs at y q
  high : at < q → get_or (insert xs at y) q 0 ≡ get_or xs (q - 1) 0 → IsInserted xs at y q

pub inserted : (xs : List ℕ) (at y q : ℕ) → at ≤ length xs → IsInserted xs at y q
inserted xs at y q fits =
    elim (cases_lt q at) [
      | inl less ↦ low less (get_or-insert_below xs at y 0 q less fits)
      | inr more ↦ (elim (cases_lt at q) [
        | inl less ↦ (let e : q - 1 + 1 ≡ q = omega arith in high less (subst (λ (j : ℕ). get_or (insert xs at y) j 0 ≡ get_or xs (q - 1) 0) e (get_or-insert_above xs at y 0 (q - 1) (omega arith) fits)))
        | inr le ↦ (let e : at ≡ q = omega arith in here (omega arith) (subst (λ (j : ℕ). get_or (insert xs at y) j 0 ≡ y) e (get_or-insert_at xs at y 0 fits)))
      ])
    ]

pub has_inserted : (xs : List ℕ) (at y i : ℕ) → at ≤ length xs → has xs i ≡ true → has (insert xs at y) i ≡ true
has_inserted xs at y i fits h =
    let there = has_place xs i h in
    let inside : there.0 < length xs = there.1 in
    let long : length (insert xs at y) ≡ length xs + 1 = length-insert xs at y fits in
    elim (cases_lt there.0 at) [
      | inl less ↦ has_at (insert xs at y) there.0 i (omega arith) (get_or-insert_below xs at y 0 there.0 less fits ∙ there.2)
      | inr more ↦ has_at (insert xs at y) (there.0 + 1) i (omega arith) (get_or-insert_above xs at y 0 there.0 more fits ∙ there.2)
    ]

pub has_new : (xs : List ℕ) (at y : ℕ) → at ≤ length xs → has (insert xs at y) y ≡ true
has_new xs at y fits =
    let long : length (insert xs at y) ≡ length xs + 1 = length-insert xs at y fits in
    has_at (insert xs at y) at y (omega arith) (get_or-insert_at xs at y 0 fits)

pub point_no_range : (o : Option Message) → is_point_in o ≡ true → is_range_in o ≡ true → ⊥
point_no_range None h i = true_false false h refl
point_no_range (Some m) h i = true_false _ i (ap not h)

-- of two places the one comes first or the other
other_first : (list : List Message) (a b : ℕ) → a < b → is_before list a (spot list b) ≡ false → is_before list b (spot list a) ≡ true
other_first list a b less h =
    by_cmp (is_before list b (spot list a) ≡ true) (key_cmp (key_at list a) (key_at list b))
    (λ e. absurd (true_false _ (spot_less (key_at list a) (key_at list b) a b e) h))
    (λ e. absurd (true_false _ (same_before list (key_at list b) a b (tied (key_at list a) (key_at list b) e) less) h))
    (λ e. spot_less (key_at list b) (key_at list a) b a (greater_less (key_at list a) (key_at list b) e))

ordered : (list : List Message) (points ranges : List ℕ) (n at p q : ℕ) → IsIndex list n points ranges → IsPosition list points (spot list n) at → p < q → q < length points + 1
    → IsInserted points at n p → IsInserted points at n q → is_before list (get_or (insert points at n) p 0) (spot list (get_or (insert points at n) q 0)) ≡ true
ordered list points ranges n at p q ix pos less within (low a e) (low b f) =
    subst (λ (j : ℕ). is_before list j (spot list (get_or (insert points at n) q 0)) ≡ true) (sym e) (subst (λ (j : ℕ). is_before list (get_or points p 0) (spot list j) ≡ true) (sym f)
    (ix.order.each p q less (let l : at ≤ length points = pos.within in omega arith)))
ordered list points ranges n at p q ix pos less within (low a e) (here b f) =
    subst (λ (j : ℕ). is_before list j (spot list (get_or (insert points at n) q 0)) ≡ true) (sym e) (subst (λ (j : ℕ). is_before list (get_or points p 0) (spot list j) ≡ true) (sym f)
    (pos.before p a))
ordered list points ranges n at p q ix pos less within (low a e) (high b f) =
    subst (λ (j : ℕ). is_before list j (spot list (get_or (insert points at n) q 0)) ≡ true) (sym e) (subst (λ (j : ℕ). is_before list (get_or points p 0) (spot list j) ≡ true) (sym f)
    (ix.order.each p (q - 1) (omega arith) (omega arith)))
ordered list points ranges n at p q ix pos less within (here a e) (low b f) = absurd (omega arith)
ordered list points ranges n at p q ix pos less within (here a e) (here b f) = absurd (omega arith)
ordered list points ranges n at p q ix pos less within (here a e) (high b f) =
    subst (λ (j : ℕ). is_before list j (spot list (get_or (insert points at n) q 0)) ≡ true) (sym e) (subst (λ (j : ℕ). is_before list n (spot list j) ≡ true) (sym f)
    (other_first list (get_or points (q - 1) 0) n (ix.below (q - 1) (omega arith)) (pos.after (q - 1) (omega arith) (omega arith))))
ordered list points ranges n at p q ix pos less within (high a e) (low b f) = absurd (omega arith)
ordered list points ranges n at p q ix pos less within (high a e) (here b f) = absurd (omega arith)
ordered list points ranges n at p q ix pos less within (high a e) (high b f) =
    subst (λ (j : ℕ). is_before list j (spot list (get_or (insert points at n) q 0)) ≡ true) (sym e) (subst (λ (j : ℕ). is_before list (get_or points (p - 1) 0) (spot list j) ≡ true) (sym f)
    (ix.order.each (p - 1) (q - 1) (omega arith) (omega arith)))

-- a property of each place holds after one is put in that has it
pub each_inserted : (P : ℕ → Type 0) (xs : List ℕ) (at y q : ℕ) → at ≤ length xs → q < length xs + 1 → ((q : ℕ) → q < length xs → P (get_or xs q 0)) → P y → IsInserted xs at y q → P (get_or (insert xs at y) q 0)
each_inserted P xs at y q fits within each new (low a e) = subst P (sym e) (each q (omega arith))
each_inserted P xs at y q fits within each new (here a e) = subst P (sym e) new
each_inserted P xs at y q fits within each new (high a e) = subst P (sym e) (each (q - 1) (omega arith))

-- an order of the places holds after one is put in that comes after those before it and before the others
pub each_in_order : (R : ℕ → ℕ → Type 0) (xs : List ℕ) (at y p q : ℕ) → at ≤ length xs → p < q → q < length xs + 1 → ((p q : ℕ) → p < q → q < length xs → R (get_or xs p 0) (get_or xs q 0)) → ((p : ℕ) → p < at → R (get_or xs p 0) y)
    → ((q : ℕ) → at ≤ q → q < length xs → R y (get_or xs q 0)) → IsInserted xs at y p → IsInserted xs at y q → R (get_or (insert xs at y) p 0) (get_or (insert xs at y) q 0)
each_in_order R xs at y p q fits less within each first last (low a e) (low b f) = subst (λ (j : ℕ). R j (get_or (insert xs at y) q 0)) (sym e) (subst (λ (j : ℕ). R (get_or xs p 0) j) (sym f) (each p q less (omega arith)))
each_in_order R xs at y p q fits less within each first last (low a e) (here b f) = subst (λ (j : ℕ). R j (get_or (insert xs at y) q 0)) (sym e) (subst (λ (j : ℕ). R (get_or xs p 0) j) (sym f) (first p a))
each_in_order R xs at y p q fits less within each first last (low a e) (high b f) = subst (λ (j : ℕ). R j (get_or (insert xs at y) q 0)) (sym e) (subst (λ (j : ℕ). R (get_or xs p 0) j) (sym f) (each p (q - 1) (omega arith) (omega arith)))
each_in_order R xs at y p q fits less within each first last (here a e) (low b f) = absurd (omega arith)
each_in_order R xs at y p q fits less within each first last (here a e) (here b f) = absurd (omega arith)
each_in_order R xs at y p q fits less within each first last (here a e) (high b f) = subst (λ (j : ℕ). R j (get_or (insert xs at y) q 0)) (sym e) (subst (λ (j : ℕ). R y j) (sym f) (last (q - 1) (omega arith) (omega arith)))
each_in_order R xs at y p q fits less within each first last (high a e) (low b f) = absurd (omega arith)
each_in_order R xs at y p q fits less within each first last (high a e) (here b f) = absurd (omega arith)
each_in_order R xs at y p q fits less within each first last (high a e) (high b f) = subst (λ (j : ℕ). R j (get_or (insert xs at y) q 0)) (sym e) (subst (λ (j : ℕ). R (get_or xs (p - 1) 0) j) (sym f) (each (p - 1) (q - 1) (omega arith) (omega arith)))

pub with_point : (list : List Message) (points ranges : List ℕ) (n at : ℕ) → IsIndex list n points ranges → n < length list → is_point_at list n ≡ true → IsPosition list points (spot list n) at → IsIndex list (n + 1) (insert points at n) ranges
with_point list points ranges n at ix inside is pos =
    let fits : at ≤ length points = pos.within in
    let long : length (insert points at n) ≡ length points + 1 = length-insert points at n fits in
    record {
      known = omega arith;
      order = record { each = λ p q less within. ordered list points ranges n at p q ix pos less (omega arith) (inserted points at n p fits) (inserted points at n q fits) };
      below = λ q within. each_inserted (λ (j : ℕ). j < n + 1) points at n q fits (omega arith) (λ r w. (let l : get_or points r 0 < n = ix.below r w in omega arith)) (omega arith) (inserted points at n q fits);
      point = λ q within. each_inserted (λ (j : ℕ). is_point_at list j ≡ true) points at n q fits (omega arith) ix.point is (inserted points at n q fits);
      all_points = λ i less h. elim (cases_lt i n) [
        | inl old ↦ has_inserted points at n i fits (ix.all_points i old h)
        | inr le ↦ (let e : n ≡ i = omega arith in subst (λ (j : ℕ). has (insert points at n) j ≡ true) e (has_new points at n fits))
      ];
      rising = ix.rising;
      under = λ q within. (let l : get_or ranges q 0 < n = ix.under q within in omega arith);
      range = ix.range;
      all_ranges = λ i less h. elim (cases_lt i n) [
        | inl old ↦ ix.all_ranges i old h
        | inr le ↦ (let e : n ≡ i = omega arith in absurd (point_no_range (slice_get list i) (subst (λ (j : ℕ). is_point_at list j ≡ true) e is) h))
      ];
    }

pub with_range : (list : List Message) (points ranges : List ℕ) (n : ℕ) → IsIndex list n points ranges → n < length list → is_range_at list n ≡ true → IsIndex list (n + 1) points (ranges ++ n ∷ [])
with_range list points ranges n ix inside is =
    let at : ℕ = length ranges in
    let fits : at ≤ length ranges = omega arith in
    let long : length (insert ranges (length ranges) n) ≡ length ranges + 1 = length-insert ranges (length ranges) n fits in
    subst (λ (r : List ℕ). IsIndex list (n + 1) points r) (insert_end ranges n)
    (record {
      known = omega arith;
      order = ix.order;
      below = λ q within. (let l : get_or points q 0 < n = ix.below q within in omega arith);
      point = ix.point;
      all_points = λ i less h. elim (cases_lt i n) [
        | inl old ↦ ix.all_points i old h
        | inr le ↦ (let e : n ≡ i = omega arith in absurd (point_no_range (slice_get list i) h (subst (λ (j : ℕ). is_range_at list j ≡ true) e is)))
      ];
      rising = λ p q less within. (let e : get_or (insert ranges (length ranges) n) p 0 ≡ get_or ranges p 0 = get_or-insert_below ranges (length ranges) n 0 p (omega arith) fits in
          elim (cases_lt q (length ranges)) [
            | inl old ↦ (let f : get_or (insert ranges (length ranges) n) q 0 ≡ get_or ranges q 0 = get_or-insert_below ranges (length ranges) n 0 q old fits in
                let l : get_or ranges p 0 < get_or ranges q 0 = ix.rising p q less old in omega arith)
            | inr new ↦ (let s : length ranges ≡ q = omega arith in
                let f : get_or (insert ranges (length ranges) n) q 0 ≡ n = subst (λ (j : ℕ). get_or (insert ranges (length ranges) n) j 0 ≡ n) s (get_or-insert_at ranges (length ranges) n 0 fits) in
                let l : get_or ranges p 0 < n = ix.under p (omega arith) in omega arith)
          ]);
      under = λ q within. each_inserted (λ (j : ℕ). j < n + 1) ranges (length ranges) n q fits (omega arith) (λ r w. (let l : get_or ranges r 0 < n = ix.under r w in omega arith)) (omega arith) (inserted ranges (length ranges) n q fits);
      range = λ q within. each_inserted (λ (j : ℕ). is_range_at list j ≡ true) ranges (length ranges) n q fits (omega arith) ix.range is (inserted ranges (length ranges) n q fits);
      all_ranges = λ i less h. elim (cases_lt i n) [
        | inl old ↦ has_inserted ranges (length ranges) n i fits (ix.all_ranges i old h)
        | inr le ↦ (let e : n ≡ i = omega arith in subst (λ (j : ℕ). has (insert ranges (length ranges) n) j ≡ true) e (has_new ranges (length ranges) n fits))
      ];
    })

-- ---- no places, and more messages

pub none_indexed : (list : List Message) → IsIndex list 0 [] []
none_indexed list = record {
  known = omega arith;
  order = record { each = λ p q less within. absurd (omega arith) };
  below = λ q within. absurd (omega arith);
  point = λ q within. absurd (omega arith);
  all_points = λ i less h. absurd (omega arith);
  rising = λ p q less within. absurd (omega arith);
  under = λ q within. absurd (omega arith);
  range = λ q within. absurd (omega arith);
  all_ranges = λ i less h. absurd (omega arith);
}

pub front_get : (xs ys : List Message) (i : ℕ) → i < length xs → slice_get (xs ++ ys) i ≡ slice_get xs i
front_get [] ys i h = absurd (omega arith)
front_get (x ∷ xs) ys zero h = refl
front_get (x ∷ xs) ys (suc i) h = front_get xs ys i (omega arith)

pub with_more : (xs ys : List Message) (points ranges : List ℕ) → IsIndex xs (length xs) points ranges → IsIndex (xs ++ ys) (length xs) points ranges
with_more xs ys points ranges ix =
    let same : (i : ℕ) → i < length xs → slice_get (xs ++ ys) i ≡ slice_get xs i = front_get xs ys in
    record {
      known = (let e : length (xs ++ ys) ≡ length xs + length ys = Rattle.std.proofs.Common.length-append xs ys in omega arith);
      order = record {
        each = λ p q less within.
            subst (λ (o : Option Message). is_lt (ordering_then (key_cmp (key_in o) (key_at (xs ++ ys) (get_or points q 0))) (nat_cmp (get_or points p 0) (get_or points q 0))) ≡ true) (sym (same (get_or points p 0) (ix.below p (omega arith))))
            (subst (λ (o : Option Message). is_lt (ordering_then (key_cmp (key_at xs (get_or points p 0)) (key_in o)) (nat_cmp (get_or points p 0) (get_or points q 0))) ≡ true) (sym (same (get_or points q 0) (ix.below q within)))
            (ix.order.each p q less within));
      };
      below = ix.below;
      point = λ q within. ap is_point_in (same (get_or points q 0) (ix.below q within)) ∙ ix.point q within;
      all_points = λ i less h. ix.all_points i less (sym (ap is_point_in (same i less)) ∙ h);
      rising = ix.rising;
      under = ix.under;
      range = λ q within. ap is_range_in (same (get_or ranges q 0) (ix.under q within)) ∙ ix.range q within;
      all_ranges = λ i less h. ix.all_ranges i less (sym (ap is_range_in (same i less)) ∙ h);
    }
