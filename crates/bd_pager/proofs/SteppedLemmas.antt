-- What is known of nodes after a step.
use Rattle.std.proofs.Common.{◌≡◌, ℕ, zero, suc, ◌-◌, ◌<◌, ◌≤◌, Bool, List, [], ◌∷◌, Option, None, Some, length, eqb, refl, sym, ap, subst, ◌∙◌, arith, inl, inr}
use Rattle.std.specs.Prelude.{slice_get}
use Rattle.std.specs.Global.{Global}
use Rattle.std.specs.Option.{option_map, unwrap_or}
use Rattle.std.specs.declared.rc.Rc.{Rc}
use Rattle.std.proofs.lemmas.Bool.{cases_lt, cond-true, cond-false, eq-eqb, ne_eqb}
use Rattle.std.proofs.lemmas.Option.{none-some, same_Some, slice_get_within}
use Rattle.bd_node.specs.declared.node.Node.{Node}
use Rattle.bd_node.specs.declared.node.Step.{Step}
use Rattle.bd_node.specs.Nodes.{level_of}
use Rattle.bd_node.specs.Tables.{Table, IsKept, IsTable}
use Rattle.bd_node.specs.Steps.{changed_at, given, level_or, level_after, IsThere, IsPut, IsChange, IsStep}
use Rattle.bd_node.proofs.Lookup.{each_at}
use Rattle.bd_node.proofs.Stepping.{given-old, given-new, changed_has, by_given}
use Rattle.bd_counts.specs.Naming.{times_among}
use Rattle.bd_counts.specs.Counting.{IsRecount}
use Rattle.bd_pager.specs.declared.place.Place.TheVariants.{Memory}
use Rattle.bd_pager.specs.declared.place.Spot.{Spot}
use Rattle.bd_pager.specs.Places.{Spots, refs_in, level_in}
use Rattle.bd_pager.specs.Stepping.{held, own_slot_in, with_put, with_count, without_all}

-- ---- parts

count_set : (count : Option ℕ) (s : Spot) (n : ℕ) → n ≡ s.refs → with_count count (Some s) ≡ Some (record s { refs = unwrap_or count n })
count_set None s n is = λ i. Some (record s { refs = sym is i })
count_set (Some c) s n is = refl

count_none : (count : Option ℕ) → with_count count None ≡ None
count_none None = refl
count_none (Some c) = refl

some_mapped : (o : Option (Rc Node Global)) (n : Node) → option_map held o ≡ Some n → (node : Rc Node Global) × (o ≡ Some node) × (node.value ≡ n)
some_mapped None n is = absurd (none-some n is)
some_mapped (Some node) n is = (node, refl, same_Some node.value n is)

pub none_mapped : (o : Option (Rc Node Global)) → option_map held o ≡ None → o ≡ None
none_mapped None is = refl
none_mapped (Some node) is = absurd (none-some node.value (sym is))

spot_there : (o : Option Spot) → 1 ≤ refs_in o → (s : Spot) × (o ≡ Some s)
spot_there None kept = absurd (omega (arith, kept))
spot_there (Some s) kept = (s, refl)

pub slice_get_some : {X : Type 0} (xs : List X) (k : ℕ) → k < length xs → (x : X) × (slice_get xs k ≡ Some x)
slice_get_some [] k low = absurd (omega (arith, low))
slice_get_some (x ∷ xs) zero low = (x, refl)
slice_get_some (x ∷ xs) (suc k) low = slice_get_some xs k (omega (arith, low))

by_spot : (P : Type 0) (o : Option Spot) → (o ≡ None → P) → ((s : Spot) → o ≡ Some s → P) → P
by_spot P None none some = none refl
by_spot P (Some s) none some = some s refl

-- ---- what a step gives

module _ (t : Table) (step : Step) (table : IsTable t) (ok : IsStep t step) where
  -- what is given is there
  pub given_there : (id : ℕ) (n : Node) → given t.next step id ≡ Some n → IsThere t step id
  given_there id n some = elim (cases_lt id t.next) [
    | inl low ↦ inl (changed_has (IsChange t step) step.changes id n ok.changes (sym (given-old t.next step id low) ∙ some)).kept
    | inr high ↦ (let within : id - t.next < length step.made = slice_get_within step.made (id - t.next) n (sym (given-new t.next step id high) ∙ some) in
        inr (high, omega (arith, within, high)))
  ]

  -- and may be
  pub given_put : (id : ℕ) (n : Node) → given t.next step id ≡ Some n → IsPut t step n
  given_put id n some = elim (cases_lt id t.next) [
    | inl low ↦ (changed_has (IsChange t step) step.changes id n ok.changes (sym (given-old t.next step id low) ∙ some)).put
    | inr high ↦ each_at (IsPut t step) step.made (id - t.next) n ok.made (sym (given-new t.next step id high) ∙ some)
  ]

  -- what is changed is kept
  pub given_kept : (id : ℕ) (n : Node) → id < t.next → given t.next step id ≡ Some n → IsKept t id × (changed_at step.changes id ≡ Some n)
  given_kept id n low some =
      let changed : changed_at step.changes id ≡ Some n = sym (given-old t.next step id low) ∙ some in
      ((changed_has (IsChange t step) step.changes id n ok.changes changed).kept, changed)

-- ---- what is known after it

-- a node goes, or is put, or stays as it was but for its count
pub data Outcome (spare : List Bool) (t : Table) (step : Step) (spots new : Spots) (put : ℕ → Option (Rc Node Global)) (counts : ℕ → ℕ) (id : ℕ) : Type 0 where
  goes : counts id ≡ 0 → new id ≡ None → Outcome spare t step spots new put counts id
  comes : (node : Rc Node Global) → put id ≡ Some node → given t.next step id ≡ Some node.value → 1 ≤ counts id
      → new id ≡ Some (record { refs = counts id; level = level_of node.value; place = Memory node (own_slot_in spare (spots id)) }) → Outcome spare t step spots new put counts id
  remains : (s : Spot) → spots id ≡ Some s → put id ≡ None → given t.next step id ≡ None → 1 ≤ counts id → new id ≡ Some (record s { refs = counts id }) → Outcome spare t step spots new put counts id

-- spots after a step, with these nodes put, these counts and without these ids
pub record AreStepped (spare : List Bool) (t : Table) (step : Step) (spots new : Spots) (put : ℕ → Option (Rc Node Global)) (count : ℕ → Option ℕ) (gone : List ℕ) : Type 0 where
  pub table : IsTable t
  pub ok : IsStep t step
  pub recount : IsRecount t step (λ c. unwrap_or (count c) (t.count c)) gone
  pub given_is : (id : ℕ) → option_map held (put id) ≡ given t.next step id
  pub refs : (id : ℕ) → refs_in (spots id) ≡ t.count id
  pub levels : (id : ℕ) → level_in (spots id) ≡ t.level id
  pub used : (id : ℕ) (s : Spot) → spots id ≡ Some s → 1 ≤ s.refs
  pub each : (id : ℕ) → new id ≡ without_all gone id (with_count (count id) (with_put spare (put id) (spots id)))

module _ (spare : List Bool) (t : Table) (step : Step) (spots new : Spots) (put : ℕ → Option (Rc Node Global)) (count : ℕ → Option ℕ) (gone : List ℕ) (h : AreStepped spare t step spots new put count gone) where
  abbrev counts : ℕ → ℕ
  counts c = unwrap_or (count c) (t.count c)

  is_gone : (id : ℕ) → 1 ≤ times_among gone id → new id ≡ None
  is_gone id one = h.each id ∙ cond-false (eqb (times_among gone id) 0) _ None (ne_eqb (times_among gone id) 0 (λ e. omega (arith, one, e)))

  pub is_left : (id : ℕ) → times_among gone id ≡ 0 → new id ≡ with_count (count id) (with_put spare (put id) (spots id))
  is_left id none = h.each id ∙ cond-true (eqb (times_among gone id) 0) _ None (eq-eqb (times_among gone id) 0 none)

  -- nothing is known of what isn't there
  not_there : (id : ℕ) → (IsThere t step id → ⊥) → with_count (count id) (with_put spare (put id) (spots id)) ≡ None
  not_there id out =
      let no_spot : spots id ≡ None = by_spot (spots id ≡ None) (spots id) (λ e. e)
      (λ s there. absurd (out (inl (omega (arith, h.used id s there, h.refs id, ap refs_in there))))) in
      let no_put : put id ≡ None = none_mapped (put id) (by_given (option_map held (put id) ≡ None) (option_map held (put id)) (λ e. e)
      (λ n some. absurd (out (given_there t step h.table h.ok id n (sym (h.given_is id) ∙ some))))) in
      ap (λ (o : Option (Rc Node Global)). with_count (count id) (with_put spare o (spots id))) no_put
      ∙ ap (λ (o : Option Spot). with_count (count id) o) no_spot ∙ count_none (count id)

  -- a count of 0
  uncounted : (id : ℕ) → counts id ≡ 0 → new id ≡ None
  uncounted id nought = elim (cases_lt 0 (times_among gone id)) [
    | inl one ↦ is_gone id (omega (arith, one))
    | inr none ↦ is_left id (omega (arith, none)) ∙ not_there id (λ there. omega (arith, none, h.recount.goes id there nought))
  ]

  left_of : (id : ℕ) → 1 ≤ counts id → times_among gone id ≡ 0
  left_of id some = elim (cases_lt 0 (times_among gone id)) [
    | inl one ↦ absurd (omega (arith, some, (h.recount.only id (omega (arith, one))).1))
    | inr none ↦ omega (arith, none)
  ]

  old_there : (id : ℕ) → IsThere t step id → given t.next step id ≡ None → (s : Spot) × (spots id ≡ Some s)
  old_there id there none = elim there [
    | inl kept ↦ spot_there (spots id) (omega (arith, kept, h.refs id))
    | inr made ↦
        let some = slice_get_some step.made (id - t.next) (omega (arith, made.0, made.1)) in
        absurd (none-some some.0 (sym none ∙ given-new t.next step id made.0 ∙ some.1))
  ]

  pub outcome : (id : ℕ) → Outcome spare t step spots new put counts id
  outcome id = elim (cases_lt 0 (counts id)) [
    | inr nought ↦ goes (omega (arith, nought)) (uncounted id (omega (arith, nought)))
    | inl some ↦
        let one : 1 ≤ counts id = omega (arith, some) in
        let left : new id ≡ with_count (count id) (with_put spare (put id) (spots id)) = is_left id (left_of id one) in
        by_given (Outcome spare t step spots new put counts id) (given t.next step id)
        (λ none.
        let no_put : put id ≡ None = none_mapped (put id) (h.given_is id ∙ none) in
        let old = old_there id (h.recount.there id one) none in
        remains old.0 old.1 no_put none one
        (left ∙ ap (λ (o : Option (Rc Node Global)). with_count (count id) (with_put spare o (spots id))) no_put
        ∙ ap (λ (o : Option Spot). with_count (count id) o) old.1
        ∙ count_set (count id) old.0 (t.count id) (sym (h.refs id) ∙ ap refs_in old.1)))
        (λ n is.
        let some_put = some_mapped (put id) n (h.given_is id ∙ is) in
        let node : Rc Node Global = some_put.0 in
        comes node some_put.1 (is ∙ ap Some (sym some_put.2)) one
        (left ∙ ap (λ (o : Option (Rc Node Global)). with_count (count id) (with_put spare o (spots id))) some_put.1
        ∙ count_set (count id) (record { refs = refs_in (spots id); level = level_of node.value; place = Memory node (own_slot_in spare (spots id)) }) (t.count id) (sym (h.refs id))))
  ]

  -- ---- counts, levels and shapes

  pub new_refs : (id : ℕ) → refs_in (new id) ≡ counts id
  new_refs id = elim (outcome id) [
    | goes nought none ↦ ap refs_in none ∙ sym nought
    | comes node is gives one there ↦ ap refs_in there
    | remains s was is none one there ↦ ap refs_in there
  ]

  pub new_used : (id : ℕ) (s : Spot) → new id ≡ Some s → 1 ≤ s.refs
  new_used id s there = elim (outcome id) [
    | goes nought none ↦ absurd (none-some s (sym none ∙ there))
    | comes node is gives one at ↦ omega (arith, one, ap refs_in (sym at ∙ there))
    | remains old was is none one at ↦ omega (arith, one, ap refs_in (sym at ∙ there))
  ]

  pub new_level : (id : ℕ) → 1 ≤ counts id → level_in (new id) ≡ level_after t step id
  new_level id some = elim (outcome id) [
    | goes nought none ↦ absurd (omega (arith, some, nought))
    | comes node is gives one at ↦ ap level_in at ∙ sym (ap (λ (o : Option Node). level_or o (t.level id)) gives)
    | remains s was is none one at ↦ ap level_in at ∙ sym (ap level_in was) ∙ h.levels id ∙ sym (ap (λ (o : Option Node). level_or o (t.level id)) none)
  ]

  -- what holds of nodes that are put, and of those before whatever their counts, holds of all
  pub each_stepped : (P : ℕ → Spot → Type 0)
      → ((id : ℕ) (node : Rc Node Global) → put id ≡ Some node → given t.next step id ≡ Some node.value → IsPut t step node.value → P id (record { refs = counts id; level = level_of node.value; place = Memory node (own_slot_in spare (spots id)) }))
      → ((id : ℕ) (s : Spot) → spots id ≡ Some s → put id ≡ None → given t.next step id ≡ None → P id (record s { refs = counts id }))
      → (id : ℕ) (s : Spot) → new id ≡ Some s → P id s
  each_stepped P come stay id s there = elim (outcome id) [
    | goes nought none ↦ absurd (none-some s (sym none ∙ there))
    | comes node is gives one at ↦ subst (λ (x : Spot). P id x) (same_Some _ s (sym at ∙ there)) (come id node is gives (given_put t step h.table h.ok id node.value gives))
    | remains old was is none one at ↦ subst (λ (x : Spot). P id x) (same_Some _ s (sym at ∙ there)) (stay id old was is none)
  ]
