-- What nodes count for while a plan is carried out.
use Rattle.std.proofs.Common.{◌≡◌, ℕ, Bool, cond, eqb, List, Option, None, Some, refl, sym, ap, subst, ◌∙◌, inl, inr}
use Rattle.std.specs.Prelude.{is_some}
use Rattle.std.specs.Global.{Global}
use Rattle.std.specs.declared.rc.Rc.{Rc}
use Rattle.std.proofs.lemmas.Bool.{cases_eq, cond-true, cond-false, eq-eqb, ne_eqb}
use Rattle.std.proofs.lemmas.Option.{none-some, same_Some}
use Rattle.bd_node.specs.declared.node.Node.{Node}
use Rattle.bd_pager.specs.declared.place.Place.{Place}
use Rattle.bd_pager.specs.declared.place.Place.TheVariants.{Memory, Slot}
use Rattle.bd_pager.specs.declared.place.Spot.{Spot}
use Rattle.bd_pager.specs.declared.usage.Usage.{Usage}
use Rattle.bd_pager.specs.Changing.{own_slot, IsChangedAt}
use Rattle.bd_pager.specs.Counting.{AreUnused, is_in_memory_at, is_in_memory, has_own, IsListedMore, IsTallied}
use Rattle.bd_pager.specs.Pagers.{is_changed, IsPlaceIn}
use Rattle.bd_pager.specs.Places.{Spots, slot_at, slot_in}
use Rattle.bd_pager.specs.Stepping.{bare, copied, with_copy, moved_copy, with_count}
use Rattle.bd_pager.proofs.CopyLemmas.{bare_changed, copied_changed, bare_in, copied_in, same_moved, each_moved}
use Rattle.bd_pager.proofs.TallyLemmas.{same_unused, same_tallied}

-- ---- copies that come and go

bare_slot : (p : Place) → slot_at (bare p) ≡ slot_at p
bare_slot (Memory node slot) = refl
bare_slot (Slot slot copy) = refl

copied_slot : (node : Rc Node Global) (p : Place) → slot_at (copied node p) ≡ slot_at p
copied_slot node (Memory own slot) = refl
copied_slot node (Slot slot None) = refl
copied_slot node (Slot slot (Some own)) = refl

bare_memory : (p : Place) → is_in_memory_at (bare p) ≡ is_in_memory_at p
bare_memory (Memory node slot) = refl
bare_memory (Slot slot copy) = refl

copied_memory : (node : Rc Node Global) (p : Place) → is_in_memory_at (copied node p) ≡ is_in_memory_at p
copied_memory node (Memory own slot) = refl
copied_memory node (Slot slot None) = refl
copied_memory node (Slot slot (Some own)) = refl

bare_own : (spare : List Bool) (p : Place) → own_slot spare (bare p) ≡ own_slot spare p
bare_own spare (Memory node slot) = refl
bare_own spare (Slot slot copy) = refl

copied_own : (spare : List Bool) (node : Rc Node Global) (p : Place) → own_slot spare (copied node p) ≡ own_slot spare p
copied_own spare node (Memory own slot) = refl
copied_own spare node (Slot slot None) = refl
copied_own spare node (Slot slot (Some own)) = refl

-- first the old root's copy goes, and then the new one's comes
pub moved_both : (spots mid new : Spots) (old root : ℕ) (copy : Option (Rc Node Global)) → ((id : ℕ) → mid id ≡ moved_copy old root None id (spots id)) → ((id : ℕ) → new id ≡ cond (eqb root id) (with_copy copy (mid id)) (mid id))
    → (id : ℕ) → new id ≡ moved_copy old root copy id (spots id)
moved_both spots mid new old root copy first then_comes id = then_comes id ∙ elim (cases_eq id root) [
  | inl same ↦
      cond-true (eqb root id) (with_copy copy (mid id)) (mid id) (eq-eqb root id (sym same))
      ∙ ap (λ (o : Option Spot). with_copy copy o) (first id ∙ cond-true (eqb id root) (spots id) _ (eq-eqb id root same))
      ∙ sym (cond-true (eqb id root) (with_copy copy (spots id)) _ (eq-eqb id root same))
  | inr other ↦
      cond-false (eqb root id) (with_copy copy (mid id)) (mid id) (ne_eqb root id (λ e. other (sym e)))
      ∙ first id ∙ cond-false (eqb id root) (spots id) _ (ne_eqb id root other)
      ∙ sym (cond-false (eqb id root) (with_copy copy (spots id)) _ (ne_eqb id root other))
]

module _ (spots new : Spots) (old root : ℕ) (copy : Option (Rc Node Global)) (is : (id : ℕ) → new id ≡ moved_copy old root copy id (spots id)) (u : Usage) where
  moved_as : {X : Type 0} (F : Option Spot → X) → ((s : Spot) → F (Some (record s { place = bare s.place })) ≡ F (Some s)) → ((node : Rc Node Global) (s : Spot) → F (Some (record s { place = copied node s.place })) ≡ F (Some s))
      → (id : ℕ) → F (new id) ≡ F (spots id)
  moved_as F without within id = ap F (is id) ∙ same_moved spots old root copy F (λ i s there. without s) (λ node s copied_too there. within node s) id

  moved_slots : (id : ℕ) → slot_in (new id) ≡ slot_in (spots id)
  moved_slots = moved_as slot_in (λ s. bare_slot s.place) (λ node s. copied_slot node s.place)

  moved_changed : (id : ℕ) → is_changed u.spare (new id) ≡ is_changed u.spare (spots id)
  moved_changed = moved_as (is_changed u.spare) (λ s. bare_changed u.spare s.place) (λ node s. copied_changed u.spare node s.place)

  moved_memory : (id : ℕ) → is_in_memory (new id) ≡ is_in_memory (spots id)
  moved_memory = moved_as is_in_memory (λ s. bare_memory s.place) (λ node s. copied_memory node s.place)

  moved_own : (id : ℕ) → has_own u.spare (new id) ≡ has_own u.spare (spots id)
  moved_own = moved_as (has_own u.spare) (λ s. ap is_some (bare_own u.spare s.place)) (λ node s. ap is_some (copied_own u.spare node s.place))

  moved_in : ((id : ℕ) (s : Spot) → spots id ≡ Some s → IsPlaceIn u.spare s.place) → (id : ℕ) (s : Spot) → new id ≡ Some s → IsPlaceIn u.spare s.place
  moved_in slots id s there =
      each_moved spots old root copy (λ i x. IsPlaceIn u.spare x.place) (λ i x. bare_in u.spare x.place) (λ node x copied_too at. copied_in u.spare node x.place) slots id s (sym (is id) ∙ there)

  pub moved_unused : AreUnused u.spare u.free spots → AreUnused u.spare u.free new
  moved_unused was = same_unused 0 spots new u moved_slots moved_changed moved_memory moved_own (moved_in was.slots) was

  pub moved_tallied : (next : ℕ) → IsTallied next spots u → IsTallied next new u
  moved_tallied next was = same_tallied next spots new u moved_slots moved_changed moved_memory moved_own (moved_in was.unused.slots) was

-- ---- counts

count_as : {X : Type 0} (F : Option Spot → X) (count : Option ℕ) (o : Option Spot) → ((s : Spot) (n : ℕ) → F (Some (record s { refs = n })) ≡ F (Some s)) → F (with_count count o) ≡ F o
count_as F None o same = refl
count_as F (Some c) None same = refl
count_as F (Some c) (Some s) same = same s c

count_kept : (P : Spot → Type 0) (count : Option ℕ) (o : Option Spot) → ((s : Spot) (n : ℕ) → P s → P (record s { refs = n })) → ((s : Spot) → o ≡ Some s → P s) → (s : Spot) → with_count count o ≡ Some s → P s
count_kept P None o same all s is = all s is
count_kept P (Some c) None same all s is = absurd (none-some s is)
count_kept P (Some c) (Some was) same all s is = subst P (same_Some _ s is) (same was c (all was refl))

module _ (spots new : Spots) (count : ℕ → Option ℕ) (is : (id : ℕ) → new id ≡ with_count (count id) (spots id)) (u : Usage) where
  counted_as : {X : Type 0} (F : Option Spot → X) → ((s : Spot) (n : ℕ) → F (Some (record s { refs = n })) ≡ F (Some s)) → (id : ℕ) → F (new id) ≡ F (spots id)
  counted_as F same id = ap F (is id) ∙ count_as F (count id) (spots id) same

  counted_in : ((id : ℕ) (s : Spot) → spots id ≡ Some s → IsPlaceIn u.spare s.place) → (id : ℕ) (s : Spot) → new id ≡ Some s → IsPlaceIn u.spare s.place
  counted_in slots id s there = count_kept (λ x. IsPlaceIn u.spare x.place) (count id) (spots id) (λ x n within. within) (slots id) s (sym (is id) ∙ there)

  pub counted_unused : AreUnused u.spare u.free spots → AreUnused u.spare u.free new
  counted_unused was = same_unused 0 spots new u (counted_as slot_in (λ s n. refl)) (counted_as (is_changed u.spare) (λ s n. refl)) (counted_as is_in_memory (λ s n. refl)) (counted_as (has_own u.spare) (λ s n. refl)) (counted_in was.slots) was

  pub counted_tallied : (next : ℕ) → IsTallied next spots u → IsTallied next new u
  counted_tallied next was =
      same_tallied next spots new u (counted_as slot_in (λ s n. refl)) (counted_as (is_changed u.spare) (λ s n. refl)) (counted_as is_in_memory (λ s n. refl)) (counted_as (has_own u.spare) (λ s n. refl)) (counted_in was.unused.slots) was

-- ---- memory that was taken before

-- the same spots, and at most more ids that are listed
pub spare_as : (old new : Usage) → IsListedMore old new → new.spare ≡ old.spare
spare_as old new more = ap (λ (u : Usage). u.spare) more.same

pub unused_as : (old new : Usage) (spots also : Spots) → IsListedMore old new → ((id : ℕ) → also id ≡ spots id) → AreUnused old.spare old.free spots → AreUnused new.spare new.free also
unused_as old new spots also more same was =
    let is : spots ≡ also = λ i id. sym (same id) i in
    subst (λ (u : Usage). AreUnused u.spare u.free also) (sym more.same) (subst (λ (s : Spots). AreUnused old.spare old.free s) is was)

pub changed_from : (spare : List Bool) (id : ℕ) (n : Node) (spots also new : Spots) → ((i : ℕ) → also i ≡ spots i) → IsChangedAt spare id n also new → IsChangedAt spare id n spots new
changed_from spare id n spots also new same h =
    let is : also ≡ spots = λ j i. same i j in
    subst (λ (s : Spots). IsChangedAt spare id n s new) is h
