-- Nodes that were changed in memory.
use Rattle.std.proofs.Common.{◌≡◌, ℕ, ◌⊎◌, Bool, true, false, cond, eqb, nat_eq, IsTrue, List, Option, None, Some, refl, sym, ap, subst, ◌∙◌, inl, inr}
use Rattle.std.specs.Prelude.{IsSome, slice_get}
use Rattle.std.specs.Global.{Global}
use Rattle.std.specs.declared.rc.Rc.{Rc}
use Rattle.std.proofs.lemmas.Bool.{cases_eq, cond-true, cond-false, eq-eqb, ne_eqb}
use Rattle.std.proofs.lemmas.Option.{same_Some}
use Rattle.bd_device.specs.Blocks.{Image}
use Rattle.bd_node.specs.declared.node.Node.{Node}
use Rattle.bd_pager.specs.declared.place.Place.{Place}
use Rattle.bd_pager.specs.declared.place.Place.TheVariants.{Memory, Slot}
use Rattle.bd_pager.specs.declared.place.Spot.{Spot}
use Rattle.bd_slots.specs.Slots.{slot_if}
use Rattle.bd_pager.specs.Changing.{own_slot, IsChangedSpot, IsChangedAt}
use Rattle.bd_pager.specs.Places.{Spots, refs_in, level_in, copy_at, node_at, node_of, IsBadPlace, IsBadSpot, NoneTurnsBad}
use Rattle.bd_pager.specs.Pagers.{is_changed, is_changed_place, IsRightPlace, IsPlaceIn}

pub some_there : (o : Option Spot) (s : Spot) → o ≡ Some s → IsSome o
some_there o s there = subst (λ (v : Option Spot). IsSome v) (sym there) refl

pub changed_one : (spare : List Bool) (id : ℕ) (n : Node) (spots new : Spots) (was now : Spot) → spots id ≡ Some was → new id ≡ Some now → IsChangedSpot spare n was now
    → ((q : ℕ) → nat_eq id q ≡ false → new q ≡ spots q) → IsChangedAt spare id n spots new
changed_one spare id n spots new was now there here changed others = record {
  was = was;
  there = there;
  now = now;
  here = here;
  changed = changed;
  others = λ i other. others i (ne_eqb id i (λ e. other (sym e)));
}

-- a slot that is its own is a spare one
spare_slot : (spare : List Bool) (slot : ℕ) (node : Rc Node Global) (o : Option Bool) → slice_get spare slot ≡ o → IsPlaceIn spare (Memory node (slot_if o slot))
spare_slot spare slot node None e = tt
spare_slot spare slot node (Some false) e = tt
spare_slot spare slot node (Some true) e = e

pub own_in : (spare : List Bool) (p : Place) (node : Rc Node Global) → IsPlaceIn spare p → IsPlaceIn spare (Memory node (own_slot spare p))
own_in spare (Memory m None) node within = tt
own_in spare (Memory m (Some slot)) node within = within
own_in spare (Slot slot copy) node within = spare_slot spare slot node (slice_get spare slot) refl

module _ (spare : List Bool) (id : ℕ) (n : Node) (spots new : Spots) (h : IsChangedAt spare id n spots new) where
  -- what is the same of the changed one is the same of all
  each_same : {X : Type 0} (F : Option Spot → X) → F (Some h.now) ≡ F (Some h.was) → (i : ℕ) → F (new i) ≡ F (spots i)
  each_same {X} F same i = elim (cases_eq i id) [
    | inl here ↦ subst (λ (k : ℕ). F (new k) ≡ F (spots k)) (sym here) (ap F h.here ∙ same ∙ sym (ap F h.there))
    | inr other ↦ ap F (h.others i other)
  ]

  pub same_refs : (i : ℕ) → refs_in (new i) ≡ refs_in (spots i)
  same_refs i = each_same refs_in h.changed.refs i

  pub same_level : (i : ℕ) → level_in (new i) ≡ level_in (spots i)
  same_level i = each_same level_in h.changed.level i

  -- what holds of the changed one, and of those before, holds of all
  pub each_kept : (P : ℕ → Spot → Type 0) → P id h.now → ((i : ℕ) (s : Spot) → spots i ≡ Some s → P i s) → (i : ℕ) (s : Spot) → new i ≡ Some s → P i s
  each_kept P own others i s there = elim (cases_eq i id) [
    | inl here ↦
        let e : h.now ≡ s = same_Some h.now s (sym h.here ∙ ap new (sym here) ∙ there) in
        subst (λ (k : ℕ). P k s) (sym here) (subst (λ (x : Spot). P id x) e own)
    | inr other ↦ others i s (sym (h.others i other) ∙ there)
  ]

  pub copy_now : copy_at h.now.place ≡ Some n
  copy_now = ap copy_at h.changed.place.place ∙ ap Some h.changed.place.value

  node_now : (image : Image) → node_at image h.now.place ≡ Some n
  node_now image = ap (node_at image) h.changed.place.place ∙ ap Some h.changed.place.value

  changed_now : is_changed spare (Some h.now) ≡ true
  changed_now = ap (is_changed_place spare) h.changed.place.place

  pub changed_before : (i : ℕ) → IsTrue (is_changed spare (new i)) → IsTrue (is_changed spare (spots i)) ⊎ (i ≡ id)
  changed_before i on = elim (cases_eq i id) [
    | inl here ↦ inr here
    | inr other ↦ inl (subst (λ (o : Option Spot). IsTrue (is_changed spare o)) (h.others i other) on)
  ]

  pub changed_stays : (i : ℕ) → IsTrue (is_changed spare (spots i)) → IsTrue (is_changed spare (new i))
  changed_stays i on = elim (cases_eq i id) [
    | inl here ↦ subst (λ (k : ℕ). IsTrue (is_changed spare (new k))) (sym here) (subst (λ (o : Option Spot). IsTrue (is_changed spare o)) (sym h.here) changed_now)
    | inr other ↦ subst (λ (o : Option Spot). IsTrue (is_changed spare o)) (sym (h.others i other)) on
  ]

  pub node_is : (image : Image) (i : ℕ) → node_of image (new i) ≡ cond (eqb id i) (Some n) (node_of image (spots i))
  node_is image i = elim (cases_eq id i) [
    | inl same ↦ ap (node_of image) (ap new (sym same) ∙ h.here) ∙ node_now image ∙ sym (cond-true (eqb id i) (Some n) (node_of image (spots i)) (eq-eqb id i same))
    | inr other ↦ ap (node_of image) (h.others i (λ e. other (sym e))) ∙ sym (cond-false (eqb id i) (Some n) (node_of image (spots i)) (ne_eqb id i other))
  ]

  pub still_right : (image : Image) → ((i : ℕ) (s : Spot) → spots i ≡ Some s → IsRightPlace image s.place) → (i : ℕ) (s : Spot) → new i ≡ Some s → IsRightPlace image s.place
  still_right image right = each_kept (λ i s. IsRightPlace image s.place) (subst (λ (p : Place). IsRightPlace image p) (sym h.changed.place.place) tt) right

  pub place_now : IsPlaceIn spare h.was.place → IsPlaceIn spare h.now.place
  place_now within = subst (λ (p : Place). IsPlaceIn spare p) (sym h.changed.place.place) (own_in spare h.was.place h.changed.place.node within)

  -- no block becomes bad
  pub changed_bad : (contents : Option Image) → NoneTurnsBad contents spots contents new
  changed_bad contents i b bad = elim (cases_eq i id) [
    | inl here ↦ absurd (subst (λ (p : Place). IsBadPlace contents h.now.level p b) h.changed.place.place (subst (λ (o : Option Spot). IsBadSpot contents o b) (ap new here ∙ h.here) bad))
    | inr other ↦ subst (λ (o : Option Spot). IsBadSpot contents o b) (h.others i other) bad
  ]
