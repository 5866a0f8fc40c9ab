-- What nodes count for, and which slots they have, when some of them change.
use Rattle.std.proofs.Common.{◌≡◌, ℕ, ◌+◌, ◌<◌, Bool, cond, List, Option, None, Some, IfSome, IsTrue, refl, sym, ap, subst, ◌∙◌, arith, inl, inr}
use Rattle.std.specs.Global.{Global}
use Rattle.std.specs.declared.rc.Rc.{Rc}
use Rattle.std.proofs.lemmas.Bool.{cases_eq}
use Rattle.std.proofs.lemmas.Option.{same_Some}
use Rattle.bd_slots.specs.Slots.{IsFree, IsHeld, free_count}
use Rattle.bd_node.specs.declared.node.Node.{Node}
use Rattle.bd_pager.specs.declared.place.Spot.{Spot}
use Rattle.bd_pager.specs.declared.usage.Tally.{Tally}
use Rattle.bd_pager.specs.declared.usage.Usage.{Usage}
use Rattle.bd_pager.specs.Changing.{own_slot}
use Rattle.bd_pager.specs.Counting.{IsUnused, AreUnused, is_in_memory, has_own, IsListed, IsTallied, tally_of, recounted, dropped}
use Rattle.bd_pager.specs.Pagers.{is_changed, IsPlaceIn}
use Rattle.bd_pager.specs.Places.{Spots, slot_in}
use Rattle.bd_pager.specs.Stepping.{own_slot_in, put_spot, put_usage}
use Rattle.bd_pager.proofs.ChangingLemmas.{own_in}
use Rattle.bd_pager.proofs.CountingLemmas.{count_moved, count_again, count_kept, own_within, spare_own, unused_moved, place_there, own_held, dropped_unused, dropped_tallied}

-- ---- numbers

-- 1 where it is so
abbrev flag : Bool → ℕ
flag b = cond b 1 0

-- one spot counts otherwise, and the others as they did
module _ (next id : ℕ) (spots new : Spots) (low : id < next) (others : (i : ℕ) → (i ≡ id → ⊥) → new i ≡ spots i) where
  pub retallied : (u : Usage) (free : List Bool) → AreUnused u.spare free new → free_count free + flag (has_own u.spare (new id)) ≡ free_count u.free + flag (has_own u.spare (spots id))
      → (IsTrue (is_in_memory (new id)) → IsListed u.listed id) → IsTallied next spots u
      → IsTallied next new (recounted (tally_of u.spare (spots id)) (tally_of u.spare (new id)) (record u { free = free }))
  retallied u free unused frees listed was = record {
    unused = unused;
    counted = record {
      fits = was.counted.fits;
      changed = count_again (is_changed u.spare) next id u.changed spots new was.counted.fits low others was.counted.changed;
      in_memory = count_again is_in_memory next id u.in_memory spots new was.counted.fits low others was.counted.in_memory;
      free = omega (arith, was.counted.free, frees, count_moved (has_own u.spare) next id spots new low others);
    };
    listed = λ i on. elim (cases_eq i id) [
      | inl same ↦ subst (λ (k : ℕ). IsListed u.listed k) (sym same) (listed (subst (λ (k : ℕ). IsTrue (is_in_memory (new k))) same on))
      | inr other ↦ was.listed i (subst (λ (o : Option Spot). IsTrue (is_in_memory o)) (others i other) on)
    ];
  }

-- ---- slots of one's own

module _ (spare : List Bool) where
  -- a slot of its own is its slot
  own_back : (o : Option Spot) (slot : ℕ) → own_slot_in spare o ≡ Some slot → slot_in o ≡ Some slot
  own_back None slot is = is
  own_back (Some s) slot is = own_within spare s.place slot is

  -- a slot that is spare is its own
  own_forth : (o : Option Spot) (slot : ℕ) → IsFree spare slot → slot_in o ≡ Some slot → own_slot_in spare o ≡ Some slot
  own_forth None slot free is = is
  own_forth (Some s) slot free is = spare_own spare s.place slot free is

  own_put : (node : Rc Node Global) (o : Option Spot) → has_own spare (Some (put_spot spare node o)) ≡ has_own spare o
  own_put node None = refl
  own_put node (Some s) = refl

  put_slot : (node : Rc Node Global) (o : Option Spot) → slot_in (Some (put_spot spare node o)) ≡ own_slot_in spare o
  put_slot node None = refl
  put_slot node (Some s) = refl

  pub put_in : (node : Rc Node Global) (o : Option Spot) → IfSome o (λ s. IsPlaceIn spare s.place) → IsPlaceIn spare (put_spot spare node o).place
  put_in node None within = tt
  put_in node (Some s) within = own_in spare s.place node within

pub place_within : (spare free : List Bool) (spots : Spots) → AreUnused spare free spots → (id : ℕ) → IfSome (spots id) (λ s. IsPlaceIn spare s.place)
place_within spare free spots unused id = place_there spare spots id (spots id) refl unused.slots

-- ---- a node is put

module _ (spare free : List Bool) (id : ℕ) (node : Rc Node Global) (spots new : Spots) (others : (i : ℕ) → (i ≡ id → ⊥) → new i ≡ spots i) (here : new id ≡ Some (put_spot spare node (spots id))) (was : AreUnused spare free spots) where
  pub put_unused : AreUnused spare free new
  put_unused =
      unused_moved spare free id spots new others
      (λ s there. subst (λ (x : Spot). IsPlaceIn spare x.place) (same_Some (put_spot spare node (spots id)) s (sym here ∙ there)) (put_in spare node (spots id) (place_within spare free spots was id)))
      (λ slot is. own_back spare (spots id) slot (sym (put_slot spare node (spots id)) ∙ sym (ap slot_in here) ∙ is))
      (λ slot spare_too is. ap slot_in here ∙ put_slot spare node (spots id) ∙ own_forth spare (spots id) slot spare_too is)
      was

-- and what is used then
pub put_tallied : (u : Usage) (next id : ℕ) (node : Rc Node Global) (spots new : Spots) → ((i : ℕ) → (i ≡ id → ⊥) → new i ≡ spots i) → new id ≡ Some (put_spot u.spare node (spots id)) → id < next → IsListed u.listed id
    → IsTallied next spots u → IsTallied next new (put_usage (spots id) u)
put_tallied u next id node spots new others here low listed was =
    subst (λ (t : Tally). IsTallied next new (recounted (tally_of u.spare (spots id)) t u)) (ap (tally_of u.spare) here)
    (retallied next id spots new low others u u.free (put_unused u.spare u.free id node spots new others here was.unused)
    (ap (λ (b : Bool). free_count u.free + flag b) (ap (has_own u.spare) here ∙ own_put u.spare node (spots id))) (λ on. listed) was)

-- ---- a node goes, if there is one

module _ (u : Usage) (id : ℕ) (spots new : Spots) (others : (i : ℕ) → (i ≡ id → ⊥) → new i ≡ spots i) (here : new id ≡ None) where
  gone_none : spots id ≡ None → new ≡ spots
  gone_none none = λ j i. (let same : (k : ℕ) → new k ≡ spots k = λ k. elim (cases_eq k id) [
    | inl is ↦ ap new is ∙ here ∙ sym none ∙ ap spots (sym is)
    | inr other ↦ others k other
  ] in same i) j

  unused_as : (o : Option Spot) → spots id ≡ o → AreUnused u.spare u.free spots → AreUnused (dropped u o).spare (dropped u o).free new
  unused_as None is was = subst (λ (s : Spots). AreUnused u.spare u.free s) (sym (gone_none is)) was
  unused_as (Some s) is was = dropped_unused u.spare u.free spots new id s is here others was

  pub gone_unused : AreUnused u.spare u.free spots → AreUnused (dropped u (spots id)).spare (dropped u (spots id)).free new
  gone_unused = unused_as (spots id) refl

  spare_as : (o : Option Spot) → (dropped u o).spare ≡ u.spare
  spare_as None = refl
  spare_as (Some s) = refl

  pub gone_spare : (dropped u (spots id)).spare ≡ u.spare
  gone_spare = spare_as (spots id)

  tallied_as : (next : ℕ) (o : Option Spot) → spots id ≡ o → id < next → IsTallied next spots u → IsTallied next new (dropped u o)
  tallied_as next None is low was = subst (λ (s : Spots). IsTallied next s u) (sym (gone_none is)) was
  tallied_as next (Some s) is low was = dropped_tallied next u spots new id s is here others low was

  pub gone_tallied : (next : ℕ) → id < next → IsTallied next spots u → IsTallied next new (dropped u (spots id))
  gone_tallied next = tallied_as next (spots id) refl

-- its slot is one that it may give back
held_as : (spare free : List Bool) (spots : Spots) (id : ℕ) (s : Spot) (o : Option ℕ) → AreUnused spare free spots → spots id ≡ Some s → own_slot spare s.place ≡ o → IfSome o (IsHeld free)
held_as spare free spots id s None was there own = tt
held_as spare free spots id s (Some slot) was there own = own_held spare free spots id s slot was there own

pub gone_held : (spare free : List Bool) (spots : Spots) (id : ℕ) (s : Spot) → AreUnused spare free spots → spots id ≡ Some s → IfSome (own_slot spare s.place) (IsHeld free)
gone_held spare free spots id s was there = held_as spare free spots id s (own_slot spare s.place) was there refl

-- ---- nodes whose slots stay

module _ (next : ℕ) (spots new : Spots) (u : Usage) (slots : (id : ℕ) → slot_in (new id) ≡ slot_in (spots id)) (changed : (id : ℕ) → is_changed u.spare (new id) ≡ is_changed u.spare (spots id))
    (in_memory : (id : ℕ) → is_in_memory (new id) ≡ is_in_memory (spots id)) (owns : (id : ℕ) → has_own u.spare (new id) ≡ has_own u.spare (spots id)) (within : (id : ℕ) (s : Spot) → new id ≡ Some s → IsPlaceIn u.spare s.place) where
  pub same_unused : AreUnused u.spare u.free spots → AreUnused u.spare u.free new
  same_unused was = record {
    slots = within;
    apart = λ i other slot is also. was.apart i other slot (sym (slots i) ∙ is) (sym (slots other) ∙ also);
    count = was.count;
    free_is = λ slot. (
      λ is_free. let unused : IsUnused u.spare spots slot = (was.free_is slot).0 is_free in (unused.0, λ i is. unused.1 i (sym (slots i) ∙ is)),
      λ unused. (was.free_is slot).1 (unused.0, λ i is. unused.1 i (slots i ∙ is)),
    );
  }

  pub same_tallied : IsTallied next spots u → IsTallied next new u
  same_tallied was = record {
    unused = same_unused was.unused;
    counted = record {
      fits = was.counted.fits;
      changed = was.counted.changed ∙ sym (count_kept (is_changed u.spare) next spots new changed);
      in_memory = was.counted.in_memory ∙ sym (count_kept is_in_memory next spots new in_memory);
      free = ap (λ (n : ℕ). free_count u.free + n) (count_kept (has_own u.spare) next spots new owns) ∙ was.counted.free;
    };
    listed = λ i on. was.listed i (subst IsTrue (in_memory i) on);
  }
