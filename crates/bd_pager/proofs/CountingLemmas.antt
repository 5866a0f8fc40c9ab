-- What is said of slots and nodes after one node was moved.
use Rattle.std.proofs.Common.{◌≡◌, ◌≢◌, ℕ, zero, suc, ◌+◌, ◌^◌, ◌<◌, ◌≤◌, Bool, true, false, cond, is_some, IsTrue, List, length, get_or, set, get_or-set_same, get_or-set_other, Option, None, Some, IfSome, refl, sym, ap, subst, ◌∙◌, arith, inl, inr}
use Rattle.std.specs.Prelude.{slice_get, Contains, Result, Ok, Err, OnErr}
use Rattle.std.specs.BTreeSet.{BTreeSet, Updates}
use Rattle.std.specs.Option.{option_map}
use Rattle.std.specs.Cmp.{nat_cmp_is}
use Rattle.std.specs.Ordering.{is_eq, nat_cmp}
use Rattle.std.specs.declared.cmp.Ordering.TheVariants.{Less, Greater}
use Rattle.std.proofs.lemmas.Bool.{cases_eq, cases_lt, true≢false}
use Rattle.std.proofs.lemmas.List.{length-set}
use Rattle.std.proofs.lemmas.Option.{none-some, same_Some, slice_get-get_or, slice_get_within, slice_get_past, get_or_from_slice_get}
use Rattle.bd_slots.specs.Slots.{IsFree, IsHeld, free_count, slot_if}
use Rattle.std.proofs.lemmas.List.Sums.{sum_by-set}
use Rattle.bd_table.specs.declared.table.TableEntry.{TableEntry}
use Rattle.bd_node.specs.declared.node.Node.{Node}
use Rattle.bd_node.specs.Tables.{sum_below}
use Rattle.bd_node.proofs.Sums.{sum_same, sum_exchanged, sum_split}
use Rattle.bd_pager.specs.declared.place.Place.{Place}
use Rattle.bd_pager.specs.declared.place.Place.TheVariants.{Memory, Slot}
use Rattle.bd_pager.specs.declared.place.Spot.{Spot}
use Rattle.bd_pager.specs.declared.usage.TheConstants.{IN_MEMORY}
use Rattle.bd_pager.specs.declared.usage.Tally.{Tally}
use Rattle.bd_pager.specs.declared.usage.Usage.{Usage}
use Rattle.bd_pager.specs.Changing.{own_slot, IsChangedAt}
use Rattle.bd_pager.specs.Counting.{AreUnused, is_in_memory, is_in_memory_at, has_own, spot_count, IsListed, AreListed, IsTallied, tally_of, moved, recounted, given, dropped, IsListedMore}
use Rattle.bd_pager.specs.Pagers.{is_changed, is_changed_place, IsPlaceIn, IsInSlot, IsStoredAs}
use Rattle.bd_pager.specs.Places.{Spots, slot_at, slot_in}
use Rattle.bd_pager.proofs.ChangingLemmas.{place_now}

-- ---- counts

-- 1 where it is so
abbrev pub flag : Bool → ℕ
flag b = cond b 1 0

pub flag_small : (b : Bool) → flag b ≤ 1
flag_small true = omega arith
flag_small false = omega arith

-- they are no more than the ids
pub count_within : (test : Option Spot → Bool) (n : ℕ) (spots : Spots) → spot_count test n spots ≤ n
unfolding sum_below
count_within test zero spots = omega arith
count_within test (suc n) spots = omega (arith, count_within test n spots, flag_small (test (spots n)))

-- one spot is another one
pub count_moved : (test : Option Spot → Bool) (n id : ℕ) (spots new : Spots) → id < n → ((i : ℕ) → i ≢ id → new i ≡ spots i)
    → spot_count test n new + flag (test (spots id)) ≡ spot_count test n spots + flag (test (new id))
count_moved test n id spots new low others =
    sum_exchanged n (λ i. flag (test (new i))) (λ i. flag (test (spots i))) id low (λ j other. ap (λ (o : Option Spot). flag (test o)) (others j other))

-- a number that is counted again
moved_is : (count before after : ℕ) (was now : Bool) → count ≡ before → after + flag was ≡ before + flag now → after < 2 ^ 64 → moved count was now ≡ after
moved_is count before after true true same moved small = omega (arith, same, moved)
moved_is count before after true false same moved small = omega (arith, same, moved)
moved_is count before after false true same moved small = omega (arith, same, moved, small)
moved_is count before after false false same moved small = omega (arith, same, moved)

pub count_again : (test : Option Spot → Bool) (n id count : ℕ) (spots new : Spots) → n < 2 ^ 64 → id < n → ((i : ℕ) → i ≢ id → new i ≡ spots i) → count ≡ spot_count test n spots
    → moved count (test (spots id)) (test (new id)) ≡ spot_count test n new
count_again test n id count spots new small low others same =
    moved_is count (spot_count test n spots) (spot_count test n new) (test (spots id)) (test (new id)) same (count_moved test n id spots new low others)
    (omega (arith, count_within test n new, small))

-- a count stays where the test says the same
pub count_kept : (test : Option Spot → Bool) (n : ℕ) (spots new : Spots) → ((i : ℕ) → test (new i) ≡ test (spots i)) → spot_count test n new ≡ spot_count test n spots
count_kept test n spots new same = sum_same n (λ i. flag (test (new i))) (λ i. flag (test (spots i))) (λ i low. ap flag (same i))

-- none passes
pub count_none : (test : Option Spot → Bool) (n : ℕ) (spots : Spots) → ((i : ℕ) → test (spots i) ≡ false) → spot_count test n spots ≡ 0
unfolding sum_below
count_none test zero spots none = refl
count_none test (suc n) spots none = omega (arith, count_none test n spots none, ap flag (none n))

-- those of two ids
pub count_two : (test : Option Spot → Bool) (spots : Spots) → spot_count test 2 spots ≡ flag (test (spots 1)) + flag (test (spots 0))
unfolding sum_below
count_two test spots = omega arith

-- ---- slots

-- an own slot is the place's
pub own_within : (spare : List Bool) (p : Place) (slot : ℕ) → own_slot spare p ≡ Some slot → slot_at p ≡ Some slot
own_within spare (Memory node own) slot e = e
own_within spare (Slot there copy) slot e = own_if (slice_get spare there) there slot e
  where
    own_if : (o : Option Bool) (there slot : ℕ) → slot_if o there ≡ Some slot → Some there ≡ Some slot
    own_if None there slot e = absurd (none-some slot e)
    own_if (Some true) there slot e = e
    own_if (Some false) there slot e = absurd (none-some slot e)

-- a spare slot of the place is its own
pub spare_own : (spare : List Bool) (p : Place) (slot : ℕ) → IsFree spare slot → slot_at p ≡ Some slot → own_slot spare p ≡ Some slot
spare_own spare (Memory node own) slot free e = e
spare_own spare (Slot there copy) slot free e =
    let same : there ≡ slot = same_Some there slot e in
    ap (λ (k : ℕ). slot_if (slice_get spare k) k) same ∙ ap (λ (o : Option Bool). slot_if o slot) free

-- one node has no slot that it hadn't, and keeps those of them that are spare
pub unused_moved : (spare free : List Bool) (id : ℕ) (spots new : Spots) → ((i : ℕ) → i ≢ id → new i ≡ spots i) → ((s : Spot) → new id ≡ Some s → IsPlaceIn spare s.place)
    → ((slot : ℕ) → slot_in (new id) ≡ Some slot → slot_in (spots id) ≡ Some slot) → ((slot : ℕ) → IsFree spare slot → slot_in (spots id) ≡ Some slot → slot_in (new id) ≡ Some slot)
    → AreUnused spare free spots → AreUnused spare free new
unused_moved spare free id spots new others within fewer own was =
    let had : (i slot : ℕ) → slot_in (new i) ≡ Some slot → slot_in (spots i) ≡ Some slot = λ i slot e. elim (cases_eq i id) [
      | inl here ↦ ap (λ (k : ℕ). slot_in (spots k)) here ∙ fewer slot (ap (λ (k : ℕ). slot_in (new k)) (sym here) ∙ e)
      | inr other ↦ ap slot_in (sym (others i other)) ∙ e
    ] in
    let has : (i slot : ℕ) → IsFree spare slot → slot_in (spots i) ≡ Some slot → slot_in (new i) ≡ Some slot = λ i slot free e. elim (cases_eq i id) [
      | inl here ↦ ap (λ (k : ℕ). slot_in (new k)) here ∙ own slot free (ap (λ (k : ℕ). slot_in (spots k)) (sym here) ∙ e)
      | inr other ↦ ap slot_in (others i other) ∙ e
    ] in
    record {
      slots = λ i s there. elim (cases_eq i id) [
        | inl here ↦ within s (ap new (sym here) ∙ there)
        | inr other ↦ was.slots i s (sym (others i other) ∙ there)
      ];
      apart = λ i j slot one two. was.apart i j slot (had i slot one) (had j slot two);
      count = was.count;
      free_is = λ slot. (
        λ is. (((was.free_is slot).0 is).0, λ i e. ((was.free_is slot).0 is).1 i (had i slot e)),
        λ un. (was.free_is slot).1 (un.0, λ i e. un.1 i (has i slot un.0 e)),
      );
    }

-- where a node is, if it is kept, is one of the places that there are
pub place_there : (spare : List Bool) (spots : Spots) (id : ℕ) (o : Option Spot) → spots id ≡ o → ((i : ℕ) (s : Spot) → spots i ≡ Some s → IsPlaceIn spare s.place) → IfSome o (λ s. IsPlaceIn spare s.place)
place_there spare spots id None there slots = tt
place_there spare spots id (Some s) there slots = slots id s there

-- ---- a place that is a slot

pub in_place : (spare : List Bool) (slot : ℕ) (p : Place) → IsInSlot slot p → slot < length spare → IsPlaceIn spare p
in_place spare slot (Memory node own) inside low = absurd inside
in_place spare slot (Slot there copy) inside low = omega (arith, inside, low)

pub in_slot_at : (slot : ℕ) (p : Place) → IsInSlot slot p → slot_at p ≡ Some slot
in_slot_at slot (Memory node own) inside = absurd inside
in_slot_at slot (Slot there copy) inside = ap Some inside

pub in_slot_stored : (slot : ℕ) (p : Place) → IsInSlot slot p → is_in_memory_at p ≡ false
in_slot_stored slot (Memory node own) inside = absurd inside
in_slot_stored slot (Slot there copy) inside = refl

pub stored_place : (spare : List Bool) (entries : List TableEntry) (id level : ℕ) (e : TableEntry) (p : Place) → Contains entries e → IsInSlot e.slot p → e.id ≡ id → e.level ≡ level → IsStoredAs spare entries id level p
stored_place spare entries id level e (Memory node own) among inside id_is level_is = absurd inside
stored_place spare entries id level e (Slot there copy) among inside id_is level_is = λ held. (among.0, e, among.1, among.2, (id_is, sym inside, level_is))

pub free_not_held : (spare : List Bool) (slot : ℕ) → IsFree spare slot → IsHeld spare slot → ⊥
free_not_held spare slot free held = true≢false (same_Some true false (sym free ∙ held))

-- a held one: the node wasn't changed, and the slot is none of its own
pub held_unchanged : (spare : List Bool) (slot : ℕ) (p : Place) → IsHeld spare slot → IsInSlot slot p → is_changed_place spare p ≡ false
held_unchanged spare slot (Memory node own) held inside = absurd inside
held_unchanged spare slot (Slot there copy) held inside = ap (λ (k : ℕ). get_or spare k true) inside ∙ get_or_from_slice_get spare slot false true held

pub held_not_own : (spare : List Bool) (slot : ℕ) (p : Place) → IsHeld spare slot → IsInSlot slot p → is_some (own_slot spare p) ≡ false
held_not_own spare slot (Memory node own) held inside = absurd inside
held_not_own spare slot (Slot there copy) held inside =
    ap (λ (k : ℕ). is_some (slot_if (slice_get spare k) there)) inside ∙ ap (λ (o : Option Bool). is_some (slot_if o there)) held

-- ---- a node that was changed in memory

module _ (spare free : List Bool) (id : ℕ) (n : Node) (spots new : Spots) (h : IsChangedAt spare id n spots new) where
  slot_now : slot_in (new id) ≡ own_slot spare h.was.place
  slot_now = ap slot_in h.here ∙ ap slot_at h.changed.place.place

  pub changed_unused : AreUnused spare free spots → AreUnused spare free new
  changed_unused was =
      unused_moved spare free id spots new h.others
      (λ s there. subst (λ (x : Spot). IsPlaceIn spare x.place) (same_Some h.now s (sym h.here ∙ there)) (place_now spare id n spots new h (was.slots id h.was h.there)))
      (λ slot e. ap slot_in h.there ∙ own_within spare h.was.place slot (sym slot_now ∙ e))
      (λ slot is_free e. slot_now ∙ spare_own spare h.was.place slot is_free (sym (ap slot_in h.there) ∙ e))
      was

  own_now : has_own spare (new id) ≡ has_own spare (spots id)
  own_now = ap (has_own spare) h.here ∙ ap (λ (p : Place). is_some (own_slot spare p)) h.changed.place.place ∙ sym (ap (has_own spare) h.there)

  pub own_kept : (i : ℕ) → has_own spare (new i) ≡ has_own spare (spots i)
  own_kept i = elim (cases_eq i id) [
    | inl here ↦ subst (λ (k : ℕ). has_own spare (new k) ≡ has_own spare (spots k)) (sym here) own_now
    | inr other ↦ ap (has_own spare) (h.others i other)
  ]

  pub changed_listed : (u v : Usage) → AreListed spots u.listed → IsListedMore u v → IsListed v.listed id → AreListed new v.listed
  changed_listed u v was more own = λ i on. elim (cases_eq i id) [
    | inl here ↦ subst (λ (k : ℕ). IsListed v.listed k) (sym here) own
    | inr other ↦ more.kept i (was i (subst (λ (o : Option Spot). IsTrue (is_in_memory o)) (h.others i other) on))
  ]

-- and counted so
pub changed_tallied_as : (u v : Usage) (next id : ℕ) (n : Node) (spots new : Spots) → IsListedMore u v → IsListed v.listed id → IsChangedAt u.spare id n spots new → id < next → IsTallied next spots u
    → IsTallied next new (recounted (tally_of u.spare (spots id)) (tally_of u.spare (new id)) v)
changed_tallied_as u v next id n spots new more own h low was =
    let w : Usage = record u { listed = v.listed } in
    let done : IsTallied next new (recounted (tally_of u.spare (spots id)) (tally_of u.spare (new id)) w) = record {
      unused = changed_unused u.spare u.free id n spots new h was.unused;
      counted = record {
        fits = was.counted.fits;
        changed = count_again (is_changed u.spare) next id u.changed spots new was.counted.fits low h.others was.counted.changed;
        in_memory = count_again is_in_memory next id u.in_memory spots new was.counted.fits low h.others was.counted.in_memory;
        free = ap (λ (k : ℕ). free_count u.free + k) (count_kept (has_own u.spare) next spots new (own_kept u.spare u.free id n spots new h)) ∙ was.counted.free;
      };
      listed = changed_listed u.spare u.free id n spots new h u v was.listed more own;
    } in
    subst (λ (x : Usage). IsTallied next new (recounted (tally_of u.spare (spots id)) (tally_of u.spare (new id)) x)) (sym more.same) done

tally_now : (spare : List Bool) (id : ℕ) (n : Node) (spots new : Spots) → IsChangedAt spare id n spots new → tally_of spare (new id) ≡ IN_MEMORY
tally_now spare id n spots new h =
    let here : new id ≡ Some h.now = h.here in
    let placed : (p : Place) → p ≡ Memory h.changed.place.node (own_slot spare h.was.place) → tally_of spare (Some (record h.now { place = p })) ≡ IN_MEMORY =
    λ p e. ap (λ (q : Place). tally_of spare (Some (record h.now { place = q }))) e in
    ap (tally_of spare) here ∙ placed h.now.place h.changed.place.place

pub changed_tallied : (u v : Usage) (next id : ℕ) (n : Node) (spots new : Spots) → IsListedMore u v → IsListed v.listed id → IsChangedAt u.spare id n spots new → id < next → IsTallied next spots u
    → IsTallied next new (recounted (tally_of u.spare (spots id)) IN_MEMORY v)
changed_tallied u v next id n spots new more own h low was =
    subst (λ (t : Tally). IsTallied next new (recounted (tally_of u.spare (spots id)) t v)) (tally_now u.spare id n spots new h) (changed_tallied_as u v next id n spots new more own h low was)

-- where nothing was changed, and at most more is listed
pub listed_tallied : (u v : Usage) (next : ℕ) (spots new : Spots) → IsListedMore u v → ((i : ℕ) → new i ≡ spots i) → IsTallied next spots u → IsTallied next new v
listed_tallied u v next spots new more same was =
    let all : new ≡ spots = λ j i. same i j in
    let w : Usage = record u { listed = v.listed } in
    let done : IsTallied next spots w = record {
      unused = was.unused;
      counted = record { fits = was.counted.fits; changed = was.counted.changed; in_memory = was.counted.in_memory; free = was.counted.free };
      listed = λ i on. more.kept i (was.listed i on);
    } in
    subst (λ (x : Usage). IsTallied next new x) (sym more.same) (subst (λ (s : Spots). IsTallied next s w) (sym all) done)

-- ---- places that stay

-- what a place says by itself
abbrev place_slot : Option Place → Option ℕ
place_slot None = None
place_slot (Some p) = slot_at p

slot_by_place : (o : Option Spot) → slot_in o ≡ place_slot (option_map (λ (s : Spot). s.place) o)
slot_by_place None = refl
slot_by_place (Some s) = refl

abbrev place_changed : List Bool → Option Place → Bool
place_changed spare None = false
place_changed spare (Some p) = is_changed_place spare p

changed_by_place : (spare : List Bool) (o : Option Spot) → is_changed spare o ≡ place_changed spare (option_map (λ (s : Spot). s.place) o)
changed_by_place spare None = refl
changed_by_place spare (Some s) = refl

abbrev place_in_memory : Option Place → Bool
place_in_memory None = false
place_in_memory (Some p) = is_in_memory_at p

memory_by_place : (o : Option Spot) → is_in_memory o ≡ place_in_memory (option_map (λ (s : Spot). s.place) o)
memory_by_place None = refl
memory_by_place (Some s) = refl

abbrev place_own : List Bool → Option Place → Bool
place_own spare None = false
place_own spare (Some p) = is_some (own_slot spare p)

own_by_place : (spare : List Bool) (o : Option Spot) → has_own spare o ≡ place_own spare (option_map (λ (s : Spot). s.place) o)
own_by_place spare None = refl
own_by_place spare (Some s) = refl

placed_was : (o : Option Spot) (p : Place) → option_map (λ (s : Spot). s.place) o ≡ Some p → (s : Spot) × (o ≡ Some s) × (s.place ≡ p)
placed_was None p e = absurd (none-some p e)
placed_was (Some s) p e = (s, refl, same_Some s.place p e)

-- where each node stays at its place, all of it stays
each_by : {X : Type 0} (F : Option Spot → X) (G : Option Place → X) → ((o : Option Spot) → F o ≡ G (option_map (λ (s : Spot). s.place) o)) → (spots new : Spots)
    → ((i : ℕ) → option_map (λ (s : Spot). s.place) (new i) ≡ option_map (λ (s : Spot). s.place) (spots i)) → (i : ℕ) → F (new i) ≡ F (spots i)
each_by F G by spots new same i = by (new i) ∙ ap G (same i) ∙ sym (by (spots i))

pub placed_unused : (spare free : List Bool) (spots new : Spots) → ((i : ℕ) → option_map (λ (s : Spot). s.place) (new i) ≡ option_map (λ (s : Spot). s.place) (spots i)) → AreUnused spare free spots → AreUnused spare free new
placed_unused spare free spots new same was =
    let slot_same : (i : ℕ) → slot_in (new i) ≡ slot_in (spots i) = each_by slot_in place_slot slot_by_place spots new same in
    record {
      slots = λ i s there.
          let found = placed_was (spots i) s.place (sym (same i) ∙ ap (option_map (λ (x : Spot). x.place)) there) in
          subst (λ (p : Place). IsPlaceIn spare p) found.2 (was.slots i found.0 found.1);
      apart = λ i j slot one two. was.apart i j slot (sym (slot_same i) ∙ one) (sym (slot_same j) ∙ two);
      count = was.count;
      free_is = λ slot. (
        λ is. (((was.free_is slot).0 is).0, λ i e. ((was.free_is slot).0 is).1 i (sym (slot_same i) ∙ e)),
        λ un. (was.free_is slot).1 (un.0, λ i e. un.1 i (slot_same i ∙ e)),
      );
    }

pub placed_tallied : (next : ℕ) (spots new : Spots) (u : Usage) → ((i : ℕ) → option_map (λ (s : Spot). s.place) (new i) ≡ option_map (λ (s : Spot). s.place) (spots i)) → IsTallied next spots u → IsTallied next new u
placed_tallied next spots new u same was =
    record {
      unused = placed_unused u.spare u.free spots new same was.unused;
      counted = record {
        fits = was.counted.fits;
        changed = was.counted.changed ∙ sym (count_kept (is_changed u.spare) next spots new (each_by (is_changed u.spare) (place_changed u.spare) (changed_by_place u.spare) spots new same));
        in_memory = was.counted.in_memory ∙ sym (count_kept is_in_memory next spots new (each_by is_in_memory place_in_memory memory_by_place spots new same));
        free = ap (λ (k : ℕ). free_count u.free + k) (count_kept (has_own u.spare) next spots new (each_by (has_own u.spare) (place_own u.spare) (own_by_place u.spare) spots new same)) ∙ was.counted.free;
      };
      listed = λ i on. was.listed i (subst (λ (b : Bool). IsTrue b) (each_by is_in_memory place_in_memory memory_by_place spots new same i) on);
    }

-- ---- flags

pub flag_other : (flags : List Bool) (slot other : ℕ) (b : Bool) → other ≢ slot → slice_get (set flags slot b) other ≡ slice_get flags other
flag_other flags slot other b apart = elim (cases_lt other (length flags)) [
  | inl lt ↦
      slice_get-get_or (set flags slot b) other true (omega (arith, lt, length-set flags slot b))
      ∙ ap Some (get_or-set_other flags slot other b true apart)
      ∙ sym (slice_get-get_or flags other true lt)
  | inr le ↦ slice_get_past (set flags slot b) other (omega (arith, le, length-set flags slot b)) ∙ sym (slice_get_past flags other le)
]

pub flag_here : (flags : List Bool) (slot : ℕ) (b : Bool) → slot < length flags → slice_get (set flags slot b) slot ≡ Some b
flag_here flags slot b lt = slice_get-get_or (set flags slot b) slot true (omega (arith, lt, length-set flags slot b)) ∙ ap Some (get_or-set_same flags slot b true lt)

-- how many are free once one flag is another
pub flag_count : (flags : List Bool) (slot : ℕ) (was now : Bool) → slice_get flags slot ≡ Some was → free_count (set flags slot now) + flag was ≡ free_count flags + flag now
flag_count flags slot was now is =
    omega (arith, sum_by-set flag flags slot now false (slice_get_within flags slot was is), ap flag (get_or_from_slice_get flags slot was false is))

-- ---- a node that was made, or dropped

held_if_not : (flags : List Bool) (slot : ℕ) → slot < length flags → ¬ IsFree flags slot → IsHeld flags slot
held_if_not flags slot low taken = by_flag (get_or flags slot true) (slice_get-get_or flags slot true low)
  where
    by_flag : (b : Bool) → slice_get flags slot ≡ Some b → IsHeld flags slot
    by_flag true is = absurd (taken is)
    by_flag false is = is

own_free : (spare : List Bool) (p : Place) (slot : ℕ) → IsPlaceIn spare p → own_slot spare p ≡ Some slot → IsFree spare slot
own_free spare (Memory node None) slot within e = absurd (none-some slot e)
own_free spare (Memory node (Some own)) slot within e = subst (λ (k : ℕ). IsFree spare k) (same_Some own slot e) within
own_free spare (Slot there copy) slot within e = own_if (slice_get spare there) refl e
  where
    own_if : (o : Option Bool) → slice_get spare there ≡ o → slot_if o there ≡ Some slot → IsFree spare slot
    own_if None is e = absurd (none-some slot e)
    own_if (Some true) is e = subst (λ (k : ℕ). IsFree spare k) (same_Some there slot e) is
    own_if (Some false) is e = absurd (none-some slot e)

-- an own slot isn't free
pub own_held : (spare free : List Bool) (spots : Spots) (id : ℕ) (s : Spot) (slot : ℕ) → AreUnused spare free spots → spots id ≡ Some s → own_slot spare s.place ≡ Some slot → IsHeld free slot
own_held spare free spots id s slot was there own =
    let is_free : IsFree spare slot = own_free spare s.place slot (was.slots id s there) own in
    held_if_not free slot (omega (arith, slice_get_within spare slot true is_free, was.count))
    (λ unused. ((was.free_is slot).0 unused).1 id (ap slot_in there ∙ own_within spare s.place slot own))

module _ (spare free : List Bool) (spots new : Spots) (id : ℕ) (s : Spot) (there : spots id ≡ Some s) (gone : new id ≡ None) (others : (i : ℕ) → i ≢ id → new i ≡ spots i) (was : AreUnused spare free spots) where
  had : (i slot : ℕ) → slot_in (new i) ≡ Some slot → (i ≢ id) × (slot_in (spots i) ≡ Some slot)
  had i slot e = elim (cases_eq i id) [
    | inl here ↦ absurd (none-some slot (sym (ap slot_in (ap new here ∙ gone)) ∙ e))
    | inr other ↦ (other, ap slot_in (sym (others i other)) ∙ e)
  ]

  kept : (i : ℕ) (x : Spot) → new i ≡ Some x → spots i ≡ Some x
  kept i x e = elim (cases_eq i id) [
    | inl here ↦ absurd (none-some x (sym (ap new here ∙ gone) ∙ e))
    | inr other ↦ sym (others i other) ∙ e
  ]

  -- where its slot wasn't its own
  none_given : own_slot spare s.place ≡ None → AreUnused spare free new
  none_given none = record {
    slots = λ i x e. was.slots i x (kept i x e);
    apart = λ i j slot one two. was.apart i j slot (had i slot one).1 (had j slot two).1;
    count = was.count;
    free_is = λ slot. (
      λ is. (((was.free_is slot).0 is).0, λ i e. ((was.free_is slot).0 is).1 i (had i slot e).1),
      λ un. (was.free_is slot).1 (
        un.0,
        λ i e. elim (cases_eq i id) [
          | inl here ↦ none-some slot (sym none ∙ spare_own spare s.place slot un.0 (ap slot_in (sym there) ∙ ap (λ (k : ℕ). slot_in (spots k)) (sym here) ∙ e))
          | inr other ↦ un.1 i (ap slot_in (others i other) ∙ e)
        ],
      ),
    );
  }

  -- where it was
  own_given : (own : ℕ) → own_slot spare s.place ≡ Some own → AreUnused spare (set free own true) new
  own_given own is_own =
      let is_free : IsFree spare own = own_free spare s.place own (was.slots id s there) is_own in
      let low : own < length free = omega (arith, slice_get_within spare own true is_free, was.count) in
      let mine : slot_in (spots id) ≡ Some own = ap slot_in there ∙ own_within spare s.place own is_own in
      record {
        slots = λ i x e. was.slots i x (kept i x e);
        apart = λ i j slot one two. was.apart i j slot (had i slot one).1 (had j slot two).1;
        count = length-set free own true ∙ was.count;
        free_is = λ slot. elim (cases_eq slot own) [
          | inl same ↦ (
            λ is. (
              subst (λ (k : ℕ). IsFree spare k) (sym same) is_free,
              λ i e. (had i slot e).0 (was.apart i id own ((had i slot e).1 ∙ ap Some same) mine),
            ),
            λ un. subst (λ (k : ℕ). IsFree (set free own true) k) (sym same) (flag_here free own true low),
          )
          | inr other ↦ (
            λ is.
                let before : IsFree free slot = sym (flag_other free own slot true other) ∙ is in
                (((was.free_is slot).0 before).0, λ i e. ((was.free_is slot).0 before).1 i (had i slot e).1),
            λ un. flag_other free own slot true other ∙ (was.free_is slot).1 (
              un.0,
              λ i e. elim (cases_eq i id) [
                | inl here ↦ other (same_Some slot own (sym e ∙ ap (λ (k : ℕ). slot_in (spots k)) here ∙ mine))
                | inr apart ↦ un.1 i (ap slot_in (others i apart) ∙ e)
              ],
            ),
          )
        ];
      }

  pub dropped_unused : AreUnused spare (given free (own_slot spare s.place)) new
  dropped_unused = by_own (own_slot spare s.place) refl
    where
      by_own : (o : Option ℕ) → own_slot spare s.place ≡ o → AreUnused spare (given free o) new
      by_own None is = none_given is
      by_own (Some own) is = own_given own is

  -- as many more are free as it had
  given_count : (o : Option ℕ) → own_slot spare s.place ≡ o → free_count (given free o) ≡ free_count free + flag (is_some o)
  given_count None is = omega arith
  given_count (Some own) is =
      let held : IsHeld free own = own_held spare free spots id s own was there is in
      omega (arith, flag_count free own false true held)

pub dropped_tallied : (next : ℕ) (u : Usage) (spots new : Spots) (id : ℕ) (s : Spot) → spots id ≡ Some s → new id ≡ None → ((i : ℕ) → i ≢ id → new i ≡ spots i) → id < next → IsTallied next spots u → IsTallied next new (dropped u (Some s))
dropped_tallied next u spots new id s there gone others low was =
    let again : (test : Option Spot → Bool) (count : ℕ) → test None ≡ false → count ≡ spot_count test next spots → moved count (test (Some s)) false ≡ spot_count test next new = λ test count none same.
    ap (λ (b : Bool). moved count b false) (sym (ap test there)) ∙ ap (λ (b : Bool). moved count (test (spots id)) b) (sym (ap test gone ∙ none)) ∙ count_again test next id count spots new was.counted.fits low others same in
    record {
      unused = dropped_unused u.spare u.free spots new id s there gone others was.unused;
      counted = record {
        fits = was.counted.fits;
        changed = again (is_changed u.spare) u.changed refl was.counted.changed;
        in_memory = again is_in_memory u.in_memory refl was.counted.in_memory;
        free = omega (
          arith,
          given_count u.spare u.free spots new id s there gone others was.unused (own_slot u.spare s.place) refl,
          count_moved (has_own u.spare) next id spots new low others,
          ap (λ (o : Option Spot). flag (has_own u.spare o)) there,
          ap (λ (o : Option Spot). flag (has_own u.spare o)) gone,
          was.counted.free,
        );
      };
      listed = λ i on. elim (cases_eq i id) [
        | inl here ↦ absurd (let e : false ≡ true = sym (ap is_in_memory (ap new here ∙ gone)) ∙ on in cc)
        | inr other ↦ was.listed i (subst (λ (o : Option Spot). IsTrue (is_in_memory o)) (others i other) on)
      ];
    }

-- ---- more ids

pub sum_zero : (n : ℕ) (f : ℕ → ℕ) → ((i : ℕ) → f i ≡ 0) → sum_below n f ≡ 0
unfolding sum_below
sum_zero zero f none = refl
sum_zero (suc n) f none = omega (arith, sum_zero n f none, none n)

count_wider : (test : Option Spot → Bool) (n m : ℕ) (spots : Spots) → test None ≡ false → ((i : ℕ) → n ≤ i → spots i ≡ None) → spot_count test (n + m) spots ≡ spot_count test n spots
count_wider test n m spots none past =
    omega (
      arith,
      sum_split n m (λ i. flag (test (spots i))),
      sum_zero m (λ i. flag (test (spots (n + i)))) (λ i. ap flag (ap test (past (n + i) (omega arith)) ∙ none)),
    )

-- with more ids below the next one, of which none is kept yet
pub wider_tallied : (next more : ℕ) (spots : Spots) (u : Usage) → next + more < 2 ^ 64 → ((i : ℕ) → next ≤ i → spots i ≡ None) → IsTallied next spots u → IsTallied (next + more) spots u
wider_tallied next more spots u fits past was = record {
  unused = was.unused;
  counted = record {
    fits = fits;
    changed = was.counted.changed ∙ sym (count_wider (is_changed u.spare) next more spots refl past);
    in_memory = was.counted.in_memory ∙ sym (count_wider is_in_memory next more spots refl past);
    free = ap (λ (k : ℕ). free_count u.free + k) (count_wider (has_own u.spare) next more spots refl past) ∙ was.counted.free;
  };
  listed = was.listed;
}

-- what holds anyway holds at a fault
pub err_anyway : {T E P : Type 0} (r : Result T E) → P → OnErr r P
err_anyway (Ok x) h = tt
err_anyway (Err e) h = h

-- ---- listed ids

pub apart_at : (x y : ℕ) → x ≢ y → is_eq (nat_cmp x y) ≡ false
apart_at x y apart = elim (cases_lt x y) [
  | inl lt ↦ ap is_eq (sym (nat_cmp_is x y Less lt))
  | inr le ↦ ap is_eq (sym (nat_cmp_is x y Greater (omega (arith, le, apart))))
]

-- an id that is taken out leaves the others
pub removed_listed : (old new : BTreeSet ℕ) (id : ℕ) → Updates nat_cmp old new id false → (i : ℕ) → i ≢ id → IsListed old i → IsListed new i
removed_listed old new id updates i other on = updates.2 i (apart_at id i (λ e. other (sym e))) ∙ on
