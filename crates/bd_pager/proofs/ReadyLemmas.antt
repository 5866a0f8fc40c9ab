-- A table of nodes that are in slots, and what is ready with it.
use Rattle.std.proofs.Common.{◌≡◌, ◌≢◌, ◌≤◌, ◌<◌, ◌+◌, ◌-◌, ◌^◌, ℕ, Bool, false, is_some, List, ◌++◌, length, get_or, Option, None, Some, inl, inr, refl, sym, ap, subst, ◌∙◌, arith, length-append}
use Rattle.std.specs.Prelude.{All, Any, IsSome}
use Rattle.std.proofs.lemmas.Bool.{cases_lt, true≢false}
use Rattle.std.proofs.lemmas.List.{get_or-map, length-map, get_or-append_right, get_or_default}
use Rattle.std.proofs.Math.ListN.{get_or-append}
use Rattle.bd_slots.specs.Layout.{AreSlots, IsTablePlace, table_length}
use Rattle.bd_slots.specs.Slots.{IsFree}
use Rattle.bd_table.specs.Tables.{AreFreeSlots, FitsTableEntry, IsTableAt, IsTableEntry, slots_of}
use Rattle.bd_table.specs.declared.table.Table.{Table as Checkpoint}
use Rattle.bd_table.specs.declared.table.TableEntry.{TableEntry}
use Rattle.bd_pager.specs.declared.place.Place.{Place}
use Rattle.bd_pager.specs.declared.place.Place.TheVariants.{Memory, Slot}
use Rattle.bd_pager.specs.declared.place.Spot.{Spot}
use Rattle.bd_pager.specs.declared.written.Written.{Written}
use Rattle.bd_pager.specs.Counting.{AreUnused, is_in_memory, is_in_memory_at}
use Rattle.bd_pager.specs.Drafts.{slot_or_first, entry_of, entries_of, AreKeptIds, HaveTable, IsFilled}
use Rattle.bd_pager.specs.Pagers.{IsPlaceIn, IsInSlot, IsEntryOf, IsReady}
use Rattle.bd_pager.specs.Places.{Spots, refs_in, slot_at, slot_in}
use Rattle.bd_pager.proofs.FlagLemmas.{same_flags, slots_within}

-- ---- slots, one list after the other

pub slots_append : (n : ℕ) (xs ys : List ℕ) → AreSlots n xs → AreSlots n ys → ((i j d : ℕ) → i < length xs → j < length ys → get_or xs i d ≢ get_or ys j d) → AreSlots n (xs ++ ys)
slots_append n xs ys p q apart = record {
  below = λ k d lt. elim (cases_lt k (length xs)) [
    | inl low ↦ omega (arith, left k d low, p.below k d low)
    | inr high ↦ omega (arith, right k d high, q.below (k - length xs) d (omega (arith, lt, size, high)))
  ];
  different = λ i j d before lt. elim (cases_lt i (length xs)) [
    | inl low ↦ elim (cases_lt j (length xs)) [
      | inl also ↦ λ same. p.different i j d before also (sym (left i d low) ∙ same ∙ left j d also)
      | inr high ↦ λ same. apart i (j - length xs) d low (omega (arith, lt, size, high)) (sym (left i d low) ∙ same ∙ right j d high)
    ]
    | inr high ↦ λ same. q.different (i - length xs) (j - length xs) d (omega (arith, before, high)) (omega (arith, lt, size, before, high)) (sym (right i d high) ∙ same ∙ right j d (omega (arith, before, high)))
  ];
}
  where
    size : length (xs ++ ys) ≡ length xs + length ys
    size = length-append xs ys

    left : (k d : ℕ) → k < length xs → get_or (xs ++ ys) k d ≡ get_or xs k d
    left k d low = get_or-append xs ys d k low

    right : (k d : ℕ) → length xs ≤ k → get_or (xs ++ ys) k d ≡ get_or ys (k - length xs) d
    right k d high = get_or-append_right xs ys (length xs) k d refl high

slots_front : (n : ℕ) (xs ys : List ℕ) → AreSlots n (xs ++ ys) → AreSlots n xs
slots_front n xs ys p = record {
  below = λ k d lt. omega (arith, get_or-append xs ys d k lt, p.below k d (omega (arith, lt, length-append xs ys)));
  different = λ i j d before lt same. p.different i j d before (omega (arith, lt, length-append xs ys)) (get_or-append xs ys d i (omega (arith, before, lt)) ∙ same ∙ sym (get_or-append xs ys d j lt));
}

-- ---- nodes in slots

place_slot : (p : Place) → is_in_memory_at p ≡ false → slot_at p ≡ Some (slot_or_first (slot_at p))
place_slot (Memory node slot) is = absurd (true≢false is)
place_slot (Slot slot copy) is = refl

spot_slot : (o : Option Spot) → IsSome o → is_in_memory o ≡ false → slot_in o ≡ Some (slot_or_first (slot_in o))
spot_slot None some is = absurd (true≢false (sym some))
spot_slot (Some s) some is = place_slot s.place is

place_low : (spare : List Bool) (p : Place) → is_in_memory_at p ≡ false → IsPlaceIn spare p → slot_or_first (slot_at p) < length spare
place_low spare (Memory node slot) is within = absurd (true≢false is)
place_low spare (Slot slot copy) is within = within

spot_low : (spare : List Bool) (spots : Spots) (id : ℕ) (o : Option Spot) → spots id ≡ o → IsSome o → is_in_memory o ≡ false → ((i : ℕ) (s : Spot) → spots i ≡ Some s → IsPlaceIn spare s.place) → slot_or_first (slot_in o) < length spare
spot_low spare spots id None there some is within = absurd (true≢false (sym some))
spot_low spare spots id (Some s) there some is within = place_low spare s.place is (within id s there)

in_own : (p : Place) → is_in_memory_at p ≡ false → IsInSlot (slot_or_first (slot_at p)) p
in_own (Memory node slot) is = absurd (true≢false is)
in_own (Slot slot copy) is = refl

entry_there : (id : ℕ) (o : Option Spot) → IsSome o → is_in_memory o ≡ false → IsEntryOf (entry_of id o) o
entry_there id None some is = absurd (true≢false (sym some))
entry_there id (Some s) some is = (refl, refl, in_own s.place is)

module _ (spots : Spots) (ids : List ℕ) (kept : AreKeptIds ids spots) where
  -- an entry, by its place
  pub entry_at : (k : ℕ) (d : TableEntry) → k < length ids → get_or (entries_of spots ids) k d ≡ entry_of (get_or ids k 0) (spots (get_or ids k 0))
  entry_at k d lt = get_or-map (λ (id : ℕ). entry_of id (spots id)) ids k 0 d lt

  pub count_is : length (entries_of spots ids) ≡ length ids
  count_is = length-map ids (λ (id : ℕ). entry_of id (spots id))

  pub slots_count : length (slots_of (entries_of spots ids)) ≡ length ids
  slots_count = length-map (entries_of spots ids) (λ (e : TableEntry). e.slot) ∙ count_is

  pub slot_of : (k d : ℕ) → k < length ids → get_or (slots_of (entries_of spots ids)) k d ≡ slot_or_first (slot_in (spots (get_or ids k 0)))
  slot_of k d lt =
      let e : TableEntry = entry_of 0 None in
      get_or-map (λ (e : TableEntry). e.slot) (entries_of spots ids) k e d (omega (arith, lt, count_is)) ∙ ap (λ (x : TableEntry). x.slot) (entry_at k e lt)

  module _ (spare free : List Bool) (unused : AreUnused spare free spots) (stored : (id : ℕ) → is_in_memory (spots id) ≡ false) where
    in_slot : (id : ℕ) → IsSome (spots id) → slot_in (spots id) ≡ Some (slot_or_first (slot_in (spots id)))
    in_slot id some = spot_slot (spots id) some (stored id)

    own_slots : AreSlots (length free) (slots_of (entries_of spots ids))
    own_slots = record {
      below = λ k d lt.
          let low : k < length ids = omega (arith, lt, slots_count) in
          let id : ℕ = get_or ids k 0 in
          omega (arith, slot_of k d low, spot_low spare spots id (spots id) refl (kept.kept k 0 low) (stored id) unused.slots, unused.count);
      different = λ i j d before lt same.
          let high : j < length ids = omega (arith, lt, slots_count) in
          let low : i < length ids = omega (arith, high, before) in
          let one : slot_or_first (slot_in (spots (get_or ids i 0))) ≡ slot_or_first (slot_in (spots (get_or ids j 0))) = sym (slot_of i d low) ∙ same ∙ slot_of j d high in
          let is : get_or ids i 0 ≡ get_or ids j 0 = unused.apart (get_or ids i 0) (get_or ids j 0) (slot_or_first (slot_in (spots (get_or ids i 0))))
          (in_slot (get_or ids i 0) (kept.kept i 0 low))
          (in_slot (get_or ids j 0) (kept.kept j 0 high) ∙ ap Some (sym one)) in
          omega (arith, is, kept.rising i j 0 before high);
    }

    -- with free ones before them
    pub taken_slots : (at : List ℕ) → AreSlots (length free) at → All (IsFree free) at → AreSlots (length free) (at ++ slots_of (entries_of spots ids))
    taken_slots at differ are_free =
        slots_append (length free) at (slots_of (entries_of spots ids)) differ own_slots
        (λ i j d low lt same.
        let high : j < length ids = omega (arith, lt, slots_count) in
        let id : ℕ = get_or ids j 0 in
        ((unused.free_is (get_or at i d)).0 (are_free i d low)).1 id (in_slot id (kept.kept j 0 high) ∙ ap Some (sym (slot_of j d high) ∙ sym same)))

-- ---- the table

-- its slots are a table's
pub table_place : (slots : ℕ) (at : List ℕ) (t : Checkpoint) → IsTableAt slots at t → IsTablePlace slots at
table_place slots at t h = record {
  least = omega (arith, h.place);
  most = omega (arith, h.place, h.entries.most);
  differ = slots_front slots at (slots_of t.entries) h.differ;
}

entry_is : (root next id : ℕ) (spots : Spots) (o : Option Spot) → HaveTable root next spots → spots id ≡ o → IsSome o → FitsTableEntry (entry_of id o) → IsTableEntry (entry_of id o) × (id < next)
entry_is root next id spots None table there some fits = absurd (true≢false (sym some))
entry_is root next id spots (Some s) table there some fits =
    let own = table.each id s there in
    (record { id = own.0; last_id = fits.0; refs = own.2; last_refs = fits.1; slot = fits.2; level = own.3 }, own.1)

named_some : (o : Option Spot) → 1 ≤ refs_in o → IsSome o
named_some None named = absurd (omega (arith, named))
named_some (Some s) named = refl

module _ (spare free : List Bool) (spots : Spots) (ids : List ℕ) (root next : ℕ) (w : Written) (kept : AreKeptIds ids spots) (unused : AreUnused spare free spots) (stored : (id : ℕ) → is_in_memory (spots id) ≡ false)
    (table : HaveTable root next spots) (small : next < 2 ^ 64) (few : length spare ≤ 65536) (h : IsFilled free spots ids root next w) where
  entries : List TableEntry
  entries = w.table.entries

  total : length w.table.entries ≡ length ids
  total = ap length h.entries ∙ count_is spots ids kept

  at_place : (k : ℕ) (d : TableEntry) → k < length ids → get_or w.table.entries k d ≡ entry_of (get_or ids k 0) (spots (get_or ids k 0))
  at_place k d lt = ap (λ (l : List TableEntry). get_or l k d) h.entries ∙ entry_at spots ids kept k d lt

  is_entry : (k : ℕ) (d : TableEntry) → k < length w.table.entries → IsTableEntry (get_or w.table.entries k d) × ((get_or w.table.entries k d).id < next)
  is_entry k d lt =
      let low : k < length ids = omega (arith, lt, total) in
      let id : ℕ = get_or ids k 0 in
      subst (λ (e : TableEntry). IsTableEntry e × (e.id < next)) (sym (at_place k d low))
      (entry_is root next id spots (spots id) table refl (kept.kept k 0 low) (subst FitsTableEntry (at_place k d low) (h.fits k d lt)))

  -- an id's place
  place_of : (id : ℕ) → IsSome (spots id) → (k : ℕ) × (k < length ids) × (get_or ids k 0 ≡ id)
  place_of id some =
      let found = kept.all id some in
      (found.0, found.1, get_or_default ids found.0 0 id found.1 ∙ found.2)

  found_at : (id : ℕ) → IsSome (spots id) → Any (λ e. e ≡ entry_of id (spots id)) w.table.entries
  found_at id some =
      let found = place_of id some in
      let x : TableEntry = entry_of id (spots id) in
      (found.0, x, omega (arith, found.1, total), at_place found.0 x found.1 ∙ ap (λ (i : ℕ). entry_of i (spots i)) found.2, refl)

  size : length w.at + length ids ≤ length spare
  size = omega (arith, slots_within (length free) (w.at ++ slots_of w.table.entries) h.differ, length-append w.at (slots_of w.table.entries), length-map w.table.entries (λ (e : TableEntry). e.slot), total, unused.count)

  pub filled_table : IsTableAt (length spare) w.at w.table
  filled_table = record {
    entries = record {
      least = let found = place_of root (named_some (spots root) table.named) in omega (arith, found.1, total);
      most = omega (arith, total, size, few);
      each = λ k d lt. (is_entry k d lt).0;
      rising = λ i j d before lt.
          let high : j < length ids = omega (arith, lt, total) in
          let low : i < length ids = omega (arith, high, before) in
          omega (arith, ap (λ (e : TableEntry). e.id) (at_place i d low), ap (λ (e : TableEntry). e.id) (at_place j d high), kept.rising i j 0 before high);
      below_next = λ k d lt. omega (arith, (is_entry k d lt).1, h.next_is);
      has_root =
          let found = found_at root (named_some (spots root) table.named) in
          (found.0, found.1, found.2, found.3, (ap (λ (e : TableEntry). e.id) found.4 ∙ sym h.root_is, omega (arith, table.inner, ap (λ (e : TableEntry). e.level) found.4)));
    };
    last_id = omega (arith, h.next_is, small);
    place = ap table_length total ∙ sym h.length_is;
    differ = subst (λ (n : ℕ). AreSlots n (w.at ++ slots_of w.table.entries)) unused.count h.differ;
  }

  pub filled_ready : IsReady spare spots root next w
  filled_ready = record {
    table = filled_table;
    at = λ k d lt. ((unused.free_is (get_or w.at k d)).0 (h.at k d lt)).0;
    entries = record {
      each = λ k d lt.
          let low : k < length ids = omega (arith, lt, total) in
          subst (λ (e : TableEntry). IsEntryOf e (spots e.id)) (sym (at_place k d low)) (entry_there (get_or ids k 0) (spots (get_or ids k 0)) (kept.kept k 0 low) (stored (get_or ids k 0)));
      all = λ id s there.
          let found = found_at id (ap (λ (o : Option Spot). is_some o) there) in
          (found.0, found.1, found.2, found.3, ap (λ (e : TableEntry). e.id) found.4);
    };
    root_is = h.root_is;
    next_is = h.next_is;
    spare_is = subst (λ (n : ℕ). AreFreeSlots n (w.at ++ slots_of w.table.entries) w.spare) unused.count h.spare_is;
    free_is = same_flags (length free) (w.at ++ slots_of w.table.entries) w.free w.spare h.free_is h.spare_is;
  }
