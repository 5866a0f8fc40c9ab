-- All nodes are written, and then their table.
use Rattle.std.proofs.Common.{◌≡◌, ◌≤◌, ◌<◌, ◌+◌, ◌/◌, ◌⊎◌, ℕ, Bool, true, false, is_some, List, length, get_or, Option, None, Some, inl, inr, refl, sym, ap, subst, ◌∙◌, arith}
use Rattle.std.specs.Prelude.{All, slice_get}
use Rattle.std.proofs.lemmas.Bool.{true≢false}
use Rattle.std.proofs.lemmas.Option.{get_or_from_slice_get}
use Rattle.bd_slots.specs.Slots.{IsFree, free_count, slot_if}
use Rattle.bd_device.specs.Blocks.{Image}
use Rattle.bd_device.specs.declared.device.Device.{Ghosts}
use Rattle.bd_node.proofs.Sums.{sum_at}
use Rattle.bd_table.specs.Image.{IsOfTable}
use Rattle.std.proofs.lemmas.List.{get_or_default}
use Rattle.bd_device.specs.Blocks.{Image}
use Rattle.bd_device.specs.Changes.{StaysBut}
use Rattle.bd_slots.specs.Layout.{slot_block}
use Rattle.bd_tails.specs.Tails.{used_of, AreTails, AreForgotten, IsOfSlot}
use Rattle.bd_tails.specs.declared.tails.Tails.{Tails}
use Rattle.bd_tails.proofs.Known.{zero_stays}
use Rattle.bd_pager.specs.declared.draft.Draft.{Draft}
use Rattle.bd_pager.specs.declared.place.Place.{Place}
use Rattle.bd_pager.specs.declared.place.Place.TheVariants.{Memory, Slot}
use Rattle.bd_pager.specs.declared.place.Spot.{Spot}
use Rattle.bd_pager.specs.declared.usage.Usage.{Usage}
use Rattle.bd_pager.specs.declared.written.Written.{Written}
use Rattle.bd_pager.specs.Changing.{own_slot}
use Rattle.bd_pager.specs.Counting.{AreBelow, AreUnused, has_own, is_in_memory, spot_count, IsTallied}
use Rattle.bd_pager.specs.Drafts.{AreKeptIds, HaveTable, IsDraftOf}
use Rattle.bd_pager.specs.Moving.{OnlyMoves}
use Rattle.bd_pager.specs.Pagers.{Paged, spots_of, is_changed, is_changed_place, IsPaged, IsReady}
use Rattle.bd_pager.specs.Places.{Spots, refs_in, level_in, slot_at, slot_in}
use Rattle.bd_pager.specs.Slots.{IsSpare}
use Rattle.bd_pager.proofs.CountingLemmas.{flag, flag_small, count_kept}
use Rattle.bd_pager.proofs.KeptLemmas.{sum_le}
use Rattle.bd_pager.proofs.MovingLemmas.{by_memory, AreApartFrom}
use Rattle.bd_pager.proofs.SlotLemmas.{one_slot}

-- ---- what stays while nodes are written

ids_moved : (ids : List ℕ) (before after : Spots) → ((id : ℕ) → is_some (after id) ≡ is_some (before id)) → AreKeptIds ids before → AreKeptIds ids after
ids_moved ids before after same was = record {
  rising = was.rising;
  kept = λ k d lt. same (get_or ids k d) ∙ was.kept k d lt;
  all = λ id some. was.all id (sym (same id) ∙ some);
}

pub draft_moved : (slots : ℕ) (before after : Spots) (d : Draft) → ((id : ℕ) → is_some (after id) ≡ is_some (before id)) → IsDraftOf slots before d → IsDraftOf slots after d
draft_moved slots before after d same was = record {
  ids = ids_moved d.ids.items before after same was.ids;
  entries = was.entries;
  at = was.at;
  copy = was.copy;
  spare = was.spare;
  free = was.free;
}

pub table_moved : {D : Type 0} (g : Ghosts D) (spare : List Bool) (root next : ℕ) (d e : D) (before after : Spots) → OnlyMoves g spare root d e before after → HaveTable root next before → HaveTable root next after
table_moved g spare root next d e before after moves was = record {
  named = subst (λ (n : ℕ). 1 ≤ n) (sym (moves.refs root)) was.named;
  inner = subst (λ (n : ℕ). 1 ≤ n) (sym (moves.level root)) was.inner;
  each = λ id s there.
      let b = there_before id s there (before id) refl in
      let own = was.each id b.0 b.1 in
      let refs : s.refs ≡ b.0.refs = sym (ap refs_in there) ∙ moves.refs id ∙ ap refs_in b.1 in
      let level : s.level ≡ b.0.level = sym (ap level_in there) ∙ moves.level id ∙ ap level_in b.1 in
      (own.0, own.1, omega (arith, own.2, refs), omega (arith, own.3, level));
}
  where
    there_before : (id : ℕ) (s : Spot) → after id ≡ Some s → (o : Option Spot) → before id ≡ o → (b : Spot) × (before id ≡ Some b)
    there_before id s there None was_there = absurd (true≢false (sym (ap is_some there) ∙ moves.kept id ∙ ap is_some was_there))
    there_before id s there (Some b) was_there = (b, was_there)

-- a node in memory has an id below the next one
pub table_below : (root next : ℕ) (spots : Spots) → HaveTable root next spots → AreBelow next spots
table_below root next spots table id on = kept_below (spots id) refl on
  where
    kept_below : (o : Option Spot) → spots id ≡ o → is_in_memory o ≡ true → id < next
    kept_below None there on = absurd (true≢false (sym on))
    kept_below (Some s) there on = (table.each id s there).1

-- ---- what is free then

own_changed : (spare : List Bool) (o : Option Spot) → flag (has_own spare o) ≤ flag (is_changed spare o)
own_changed spare None = omega arith
own_changed spare (Some s) = by_place s.place
  where
    by_flag : (slot : ℕ) (f : Option Bool) → slice_get spare slot ≡ f → flag (is_some (slot_if f slot)) ≤ flag (get_or spare slot true)
    by_flag slot None is = omega arith
    by_flag slot (Some false) is = omega arith
    by_flag slot (Some true) is = omega (arith, ap flag (get_or_from_slice_get spare slot true true is))

    by_place : (p : Place) → flag (is_some (own_slot spare p)) ≤ flag (is_changed_place spare p)
    by_place (Memory node slot) = flag_small (is_some slot)
    by_place (Slot slot copy) = by_flag slot (slice_get spare slot) refl

-- as many as weren't promised to changed nodes
pub free_left : (next taken : ℕ) (before after : Spots) (u v : Usage) → IsTallied next before u → IsTallied next after v → v.spare ≡ u.spare → ((id : ℕ) → is_changed u.spare (after id) ≡ is_changed u.spare (before id)) → u.changed + taken ≤ free_count u.spare
    → taken ≤ free_count v.free
free_left next taken before after u v was now spare changed room =
    let own : spot_count (has_own v.spare) next after ≤ spot_count (is_changed v.spare) next after =
    sum_le next (λ id. flag (has_own v.spare (after id))) (λ id. flag (is_changed v.spare (after id))) (λ id. own_changed v.spare (after id)) in
    let same : spot_count (is_changed v.spare) next after ≡ u.changed = ap (λ (l : List Bool). spot_count (is_changed l) next after) spare ∙ count_kept (is_changed u.spare) next before after changed ∙ sym was.counted.changed in
    omega (arith, own, same, now.counted.free, ap free_count spare, room)

-- where some are free, all nodes are in slots
pub all_stored : (next : ℕ) (spots : Spots) (v : Usage) → AreBelow next spots → IsTallied next spots v → 1 ≤ free_count v.free → (v.in_memory ≤ 0) ⊎ (free_count v.free ≡ 0) → (id : ℕ) → is_in_memory (spots id) ≡ false
all_stored next spots v below now some few id = elim (by_memory (is_in_memory (spots id))) [
  | inr is ↦ is
  | inl on ↦
      let one : 1 ≤ flag (is_in_memory (spots id)) = omega (arith, ap flag on) in
      let all : flag (is_in_memory (spots id)) ≤ spot_count is_in_memory next spots = sum_at next (λ i. flag (is_in_memory (spots i))) id (below id on) in
      elim few [
        | inl none ↦ absurd (omega (arith, one, all, now.counted.in_memory, none))
        | inr none ↦ absurd (omega (arith, some, none))
      ]
]

-- ---- the blocks of the table

table_slot : (at : List ℕ) (b : ℕ) → IsOfTable at b → (k : ℕ) × (k < length at) × IsOfSlot (get_or at k 0) b
table_slot at b is = (is.0 / 16, omega (arith, is.1), (omega (arith, is.2), omega (arith, is.2)))

-- what is known of other slots stays where a table is written, and of its own nothing is known
pub table_tails : (old new : Option Image) (at : List ℕ) (before after : Tails) → AreTails old before → AreForgotten at before after → StaysBut (IsOfTable at) old new → AreTails new after
table_tails None None at before after known forgotten same = tt
table_tails (Some old) None at before after known forgotten same = tt
table_tails None (Some new) at before after known forgotten same = absurd same
table_tails (Some old) (Some new) at before after known forgotten same = λ slot i low lt. elim (forgotten.others slot) [
  | inl stays ↦ zero_stays (IsOfTable at) old new (slot_block slot + i) same
      (λ is.
      let found = table_slot at (slot_block slot + i) is in
      let own : slot ≡ get_or at found.0 0 = one_slot slot (get_or at found.0 0) (slot_block slot + i) (omega arith, omega (arith, lt)) found.2 in
      let full : used_of after slot ≡ 16 = forgotten.these slot (found.0, found.1, get_or_default at found.0 slot 0 found.1 ∙ sym own) in
      omega (arith, full, low, lt))
      (known slot i (omega (arith, low, stays)) lt)
  | inr gone ↦ absurd (omega (arith, gone.0, low, lt))
]

pub table_spare : (spare : List Bool) (at : List ℕ) → All (IsFree spare) at → (b : ℕ) → IsOfTable at b → IsSpare spare b
table_spare spare at are_free b is =
    let found = table_slot at b is in
    (get_or at found.0 0, are_free found.0 0 found.1, found.2)

pub table_apart : (spare free : List Bool) (spots : Spots) (at : List ℕ) → AreUnused spare free spots → All (IsFree free) at → AreApartFrom spots (IsOfTable at)
table_apart spare free spots at unused are_free i s slot copy there place b own is =
    let found = table_slot at b is in
    let same : slot ≡ get_or at found.0 0 = one_slot slot (get_or at found.0 0) b own found.2 in
    ((unused.free_is (get_or at found.0 0)).0 (are_free found.0 0 found.1)).1 i (ap slot_in there ∙ ap slot_at place ∙ ap Some same)

-- ---- what holds once all nodes are written

-- each node is in its slot, and there are free ones for the table
pub record AreAllStored (root next : ℕ) (spots : Spots) (u : Usage) (draft : Draft) : Type 0 where
  pub tallied : IsTallied next spots u
  pub draft_is : IsDraftOf (length u.free) spots draft
  pub stored : (id : ℕ) → is_in_memory (spots id) ≡ false
  pub room : length draft.at.items ≤ free_count u.free
  pub table : HaveTable root next spots

pub all_written : {D : Type 0} (g : Ghosts D) (root next : ℕ) (d e : D) (before after : Spots) (u v : Usage) (draft : Draft) → OnlyMoves g u.spare root d e before after → v.spare ≡ u.spare
    → ((n : ℕ) → AreBelow n before → IsTallied n before u → IsTallied n after v) → (v.in_memory ≤ 0) ⊎ (free_count v.free ≡ 0)
    → IsTallied next before u → HaveTable root next before → IsDraftOf (length u.spare) before draft → u.changed + length draft.at.items ≤ free_count u.spare
    → AreAllStored root next after v draft
all_written g root next d e before after u v draft moves spare again few was table drafted room =
    let now : IsTallied next after v = again next (table_below root next before table) was in
    let left : length draft.at.items ≤ free_count v.free = free_left next (length draft.at.items) before after u v was now spare moves.changed room in
    let after_table : HaveTable root next after = table_moved g u.spare root next d e before after moves table in
    let size : length v.free ≡ length u.spare = now.unused.count ∙ ap length spare in
    record {
      tallied = now;
      draft_is = subst (λ (n : ℕ). IsDraftOf n after draft) (sym size) (draft_moved (length u.spare) before after draft moves.kept drafted);
      stored = all_stored next after v (table_below root next after after_table) now (omega (arith, left, drafted.at)) few;
      room = left;
      table = after_table;
    }

-- ---- a pager

-- its kept nodes have a table
pub paged_table : {D : Type 0} (contents : Option Image) (p : Paged D) → IsPaged contents p → HaveTable p.root p.next (spots_of p)
paged_table contents p h = record {
  named = h.table.root;
  inner = h.table.inner;
  each = λ id s there.
      let kept : 1 ≤ refs_in (spots_of p id) = omega (arith, h.used id s there, ap refs_in there) in
      (h.table.low id kept, h.table.below id kept, h.used id s there, h.levels id s there);
}

-- one that has something ready
pub ready_paged : {D : Type 0} (contents : Option Image) (p : Paged D) (w : Written) → IsPaged contents p → IsReady p.spare (spots_of p) p.root p.next w → IsPaged contents (record p { written = Some w })
ready_paged contents p w was ready = record {
  table = record { root = was.table.root; inner = was.table.inner; low = was.table.low; below = was.table.below };
  used = was.used;
  placed = was.placed;
  root = was.root;
  cached = was.cached;
  levels = was.levels;
  held = was.held;
  spare = was.spare;
  slots = was.slots;
  stored = was.stored;
  saved = was.saved;
  entries = was.entries;
  tails = was.tails;
  ready = ready;
}
