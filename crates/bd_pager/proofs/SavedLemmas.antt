-- A pager whose last checkpoint is what was written.
use Rattle.std.proofs.Common.{◌≡◌, ℕ, ◌<◌, Bool, true, false, IsTrue, List, ◌++◌, length, get_or, nat_eq, Option, None, Some, refl, sym, ap, subst, ◌∙◌, arith}
use Rattle.std.specs.Prelude.{Any, Contains}
use Rattle.std.proofs.lemmas.Bool.{eqb-true}
use Rattle.std.proofs.lemmas.List.Elements.{Contains-append_right}
use Rattle.std.proofs.lemmas.List.Folds.{Any-from_list_any}
use Rattle.std.proofs.lemmas.Option.{none-some, same_Some}
use Rattle.bd_slots.specs.Layout.{AreSlots}
use Rattle.bd_slots.specs.Slots.{IsFree, IsHeld, free_count}
use Rattle.bd_device.specs.Blocks.{Image}
use Rattle.bd_table.specs.Tables.{AreFreeSlots, slots_of}
use Rattle.bd_table.specs.declared.table.TableEntry.{TableEntry}
use Rattle.bd_pager.specs.declared.place.Spot.{Spot}
use Rattle.bd_pager.specs.declared.usage.Usage.{Usage}
use Rattle.bd_pager.specs.declared.written.Written.{Written}
use Rattle.bd_pager.specs.Counting.{AreUnused, has_own, IsTallied}
use Rattle.bd_pager.specs.Places.{Spots, slot_in}
use Rattle.bd_pager.specs.Pagers.{Paged, spots_of, is_saved, is_changed, saved_as, IsEntryOf, IsInSlot, IsReady, IsPaged}
use Rattle.bd_pager.proofs.CountingLemmas.{count_none, in_place, in_slot_at, stored_place, held_unchanged, held_not_own, free_not_held}
use Rattle.bd_pager.proofs.FlagLemmas.{taken_held, entry_slot}

-- a kept node is that of an entry
record IsWritten (spare : List Bool) (w : Written) (id : ℕ) (s : Spot) : Type 0 where
  entry : TableEntry
  among : Contains w.table.entries entry
  id_is : entry.id ≡ id
  level : entry.level ≡ s.level
  inside : IsInSlot entry.slot s.place
  low : entry.slot < length spare
  held : IsHeld w.spare entry.slot

module _ (spare : List Bool) (spots : Spots) (root next : ℕ) (w : Written) (h : IsReady spare spots root next w) where
  of_entry : (id : ℕ) (s : Spot) → spots id ≡ Some s → IsWritten spare w id s
  of_entry id s there =
      let found = h.entries.all id s there in
      let e : TableEntry = found.1 in
      let own : IsEntryOf e (spots e.id) = subst (λ (x : TableEntry). IsEntryOf x (spots x.id)) found.3 (h.entries.each found.0 e found.2) in
      let mine : IsEntryOf e (Some s) = subst (λ (o : Option Spot). IsEntryOf e o) (ap spots found.4 ∙ there) own in
      let among : Contains w.table.entries e = (found.0, found.2, found.3) in
      let taken : Contains (w.at ++ slots_of w.table.entries) e.slot = Contains-append_right w.at (slots_of w.table.entries) e.slot (entry_slot w.table.entries e among) in
      let low : e.slot < length spare = subst (λ (k : ℕ). k < length spare) taken.2 (h.table.differ.below taken.0 e.slot taken.1) in
      record {
        entry = e;
        among = among;
        id_is = found.4;
        level = mine.1;
        inside = mine.2;
        low = low;
        held = taken_held (length spare) (w.at ++ slots_of w.table.entries) w.spare e.slot h.spare_is low taken;
      }

  each_of : {X : Type 0} (F : Option Spot → X) (x : X) → F None ≡ x → ((slot : ℕ) (s : Spot) → IsHeld w.spare slot → IsInSlot slot s.place → F (Some s) ≡ x) → (id : ℕ) (o : Option Spot) → spots id ≡ o → F o ≡ x
  each_of F x none some id None there = none
  each_of F x none some id (Some s) there = let k : IsWritten spare w id s = of_entry id s there in some k.entry.slot s k.held k.inside

  none_has : (id slot : ℕ) (o : Option Spot) → spots id ≡ o → slot_in o ≡ Some slot → IsHeld w.spare slot
  none_has id slot None there e = absurd (none-some slot e)
  none_has id slot (Some s) there e =
      let k : IsWritten spare w id s = of_entry id s there in
      subst (λ (x : ℕ). IsHeld w.spare x) (same_Some k.entry.slot slot (sym (in_slot_at k.entry.slot s.place k.inside) ∙ e)) k.held

  long : length w.spare ≡ length spare
  long = h.spare_is.count

  saved_unused : (free : List Bool) → AreUnused spare free spots → AreUnused w.spare w.free spots
  saved_unused free was = record {
    slots = λ id s there. let k : IsWritten spare w id s = of_entry id s there in in_place w.spare k.entry.slot s.place k.inside (omega (arith, k.low, long));
    apart = was.apart;
    count = ap length h.free_is;
    free_is = λ slot. (
      λ is.
          let spared : IsFree w.spare slot = subst (λ (l : List Bool). IsFree l slot) h.free_is is in
          (spared, λ id e. free_not_held w.spare slot spared (none_has id slot (spots id) refl e)),
      λ un. subst (λ (l : List Bool). IsFree l slot) (sym h.free_is) un.0,
    );
  }

  pub saved_tallied : (u : Usage) → u.spare ≡ spare → IsTallied next spots u → IsTallied next spots (record u { spare = w.spare; free = w.free; changed = 0 })
  saved_tallied u spare_is was = record {
    unused = saved_unused u.free (subst (λ (l : List Bool). AreUnused l u.free spots) spare_is was.unused);
    counted = record {
      fits = was.counted.fits;
      changed = sym (count_none (is_changed w.spare) next spots (λ id. each_of (is_changed w.spare) false refl (λ slot s held inside. held_unchanged w.spare slot s.place held inside) id (spots id) refl));
      in_memory = was.counted.in_memory;
      free = omega (
        arith,
        ap free_count h.free_is,
        count_none (has_own w.spare) next spots (λ id. each_of (has_own w.spare) false refl (λ slot s held inside. held_not_own w.spare slot s.place held inside) id (spots id) refl),
      );
    };
    listed = was.listed;
  }

  pub entry_below : (id : ℕ) → IsTrue (is_saved w.table.entries id) → id < next
  entry_below id saved =
      let found : Any (λ (e : TableEntry). nat_eq e.id id ≡ true) w.table.entries = Any-from_list_any (λ (e : TableEntry). nat_eq e.id id) w.table.entries saved in
      let low : (get_or w.table.entries found.0 found.1).id < w.table.next_id = h.table.entries.below_next found.0 found.1 found.2 in
      omega (arith, low, ap (λ (e : TableEntry). e.id) found.3, eqb-true found.1.id id found.4, h.next_is)

pub saved_paged : {D : Type 0} (contents : Option Image) (p : Paged D) (w : Written) → IsPaged contents p → IsReady p.spare (spots_of p) p.root p.next w → IsPaged contents (saved_as w p)
saved_paged contents p w was h =
    let of : (id : ℕ) (s : Spot) → spots_of p id ≡ Some s → IsWritten p.spare w id s = of_entry p.spare (spots_of p) p.root p.next w h in
    record {
      table = record { root = was.table.root; inner = was.table.inner; low = was.table.low; below = was.table.below };
      used = was.used;
      placed = was.placed;
      root = was.root;
      cached = was.cached;
      levels = was.levels;
      held = subst (λ (n : ℕ). AreSlots n (w.at ++ slots_of w.table.entries)) (sym h.spare_is.count) h.table.differ;
      spare = subst (λ (n : ℕ). AreFreeSlots n (w.at ++ slots_of w.table.entries) w.spare) (sym h.spare_is.count) h.spare_is;
      slots = λ id s there. let k : IsWritten p.spare w id s = of id s there in in_place w.spare k.entry.slot s.place k.inside (omega (arith, k.low, h.spare_is.count));
      stored = λ id s there. let k : IsWritten p.spare w id s = of id s there in stored_place w.spare w.table.entries id s.level k.entry s.place k.among k.inside k.id_is k.level;
      saved = entry_below p.spare (spots_of p) p.root p.next w h;
      entries = record { rising = h.table.entries.rising; named = λ k d lt. (h.table.entries.each k d lt).refs };
      tails = was.tails;
      ready = tt;
    }
