-- What a pager is asked: how many nodes were changed, and how many slots are free.
use Rattle.std.proofs.Common.{◌≡◌, ℕ, ◌<◌, Bool, true, false, ◌&&◌, ◌||◌, is_some, List, ◌++◌, length, get_or, nat_eq, Option, None, Some, refl, sym, ap, ◌∙◌, arith}
use Rattle.std.specs.Prelude.{Any, not}
use Rattle.std.proofs.lemmas.Bool.{true≢false, eq-eqb}
use Rattle.std.proofs.lemmas.List.Folds.{list_any-from_Any}
use Rattle.std.proofs.lemmas.Option.{slice_get-get_or}
use Rattle.bd_slots.specs.Slots.{IsHeld, free_count}
use Rattle.bd_device.specs.Blocks.{Image}
use Rattle.bd_node.proofs.Sums.{sum_same}
use Rattle.bd_table.specs.Tables.{slots_of}
use Rattle.bd_table.specs.declared.table.TableEntry.{TableEntry}
use Rattle.bd_pager.specs.declared.place.Place.{Place}
use Rattle.bd_pager.specs.declared.place.Place.TheVariants.{Memory, Slot}
use Rattle.bd_pager.specs.declared.place.Spot.{Spot}
use Rattle.bd_pager.specs.Counting.{is_new_or_touched, changed_of, free_of, spot_count}
use Rattle.bd_pager.specs.Pagers.{Paged, spots_of, is_saved, is_changed, is_changed_place, IsPlaceIn, IsStoredAs, IsPaged}
use Rattle.bd_pager.proofs.CountingLemmas.{flag}
use Rattle.bd_pager.proofs.FlagLemmas.{free_rest}

-- an entry of the id is one that is saved
pub entry_saved : (entries : List TableEntry) (id slot level : ℕ) → Any (λ e. (e.id ≡ id) × (e.slot ≡ slot) × (e.level ≡ level)) entries → is_saved entries id ≡ true
entry_saved entries id slot level found =
    list_any-from_Any (λ (e : TableEntry). nat_eq e.id id) entries (found.0, found.1, found.2, found.3, eq-eqb found.1.id id found.4.0)

-- a node that wasn't changed is in a slot that the checkpoint holds
pub unchanged_held : (spare : List Bool) (slot : ℕ) → slot < length spare → get_or spare slot true ≡ false → IsHeld spare slot
unchanged_held spare slot low is = slice_get-get_or spare slot true low ∙ ap Some is

pub unchanged_saved : (spare : List Bool) (entries : List TableEntry) (id level : ℕ) (p : Place) → IsPlaceIn spare p → IsStoredAs spare entries id level p → is_changed_place spare p ≡ false → is_saved entries id ≡ true
unchanged_saved spare entries id level (Memory node slot) within stored is = absurd (true≢false is)
unchanged_saved spare entries id level (Slot slot copy) within stored is = entry_saved entries id slot level (stored (unchanged_held spare slot within is))

new_or_touched : (saved changed : Bool) → (changed ≡ false → saved ≡ true) → (not saved || (saved && changed)) ≡ changed
new_or_touched true true known = refl
new_or_touched true false known = refl
new_or_touched false true known = refl
new_or_touched false false known = absurd (true≢false (sym (known refl)))

module _ {D : Type 0} (contents : Option Image) (p : Paged D) (h : IsPaged contents p) where
  same_at : (id : ℕ) (o : Option Spot) → spots_of p id ≡ o → (is_some o && (not (is_saved p.saved.entries id) || (is_saved p.saved.entries id && is_changed p.spare o))) ≡ is_changed p.spare o
  same_at id None there = refl
  same_at id (Some s) there =
      new_or_touched (is_saved p.saved.entries id) (is_changed_place p.spare s.place) (unchanged_saved p.spare p.saved.entries id s.level s.place (h.slots id s there) (h.stored id s there))

  pub changed_is : changed_of p ≡ spot_count (is_changed p.spare) p.next (spots_of p)
  changed_is = sum_same p.next (λ id. flag (is_new_or_touched p.saved.entries p.spare (spots_of p) id)) (λ id. flag (is_changed p.spare (spots_of p id))) (λ id low. ap flag (same_at id (spots_of p id) refl))

  pub free_is : free_count p.spare ≡ free_of p
  free_is = omega (arith, free_rest (length p.spare) (p.at ++ slots_of p.saved.entries) p.spare h.held h.spare)
