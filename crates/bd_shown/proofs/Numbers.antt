-- A pager's numbers.
use Rattle.std.proofs.Common.{◌≡◌, ℕ, ◌+◌, ◌-◌, ◌≤◌, Bool, ◌&&◌, ◌||◌, not, is_some, List, [], ◌∷◌, ◌++◌, length, Option, None, Some, refl, sym, ap, ◌∙◌, arith}
use Rattle.std.specs.Prelude.{◌==◌, nat_le, if◌then◌else◌}
use Rattle.std.specs.List.{list_any}
use Rattle.std.proofs.lemmas.Bool.{le-leb}
use Rattle.std.proofs.lemmas.List.{length-append, length-map}
use Rattle.bd_device.specs.Blocks.{Image}
use Rattle.bd_device.specs.declared.device.Device.{Ghosts}
use Rattle.bd_graft.specs.declared.grafting.Walk.{Walk}
use Rattle.bd_slots.specs.Layout.{table_length}
use Rattle.bd_node.proofs.Sums.{sum_same}
use Rattle.bd_table.specs.Tables.{IsTableAt, slots_of}
use Rattle.bd_table.specs.declared.table.TableEntry.{TableEntry}
use Rattle.bd_pager.specs.declared.place.Spot.{Spot}
use Rattle.bd_pager.specs.Places.{refs_in}
use Rattle.bd_pager.specs.Pagers.{Paged, spots_of, is_saved, touched_at, IsPaged}
use Rattle.bd_pager.specs.Counting.{is_new_or_touched, changed_of, free_of}
use Rattle.bd_view.specs.Views.{is_changed, changed_count, held_slots, free_slots}
use Rattle.bd_shown.specs.Shown.{ids_of, shown}

-- the checkpoint has the same ids
pub saved_ids : (entries : List TableEntry) (id : ℕ) → list_any (λ other. other == id) (ids_of entries) ≡ is_saved entries id
saved_ids [] id = refl
saved_ids (e ∷ es) id = ap (λ b. (e.id == id) || b) (saved_ids es id)

-- a node is kept where something is known of it
kept_in : (o : Option Spot) → ((s : Spot) → o ≡ Some s → 1 ≤ s.refs) → nat_le 1 (refs_in o) ≡ is_some o
kept_in None used = refl
kept_in (Some s) used = le-leb 1 s.refs (used s refl)

module _ {D : Type 0} (g : Ghosts D) (p : Paged D) (walk : Walk) (version epoch place waiting : ℕ) where
  changed_at : (contents : Option Image) → IsPaged contents p → (id : ℕ) → is_new_or_touched p.saved.entries p.spare (spots_of p) id ≡ is_changed (shown g p walk version epoch place waiting) id
  changed_at contents h id =
      let touched : Bool = touched_at p.saved.entries p.spare (spots_of p) id in
      let kept : nat_le 1 (refs_in (spots_of p id)) ≡ is_some (spots_of p id) = kept_in (spots_of p id) (h.used id) in
      ap (λ b. b && (not (is_saved p.saved.entries id) || touched)) (sym kept)
      ∙ ap (λ b. nat_le 1 (refs_in (spots_of p id)) && (not b || touched)) (sym (saved_ids p.saved.entries id))

  pub changed_shown : (contents : Option Image) → IsPaged contents p → changed_of p ≡ changed_count (shown g p walk version epoch place waiting)
  changed_shown contents h = sum_same p.next _ _ (λ id low. ap (λ b. if b then 1 else 0) (changed_at contents h id))

  pub free_shown : IsTableAt (length p.spare) p.at p.saved → free_of p ≡ free_slots (shown g p walk version epoch place waiting)
  free_shown h =
      let all : length (p.at ++ slots_of p.saved.entries) ≡ length p.at + length (slots_of p.saved.entries) = length-append p.at (slots_of p.saved.entries) in
      let slots : length (slots_of p.saved.entries) ≡ length p.saved.entries = length-map p.saved.entries (λ (e : TableEntry). e.slot) in
      let ids : length (ids_of p.saved.entries) ≡ length p.saved.entries = length-map p.saved.entries (λ (e : TableEntry). e.id) in
      let held : length (p.at ++ slots_of p.saved.entries) ≡ length p.saved.entries + table_length (length p.saved.entries) = omega (arith, all, slots, h.place) in
      ap (λ n. length p.spare - n) (held ∙ ap held_slots (sym ids))
