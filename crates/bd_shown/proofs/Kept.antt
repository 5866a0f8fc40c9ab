-- Calls that keep the last checkpoint.
use Rattle.std.proofs.Common.{◌≡◌, ℕ, ◌<◌, ◌≤◌, Bool, true, false, ◌&&◌, List, length, Option, None, Some, refl, sym, ap, subst, ◌∙◌, inl, inr, arith}
use Rattle.std.specs.Prelude.{◌==◌, Any, AllPairs, IsTrue, get_or}
use Rattle.std.specs.List.{list_any}
use Rattle.std.specs.Global.{Global}
use Rattle.std.specs.declared.rc.Rc.{Rc}
use Rattle.std.proofs.lemmas.List.{get_or_default}
use Rattle.std.proofs.lemmas.Bool.{true≢false, cases_Bool, cases_lt}
use Rattle.bd_device.specs.Blocks.{Image}
use Rattle.bd_device.specs.declared.device.Device.{Ghosts}
use Rattle.bd_format.specs.Decoding.{node_in}
use Rattle.bd_graft.specs.declared.grafting.Walk.{Walk}
use Rattle.bd_node.specs.declared.node.Node.{Node}
use Rattle.bd_node.specs.Tables.{IsKept}
use Rattle.bd_table.specs.Tables.{IsTableAt}
use Rattle.bd_table.specs.declared.table.Table.{Table as Checkpoint}
use Rattle.bd_table.specs.declared.table.TableEntry.{TableEntry}
use Rattle.bd_pager.specs.declared.place.Place.{Place}
use Rattle.bd_pager.specs.declared.place.Place.TheVariants.{Memory, Slot}
use Rattle.bd_pager.specs.declared.place.Spot.{Spot}
use Rattle.bd_pager.specs.Keeping.{KeepsSaved}
use Rattle.bd_pager.specs.Places.{refs_in, node_at, node_of, told}
use Rattle.bd_pager.specs.Pagers.{Paged, spots_of, table_of, nodes_of, is_saved, is_changed, is_changed_place, is_known, IsRightPlace, IsPlaceIn, IsStoredAs, IsPaged}
use Rattle.bd_tails.specs.Tails.{slot_bytes}
use Rattle.bd_pager.proofs.AskedLemmas.{unchanged_held}
use Rattle.bd_view.specs.Moves.{OnlyNodes}
use Rattle.bd_shown.specs.Shown.{ids_of, tree_of, shown}
use Rattle.bd_shown.proofs.Numbers.{saved_ids}

-- ---- a node as the checkpoint has it

-- its slot is an entry's, and what is there is what the slot's bytes encode
record IsAsSaved (image : Image) (entries : List TableEntry) (id : ℕ) (node : Option Node) : Type 0 where
  slot : ℕ
  entry : Any (λ (e : TableEntry). (e.id ≡ id) × (e.slot ≡ slot)) entries
  there : node ≡ node_in (slot_bytes image slot)

right_there : (image : Image) (slot : ℕ) (copy : Option (Rc Node Global)) → IsRightPlace image (Slot slot copy) → node_at image (Slot slot copy) ≡ node_in (slot_bytes image slot)
right_there image slot None right = refl
right_there image slot (Some node) right = sym right

place_saved : (image : Image) (spare : List Bool) (entries : List TableEntry) (id level : ℕ) (p : Place) → IsPlaceIn spare p → IsStoredAs spare entries id level p → IsRightPlace image p → is_changed_place spare p ≡ false
    → IsAsSaved image entries id (node_at image p)
place_saved image spare entries id level (Memory node slot) within stored right is = absurd (true≢false is)
place_saved image spare entries id level (Slot slot copy) within stored right is =
    let found = stored (unchanged_held spare slot within is) in
    record { slot = slot; entry = (found.0, found.1, found.2, found.3, (found.4.0, found.4.1)); there = right_there image slot copy right }

-- one id has one slot
one_slot : (entries : List TableEntry) (id slot other : ℕ) → AllPairs (λ (e : TableEntry) (o : TableEntry). e.id < o.id) entries → Any (λ (e : TableEntry). (e.id ≡ id) × (e.slot ≡ slot)) entries
    → Any (λ (e : TableEntry). (e.id ≡ id) × (e.slot ≡ other)) entries → slot ≡ other
one_slot entries id slot other rising a b =
    let Entry : ℕ → TableEntry = λ k. get_or entries k a.1 in
    let first : Entry a.0 ≡ a.1 = a.3 in
    let second : Entry b.0 ≡ b.1 = get_or_default entries b.0 a.1 b.1 b.2 ∙ b.3 in
    let low : (Entry a.0).id ≡ id = ap (λ (e : TableEntry). e.id) first ∙ a.4.0 in
    let high : (Entry b.0).id ≡ id = ap (λ (e : TableEntry). e.id) second ∙ b.4.0 in
    elim (cases_lt a.0 b.0) [
      | inl before ↦ let less : (Entry a.0).id < (Entry b.0).id = rising a.0 b.0 a.1 before b.2 in absurd (omega (arith, less, low, high))
      | inr not_before ↦ elim (cases_lt b.0 a.0) [
        | inl after ↦ let less : (Entry b.0).id < (Entry a.0).id = rising b.0 a.0 a.1 after a.2 in absurd (omega (arith, less, low, high))
        | inr not_after ↦ let same : a.0 ≡ b.0 = omega (arith, not_before, not_after) in
            sym a.4.1 ∙ ap (λ (e : TableEntry). e.slot) (sym first ∙ ap Entry same ∙ second) ∙ b.4.1
      ]
    ]

-- ---- over two pagers

module _ {D : Type 0} (g : Ghosts D) where
  -- a kept node that wasn't changed
  spot_saved : (contents : Option Image) (p : Paged D) (id : ℕ) (o : Option Spot) → IsPaged contents p → is_known g p → spots_of p id ≡ o → 1 ≤ refs_in o → is_changed p.spare o ≡ false
      → IsAsSaved (told (g.contents p.dev)) p.saved.entries id (node_of (told (g.contents p.dev)) o)
  spot_saved contents p id None h known there kept is = absurd (omega (arith, kept))
  spot_saved contents p id (Some s) h known there kept is =
      place_saved (told (g.contents p.dev)) p.spare p.saved.entries id s.level s.place (h.slots id s there) (h.stored id s there) (known.right id s there) is

  node_saved : (contents : Option Image) (p : Paged D) (id : ℕ) → IsPaged contents p → is_known g p → IsKept (table_of p) id → is_changed p.spare (spots_of p id) ≡ false
      → IsAsSaved (told (g.contents p.dev)) p.saved.entries id (nodes_of g p id)
  node_saved contents p id h known kept is = spot_saved contents p id (spots_of p id) h known refl kept is

  -- a saved node that isn't touched wasn't changed
  unchanged : (p : Paged D) (id : ℕ) → is_saved p.saved.entries id ≡ true → (table_of p).touched id ≡ false → is_changed p.spare (spots_of p id) ≡ false
  unchanged p id saved is = ap (λ b. b && is_changed p.spare (spots_of p id)) (sym saved) ∙ is

  pub kept_shown : (before after : Option Image) (old new : Paged D) (walk next : Walk) (version epoch place waiting : ℕ) → IsPaged before old → IsPaged after new → IsTableAt (length old.spare) old.at old.saved → is_known g old → is_known g new
      → KeepsSaved g old new → OnlyNodes (shown g old walk version epoch place waiting) (shown g new next version epoch place waiting)
  kept_shown before after old new walk next version epoch place waiting h k table known still keeps =
      let saved_in : (id : ℕ) → IsTrue (list_any (λ other. other == id) (ids_of old.saved.entries)) → is_saved old.saved.entries id ≡ true = λ id saved. sym (saved_ids old.saved.entries id) ∙ saved in
      let low : (id : ℕ) → IsTrue (list_any (λ other. other == id) (ids_of old.saved.entries)) → id < old.next = λ id saved. h.saved id (saved_in id saved) in
      record {
        touched = λ id kept saved was. keeps.touched id (low id saved) was kept;
        same = λ id kept saved not.
            let was : is_saved old.saved.entries id ≡ true = saved_in id saved in
            let now : is_saved new.saved.entries id ≡ true = ap (λ (t : Checkpoint). is_saved t.entries id) keeps.saved ∙ was in
            let untouched : (table_of old).touched id ≡ false =
            elim (cases_Bool ((table_of old).touched id)) [ inl on ↦ absurd (true≢false (sym (keeps.touched id (low id saved) on kept) ∙ not)) | inr off ↦ off ] in
            let first = node_saved before old id h known (keeps.kept id (low id saved) kept) (unchanged old id was untouched) in
            let second : IsAsSaved (told (g.contents old.dev)) old.saved.entries id (nodes_of g new id) =
            subst (λ (o : Option Image). IsAsSaved (told o) old.saved.entries id (nodes_of g new id)) keeps.device.kept
            (subst (λ (t : Checkpoint). IsAsSaved (told (g.contents new.dev)) t.entries id (nodes_of g new id)) keeps.saved (node_saved after new id k still kept (unchanged new id now not))) in
            second.there ∙ ap (λ slot. node_in (slot_bytes (told (g.contents old.dev)) slot)) (one_slot old.saved.entries id second.slot first.slot table.entries.rising second.entry first.entry) ∙ sym first.there;
        rest = λ i. record {
          tree = tree_of g new next;
          saved = ids_of (keeps.saved i).entries;
          slots = length (keeps.spare i);
          version = version;
          epoch = epoch;
          place = place;
          waiting = waiting;
        };
      }
