-- Which blocks may be bad for an engine's nodes, and what shows it.
use Rattle.std.proofs.Common.{◌≡◌, ℕ, suc, ◌<◌, inl, inr, Bool, true, false, List, [], ◌∷◌, ◌++◌, length, get_or, All, Option, None, Some, IfSome, refl, sym, ap, subst, ◌∙◌, arith}
use Rattle.std.specs.Prelude.{◌≢◌, Contains, IsSome, slice_get, slice_index}
use Rattle.std.proofs.lemmas.Bool.{cases_eq}
use Rattle.std.proofs.lemmas.List.Elements.{Contains-append_right, All-from_recursion}
use Rattle.std.proofs.lemmas.Option.{slice_get-get_or}
use Rattle.bd_slots.specs.Layout.{slot_block}
use Rattle.bd_slots.specs.Slots.{IsHeld}
use Rattle.bd_device.specs.Blocks.{Image}
use Rattle.bd_device.specs.Changes.{SameBut, StaysBut}
use Rattle.bd_device.specs.Device.{left_now}
use Rattle.bd_device.specs.declared.device.Device.{Ghosts}
use Rattle.bd_node.specs.Meaning.{Nodes}
use Rattle.bd_node.specs.Tables.{Table, IsSound}
use Rattle.bd_table.specs.Entries.{level_at}
use Rattle.bd_table.specs.Image.{HoldsTable}
use Rattle.bd_table.specs.Tables.{AreFreeSlots, IsTableAt, slots_of}
use Rattle.bd_table.specs.declared.table.TableEntry.{TableEntry}
use Rattle.bd_table.proofs.EntryLemmas.{entry_found, entry_stands}
use Rattle.bd_super.specs.Live.{IsLive}
use Rattle.bd_super.specs.declared.superblock.Super.{Super}
use Rattle.bd_log.specs.Logs.{LogState}
use Rattle.bd_pager.specs.declared.place.Place.{Place}
use Rattle.bd_pager.specs.declared.place.Place.TheVariants.{Memory, Slot}
use Rattle.bd_pager.specs.declared.place.Spot.{Spot}
use Rattle.bd_pager.specs.Entries.{saved_spot}
use Rattle.bd_pager.specs.Damage.{HasGoodNode, IsFirstDamaged}
use Rattle.bd_pager.specs.Keeping.{KeepsSaved}
use Rattle.bd_pager.specs.Moving.{Spills}
use Rattle.bd_pager.specs.Opened.{IsOpened}
use Rattle.bd_pager.specs.Pagers.{Paged, spots_of, nodes_of, table_of, is_known, is_bad, AreEntriesOf, IsEntryOf, IsInSlot, IsPaged, IsPlaceIn, IsStoredAs}
use Rattle.bd_pager.specs.Places.{IsBadPlace, IsBadSpot, NoneTurnsBad}
use Rattle.bd_format.specs.Slots.{HasNode, HasNoGoodNode}
use Rattle.bd_pager.specs.Slots.{IsSpare}
use Rattle.bd_pager.proofs.FlagLemmas.{taken_held, entry_slot}
use Rattle.bd_pager.proofs.OpenedLemmas.{search_id, slot_within}
use Rattle.bd_image.specs.Damage.{IsBadAt, HasNoSoundNodes}
use Rattle.bd_image.specs.Damage.IsFoundBad.{bad_node}
use Rattle.bd_image.specs.Damage.IsBadAt.{found_bad, unsound_nodes}
use Rattle.bd_image.specs.Stored.{table_of as stored_table}
use Rattle.bd_image.specs.Used.{IsOfSlots}
use Rattle.bd_image.proofs.Frame.{nodes_same}
use Rattle.bd_checkpoint.specs.Kept.{Saved, slots_held, StartsAs, IsOpen}
use Rattle.bd_checkpoint.specs.Recovering.{saved_of, AreStored, IsBadIn}
use Rattle.bd_checkpoint.specs.Saving.{IsSaved, StaysUnsaved}
use Rattle.bd_checkpoint.specs.Surviving.{IsLow, IsLowOrSpare, SurvivesOn}
use Rattle.bd_checkpoint.proofs.Opened.{AreDecoded}
use Rattle.bd_checkpoint.proofs.Slots.{stays_same, told_before}
use Rattle.bd_checkpoint.proofs.Spare.{not_held}
use Rattle.bd_engine.specs.Engines.{EngineState, HasSoundNodes, HasSoundStored, IsNoWorse, IsStanding}
use Rattle.bd_engine.proofs.SavedNodes.{saved_sounds}

-- ---- slots

apart : {o : Option Bool} → o ≡ Some false → o ≡ Some true → ⊥
apart held free = cc

-- the first block of a slot that the last checkpoint holds is of no spare one
held_not_spare : (spare : List Bool) (slot b : ℕ) → IsHeld spare slot → b ≡ slot_block slot → IsSpare spare b → ⊥
held_not_spare spare slot b held is of =
    let same : of.0 ≡ slot = omega (arith, is, of.2.0, of.2.1) in
    apart held (ap (slice_get spare) (sym same) ∙ of.1)

-- a slot is held, where its first block is of no spare one
held_or_spare : (spare : List Bool) (slot b : ℕ) → slot < length spare → b ≡ slot_block slot → (IsSpare spare b → ⊥) → IsHeld spare slot
held_or_spare spare slot b low is not = decide (get_or spare slot true) (slice_get-get_or spare slot true low)
  where
    decide : (flag : Bool) → slice_get spare slot ≡ Some flag → IsHeld spare slot
    decide false is_held = is_held
    decide true is_free = absurd (not (slot, is_free, (omega (arith, is), omega (arith, is))))

-- ---- what stays no worse

-- the nodes of the last checkpoint were stored before, where its slots stay
held_before : (changed : ℕ → Type 0) (saved : Saved) (old new : Image) → ((b : ℕ) → IsOfSlots (slots_held saved) b → ¬ changed b) → SameBut changed old new → HasSoundStored new saved.table → HasSoundStored old saved.table
held_before changed saved old new out same h = record {
  nodes = h.nodes;
  held = nodes_same saved.at saved.table h.nodes new old (sym same.size) (λ b own. sym (same.others b (out b own))) h.held;
  sound = h.sound;
}

module _ {D : Type 0} (g : Ghosts D) (old new : Paged D) (changed : ℕ → Type 0) (same : new.saved ≡ old.saved) (out : (b : ℕ) → IsOfSlots (slots_held (saved_of old)) b → ¬ changed b) (sound : IsSound (nodes_of g old) (table_of old) → IsSound (nodes_of g new) (table_of new)) where
  sound_after : (before now : Option Image) → StaysBut changed before now → IfSome before (λ image. HasSoundStored image old.saved → IsSound (nodes_of g old) (table_of old)) → IfSome now (λ image. HasSoundStored image new.saved → IsSound (nodes_of g new) (table_of new))
  sound_after None None stays was = tt
  sound_after (Some a) (Some b) stays was = λ stored. sound (was (held_before changed (saved_of old) a b out stays (subst (HasSoundStored b) same stored)))
  sound_after None (Some b) stays was = absurd stays
  sound_after (Some a) None stays was = absurd stays

-- where some blocks changed, none of them of the last checkpoint, no block turned bad and sound nodes
-- stayed so
no_worse_after : {D : Type 0} (g : Ghosts D) (old new : Paged D) (changed : ℕ → Type 0) → StaysBut changed (g.contents old.dev) (g.contents new.dev) → ((b : ℕ) → IsOfSlots (slots_held (saved_of old)) b → ¬ changed b) → new.saved ≡ old.saved → new.spare ≡ old.spare
    → (is_known g old → is_known g new) → (is_known g old → NoneTurnsBad (g.contents old.dev) (spots_of old) (g.contents new.dev) (spots_of new)) → (HasSoundNodes g old → HasSoundNodes g new)
    → (IsSome (g.contents old.dev) → IsNoWorse g old) → IsSome (g.contents new.dev) → IsNoWorse g new
no_worse_after g old new changed stays out same spare known bad sound h is =
    let was : IsNoWorse g old = h (told_before changed (g.contents old.dev) (g.contents new.dev) stays is) in
    record {
      known = known was.known;
      good = λ id b spot of. was.good id b (bad was.known id b spot) (subst (λ (l : List Bool). IsSpare l b) spare of);
      sound = sound_after g old new changed same out (λ s. (sound (record { known = was.known; sound = s })).sound) (g.contents old.dev) (g.contents new.dev) stays was.sound;
    }

pub no_worse_kept : {D : Type 0} (g : Ghosts D) (old new : Paged D) → KeepsSaved g old new → (HasSoundNodes g old → HasSoundNodes g new) → (IsSome (g.contents old.dev) → IsNoWorse g old) → IsSome (g.contents new.dev) → IsNoWorse g new
no_worse_kept g old new k sound h =
    no_worse_after g old new (λ b. ⊥) (subst (λ (o : Option Image). StaysBut (λ b. ⊥) (g.contents old.dev) o) (sym k.device.kept) (stays_same (λ b. ⊥) (g.contents old.dev))) (λ b own no. no) k.saved k.spare k.known k.bad sound h

-- the slots of the last checkpoint are neither before the slots nor spare
not_low : (slots : List ℕ) (b : ℕ) → IsOfSlots slots b → ¬ IsLow b
not_low slots b own low = omega (arith, low, own.4.0)

pub no_worse_spilled : {D : Type 0} (g : Ghosts D) (old new : Paged D) → IsPaged (g.contents old.dev) old → Spills g old new → (HasSoundNodes g old → HasSoundNodes g new) → (IsSome (g.contents old.dev) → IsNoWorse g old) → IsSome (g.contents new.dev) → IsNoWorse g new
no_worse_spilled {D} g old new paged s sound h =
    no_worse_after g old new (IsSpare old.spare) s.moves.elsewhere (λ b own. not_held (length old.spare) (slots_held (saved_of old)) old.spare b paged.spare own)
    (ap (λ (p : Paged D). p.saved) s.rest) (ap (λ (p : Paged D). p.spare) s.rest) s.moves.known s.bad sound h

pub no_worse_survives : {D : Type 0} (g : Ghosts D) (old new : Paged D) → SurvivesOn g old new → (IsSome (g.contents old.dev) → IsNoWorse g old) → IsSome (g.contents new.dev) → IsNoWorse g new
no_worse_survives {D} g old new k h =
    no_worse_after g old new IsLow k.elsewhere (not_low (slots_held (saved_of old))) (ap (λ (p : Paged D). p.saved) k.rest) (ap (λ (p : Paged D). p.spare) k.rest) k.known (λ was. k.bad) sound h
  where
    sound : HasSoundNodes g old → HasSoundNodes g new
    sound s = record {
      known = k.known s.known;
      sound = subst (λ (t : Table). IsSound (nodes_of g new) t) (sym (ap (λ (p : Paged D). table_of p) k.rest)) (subst (λ (m : Nodes). IsSound m (table_of old)) (sym k.nodes) s.sound);
    }

pub no_worse_unsaved : {D : Type 0} (g : Ghosts D) (old new : Paged D) → IsPaged (g.contents old.dev) old → StaysUnsaved g old new → (IsSome (g.contents old.dev) → IsNoWorse g old) → IsSome (g.contents new.dev) → IsNoWorse g new
no_worse_unsaved {D} g old new paged u h =
    no_worse_after g old new (IsLowOrSpare old.spare) u.keeps.elsewhere out (ap (λ (p : Paged D). p.saved) u.rest) (ap (λ (p : Paged D). p.spare) u.rest) u.keeps.known u.keeps.bad sound h
  where
    out : (b : ℕ) → IsOfSlots (slots_held (saved_of old)) b → ¬ IsLowOrSpare old.spare b
    out b own (inl low) = not_low (slots_held (saved_of old)) b own low
    out b own (inr spare) = not_held (length old.spare) (slots_held (saved_of old)) old.spare b paged.spare own spare

    sound : HasSoundNodes g old → HasSoundNodes g new
    sound s = record {
      known = u.keeps.known s.known;
      sound = subst (λ (t : Table). IsSound (nodes_of g new) t) (sym u.table) (subst (λ (m : Nodes). IsSound m (table_of old)) (sym (u.keeps.nodes s.known)) s.sound);
    }

-- ---- what is no worse at first

-- each node is in a slot of its entry, and none of these is spare
good_entries : {D : Type 0} (g : Ghosts D) (slots : ℕ) (p : Paged D) → AreEntriesOf p.saved.entries (spots_of p) → IsTableAt slots p.at p.saved → AreFreeSlots slots (slots_held (saved_of p)) p.spare → (id b : ℕ) → IsBadSpot (g.contents p.dev) (spots_of p id) b → ¬ IsSpare p.spare b
good_entries g slots p entries table free = λ id b spot of. bad_entry id b (spots_of p id) refl spot of
  where
    held : (e : TableEntry) → Contains p.saved.entries e → IsHeld p.spare e.slot
    held e among =
        let taken : Contains (p.at ++ slots_of p.saved.entries) e.slot = Contains-append_right p.at (slots_of p.saved.entries) e.slot (entry_slot p.saved.entries e among) in
        let low : e.slot < slots = subst (λ (k : ℕ). k < slots) taken.2 (table.differ.below taken.0 e.slot taken.1) in
        taken_held slots (p.at ++ slots_of p.saved.entries) p.spare e.slot free low taken

    bad_place : (level b slot : ℕ) (place : Place) → IsHeld p.spare slot → IsInSlot slot place → IsBadPlace (g.contents p.dev) level place b → IsSpare p.spare b → ⊥
    bad_place level b slot (Memory node own) there inside bad of = inside
    bad_place level b slot (Slot own (Some copy)) there inside bad of = bad
    bad_place level b slot (Slot own None) there inside bad of = held_not_spare p.spare own b (subst (IsHeld p.spare) (sym inside) there) bad.0 of

    bad_entry : (id b : ℕ) (o : Option Spot) → spots_of p id ≡ o → IsBadSpot (g.contents p.dev) o b → IsSpare p.spare b → ⊥
    bad_entry id b None there bad of = bad
    bad_entry id b (Some s) there bad of =
        let found = entries.all id s there in
        let e : TableEntry = found.1 in
        let own : IsEntryOf e (spots_of p e.id) = subst (λ (x : TableEntry). IsEntryOf x (spots_of p x.id)) found.3 (entries.each found.0 e found.2) in
        let mine : IsEntryOf e (Some s) = subst (λ (x : Option Spot). IsEntryOf e x) (ap (spots_of p) found.4 ∙ there) own in
        bad_place s.level b e.slot s.place (held e (found.0, found.2, found.3)) mine.2 bad of

good_opened : {D : Type 0} (g : Ghosts D) (known : Option Image) (slots : ℕ) (at : List ℕ) (p : Paged D) → IsOpened known slots at p → (id b : ℕ) → IsBadSpot (g.contents p.dev) (spots_of p id) b → ¬ IsSpare p.spare b
good_opened {D} g known slots at p h = bad_opened
  where
    held : (e : TableEntry) → Contains p.saved.entries e → IsHeld p.spare e.slot
    held e among =
        let taken : Contains (at ++ slots_of p.saved.entries) e.slot = Contains-append_right at (slots_of p.saved.entries) e.slot (entry_slot p.saved.entries e among) in
        taken_held slots (at ++ slots_of p.saved.entries) p.spare e.slot h.spare (omega (arith, slot_within known slots at p h e among, h.spare.count)) taken

    other_there : (id : ℕ) → id ≢ p.saved.root → (e : TableEntry) → Contains p.saved.entries e → e.id ≡ id → spots_of p id ≡ Some (saved_spot e)
    other_there id other e among same =
        ap (spots_of p) (sym same)
        ∙ subst (λ (x : TableEntry). x.id ≢ p.saved.root → spots_of p x.id ≡ Some (saved_spot x)) among.2 (h.spots.there among.0 e among.1) (λ r. other (sym same ∙ r))

    bad_opened : (id b : ℕ) → IsBadSpot (g.contents p.dev) (spots_of p id) b → IsSpare p.spare b → ⊥
    bad_opened id b spot of = elim (search_id p.saved.entries id) [
      | inl none ↦ subst (λ (o : Option Spot). IsBadSpot (g.contents p.dev) o b) (h.spots.others id none) spot
      | inr found ↦ elim (cases_eq id p.saved.root) [
        | inl root ↦ subst (λ (o : Option Spot). IsBadSpot (g.contents p.dev) o b) (ap (spots_of p) root ∙ h.spots.root_there) spot
        | inr other ↦
            let here : IsBadSpot (g.contents p.dev) (Some (saved_spot found.0)) b = subst (λ (o : Option Spot). IsBadSpot (g.contents p.dev) o b) (other_there id other found.0 found.1 found.2) spot in
            held_not_spare p.spare found.0.slot b (held found.0 found.1) here.0 of
      ]
    ]

-- a checkpoint that was made
pub no_worse_saved : {D : Type 0} (g : Ghosts D) → AreDecoded → (old new : Paged D) → IsSaved g old new → IsPaged (g.contents new.dev) new → (IsSome (g.contents old.dev) → IsNoWorse g old) → IsSome (g.contents new.dev) → IsNoWorse g new
no_worse_saved g decoded old new saved paged h is =
    let known : is_known g new = saved.keeps.known (h (told_before (IsLowOrSpare old.spare) (g.contents old.dev) (g.contents new.dev) saved.keeps.elsewhere is)).known in
    record {
      known = known;
      good = good_entries g (length old.spare) new saved.entries saved.place saved.spare;
      sound = saved_sounds g decoded old new saved paged known;
    }

-- the first one, of sound nodes
pub no_worse_fresh : {D : Type 0} (g : Ghosts D) (slots : ℕ) (p : Paged D) → is_known g p → IsSound (nodes_of g p) (table_of p) → AreEntriesOf p.saved.entries (spots_of p) → IsTableAt slots p.at p.saved → AreFreeSlots slots (slots_held (saved_of p)) p.spare → IsNoWorse g p
no_worse_fresh g slots p known sound entries table free = record {
  known = known;
  good = good_entries g slots p entries table free;
  sound = any (g.contents p.dev);
}
  where
    any : (o : Option Image) → IfSome o (λ image. HasSoundStored image p.saved → IsSound (nodes_of g p) (table_of p))
    any None = tt
    any (Some image) = λ stored. sound

-- one from which an engine starts
pub no_worse_opened : {D : Type 0} (g : Ghosts D) (known : Option Image) (slots : ℕ) (at : List ℕ) (p : Paged D) → IsOpened known slots at p → g.contents p.dev ≡ known → IfSome known (AreStored g p) → is_known g p → IsNoWorse g p
no_worse_opened g known slots at p h told stored is = record {
  known = is;
  good = good_opened g known slots at p h;
  sound = subst (λ (o : Option Image). IfSome o (λ image. HasSoundStored image p.saved → IsSound (nodes_of g p) (table_of p))) (sym told) (by known stored);
}
  where
    by : (o : Option Image) → IfSome o (AreStored g p) → IfSome o (λ image. HasSoundStored image p.saved → IsSound (nodes_of g p) (table_of p))
    by None are = tt
    by (Some image) are = λ stored.
        subst (λ (t : Table). IsSound (nodes_of g p) t) (sym (are.table stored.nodes stored.held))
        (subst (λ (m : Nodes). IsSound m (stored_table p.saved stored.nodes)) (sym (are.nodes stored.nodes stored.held)) stored.sound)

-- ---- what shows it

module _ {D : Type 0} (image : Image) (live : Super) (p : Paged D) (is_live : IsLive image live) (table : HoldsTable image live.slots live.table p.saved) (paged : IsPaged (Some image) p) where
  -- a slot that is held has its entry in the image's table
  bad_held : (id level slot b : ℕ) → IsHeld p.spare slot → IsStoredAs p.spare p.saved.entries id level (Slot slot None) → IsBadPlace (Some image) level (Slot slot None) b → IsBadAt image b
  bad_held id level slot b held stored bad =
      let found = stored held in
      let e : TableEntry = found.1 in
      let among : Contains p.saved.entries e = (found.0, found.2, found.3) in
      let none : HasNoGoodNode image (level_at p.saved.entries) e.slot e.level = (λ n good. bad.1 n (subst (λ (s : ℕ). HasNode image s level n) found.4.1 (subst (λ (l : ℕ). HasNode image e.slot l n) found.4.2 good.held))) in
      subst (IsBadAt image) (ap slot_block found.4.1 ∙ sym bad.0)
      (found_bad (slot_block e.slot) (bad_node live p.saved e (record { live = is_live; table = table; entry = entry_found p.saved.entries e table.0.entries.rising among }) none))

  bad_place_shown : (id level b : ℕ) (place : Place) → IsPlaceIn p.spare place → IsStoredAs p.spare p.saved.entries id level place → (IsSpare p.spare b → ⊥) → IsBadPlace (Some image) level place b → IsBadAt image b
  bad_place_shown id level b (Memory node own) low stored not bad = absurd bad
  bad_place_shown id level b (Slot slot (Some copy)) low stored not bad = absurd bad
  bad_place_shown id level b (Slot slot None) low stored not bad = bad_held id level slot b (held_or_spare p.spare slot b low bad.0 not) stored bad

  bad_spot_shown : (id b : ℕ) (o : Option Spot) → spots_of p id ≡ o → (IsSpare p.spare b → ⊥) → IsBadSpot (Some image) o b → IsBadAt image b
  bad_spot_shown id b None there not bad = absurd bad
  bad_spot_shown id b (Some s) there not bad = bad_place_shown id s.level b s.place (paged.slots id s there) (paged.stored id s there) not bad

-- the entry in the middle is among them
middle_among : (front : List TableEntry) (e : TableEntry) (rest : List TableEntry) → Contains (front ++ e ∷ rest) e
middle_among [] e rest = (0, omega arith, refl)
middle_among (x ∷ front) e rest =
    let later = middle_among front e rest in
    (suc later.0, omega (arith, later.1), later.2)

-- where none of the nodes that an image stores by its table are sound, the block that is damaged then
-- is why it stands for no tree
pub first_shown : (image : Image) (live : Super) (saved : Saved) (b : ℕ) → IsLive image live → HoldsTable image live.slots live.table saved.table → saved.at ≡ live.table → IsFirstDamaged (Some image) saved.table.entries saved.at b
    → HasNoSoundNodes image saved.table → IsBadAt image b
first_shown image live saved b is_live table at (inl (e, start, first)) none =
    let entries : List TableEntry = saved.table.entries in
    let among : Contains entries e = subst (λ (es : List TableEntry). Contains es e) (sym first.there) (middle_among first.front e first.rest) in
    subst (IsBadAt image) (sym start)
    (found_bad (slot_block e.slot) (bad_node live saved.table e (record { live = is_live; table = table; entry = entry_found entries e table.0.entries.rising among }) first.bad))
first_shown image live saved b is_live table at (inr (start, good)) none =
    let entries : List TableEntry = saved.table.entries in
    let each : All (HasGoodNode image entries) entries = All-from_recursion (HasGoodNode image entries) entries good in
    subst (IsBadAt image) (sym (start ∙ ap (λ (l : List ℕ). slot_block (slice_index l 0)) at))
    (unsound_nodes live saved.table is_live table
    (λ e has. let stands = entry_stands entries e.id e has.entry in subst (HasGoodNode image entries) stands.2 (each stands.0 e stands.1))
    none)

-- where the nodes are no worse than the last checkpoint's, damage is of a block that is bad in what
-- reads give
damage_at : {D : Type 0} (g : Ghosts D) (known : Option Image) (left : Image → Type 0) (count : ℕ) (live : Super) (p : Paged D) (log : LogState) → g.contents p.dev ≡ known → IsOpen known left count live (saved_of p) log → (0 < count → IfSome known left) → IsPaged known p
    → (IsSome known → IsNoWorse g p) → (block : ℕ) → is_bad g p block → IsBadIn known block
damage_at g None left count live p log told given stays paged h block bad = tt
damage_at g (Some image) left count live p log told given stays paged h block bad =
    let starts : StartsAs live (saved_of p) log.place image = given.each image (stays (omega (arith, given.size))) in
    let no : IsNoWorse g p = h refl in
    elim (bad no.known) [
      | inl (id, spot) ↦
          let here : IsBadSpot (Some image) (spots_of p id) block = subst (λ (o : Option Image). IsBadSpot o (spots_of p id) block) told spot in
          bad_spot_shown image live p starts.live_is starts.table_is paged id block (spots_of p id) refl (no.good id block spot) here
      | inr (first, unsound) ↦
          let if_sound : HasSoundStored image p.saved → IsSound (nodes_of g p) (table_of p) = subst (λ (o : Option Image). IfSome o (λ i. HasSoundStored i p.saved → IsSound (nodes_of g p) (table_of p))) told no.sound in
          first_shown image live (saved_of p) block starts.live_is starts.table_is given.at (subst (λ (o : Option Image). IsFirstDamaged o p.saved.entries p.at block) told first)
          (λ nodes held sound. unsound (if_sound (record { nodes = nodes; held = held; sound = sound })))
    ]

pub damage_shown : {D : Type 0} (g : Ghosts D) (e : EngineState D) → IsStanding g e → e.stop ≡ None → IsPaged (g.contents e.pager.dev) e.pager → (0 < g.block_count e.pager.dev → IfSome (g.contents e.pager.dev) (left_now g e.pager.dev))
    → (block : ℕ) → is_bad g e.pager block → IsBadIn (g.contents e.pager.dev) block
damage_shown g e h on paged stays block bad =
    damage_at g (g.contents e.pager.dev) (left_now g e.pager.dev) (g.block_count e.pager.dev) e.live e.pager e.log refl (h.going on) stays paged (h.no_worse on) block bad
