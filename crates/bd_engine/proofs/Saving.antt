-- What a checkpoint leaves of an engine, and what then holds.
use Rattle.std.proofs.Common.{◌≡◌, ℕ, ◌+◌, ◌-◌, ◌^◌, ◌<◌, ◌≤◌, ◌⊎◌, ◌&&◌, inl, inr, length, List, Bool, true, false, cond, nat_eq, nat_lt, Option, None, Some, IfSome, Result, Ok, Err, OnOk, OnErr, IfErr, refl, sym, ap, subst, ◌∙◌, arith}
use Rattle.std.specs.List.{concat, AllByRecursion}
use Rattle.std.proofs.lemmas.Bool.Decides.{nat_tests}
use Rattle.bd_io.specs.Cause.{next_count}
use Rattle.bd_device.specs.Blocks.{Image}
use Rattle.bd_device.specs.Changes.{StaysBut}
use Rattle.bd_device.specs.Device.{left_now, Stays}
use Rattle.bd_device.specs.declared.device.Device.{Ghosts}
use Rattle.bd_device.proofs.Changes.{stays_same, stays_wider}
use Rattle.bd_message.specs.KeyMaps.{SameAt}
use Rattle.bd_message.specs.declared.fault.MapFault.{MapFault}
use Rattle.bd_message.specs.declared.fault.MapFault.TheVariants.{DeviceFault, Damaged, Worn, NoMemory}
use Rattle.bd_node.specs.Meaning.{Nodes}
use Rattle.bd_node.specs.Steps.{with_touched}
use Rattle.bd_node.specs.Tables.{Table, kept_count, IsSound, root_at}
use Rattle.bd_slots.specs.Layout.{table_length}
use Rattle.bd_table.specs.Tables.{IsTableAt}
use Rattle.bd_super.specs.Published.{IsOfHalf}
use Rattle.bd_super.specs.Superblocks.{log_block, other}
use Rattle.bd_super.specs.declared.superblock.Half.{Half}
use Rattle.bd_super.specs.declared.superblock.Half.TheVariants.{A, B}
use Rattle.bd_super.specs.declared.superblock.Super.{Super}
use Rattle.bd_log.specs.Batches.{IsLogRecord}
use Rattle.bd_log.specs.Logs.{LogState, fresh_log}
use Rattle.bd_graft.specs.declared.grafting.Walk.{Walk}
use Rattle.bd_pager.specs.Counting.{changed_of, free_of}
use Rattle.bd_pager.specs.Pagers.{Paged, nodes_of, table_of, is_known, IsPaged}
use Rattle.bd_pager.specs.Slots.{IsSpare}
use Rattle.bd_pager.proofs.AppendedLemmas.{touched_sound}
use Rattle.bd_image.specs.Versions.{version_of, mode_version}
use Rattle.bd_checkpoint.specs.Following.{super_after}
use Rattle.bd_checkpoint.specs.Kept.{Saved, StartsAs, IsOpen, IsOpenOn}
use Rattle.bd_checkpoint.specs.Recovering.{saved_of}
use Rattle.bd_checkpoint.proofs.Opened.{AreDecoded}
use Rattle.bd_checkpoint.specs.Saving.{IsSaved, StaysUnsaved, GoesOn, IsStoppedOrGoesOn as IsLeftOpen, IsCheckpointCause}
use Rattle.bd_checkpoint.specs.Surviving.{IsOfHalfOrSpare}
use Rattle.bd_view.specs.Moves.{Saves, saved_view}
use Rattle.bd_view.specs.Views.{View, kept_ids, changed_count, free_slots, save_slots}
use Rattle.bd_shown.specs.Shown.{ids_of, shown, IsCheckpointed}
use Rattle.bd_shown.proofs.Saved.{AreListed, kept_saved}
use Rattle.bd_engine.specs.Stored.{HasSaved}
use Rattle.bd_engine.specs.Writes.{IsPublishing, IsPublishingOrSlot, IsPublishingOrSpare, WritesOn}
use Rattle.bd_engine.specs.Engines.{EngineState, seen, view_of, keys_of, stop_after, HasSoundNodes, IsStanding, IsGoingOn, IsStopped, IsBegunAnew}
use Rattle.bd_engine.proofs.Damage.{no_worse_saved, no_worse_unsaved}

-- ---- which blocks are written

pub published : (half : Half) (b : ℕ) → IsOfHalf (other half) b → IsPublishing b
published A b is = inr is
published B b is = inl is

-- of the log the first block of a half
pub publishes_log : (half : Half) (spare : List Bool) (known now : Option Image) → StaysBut (IsOfHalfOrSpare (other half) spare) known now → StaysBut IsPublishingOrSlot known now
publishes_log half spare known now h =
    stays_wider (IsOfHalfOrSpare (other half) spare) IsPublishingOrSlot known now (λ b is. elim is [
      | inl mark ↦ inl (published half b mark)
      | inr slot ↦ inr (omega (arith, slot.2.0))
    ]) h

-- of slots those that were spare
pub publishes_once : (half : Half) (spare after : List Bool) (known now : Option Image) → StaysBut (IsOfHalfOrSpare (other half) spare) known now → StaysBut (IsPublishingOrSpare spare after) known now
publishes_once half spare after known now h =
    stays_wider (IsOfHalfOrSpare (other half) spare) (IsPublishingOrSpare spare after) known now (λ b is. elim is [
      | inl mark ↦ inl (published half b mark)
      | inr slot ↦ inr (inl slot)
    ]) h

-- ---- what stopped it

-- as many failed as before, and one more would be counted
same_count : (before now : ℕ) → (nat_eq now before && nat_lt before (2 ^ 64 - 1)) ≡ true → (now ≡ before) × (before < 2 ^ 64 - 1)
same_count before now is = (grind (arith, nat_tests), grind (arith, nat_tests))

-- as many failed as before, or more
more_count : (before now : ℕ) → (nat_eq now before && nat_lt before (2 ^ 64 - 1)) ≡ false → now ≡ before → before < 2 ^ 64 → now ≡ next_count before
more_count before now is same fits = grind (arith, nat_tests)

module _ {D : Type 0} (g : Ghosts D) (old new : D) (live : Super) (saved : Saved) (log : LogState) (spare : List Bool) where
  -- the last call stopped it, or no write and no barrier failed
  abbrev pub WentOn : MapFault → Option ℕ → Type 0
  WentOn fault stop =
      ((stop ≡ Some (g.call_count new)) × (g.write_fault_count new ≡ next_count (g.write_fault_count old)) × (fault ≡ DeviceFault))
      ⊎ ((stop ≡ None) × GoesOn g old new live saved log spare)

  went : (b : Bool) → (nat_eq (g.write_fault_count new) (g.write_fault_count old) && nat_lt (g.write_fault_count old) (2 ^ 64 - 1)) ≡ b → g.write_fault_count old < 2 ^ 64
      → IsLeftOpen g old new live saved log spare → WentOn DeviceFault (cond b None (Some (g.call_count new)))
  went true is fits (inl stopped) =
      let s = same_count (g.write_fault_count old) (g.write_fault_count new) is in absurd (omega (arith, s.0, s.1, stopped))
  went true is fits (inr on) = inr (refl, on)
  went false is fits (inl stopped) = inl (refl, stopped, refl)
  went false is fits (inr on) = inl (refl, more_count (g.write_fault_count old) (g.write_fault_count new) is on.write_faults fits, refl)

  uncalled : new ≡ old → IsOpenOn g old live saved log → GoesOn g old new live saved log spare
  uncalled same given = record {
    known = subst (λ (d : D). IsOpenOn g d live saved log) (sym same) given;
    slots = subst (λ (d : D). StaysBut (IsSpare spare) (g.contents old) (g.contents d)) (sym same) (stays_same (IsSpare spare) (g.contents old));
    kept = λ c is. (c, subst (λ (d : D). left_now g d c) same is, λ tree count stands. stands);
    write_faults = ap g.write_fault_count same;
  }

  pub went_on : (T : Type 0) (fault : MapFault) → g.write_fault_count old < 2 ^ 64 → IsOpenOn g old live saved log → IsLeftOpen g old new live saved log spare → IsCheckpointCause g old new live fault
      → WentOn fault (stop_after {T = T} (g.write_fault_count old) (g.write_fault_count new) (g.call_count new) (Err fault))
  went_on T DeviceFault fits given left cause = went _ refl fits left
  went_on T (Damaged block) fits given left cause = absurd cause
  went_on T (Worn which) fits given left cause = inr (refl, uncalled cause.2 given)
  went_on T NoMemory fits given left cause = inr (refl, uncalled cause given)

-- ---- what its view tells

-- a checkpoint of the pager's nodes is one of its view's
abbrev pub AreShown : {D : Type 0} → Ghosts D → Type 0
AreShown {D} g = (contents : Option Image) (first last : Paged D) (walk : Walk) (version epoch place waiting : ℕ) → IsPaged contents last → IsCheckpointed g first last → save_slots (shown g first walk version epoch place waiting) ≤ free_slots (shown g first walk version epoch place waiting)
    → Saves (shown g first walk version epoch place waiting) (shown g last walk mode_version (epoch + 1) 0 0)

-- after a checkpoint no node of the view is changed
abbrev pub AreUnchanged : Type 0
AreUnchanged = (first last : View) → Saves first last → changed_count last ≡ 0

-- a pager's numbers are those of its view
abbrev pub ShowsChanged : {D : Type 0} → Ghosts D → Type 0
ShowsChanged {D} g = (contents : Option Image) (p : Paged D) (walk : Walk) (version epoch place waiting : ℕ) → IsPaged contents p → changed_of p ≡ changed_count (shown g p walk version epoch place waiting)

abbrev pub ShowsFree : {D : Type 0} → Ghosts D → Type 0
ShowsFree {D} g = (p : Paged D) (walk : Walk) (version epoch place waiting : ℕ) → IsTableAt (length p.spare) p.at p.saved → free_of p ≡ free_slots (shown g p walk version epoch place waiting)

-- slots that are free in the view are so in the pager
pub has_room : {D : Type 0} (g : Ghosts D) → ShowsChanged g → ShowsFree g → (e : EngineState D) → IsStanding g e → IsPaged (g.contents e.pager.dev) e.pager → save_slots (view_of g e) ≤ free_slots (view_of g e)
    → changed_of e.pager + table_length (kept_count (table_of e.pager)) ≤ free_of e.pager
has_room g changed free e h paged room =
    let table : IsTableAt (length e.pager.spare) e.pager.at e.pager.saved = subst (λ (n : ℕ). IsTableAt n e.pager.at e.pager.saved) (sym h.slots) h.table in
    let few : changed_of e.pager ≡ changed_count (view_of g e) = changed (g.contents e.pager.dev) e.pager e.walk (version_of e.live) e.live.epoch e.log.place (length (concat e.log.waiting)) paged in
    let most : free_of e.pager ≡ free_slots (view_of g e) = free e.pager e.walk (version_of e.live) e.live.epoch e.log.place (length (concat e.log.waiting)) table in
    omega (arith, room, few, most)

-- ---- the engine

-- where it wasn't stopped, no more was written than spare slots
unsaved_going : {D : Type 0} (g : Ghosts D) (old new : EngineState D) (fault : MapFault) → (IsStopped g old new × (fault ≡ DeviceFault)) ⊎ IsGoingOn g old new → new.stop ≡ None → StaysBut (IsSpare old.pager.spare) (g.contents old.pager.dev) (g.contents new.pager.dev)
unsaved_going {D} g old new fault (inl stopped) none = absurd (is_stopped none stopped.0.stop_is)
  where
    is_stopped : {n : ℕ} {o : Option ℕ} → o ≡ None → o ≡ Some n → ⊥
    is_stopped none some = cc
unsaved_going g old new fault (inr goes) none = goes.slots

module _ {D T : Type 0} (g : Ghosts D) (old : EngineState D) (p : Paged D) (log : LogState) (live : Super) (walk : Walk) (count : ℕ) where
  abbrev stop_at : Result T MapFault → Option ℕ
  stop_at r = stop_after (g.write_fault_count old.pager.dev) (g.write_fault_count p.dev) (g.call_count p.dev) r

  abbrev new_at : Result T MapFault → EngineState D
  new_at r = seen p old.recalled log live (stop_at r) walk old.flushes

  pub saved_standing : AreDecoded → IsPaged (g.contents old.pager.dev) old.pager → IsPaged (g.contents p.dev) p → (r : Result T MapFault) → IsStanding g old → old.stop ≡ None → g.write_fault_count old.pager.dev < 2 ^ 64 → OnOk r (IsOpenOn g p.dev live (saved_of p) log) → OnOk r (live ≡ super_after old.live count p.at) → OnOk r (log ≡ fresh_log (log_block live.half) live.epoch) → OnOk r (IsSaved g old.pager p)
      → OnErr r (StaysUnsaved g old.pager p) → OnErr r (live ≡ old.live) → OnErr r (log ≡ old.log) → OnErr r (IsLeftOpen g old.pager.dev p.dev old.live (saved_of old.pager) old.log old.pager.spare) → IfErr r (IsCheckpointCause g old.pager.dev p.dev old.live)
      → Stays g old.pager.dev p.dev → IsStanding g (new_at r)
  saved_standing decoded was now (Ok done) h on fits given next fresh saved unsaved same_live same_log left cause stays =
      let slots : live.slots ≡ old.live.slots = ap (λ (s : Super). s.slots) next in
      let spare : length p.spare ≡ live.slots = saved.spare.count ∙ h.slots ∙ sym slots in
      record {
        fits = given.fits;
        size = given.size;
        slots = spare;
        table = subst (λ (n : ℕ). IsTableAt n p.at p.saved) (h.slots ∙ sym slots) saved.place;
        unlent = ap (λ (q : Paged D). q.is_lent) saved.rest ∙ h.unlent;
        room = saved.keeps.room ∙ h.room;
        records = subst (λ (l : LogState). AllByRecursion IsLogRecord l.waiting) (sym fresh) tt;
        going = λ none. given;
        no_worse = λ none. no_worse_saved g decoded old.pager p saved now (h.no_worse on);
      }
  saved_standing decoded was now (Err fault) h on fits given next fresh saved unsaved same_live same_log left cause stays =
      let at : p.at ≡ old.pager.at = ap (λ (q : Paged D). q.at) unsaved.rest in
      let table : p.saved ≡ old.pager.saved = ap (λ (q : Paged D). q.saved) unsaved.rest in
      let same : saved_of old.pager ≡ saved_of p = λ i. record { at = sym at i; table = sym table i } in
      let standing : IsStanding g (seen p old.recalled old.log old.live (stop_at (Err fault)) walk old.flushes) = record {
        fits = h.fits;
        size = stays.count ∙ h.size;
        slots = ap (λ (q : Paged D). length q.spare) unsaved.rest ∙ h.slots;
        table = subst (λ (s : Saved). IsTableAt old.live.slots s.at s.table) same h.table;
        unlent = ap (λ (q : Paged D). q.is_lent) unsaved.rest ∙ h.unlent;
        room = unsaved.keeps.room ∙ h.room;
        records = h.records;
        going = λ none. elim (went_on g old.pager.dev p.dev old.live (saved_of old.pager) old.log old.pager.spare T fault fits (h.going on) left cause) [
          | inl stopped ↦ absurd (is_some none stopped.0)
          | inr goes ↦ subst (λ (s : Saved). IsOpenOn g p.dev old.live s old.log) same goes.1.known
        ];
        no_worse = λ none. no_worse_unsaved g old.pager p was unsaved (h.no_worse on);
      } in
      subst (λ (s : Super). IsStanding g (seen p old.recalled log s (stop_at (Err fault)) walk old.flushes)) (sym same_live)
      (subst (λ (l : LogState). IsStanding g (seen p old.recalled l old.live (stop_at (Err fault)) walk old.flushes)) (sym same_log) standing)
    where
      is_some : {n : ℕ} {o : Option ℕ} → o ≡ None → o ≡ Some n → ⊥
      is_some none some = cc

  pub stop_ok : (r : Result T MapFault) → OnOk r (stop_at r ≡ None)
  stop_ok (Ok done) = refl
  stop_ok (Err fault) = tt

  pub stop_err : (r : Result T MapFault) → IsStanding g old → old.stop ≡ None → g.write_fault_count old.pager.dev < 2 ^ 64 → OnErr r (IsLeftOpen g old.pager.dev p.dev old.live (saved_of old.pager) old.log old.pager.spare) → IfErr r (IsCheckpointCause g old.pager.dev p.dev old.live)
      → IfErr r (λ fault. (IsStopped g old (new_at r) × (fault ≡ DeviceFault)) ⊎ IsGoingOn g old (new_at r))
  stop_err (Ok done) h on fits left cause = tt
  stop_err (Err fault) h on fits left cause = elim (went_on g old.pager.dev p.dev old.live (saved_of old.pager) old.log old.pager.spare T fault fits (h.going on) left cause) [
    | inl stopped ↦ inl (record { stop_is = stopped.0; write_faults = stopped.1 }, stopped.2)
    | inr goes ↦ inr (record { stop_is = goes.0; slots = goes.1.slots; write_faults = goes.1.write_faults; kept = goes.1.kept })
  ]

  -- ---- what is written

  pub writes : (r : Result T MapFault) → OnOk r (live ≡ super_after old.live count p.at) → OnErr r (live ≡ old.live) → OnErr r (StaysUnsaved g old.pager p) → IfErr r (λ fault. (IsStopped g old (new_at r) × (fault ≡ DeviceFault)) ⊎ IsGoingOn g old (new_at r))
      → StaysBut (IsOfHalfOrSpare (other old.live.half) old.pager.spare) (g.contents old.pager.dev) (g.contents p.dev) → WritesOn g old (new_at r)
  writes (Ok done) next same unsaved stop h =
      let epoch : live.epoch ≡ old.live.epoch + 1 = ap (λ (s : Super). s.epoch) next in
      record {
        later = omega (arith, epoch);
        log = publishes_log old.live.half old.pager.spare (g.contents old.pager.dev) (g.contents p.dev) h;
        none = λ still. absurd (omega (arith, epoch, still));
        once = λ is. publishes_once old.live.half old.pager.spare p.spare (g.contents old.pager.dev) (g.contents p.dev) h;
      }
  writes (Err fault) next same unsaved stop h =
      let epoch : live.epoch ≡ old.live.epoch = ap (λ (s : Super). s.epoch) same in
      record {
        later = omega (arith, epoch);
        log = publishes_log old.live.half old.pager.spare (g.contents old.pager.dev) (g.contents p.dev) h;
        none = λ still. record {
          live = same;
          spare = ap (λ (q : Paged D). q.spare) unsaved.rest;
          slots = h;
          going = unsaved_going g old (new_at (Err fault)) fault stop;
        };
        once = λ is. absurd (omega (arith, epoch, is));
      }

  -- ---- what is seen of it

  pub saves : AreShown g → (r : Result T MapFault) → IsPaged (g.contents p.dev) p → walk ≡ old.walk → save_slots (view_of g old) ≤ free_slots (view_of g old) → OnOk r (live ≡ super_after old.live count p.at) → OnOk r (log ≡ fresh_log (log_block live.half) live.epoch) → OnOk r (IsSaved g old.pager p)
      → is_known g old.pager → OnOk r (Saves (view_of g old) (view_of g (new_at r)))
  saves law (Ok done) paged same room next fresh saved known =
      let checkpointed : IsCheckpointed g old.pager p = record {
        nodes = saved.keeps.nodes known;
        table = saved.table;
        slots = saved.spare.count;
        place = saved.place;
        entries = saved.entries;
      } in
      let first : Saves (view_of g old) (shown g p old.walk mode_version (old.live.epoch + 1) 0 0) =
      law (g.contents p.dev) old.pager p old.walk (version_of old.live) old.live.epoch old.log.place (length (concat old.log.waiting)) paged checkpointed room in
      let walked : Saves (view_of g old) (shown g p walk mode_version (old.live.epoch + 1) 0 0) = subst (λ (w : Walk). Saves (view_of g old) (shown g p w mode_version (old.live.epoch + 1) 0 0)) (sym same) first in
      let at : Saves (view_of g old) (shown g p walk (version_of live) live.epoch 0 0) = subst (λ (s : Super). Saves (view_of g old) (shown g p walk (version_of s) s.epoch 0 0)) (sym next) walked in
      subst (λ (l : LogState). Saves (view_of g old) (shown g p walk (version_of live) live.epoch l.place (length (concat l.waiting)))) (sym fresh) at
  saves law (Err fault) paged same room next fresh saved known = tt

  -- its log begins anew
  pub begun : (r : Result T MapFault) (stop : Option ℕ) → OnOk r (live ≡ super_after old.live count p.at) → OnOk r (log ≡ fresh_log (log_block live.half) live.epoch) → OnOk r (IsBegunAnew (seen p old.recalled log live stop walk old.flushes))
  begun (Ok done) stop next fresh = record { version = ap (λ (s : Super). version_of s) next; place = ap (λ (l : LogState). l.place) fresh; waiting = ap (λ (l : LogState). l.waiting) fresh }
  begun (Err fault) stop next fresh = tt

  -- after it no node is changed
  pub none_changed : AreListed → AreUnchanged → (r : Result T MapFault) → IsPaged (g.contents p.dev) p → save_slots (view_of g old) ≤ free_slots (view_of g old) → OnOk r (IsSaved g old.pager p) → OnOk r (changed_count (view_of g (new_at r)) ≡ 0)
  none_changed listed law (Ok done) paged room saved =
      let checkpointed : IsCheckpointed g p p = record {
        nodes = refl;
        table = saved.table ∙ ap (with_touched (λ id. false)) (sym saved.table);
        slots = refl;
        place = subst (λ (n : ℕ). IsTableAt n p.at p.saved) (sym saved.spare.count) saved.place;
        entries = saved.entries;
      } in
      let ids : ids_of p.saved.entries ≡ kept_ids (table_of old.pager) = kept_saved g (g.contents p.dev) p p paged checkpointed listed ∙ ap (λ (t : Table). kept_ids t) saved.table in
      (λ i. changed_count (record (view_of g (new_at (Ok done))) { tree = record { nodes = nodes_of g p; table = saved.table i; walk = walk }; saved = ids i }))
      ∙ law (view_of g old) (saved_view (view_of g old)) (record { room = room; after = refl })
  none_changed listed law (Err fault) paged room saved = tt

  pub unsaved_view : (r : Result T MapFault) → walk ≡ old.walk → OnErr r (StaysUnsaved g old.pager p) → OnErr r (live ≡ old.live) → OnErr r (log ≡ old.log) → is_known g old.pager → OnErr r (view_of g (new_at r) ≡ view_of g old)
  unsaved_view (Ok done) same unsaved same_live same_log known = tt
  unsaved_view (Err fault) same unsaved same_live same_log known = λ i. record {
    tree = record { nodes = unsaved.keeps.nodes known i; table = unsaved.table i; walk = same i };
    saved = ids_of (unsaved.rest i).saved.entries;
    slots = length (unsaved.rest i).spare;
    version = version_of (same_live i);
    epoch = (same_live i).epoch;
    place = (same_log i).place;
    waiting = length (concat (same_log i).waiting);
  }

-- ---- sound nodes

module _ {D T : Type 0} (g : Ghosts D) (old new : Paged D) where
  pub kept_sound : (r : Result T MapFault) → OnOk r (IsSaved g old new) → OnErr r (StaysUnsaved g old new) → HasSoundNodes g old → HasSoundNodes g new
  kept_sound (Ok done) saved unsaved s = record {
    known = saved.keeps.known s.known;
    sound = subst (λ (t : Table). IsSound (nodes_of g new) t) (sym saved.table)
        (subst (λ (n : Nodes). IsSound n (with_touched (λ id. false) (table_of old))) (sym (saved.keeps.nodes s.known)) (touched_sound (λ id. false) (nodes_of g old) (table_of old) s.sound));
  }
  kept_sound (Err fault) saved unsaved s = record {
    known = unsaved.keeps.known s.known;
    sound = subst (λ (t : Table). IsSound (nodes_of g new) t) (sym unsaved.table)
        (subst (λ (n : Nodes). IsSound n (table_of old)) (sym (unsaved.keeps.nodes s.known)) s.sound);
  }

  pub kept_same : (r : Result T MapFault) → OnOk r (IsSaved g old new) → OnErr r (StaysUnsaved g old new) → HasSoundNodes g old → SameAt (keys_of g old) (keys_of g new)
  kept_same (Ok done) saved unsaved s = λ k i. root_at (saved.keeps.nodes s.known i) (saved.table i) k
  kept_same (Err fault) saved unsaved s = λ k i. root_at (unsaved.keeps.nodes s.known i) (unsaved.table i) k

-- ---- what reads give

-- an image that reads give has the last checkpoint's table
pub has_saved : (known : Option Image) (left : Image → Type 0) (count : ℕ) (live : Super) (saved : Saved) (log : LogState) (v : View) → IsOpen known left count live saved log → (0 < count → IfSome known left) → v.saved ≡ ids_of saved.table.entries → IfSome known (HasSaved v)
has_saved None left count live saved log v given stays same = tt
has_saved (Some image) left count live saved log v given stays same =
    let starts : StartsAs live saved log.place image = given.each image (stays (omega (arith, given.size))) in
    record { live = live; live_is = starts.live_is; table = saved.table; table_is = starts.table_is; saved_is = same }
