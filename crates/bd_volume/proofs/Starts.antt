-- What a start leaves of its device.
use Rattle.std.proofs.Common.{◌≡◌, ◌≢◌, ℕ, ◌+◌, ◌<◌, List, Bool, true, Option, None, Some, IfSome, refl, sym, subst, ap, ◌∙◌, inl, inr, arith}
use Rattle.std.specs.Prelude.{◌⊎◌, All, IsSomeAnd, Result, Ok, Err}
use Rattle.std.proofs.lemmas.Option.{slice_get_within}
use Rattle.bd_io.specs.Cause.{next_count}
use Rattle.bd_model.specs.Tree.{Tree}
use Rattle.bd_device.specs.Blocks.{Image}
use Rattle.bd_device.specs.Changes.{StaysBut}
use Rattle.bd_device.specs.Device.{left_now, OnlyReads}
use Rattle.bd_device.specs.Moments.{Nothing, IsOnly}
use Rattle.bd_device.specs.declared.device.Device.{Ghosts}
use Rattle.bd_device.proofs.Calls.{stays_then, reads_stay}
use Rattle.bd_device.proofs.Changes.{stays_same, stays_wider}
use Rattle.bd_device.proofs.Moments.{goes_on, within}
use Rattle.bd_table.specs.Image.{HoldsTable}
use Rattle.bd_table.specs.Tables.{AreFreeSlots}
use Rattle.bd_table.specs.declared.table.Table.{Table as StoredTable}
use Rattle.bd_super.specs.Live.{IsLive}
use Rattle.bd_super.specs.declared.superblock.Super.{Super}
use Rattle.bd_image.specs.ImageTree.{ImageStandsFor}
use Rattle.bd_image.specs.Standing.{IsAsBefore}
use Rattle.bd_image.specs.Used.{used_slots}
use Rattle.bd_checkpoint.specs.Kept.{AllStandFor}
use Rattle.bd_checkpoint.specs.Recovering.{OnlySettles, HasSettled}
use Rattle.bd_pager.specs.Slots.{IsSpare}
use Rattle.bd_engine.specs.Engines.{EngineState}
use Rattle.bd_engine.specs.Stored.{IsStoredBy}
use Rattle.bd_volume.specs.declared.fault.Fault.{Fault}
use Rattle.bd_volume.specs.declared.volume.Volume.{Volume}
use Rattle.bd_volume.specs.Faults.{IsStoppedRightly}
use Rattle.bd_volume.specs.declared.volume.replaying.Replay.{Replay}
use Rattle.bd_volume.specs.Replays.{ReplaysEarly}
use Rattle.bd_volume.specs.Starts.{IsUnheld, IsUnheldIn, OnlyStarts, HasStarted}
use Rattle.bd_volume.specs.Volume.{device_of}

-- slots that are spare aren't held by the checkpoint that leaves just these
unheld : (image : Image) (live : Super) (at : List ℕ) (table : StoredTable) (spare : List Bool) (b : ℕ) → IsLive image live → HoldsTable image live.slots live.table table → at ≡ live.table → AreFreeSlots live.slots (used_slots at table) spare → IsSpare spare b → IsUnheld image b
unheld image live at table spare b is_live held same free is =
    let low : is.0 < live.slots = omega (arith, free.count, slice_get_within spare is.0 true is.1) in
    record {
      live = live;
      live_is = is_live;
      table = table;
      table_is = held;
      slot = is.0;
      within = low;
      unused = subst (λ (l : List ℕ). All (λ (other : ℕ). other ≢ is.0) (used_slots l table)) same ((free.free is.0 low).0 is.1);
      block = is.2;
    }

-- as far as what reads give is known
stays_unheld : {D : Type 0} (g : Ghosts D) (e : EngineState D) (known now : Option Image) → IfSome known (IsStoredBy g e) → StaysBut (IsSpare e.pager.spare) known now → StaysBut (IsUnheldIn known) known now
stays_unheld g e None None stored h = tt
stays_unheld g e None (Some new) stored h = absurd h
stays_unheld g e (Some image) now stored h =
    stays_wider (IsSpare e.pager.spare) (IsUnheldIn (Some image)) (Some image) now (λ b is. unheld image e.live e.pager.at e.pager.saved e.pager.spare b stored.live_is stored.table_is stored.at_is stored.spare_is is) h

-- what reads give stands for a tree, and so does each image that is just that
only_stands : (known now : Option Image) (left : Image → Type 0) (t : Tree) (n : ℕ) → now ≡ known → IsOnly now left → IsSomeAnd known (ImageStandsFor t n) → AllStandFor t n left
only_stands known now left t n same only h = λ c was. subst (λ (o : Option Image). IsSomeAnd o (ImageStandsFor t n)) (sym same ∙ only c was) h

-- and each that stands for all that one of those does
pub as_stands : (known now : Option Image) (left : Image → Type 0) (t : Tree) (n : ℕ) → now ≡ known → IsOnly now left → IsSomeAnd known (ImageStandsFor t n) → (c : Image) → IsAsBefore left c → ImageStandsFor t n c
as_stands known now left t n same only h c is = is.2 t n (only_stands known now left t n same only h is.0 is.1)

module _ {D : Type 0} (g : Ghosts D) where
  -- ---- where nothing is replayed

  pub settles_start : (dev new : D) → OnlySettles g dev new → OnlyStarts g dev new
  settles_start dev new h = record {
    stays = h.stays;
    slots = subst (λ (o : Option Image). StaysBut (IsUnheldIn (g.contents dev)) (g.contents dev) o) (sym h.kept) (stays_same (IsUnheldIn (g.contents dev)) (g.contents dev));
    time = λ t n stands. within Nothing (ImageStandsFor t n) h.time (λ c none. absurd none);
    write_faults = h.write_faults;
  }

  pub settled_starts : (dev new : D) (t : Tree) (n : ℕ) → HasSettled g dev new → IsSomeAnd (g.contents dev) (ImageStandsFor t n) → HasStarted g dev new t n
  settled_starts dev new t n h stands = record {
    called = h.called;
    each = only_stands (g.contents dev) (g.contents dev) (g.left_since new (g.call_count dev + 1)) t n refl h.only stands;
  }

  -- ---- after a replay

  stop_faults : {T : Type 0} (a v : Volume D) (r : Result T Fault) → IsStoppedRightly g a v r
      → (g.write_fault_count (device_of v) ≡ g.write_fault_count (device_of a)) ⊎ (g.write_fault_count (device_of v) ≡ next_count (g.write_fault_count (device_of a)))
  stop_faults a v (Ok x) h = inl h.ok.write_faults
  stop_faults a v (Err e) h = elim h.err [ inl goes ↦ inl goes.write_faults | inr halts ↦ inr halts.0.write_faults ]

  -- of the slots no more was written than the last checkpoint leaves
  slots_start : {T : Type 0} (how : Replay) (dev : D) (a v : Volume D) (r : Result T Fault) → OnlyReads g dev (device_of a) → ReplaysEarly g how a v r → StaysBut (IsSpare a.engine.pager.spare) (g.contents dev) (g.contents (device_of v))
  slots_start how dev a v r reads h = subst (λ (o : Option Image). StaysBut (IsSpare a.engine.pager.spare) o (g.contents (device_of v))) reads.kept h.early.slots

  pub slots_started : {T : Type 0} (how : Replay) (dev : D) (a v : Volume D) (r : Result T Fault) → OnlyReads g dev (device_of a) → ReplaysEarly g how a v r → StaysBut (IsSpare v.engine.pager.spare) (g.contents dev) (g.contents (device_of v))
  slots_started how dev a v r reads h = subst (λ (s : List Bool). StaysBut (IsSpare s) (g.contents dev) (g.contents (device_of v))) (sym h.early.spare) (slots_start how dev a v r reads h)

  pub replays_start : {T : Type 0} (how : Replay) (dev : D) (a v : Volume D) (r : Result T Fault) → OnlyReads g dev (device_of a) → IsOnly (g.contents (device_of a)) (left_now g (device_of a)) → IfSome (g.contents dev) (IsStoredBy g a.engine) → ReplaysEarly g how a v r → OnlyStarts g dev (device_of v)
  replays_start how dev a v r reads only stored h = record {
    stays = stays_then (reads_stay reads) h.early.stays;
    slots = stays_unheld g a.engine (g.contents dev) (g.contents (device_of v)) stored (slots_start how dev a v r reads h);
    time = λ t n stands. goes_on (ImageStandsFor t n) (IsAsBefore (left_now g (device_of a))) (within Nothing (ImageStandsFor t n) reads.time (λ c none. absurd none)) h.early.time
        (as_stands (g.contents dev) (g.contents (device_of a)) (left_now g (device_of a)) t n reads.kept only stands);
    write_faults = elim (stop_faults a v r h.stop) [ inl same ↦ inl (same ∙ reads.write_faults) | inr one ↦ inr (one ∙ ap next_count reads.write_faults) ];
  }

  pub replays_started : {T : Type 0} (how : Replay) (dev : D) (a v : Volume D) (r : Result T Fault) (t : Tree) (n : ℕ) → OnlyReads g dev (device_of a) → IsOnly (g.contents (device_of a)) (left_now g (device_of a)) → HasSettled g dev (device_of a) → ReplaysEarly g how a v r
      → IsSomeAnd (g.contents dev) (ImageStandsFor t n) → HasStarted g dev (device_of v) t n
  replays_started how dev a v r t n reads only settled h stands = record {
    called = omega (arith, settled.called, h.early.time.later);
    each = λ c was. elim (h.early.time.adds (g.call_count dev + 1) c settled.called was) [
      | inl before ↦ (settled_starts dev (device_of a) t n settled stands).each c before
      | inr like ↦ as_stands (g.contents dev) (g.contents (device_of a)) (left_now g (device_of a)) t n reads.kept only stands c like
    ];
  }
