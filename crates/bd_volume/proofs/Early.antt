-- Nodes that are written early, and what a replay writes.
use Rattle.std.proofs.Common.{◌≡◌, ℕ, ◌<◌, ◌≤◌, List, Bool, Option, None, refl, sym, subst, ap, ◌∙◌, inl, inr, arith}
use Rattle.std.specs.Prelude.{◌⊎◌, Result, Ok, Err}
use Rattle.bd_command.specs.declared.Command.{Command}
use Rattle.bd_message.specs.KeyMaps.{SameAt}
use Rattle.bd_device.specs.Blocks.{Image}
use Rattle.bd_device.specs.Changes.{StaysBut}
use Rattle.bd_device.specs.Device.{left_now, OnlyReads}
use Rattle.bd_device.specs.Moments.{Nothing}
use Rattle.bd_device.specs.declared.device.Device.{Ghosts}
use Rattle.bd_device.proofs.Calls.{stays_then, reads_stay, reads_then}
use Rattle.bd_device.proofs.Changes.{stays_same, stays_both}
use Rattle.bd_device.proofs.Moments.{goes_on, within}
use Rattle.bd_graft.specs.declared.grafting.Walk.{Walk}
use Rattle.bd_node.specs.Tables.{Table, root_at}
use Rattle.bd_image.specs.Standing.{IsAsBefore, IsOldOrNew}
use Rattle.bd_checkpoint.specs.Kept.{AllAsBefore}
use Rattle.bd_checkpoint.proofs.Handed.{IsSince, before_twice}
use Rattle.bd_pager.specs.Calling.{no_reads}
use Rattle.bd_pager.specs.Slots.{IsSpare}
use Rattle.bd_pager.specs.Pagers.{Paged, nodes_of, table_of}
use Rattle.bd_view.specs.Views.{View, free_slots, need_slots}
use Rattle.bd_view.specs.Moves.{CannotSave}
use Rattle.bd_engine.specs.Engines.{EngineState, keys_of, IsSoundOn, IsReadOn, OnlyNodesOn, WritesEarly, view_of as view_in}
use Rattle.bd_volume.specs.declared.fault.Fault.{Fault}
use Rattle.bd_volume.specs.declared.volume.Volume.{Volume}
use Rattle.bd_volume.specs.declared.volume.replaying.Replay.{Replay}
use Rattle.bd_volume.specs.declared.volume.replaying.Replay.TheVariants.{Spills}
use Rattle.bd_volume.specs.Faults.{HasNotFailed, IsGoing, IsStoppedRightly}
use Rattle.bd_volume.specs.Replays.{OnlyEarly, ReplaysEarly, KeepsGood}
use Rattle.bd_volume.specs.Steps.{KeepsStanding}
use Rattle.bd_volume.specs.Volume.{view_of, count_of, device_of, stop_of}
use Rattle.bd_volume.proofs.Bad.{good_same, good_both, good_kept, good_read, good_early}
use Rattle.bd_volume.proofs.Called.{going_then, stop_then, stop_none}
use Rattle.bd_volume.proofs.Read.{stands_same}
use Rattle.bd_volume.proofs.Safe.{read_before, safe_before}

-- as one of the middle, and so as one of before
pub before_then : (before middle : Image → Type 0) → AllAsBefore before middle → (c : Image) → IsAsBefore middle c → IsAsBefore before c
before_then before middle all c is =
    let one = all is.0 is.1 in
    (one.0, one.1, λ tree count stands. is.2 tree count (one.2 tree count stands))

-- where there isn't enough
no_room : (P : Type 0) (free need : ℕ) → (need ≤ free) ⊎ P → free < need → P
no_room P free need (inl enough) short = absurd (omega (arith, enough, short))
no_room P free need (inr p) short = p

module _ {D : Type 0} (g : Ghosts D) where
  -- ---- nodes that were written early

  -- what it stands for stays
  pub keeps_early : (a b : Volume D) → stop_of a ≡ None → WritesEarly g a.engine b.engine → (IsSoundOn g a.engine → IsSoundOn g b.engine) → (IsSoundOn g a.engine → SameAt (keys_of g a.engine.pager) (keys_of g b.engine.pager)) → count_of b ≡ count_of a
      → KeepsStanding g a b
  keeps_early a b going h sound same count = λ t n s. record {
    stands = stands_same g a b t n s (sound s.nodes) (same s.nodes) count (λ on. safe_before g a.engine b.engine t n (ap (λ (e : EngineState D). e.live) h.rest) (ap (λ (e : EngineState D). e.log) h.rest) h.kept (s.safe going));
    time = within (IsAsBefore (left_now g (device_of a))) (IsOldOrNew (left_now g (device_of a)) t n) h.time (λ c was. inl was);
  }

  -- what is seen stays but for nodes that may not be known
  early_view : (a b : EngineState D) → WritesEarly g a b → view_in g b ≡ record (view_in g a) { tree = record (view_in g a).tree { nodes = nodes_of g b.pager } }
  early_view a b h =
      h.others
      ∙ ap (λ (t : Table). record (view_in g a) { tree = record { nodes = nodes_of g b.pager; table = t; walk = b.walk } }) h.table
      ∙ ap (λ (w : Walk). record (view_in g a) { tree = record { nodes = nodes_of g b.pager; table = table_of a.pager; walk = w } }) (ap (λ (e : EngineState D). e.walk) h.rest)

  -- where no checkpoint made room, none can
  pub early_short : (a b : Volume D) (c : Command) → WritesEarly g a.engine b.engine → (need_slots c (view_of g a) ≤ free_slots (view_of g a)) ⊎ CannotSave (view_of g a) → free_slots (view_of g b) < need_slots c (view_of g b) → CannotSave (view_of g b)
  early_short a b c h room short =
      no_room (CannotSave (view_of g b)) (free_slots (view_of g b)) (need_slots c (view_of g b)) (subst (λ (v : View). (need_slots c v ≤ free_slots v) ⊎ CannotSave v) (sym (early_view a.engine b.engine h)) room) short

  -- what stands at the keys stays, where the view does
  pub early_keys : (a b : Volume D) → view_of g b ≡ view_of g a → SameAt (keys_of g a.engine.pager) (keys_of g b.engine.pager)
  early_keys a b same k = ap (λ (v : View). root_at v.tree.nodes v.tree.table k) same

module _ {D : Type 0} (g : Ghosts D) (how : Replay) where
  -- ---- what a replay writes

  early_both : (a b d : EngineState D) → OnlyEarly g how a b → OnlyEarly g how b d → OnlyEarly g how a d
  early_both a b d p q =
      let first : Image → Type 0 = left_now g a.pager.dev in
      let mid : Image → Type 0 = left_now g b.pager.dev in
      record {
        time = goes_on (IsAsBefore first) (IsAsBefore mid) p.time q.time (before_then first mid p.kept);
        kept = before_twice first mid (left_now g d.pager.dev) p.kept q.kept;
        slots = stays_both (IsSpare a.pager.spare) (g.contents a.pager.dev) (g.contents b.pager.dev) (g.contents d.pager.dev) p.slots
            (subst (λ (s : List Bool). StaysBut (IsSpare s) (g.contents b.pager.dev) (g.contents d.pager.dev)) p.spare q.slots);
        good = good_both g a b d p.good q.good;
        quiet = λ is. reads_then (p.quiet is) (q.quiet is);
        stays = stays_then p.stays q.stays;
        spare = q.spare ∙ p.spare;
        log = q.log ∙ p.log;
        live = q.live ∙ p.live;
      }

  early_same : (a : EngineState D) → OnlyEarly g how a a
  early_same a = record {
    time = record { later = omega arith; keeps = λ u c le left. left; adds = λ u c le left. inl left };
    kept = λ c left. (c, left, λ t n s. s);
    slots = stays_same (IsSpare a.pager.spare) (g.contents a.pager.dev);
    good = good_same g a;
    quiet = λ is. no_reads g a.pager.dev;
    stays = record { count = refl; same_name = λ name was. was; same_loans = refl };
    spare = refl;
    log = refl;
    live = refl;
  }

  early_read : (a b : EngineState D) → IsSince g b.pager.dev → OnlyReads g a.pager.dev b.pager.dev → KeepsGood g a b → b.pager.spare ≡ a.pager.spare → b.log ≡ a.log → b.live ≡ a.live → OnlyEarly g how a b
  early_read a b earlier reads good spare log live = record {
    time = within Nothing (IsAsBefore (left_now g a.pager.dev)) reads.time (λ c none. absurd none);
    kept = read_before g a.pager.dev b.pager.dev earlier reads;
    slots = subst (λ (o : Option Image). StaysBut (IsSpare a.pager.spare) (g.contents a.pager.dev) o) (sym reads.kept) (stays_same (IsSpare a.pager.spare) (g.contents a.pager.dev));
    good = good;
    quiet = λ is. reads;
    stays = reads_stay reads;
    spare = spare;
    log = log;
    live = live;
  }

  -- ---- calls that were Ok

  -- no write failed in them
  pub record GoesEarly (a b : Volume D) : Type 0 where
    pub early : OnlyEarly g how a.engine b.engine
    pub going : IsGoing g a b

  pub goes_none : (a : Volume D) → stop_of a ≡ None → GoesEarly a a
  goes_none a going = record { early = early_same a.engine; going = record { stop_is = going; write_faults = refl } }

  pub goes_ok : {T : Type 0} (a b : Volume D) (x : T) → ReplaysEarly {T = T} g how a b (Ok x) → GoesEarly a b
  goes_ok a b x h = record { early = h.early; going = h.stop.ok }

  pub goes_both : (a b d : Volume D) → GoesEarly a b → GoesEarly b d → GoesEarly a d
  goes_both a b d p q = record { early = early_both a.engine b.engine d.engine p.early q.early; going = going_then g a b d p.going q.going }

  pub goes_counted : (a b : Volume D) (n : ℕ) → GoesEarly a b → GoesEarly a (record b { count = n })
  goes_counted a b n h = record { early = h.early; going = record { stop_is = h.going.stop_is; write_faults = h.going.write_faults } }

  -- calls of the engine, also where they fail
  goes_reads : (a b : Volume D) → IsSince g (device_of b) → stop_of a ≡ None → OnlyReads g (device_of a) (device_of b) → KeepsGood g a.engine b.engine → b.engine.pager.spare ≡ a.engine.pager.spare → b.engine.log ≡ a.engine.log → b.engine.live ≡ a.engine.live → stop_of b ≡ stop_of a → GoesEarly a b
  goes_reads a b earlier going reads good spare log live same = record {
    early = early_read a.engine b.engine earlier reads good spare log live;
    going = record { stop_is = same ∙ going; write_faults = reads.write_faults };
  }

  pub goes_read : (a b : Volume D) → IsSince g (device_of b) → stop_of a ≡ None → IsReadOn g a.engine b.engine → GoesEarly a b
  goes_read a b earlier going h =
      goes_reads a b earlier going h.read.device (good_read g a.engine b.engine h) (ap (λ (p : Paged D). p.spare) h.read.rest) (ap (λ (e : EngineState D). e.log) h.rest) (ap (λ (e : EngineState D). e.live) h.rest) (ap (λ (e : EngineState D). e.stop) h.rest)

  pub goes_nodes : (a b : Volume D) → IsSince g (device_of b) → stop_of a ≡ None → OnlyNodesOn g a.engine b.engine → GoesEarly a b
  goes_nodes a b earlier going h =
      goes_reads a b earlier going h.keeps.device (good_kept g a.engine b.engine h.keeps) h.keeps.spare (ap (λ (e : EngineState D). e.log) h.rest) (ap (λ (e : EngineState D). e.live) h.rest) (ap (λ (e : EngineState D). e.stop) h.rest)

  -- ---- by results

  pub early_goes : {T : Type 0} (a b : Volume D) (r : Result T Fault) → GoesEarly a b → ReplaysEarly g how a b r
  early_goes a b r h = record { early = h.early; stop = stop_none g a b r h.going }

  pub early_fails : {T U : Type 0} (a b d : Volume D) (fault : Fault) → GoesEarly a b → HasNotFailed g a b → ReplaysEarly {T = U} g how b d (Err fault) → ReplaysEarly {T = T} g how a d (Err fault)
  early_fails a b d fault p faults q = record {
    early = early_both a.engine b.engine d.engine p.early q.early;
    stop = stop_then g a b d (Err fault) p.going faults (record { ok = tt; err = q.stop.err });
  }

module _ {D : Type 0} (g : Ghosts D) where
  -- nodes that were written early, where that may be
  pub early_call : {T : Type 0} (a b : Volume D) (r : Result T Fault) → WritesEarly g a.engine b.engine → IsStoppedRightly g a b r → ReplaysEarly g Spills a b r
  early_call a b r h stop = record {
    early = record {
      time = h.time;
      kept = h.kept;
      slots = h.slots;
      good = good_early g a.engine b.engine h;
      quiet = λ is. let bad : ⊥ = cc in absurd bad;
      stays = h.stays;
      spare = ap (λ (p : Paged D). p.spare) h.pager;
      log = ap (λ (e : EngineState D). e.log) h.rest;
      live = ap (λ (e : EngineState D). e.live) h.rest;
    };
    stop = stop;
  }
