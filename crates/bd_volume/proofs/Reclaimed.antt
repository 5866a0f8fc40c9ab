-- Reclaiming as a whole: its first checkpoint, its changes, and its last checkpoint.
use Rattle.std.proofs.Common.{◌≡◌, ℕ, ◌+◌, ◌^◌, ◌≤◌, None, Some, refl, sym, subst, inl, inr}
use Rattle.std.specs.Prelude.{Result, Ok, Err, IfErr, OnErr}
use Rattle.bd_model.specs.Tree.{Tree}
use Rattle.bd_message.specs.declared.fault.Counter.{Counter}
use Rattle.bd_message.specs.declared.fault.Counter.TheVariants.{Epoch}
use Rattle.bd_device.specs.declared.device.Device.{Ghosts}
use Rattle.bd_super.specs.declared.superblock.Super.{Super}
use Rattle.bd_view.specs.Views.{View}
use Rattle.bd_view.specs.Moves.{Saves, IsCheckpointFull}
use Rattle.bd_view.specs.Reclaiming.{AreReclaims, HasReclaimed, IsReclaim, IsReclaimFull}
use Rattle.bd_view.specs.Reclaiming.IsReclaimFull.{first, edge, last}
use Rattle.bd_engine.specs.Engines.{EngineState}
use Rattle.bd_volume.specs.declared.fault.Fault.{Fault}
use Rattle.bd_volume.specs.declared.fault.Fault.TheVariants.{Device, Damaged, Worn, NoMemory, Full, Stopped}
use Rattle.bd_volume.specs.declared.volume.Volume.{Volume}
use Rattle.bd_volume.specs.Faults.{HasFaultCause}
use Rattle.bd_volume.specs.Reclaims.{ChangesAll, StopsChanging, IsReclaimFault, ShowsEdge, ShowsReclaim}
use Rattle.bd_volume.specs.Volume.{StandsFor, view_of, stop_of}
use Rattle.bd_volume.specs.Wears.{HasBegunReclaiming, IsWornToReclaim, ShowsWornToReclaim}

reclaimed : (pushes : ℕ) (a b c : View) → Saves a b → AreReclaims pushes b c → HasReclaimed pushes a c
reclaimed pushes a b c saves changes = record { first = b; begins = saves; changes = changes }

pub is_reclaim : (a b c d : View) → Saves a b → ChangesAll b c → Saves c d → IsReclaim a d
is_reclaim a b c d saves all ends = record {
  pushes = all.pushes;
  last = c;
  reclaimed = reclaimed all.pushes a b c saves all.changes;
  whole = all.whole;
  ends = ends;
}

-- ---- why it stops

epoch_worn : (which : Counter) (c d : View) → d ≡ c → (which ≡ Epoch) × (2 ^ 64 ≤ c.epoch + 1) → IsWornToReclaim which d
epoch_worn which c d same h =
    subst (λ (w : Counter). IsWornToReclaim w d) (sym h.0) (subst (λ (v : View). 2 ^ 64 ≤ v.epoch + 1) (sym same) h.1)

begun_between : (fault : Fault) (a b c : View) → Saves a b → StopsChanging fault b c → HasBegunReclaiming a c
begun_between fault a b c saves h = inr (h.pushes, reclaimed h.pushes a b c saves h.changes)

-- between its checkpoints
pub between_fails : (fault : Fault) (a b c : View) → Saves a b → StopsChanging fault b c → IsReclaimFault fault a c
between_fails Device a b c saves h = begun_between Device a b c saves h
between_fails (Damaged block) a b c saves h = h.cause
between_fails (Worn which) a b c saves h = record { begun = begun_between (Worn which) a b c saves h; worn = h.cause }
between_fails NoMemory a b c saves h = begun_between NoMemory a b c saves h
between_fails (Full free need) a b c saves h =
    edge h.pushes h.cause.change c (reclaimed h.pushes a b c saves h.changes) h.cause.next h.cause.short h.cause.free_is h.cause.need_is h.cause.unsaved
between_fails (Stopped call) a b c saves h = h.cause

pub between_shows : {D : Type 0} (g : Ghosts D) (fault : Fault) (e : EngineState D) → ShowsEdge g fault e → ShowsReclaim g fault e
between_shows g Device e h = tt
between_shows g (Damaged block) e h = tt
between_shows g (Worn which) e h = h
between_shows g NoMemory e h = tt
between_shows g (Full free need) e h = (h.0, inr h.1)
between_shows g (Stopped call) e h = tt

full_begun : (a d : View) (free need : ℕ) → IsReclaimFull a free need d → HasBegunReclaiming a d
full_begun a d free need (first full) = inl refl
full_begun a d free need (edge pushes step _ h next short free_is need_is unsaved) = inr (pushes, h)
full_begun a d free need (last pushes _ h whole full) = inr (pushes, h)

-- whatever stops it, it was begun, or nothing was done
fault_begun : (fault : Fault) (a d : View) → IsReclaimFault fault a d → HasBegunReclaiming a d
fault_begun Device a d h = h
fault_begun (Damaged block) a d h = absurd h
fault_begun (Worn which) a d h = h.begun
fault_begun NoMemory a d h = h
fault_begun (Full free need) a d h = full_begun a d free need h
fault_begun (Stopped call) a d h = absurd h

module _ {D : Type 0} (g : Ghosts D) where
  pub faults_begun : {T : Type 0} (r : Result T Fault) (a d : Volume D) → IfErr r (λ fault. (t : Tree) (n : ℕ) → StandsFor g a t n → IsReclaimFault fault (view_of g a) (view_of g d))
      → OnErr r ((t : Tree) (n : ℕ) → StandsFor g a t n → HasBegunReclaiming (view_of g a) (view_of g d))
  faults_begun (Ok x) a d h = tt
  faults_begun (Err e) a d h = λ t n s. fault_begun e (view_of g a) (view_of g d) (h t n s)

  -- what a checkpoint of a volume says that isn't stopped
  pub record IsCheckpointOf {T : Type 0} (a b : Volume D) (r : Result T Fault) : Type 0 where
    pub going : stop_of a ≡ None
    pub unmoved : OnErr r ((t : Tree) (n : ℕ) → StandsFor g a t n → view_of g b ≡ view_of g a)
    pub full : (free need : ℕ) → r ≡ Err (Full free need) → IsCheckpointFull (view_of g a) free need × (b ≡ a)
    pub wears : (which : Counter) → r ≡ Err (Worn which) → (which ≡ Epoch) × (2 ^ 64 ≤ (view_of g a).epoch + 1)
    pub unsaved : OnErr r (b.engine.live ≡ a.engine.live)
    pub undamaged : (block : ℕ) → r ≡ Err (Damaged block) → ⊥
    pub cause : HasFaultCause g a b r

  not_stopped : {A : Type 0} (a : Volume D) (call : ℕ) → stop_of a ≡ None → stop_of a ≡ Some call → A
  not_stopped a call going off =
      let bad : ⊥ = cc in
      absurd bad

  -- at its first checkpoint
  pub first_fails : {T : Type 0} (a b : Volume D) (fault : Fault) → IsCheckpointOf {T = T} a b (Err fault) → (t : Tree) (n : ℕ) → StandsFor g a t n → IsReclaimFault fault (view_of g a) (view_of g b)
  first_fails a b Device h t n s = inl (h.unmoved t n s)
  first_fails a b (Damaged block) h t n s = h.undamaged block refl
  first_fails a b (Worn which) h t n s = record { begun = inl (h.unmoved t n s); worn = epoch_worn which (view_of g a) (view_of g b) (h.unmoved t n s) (h.wears which refl) }
  first_fails a b NoMemory h t n s = inl (h.unmoved t n s)
  first_fails a b (Full free need) h t n s =
      subst (λ (v : Volume D). IsReclaimFull (view_of g a) free need (view_of g v)) (sym (h.full free need refl).1) (first (h.full free need refl).0)
  first_fails a b (Stopped call) h t n s = not_stopped a call h.going h.cause.failed.0

  pub save_shows : {T : Type 0} (a b : Volume D) (fault : Fault) → IsCheckpointOf {T = T} a b (Err fault) → ShowsReclaim g fault b.engine
  save_shows a b Device h = tt
  save_shows a b (Damaged block) h = tt
  save_shows a b (Worn which) h =
      subst (λ (w : Counter). ShowsWornToReclaim g w b.engine) (sym (h.wears which refl).0)
      (subst (λ (live : Super). 2 ^ 64 ≤ live.epoch + 1) (sym h.unsaved) (h.wears which refl).1)
  save_shows a b NoMemory h = tt
  save_shows a b (Full free need) h =
      subst (λ (v : Volume D). ShowsReclaim g (Full free need) v.engine) (sym (h.full free need refl).1) ((h.full free need refl).0.free_is, inl (h.full free need refl).0.need_is)
  save_shows a b (Stopped call) h = tt

  -- at its last checkpoint
  begun_last : (a b : View) (c d : Volume D) → Saves a b → ChangesAll b (view_of g c) → view_of g d ≡ view_of g c → HasBegunReclaiming a (view_of g d)
  begun_last a b c d saves all same =
      subst (λ (v : View). HasBegunReclaiming a v) (sym same) (inr (all.pushes, reclaimed all.pushes a b (view_of g c) saves all.changes))

  last_fails : {T : Type 0} (a b : View) (c d : Volume D) (fault : Fault) → Saves a b → ChangesAll b (view_of g c) → IsCheckpointOf {T = T} c d (Err fault) → (t : Tree) (n : ℕ) → StandsFor g c t n → IsReclaimFault fault a (view_of g d)
  last_fails a b c d Device saves all h t n s = begun_last a b c d saves all (h.unmoved t n s)
  last_fails a b c d (Damaged block) saves all h t n s = h.undamaged block refl
  last_fails a b c d (Worn which) saves all h t n s = record {
    begun = begun_last a b c d saves all (h.unmoved t n s);
    worn = epoch_worn which (view_of g c) (view_of g d) (h.unmoved t n s) (h.wears which refl);
  }
  last_fails a b c d NoMemory saves all h t n s = begun_last a b c d saves all (h.unmoved t n s)
  last_fails a b c d (Full free need) saves all h t n s =
      subst (λ (v : Volume D). IsReclaimFull a free need (view_of g v)) (sym (h.full free need refl).1)
      (last all.pushes (view_of g c) (reclaimed all.pushes a b (view_of g c) saves all.changes) all.whole (h.full free need refl).0)
  last_fails a b c d (Stopped call) saves all h t n s = not_stopped c call h.going h.cause.failed.0

  -- ---- by results

  pub saves_show : {T : Type 0} (r : Result T Fault) (a b : Volume D) → IsCheckpointOf a b r → IfErr r (λ fault. ShowsReclaim g fault b.engine)
  saves_show (Ok x) a b h = tt
  saves_show (Err e) a b h = save_shows a b e h

  pub lasts_fail : {T : Type 0} (r : Result T Fault) (a b c d : Volume D) → ((t : Tree) (n : ℕ) → StandsFor g a t n → Saves (view_of g a) (view_of g b) × ChangesAll (view_of g b) (view_of g c) × StandsFor g c t n) → IsCheckpointOf c d r
      → IfErr r (λ fault. (t : Tree) (n : ℕ) → StandsFor g a t n → IsReclaimFault fault (view_of g a) (view_of g d))
  lasts_fail (Ok x) a b c d before h = tt
  lasts_fail (Err e) a b c d before h = λ t n s.
      let was = before t n s in
      last_fails (view_of g a) (view_of g b) c d e was.0 was.1 h t n was.2
