-- What calls leave of a volume, one after the other.
use Rattle.std.proofs.Common.{◌≡◌, ℕ, ◌<◌, ◌≤◌, ◌⊎◌, None, Some, refl, sym, subst, ap, ◌∙◌, arith, inl, inr}
use Rattle.std.specs.Prelude.{Result, Ok, Err}
use Rattle.bd_io.specs.Cause.{next_count}
use Rattle.bd_device.specs.Device.{OnlyReads, Stays, LastFailed}
use Rattle.bd_device.specs.declared.device.Device.{Ghosts}
use Rattle.bd_device.proofs.Calls.{stays_then, reads_stay}
use Rattle.bd_message.specs.KeyMaps.{HasMapCause, IsCause, StaysUnlessDevice}
use Rattle.bd_message.specs.declared.fault.Counter.{Counter}
use Rattle.bd_message.specs.declared.fault.MapFault.{MapFault}
use Rattle.bd_message.specs.declared.fault.MapFault.TheVariants as map
use Rattle.bd_checkpoint.specs.Saving.{IsCheckpointCause}
use Rattle.bd_checkpoint.proofs.Checkpointed.{failed_after}
use Rattle.bd_pager.specs.Pagers.{Paged, is_bad}
use Rattle.bd_engine.specs.Engines.{IsStopped, IsGoingOn}
use Rattle.bd_engine.specs.Writes.{WritesOn}
use Rattle.bd_volume.specs.declared.fault.Fault.{Fault}
use Rattle.bd_volume.specs.declared.fault.Fault.TheVariants.{Device, Damaged, Worn, NoMemory, Full, Stopped}
use Rattle.bd_volume.specs.declared.volume.Volume.{Volume}
use Rattle.bd_volume.specs.Faults.{fault_of, HasNotFailed, IsFaultCause, IsGoing, IsHalted, IsStoppedRightly}
use Rattle.bd_volume.specs.Volume.{count_of, device_of, stop_of}
use Rattle.bd_volume.specs.Steps.{GoesOn, Ends}
use Rattle.bd_volume.proofs.Writes.{writes_none, writes_then, writes_logged}

module _ {D : Type 0} (g : Ghosts D) where
  -- ---- one after the other

  pub no_call : (a : Volume D) → stop_of a ≡ None → GoesOn g a a
  no_call a going = record {
    going = record { stop_is = going; write_faults = refl };
    faults = refl;
    count_is = refl;
    stays = record { count = refl; same_name = λ name was. was; same_loans = refl };
    writes = writes_none g a.engine;
  }

  pub going_then : (a b c : Volume D) → IsGoing g a b → IsGoing g b c → IsGoing g a c
  going_then a b c p q = record { stop_is = q.stop_is; write_faults = q.write_faults ∙ p.write_faults }

  pub goes_then : (a b c : Volume D) → GoesOn g a b → GoesOn g b c → GoesOn g a c
  goes_then a b c p q = record {
    going = going_then a b c p.going q.going;
    faults = q.faults ∙ p.faults;
    count_is = q.count_is ∙ p.count_is;
    stays = stays_then p.stays q.stays;
    writes = writes_then g a.engine b.engine c.engine p.going.stop_is p.writes q.writes;
  }

  fault_then : (a b c : Volume D) (fault : Fault) → GoesOn g a b → IsFaultCause g b c fault → IsFaultCause g a c fault
  fault_then a b c Device p h = failed_after g (device_of a) (device_of b) (device_of c) p.faults h
  fault_then a b c (Damaged block) p h = (h.0, h.1 ∙ p.faults)
  fault_then a b c (Worn which) p h = h ∙ p.faults
  fault_then a b c NoMemory p h = h ∙ p.faults
  fault_then a b c (Full free need) p h = (h.0, h.1 ∙ p.faults)
  fault_then a b c (Stopped call) p h =
      let on : stop_of b ≡ None = p.going.stop_is in
      let off : stop_of b ≡ Some call = h.0 in
      let bad : ⊥ = cc in
      absurd bad

  halted_then : (a b c : Volume D) → IsGoing g a b → HasNotFailed g a b → IsHalted g b c → IsHalted g a c
  halted_then a b c p faults h = record {
    stop_is = h.stop_is;
    write_faults = h.write_faults ∙ ap next_count p.write_faults;
    failed = failed_after g (device_of a) (device_of b) (device_of c) faults h.failed;
  }

  pub stop_then : {T : Type 0} (a b c : Volume D) (r : Result T Fault) → IsGoing g a b → HasNotFailed g a b → IsStoppedRightly g b c r → IsStoppedRightly g a c r
  stop_then a b c (Ok x) p faults h = record { ok = going_then a b c p h.ok; err = tt }
  stop_then a b c (Err e) p faults h = record {
    ok = tt;
    err = elim h.err [ inl goes ↦ inl (going_then a b c p goes) | inr halts ↦ inr (halted_then a b c p faults halts.0, halts.1) ];
  }

  pub ends_then : {T : Type 0} (a b c : Volume D) (r : Result T Fault) → GoesOn g a b → Ends g b c r → Ends g a c r
  ends_then a b c (Ok x) p h = record {
    cause = record { later = omega (arith, p.faults, h.cause.later); kept = h.cause.kept ∙ p.faults; failed = tt };
    stop = stop_then a b c (Ok x) p.going p.faults h.stop;
    stays = stays_then p.stays h.stays;
    writes = writes_then g a.engine b.engine c.engine p.going.stop_is p.writes h.writes;
  }
  ends_then a b c (Err e) p h = record {
    cause = record { later = omega (arith, p.faults, h.cause.later); kept = tt; failed = fault_then a b c e p h.cause.failed };
    stop = stop_then a b c (Err e) p.going p.faults h.stop;
    stays = stays_then p.stays h.stays;
    writes = writes_then g a.engine b.engine c.engine p.going.stop_is p.writes h.writes;
  }

  -- ---- what goes on

  pub stop_none : {T : Type 0} (a b : Volume D) (r : Result T Fault) → IsGoing g a b → IsStoppedRightly g a b r
  stop_none a b (Ok x) p = record { ok = p; err = tt }
  stop_none a b (Err e) p = record { ok = tt; err = inl p }

  pub ends_well : {T : Type 0} (a b : Volume D) (x : T) → GoesOn g a b → Ends {T = T} g a b (Ok x)
  ends_well a b x p = record {
    cause = record { later = omega (arith, p.faults); kept = p.faults; failed = tt };
    stop = record { ok = p.going; err = tt };
    stays = p.stays;
    writes = p.writes;
  }

  pub went_on : {T : Type 0} (a b : Volume D) (x : T) → Ends {T = T} g a b (Ok x) → count_of b ≡ count_of a → GoesOn g a b
  went_on a b x h same = record { going = h.stop.ok; faults = h.cause.kept; count_is = same; stays = h.stays; writes = h.writes }

  going_fault : {T : Type 0} (a b : Volume D) (fault : Fault) → GoesOn g a b → IsFaultCause g a b fault → Ends {T = T} g a b (Err fault)
  going_fault a b fault p h = record {
    cause = record { later = omega (arith, p.faults); kept = tt; failed = h };
    stop = record { ok = tt; err = inl p.going };
    stays = p.stays;
    writes = p.writes;
  }

  pub ends_full : {T : Type 0} (a b : Volume D) (free need : ℕ) → GoesOn g a b → free < need → Ends {T = T} g a b (Err (Full free need))
  ends_full a b free need p short = going_fault a b (Full free need) p (short, p.faults)

  pub ends_worn : {T : Type 0} (a b : Volume D) (which : Counter) → GoesOn g a b → Ends {T = T} g a b (Err (Worn which))
  ends_worn a b which p = going_fault a b (Worn which) p p.faults

  -- ---- calls that write nothing

  pub read_goes : (a b : Volume D) → stop_of a ≡ None → stop_of b ≡ stop_of a → OnlyReads g (device_of a) (device_of b) → HasNotFailed g a b → count_of b ≡ count_of a → WritesOn g a.engine b.engine → GoesOn g a b
  read_goes a b going same reads faults count writes = record {
    going = record { stop_is = same ∙ going; write_faults = reads.write_faults };
    faults = faults;
    count_is = count;
    stays = reads_stay reads;
    writes = writes;
  }

  map_cause : (a b : Volume D) (worn : Counter → Type 0) (fault : MapFault) → StaysUnlessDevice (g.fault_count (device_of a)) (g.fault_count (device_of b)) fault
      → IsCause (g.fault_count (device_of a)) (g.fault_count (device_of b)) (g.last_failed (device_of b)) (is_bad g b.engine.pager) worn fault → IsFaultCause g a b (fault_of fault)
  map_cause a b worn map.DeviceFault stays h = record { one = h.0; last = h.1 }
  map_cause a b worn (map.Damaged block) stays h = (h, stays)
  map_cause a b worn (map.Worn which) stays h = stays
  map_cause a b worn map.NoMemory stays h = stays

  pub read_fails : {T U : Type 0} (a b : Volume D) (worn : Counter → Type 0) (fault : MapFault) → stop_of a ≡ None → stop_of b ≡ stop_of a → OnlyReads g (device_of a) (device_of b)
      → HasMapCause {T = U} (g.fault_count (device_of a)) (g.fault_count (device_of b)) (g.last_failed (device_of b)) (is_bad g b.engine.pager) worn (Err fault) → WritesOn g a.engine b.engine → Ends {T = T} g a b (Err (fault_of fault))
  read_fails a b worn fault going same reads cause writes = record {
    cause = record { later = cause.later; kept = tt; failed = map_cause a b worn fault cause.stays cause.failed };
    stop = record { ok = tt; err = inl (record { stop_is = same ∙ going; write_faults = reads.write_faults }) };
    stays = reads_stay reads;
    writes = writes;
  }

  -- ---- checkpoints

  save_cause : (a b : Volume D) (fault : MapFault) → IsCheckpointCause g (device_of a) (device_of b) a.engine.live fault → IsFaultCause g a b (fault_of fault)
  save_cause a b map.DeviceFault h = h
  save_cause a b (map.Damaged block) h = absurd h
  save_cause a b (map.Worn which) h = ap g.fault_count h.2
  save_cause a b map.NoMemory h = ap g.fault_count h

  save_failed : (a b : Volume D) (fault : MapFault) → fault ≡ map.DeviceFault → IsCheckpointCause g (device_of a) (device_of b) a.engine.live fault → LastFailed g (device_of a) (device_of b)
  save_failed a b fault is h = subst (λ (f : MapFault). IsCheckpointCause g (device_of a) (device_of b) a.engine.live f) is h

  -- at each other fault the device wasn't called
  pub save_untouched : (a b : Volume D) (fault : MapFault) → IsCheckpointCause g (device_of a) (device_of b) a.engine.live fault → (fault_of fault ≡ Device → ⊥) → device_of b ≡ device_of a
  save_untouched a b map.DeviceFault h other = absurd (other refl)
  save_untouched a b (map.Damaged block) h other = absurd h
  save_untouched a b (map.Worn which) h other = h.2
  save_untouched a b map.NoMemory h other = h

  pub save_fails : {T : Type 0} (a b : Volume D) (fault : MapFault) → g.fault_count (device_of a) ≤ g.fault_count (device_of b)
      → (IsStopped g a.engine b.engine × (fault ≡ map.DeviceFault)) ⊎ IsGoingOn g a.engine b.engine → IsCheckpointCause g (device_of a) (device_of b) a.engine.live fault → Stays g (device_of a) (device_of b) → WritesOn g a.engine b.engine
      → Ends {T = T} g a b (Err (fault_of fault))
  save_fails a b fault later stop cause stays writes = record {
    cause = record { later = later; kept = tt; failed = save_cause a b fault cause };
    stop = record {
      ok = tt;
      err = elim stop [
        | inl halted ↦ inr (record { stop_is = halted.0.stop_is; write_faults = halted.0.write_faults; failed = save_failed a b fault halted.1 cause }, ap fault_of halted.1)
        | inr goes ↦ inl (record { stop_is = goes.stop_is; write_faults = goes.write_faults })
      ];
    };
    stays = stays;
    writes = writes;
  }

  -- ---- a volume that was stopped

  -- ---- a command that was logged and counted

  -- nothing but the log and the count changes
  pub ends_logged : {T : Type 0} (a b d : Volume D) (x : T) → GoesOn g a b → d.engine.pager ≡ b.engine.pager → d.engine.live ≡ b.engine.live → stop_of d ≡ stop_of b → Ends {T = T} g a d (Ok x)
  ends_logged a b d x p pager live stop =
      let same : device_of d ≡ device_of b = ap (λ (q : Paged D). q.dev) pager in
      record {
        cause = record { later = omega (arith, p.faults, ap g.fault_count same); kept = ap g.fault_count same ∙ p.faults; failed = tt };
        stop = record { ok = record { stop_is = stop ∙ p.going.stop_is; write_faults = ap g.write_fault_count same ∙ p.going.write_faults }; err = tt };
        stays = subst (λ (e : D). Stays g (device_of a) e) (sym same) p.stays;
        writes = writes_logged g a.engine b.engine d.engine p.writes pager live stop;
      }

  -- a fault of a call is one of another result
  pub ends_err : {T U : Type 0} (a b : Volume D) (fault : Fault) → Ends {T = T} g a b (Err fault) → Ends {T = U} g a b (Err fault)
  ends_err a b fault h = record {
    cause = record { later = h.cause.later; kept = tt; failed = h.cause.failed };
    stop = record { ok = tt; err = h.stop.err };
    stays = h.stays;
    writes = h.writes;
  }
