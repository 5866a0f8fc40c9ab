-- What a check leaves of its device, and what it says of what it found.
use Rattle.std.proofs.Common.{◌+◌, sym, subst, inl, inr, arith}
use Rattle.std.specs.Prelude.{Result, Ok, Err, OnOk, IfOk, IfErr}
use Rattle.bd_device.specs.Device.{OnlyReads}
use Rattle.bd_device.specs.declared.device.Device.{Ghosts}
use Rattle.bd_device.proofs.Calls.{reads_stay}
use Rattle.bd_checkpoint.specs.Recovering.{OnlySettles, HasSettled}
use Rattle.bd_volume.specs.declared.fault.Fault.{Fault}
use Rattle.bd_volume.specs.declared.fault.Fault.TheVariants.{Device, Damaged, Worn, NoMemory, Full, Stopped}
use Rattle.bd_check.specs.Causes.{CanStop, IsStop, HasStopCause, HasCheckCause, IsSaid}
use Rattle.bd_check.specs.Verdicts.{IsRightOf, SaysYes}
use Rattle.bd_check.specs.declared.fault.CheckFault.{CheckFault}
use Rattle.bd_check.specs.declared.verdict.Verdict.{Verdict}

-- what holds anyway holds at Ok
pub on_any : {T E : Type 0} (r : Result T E) (P : Type 0) → P → OnOk r P
on_any (Ok x) P h = h
on_any (Err e) P h = tt

-- ---- the device

pub settles_read : {D : Type 0} (g : Ghosts D) (a b : D) → OnlyReads g a b → OnlySettles g a b
settles_read g a b h = record { kept = h.kept; stays = reads_stay h; time = h.time; write_faults = inl h.write_faults }

pub settled_on : {D : Type 0} (g : Ghosts D) (a b d : D) → HasSettled g a b → OnlyReads g b d → HasSettled g a d
settled_on g a b d h reads = record {
  called = omega (arith, h.called, reads.time.later);
  only = λ c left. elim (reads.time.adds (g.call_count a + 1) c h.called left) [
    | inl before ↦ h.only c before
    | inr none ↦ absurd none
  ];
}

-- ---- what is said

stops : {D : Type 0} (g : Ghosts D) (a b : D) (fault : Fault) → IsStop g a b fault → CanStop fault
stops g a b Device h = tt
stops g a b (Damaged block) h = tt
stops g a b (Worn which) h = tt
stops g a b NoMemory h = tt
stops g a b (Full free need) h = h
stops g a b (Stopped call) h = h

pub can_stop : {D : Type 0} {g : Ghosts D} {a b : D} (found : Result Verdict Fault) → HasStopCause g a b found → IfErr found CanStop
can_stop (Ok v) h = tt
can_stop {D} {g} {a} {b} (Err e) h = stops g a b e h.failed

pub said_right : {D : Type 0} {g : Ghosts D} {a b : D} (found : Result Verdict Fault) (said : Result Verdict CheckFault) → IsSaid found said → HasStopCause g a b found → IfOk found (IsRightOf (g.contents a)) → IfOk said (IsRightOf (g.contents a))
said_right {D} {g} {a} {b} (Ok v) said is h right = subst (λ (r : Result Verdict CheckFault). IfOk r (IsRightOf (g.contents a))) (sym is) right
said_right {D} {g} {a} {b} (Err Device) said is h right = subst (λ (r : Result Verdict CheckFault). IfOk r (IsRightOf (g.contents a))) (sym is) tt
said_right {D} {g} {a} {b} (Err (Damaged block)) said is h right = subst (λ (r : Result Verdict CheckFault). IfOk r (IsRightOf (g.contents a))) (sym is) h.failed.0
said_right {D} {g} {a} {b} (Err (Worn which)) said is h right = subst (λ (r : Result Verdict CheckFault). IfOk r (IsRightOf (g.contents a))) (sym is) tt
said_right {D} {g} {a} {b} (Err NoMemory) said is h right = subst (λ (r : Result Verdict CheckFault). IfOk r (IsRightOf (g.contents a))) (sym is) tt
said_right {D} {g} {a} {b} (Err (Full free need)) said is h right = absurd is
said_right {D} {g} {a} {b} (Err (Stopped call)) said is h right = absurd is

pub said_yes : (found : Result Verdict Fault) (said : Result Verdict CheckFault) (P : Type 0) → IsSaid found said → OnOk found P → IfOk said (λ v. SaysYes v → P)
said_yes (Ok v) said P is h = subst (λ (r : Result Verdict CheckFault). IfOk r (λ v. SaysYes v → P)) (sym is) (λ yes. h)
said_yes (Err Device) said P is h = subst (λ (r : Result Verdict CheckFault). IfOk r (λ v. SaysYes v → P)) (sym is) tt
said_yes (Err (Damaged block)) said P is h = subst (λ (r : Result Verdict CheckFault). IfOk r (λ v. SaysYes v → P)) (sym is) (λ yes. absurd yes)
said_yes (Err (Worn which)) said P is h = subst (λ (r : Result Verdict CheckFault). IfOk r (λ v. SaysYes v → P)) (sym is) tt
said_yes (Err NoMemory) said P is h = subst (λ (r : Result Verdict CheckFault). IfOk r (λ v. SaysYes v → P)) (sym is) tt
said_yes (Err (Full free need)) said P is h = absurd is
said_yes (Err (Stopped call)) said P is h = absurd is

-- the cause of what was found is that of what is said
pub said_cause : {D : Type 0} (g : Ghosts D) (old new : D) (found : Result Verdict Fault) (said : Result Verdict CheckFault) → IsSaid found said → HasStopCause g old new found → HasCheckCause g old new said
said_cause {D} g old new (Ok v) said is h = subst (λ (r : Result Verdict CheckFault). HasCheckCause g old new r) (sym is) (record { kept = h.kept; failed = tt })
said_cause {D} g old new (Err Device) said is h = subst (λ (r : Result Verdict CheckFault). HasCheckCause g old new r) (sym is) (record { kept = tt; failed = h.failed })
said_cause {D} g old new (Err (Damaged block)) said is h = subst (λ (r : Result Verdict CheckFault). HasCheckCause g old new r) (sym is) (record { kept = h.failed.1; failed = tt })
said_cause {D} g old new (Err (Worn which)) said is h = subst (λ (r : Result Verdict CheckFault). HasCheckCause g old new r) (sym is) (record { kept = tt; failed = h.failed })
said_cause {D} g old new (Err NoMemory) said is h = subst (λ (r : Result Verdict CheckFault). HasCheckCause g old new r) (sym is) (record { kept = tt; failed = h.failed })
said_cause {D} g old new (Err (Full free need)) said is h = absurd is
said_cause {D} g old new (Err (Stopped call)) said is h = absurd is
