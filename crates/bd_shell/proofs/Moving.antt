-- How the device and the counts of faults go on over several lines.
use Rattle.std.proofs.Common.{◌≡◌, ℕ, Bool, refl, ap, subst, ◌∙◌, arith, inl, inr}
use Rattle.std.specs.declared.result.Result.{Result}
use Rattle.std.specs.declared.result.Result.TheVariants.{Ok, Err}
use Rattle.bd_io.specs.Cause.{Rose}
use Rattle.bd_device.specs.Device.{Stays}
use Rattle.bd_device.specs.declared.device.Device.{Ghosts}
use Rattle.bd_shell.specs.declared.fault.Fault.{Fault}
use Rattle.bd_shell.specs.declared.fault.Fault.TheVariants.{Device, Damaged, Source, Memory, TooLong, Worn, Sink}
use Rattle.bd_shell.specs.Fault.{Faults, faults, Caused, IsCaused}
use Rattle.bd_shell.specs.Shell.{FailsNoWriteAt}

-- ---- the device

pub stays_same : {D : Type 0} (g : Ghosts D) (d : D) → Stays g d d
stays_same g d = record { count = refl; same_name = λ name h. h; same_loans = refl }

pub stays_more : {D : Type 0} (g : Ghosts D) (a b c : D) → Stays g a b → Stays g b c → Stays g a c
stays_more g a b c h k = record {
  count = k.count ∙ h.count;
  same_name = λ name at. k.same_name name (h.same_name name at);
  same_loans = k.same_loans ∙ h.same_loans;
}

-- no write failed before a fault
pub writes_after : {D : Type 0} (g : Ghosts D) (a b c : D) (e : Fault) → g.write_fault_count b ≡ g.write_fault_count a
    → FailsNoWriteAt g b c e → FailsNoWriteAt g a c e
writes_after g a b c Device same h = tt
writes_after g a b c (Damaged block) same h = h ∙ same
writes_after g a b c Source same h = h ∙ same
writes_after g a b c Memory same h = h ∙ same
writes_after g a b c TooLong same h = h ∙ same
writes_after g a b c (Worn which) same h = h ∙ same
writes_after g a b c Sink same h = h ∙ same

-- ---- the counts

-- nothing failed
pub went_on : {T : Type 0} (before now : Faults) (last : Bool) (x : T) → now ≡ before → IsCaused before now last (Ok x)
went_on before now last x same = record {
  later = record {
    device = omega (arith, ap (λ (f : Faults). f.device) same);
    source = omega (arith, ap (λ (f : Faults). f.source) same);
    sink = omega (arith, ap (λ (f : Faults). f.sink) same);
  };
  kept = same;
  cause = tt;
}

-- nothing failed before a fault
pub caused_after : {T U : Type 0} (a b c : Faults) (last : Bool) (e : Fault) → b ≡ a → IsCaused {T = T} b c last (Err e) → IsCaused {T = U} a c last (Err e)
caused_after {T} a b c last e same h =
    let k : IsCaused {T = T} a c last (Err e) = subst (λ x. IsCaused {T = T} x c last (Err e)) same h in
    record { later = k.later; kept = tt; cause = k.cause }

-- there was no memory
pub memory_after : {T : Type 0} (before now : Faults) (last : Bool) → now ≡ before → IsCaused {T = T} before now last (Err Memory)
memory_after before now last same = record { later = (went_on before now last (tt {0}) same).later; kept = tt; cause = same }

-- ---- beside a source

caused_beside : (e : Fault) (d k d2 k2 source : ℕ) (last : Bool) → Caused e (faults d 0 k) (faults d2 0 k2) last → Caused e (faults d source k) (faults d2 source k2) last
caused_beside Device d k d2 k2 source last h = (h.0, h.1, ap (λ (f : Faults). faults d2 source f.sink) h.2)
caused_beside (Damaged block) d k d2 k2 source last h = ap (λ (f : Faults). faults f.device source f.sink) h
caused_beside Source d k d2 k2 source last h = absurd (never_rose h.0)
  where
    never_rose : Rose 0 0 → ⊥
    never_rose (inl r) = omega arith
    never_rose (inr r) = omega arith
caused_beside Memory d k d2 k2 source last h = ap (λ (f : Faults). faults f.device source f.sink) h
caused_beside TooLong d k d2 k2 source last h = ap (λ (f : Faults). faults f.device source f.sink) h
caused_beside (Worn which) d k d2 k2 source last h = ap (λ (f : Faults). faults f.device source f.sink) h
caused_beside Sink d k d2 k2 source last h = (h.0, ap (λ (f : Faults). faults f.device source k2) h.1)

-- what is caused without a source is caused beside one that stays as it was
pub is_caused_beside : {T : Type 0} (r : Result T Fault) (d k d2 k2 source : ℕ) (last : Bool) → IsCaused (faults d 0 k) (faults d2 0 k2) last r
    → IsCaused (faults d source k) (faults d2 source k2) last r
is_caused_beside (Ok x) d k d2 k2 source last h = record {
  later = record { device = h.later.device; source = omega arith; sink = h.later.sink };
  kept = ap (λ (f : Faults). faults f.device source f.sink) h.kept;
  cause = tt;
}
is_caused_beside (Err e) d k d2 k2 source last h = record {
  later = record { device = h.later.device; source = omega arith; sink = h.later.sink };
  kept = tt;
  cause = caused_beside e d k d2 k2 source last h.cause;
}
