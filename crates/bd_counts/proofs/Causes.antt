-- Causes of faults, in a weaker sense.
use Rattle.std.proofs.Common.{ℕ, Bool, Result, Ok, Err}
use Rattle.bd_message.specs.declared.fault.Counter.{Counter}
use Rattle.bd_message.specs.declared.fault.MapFault.{MapFault}
use Rattle.bd_message.specs.declared.fault.MapFault.TheVariants.{DeviceFault, Damaged, Worn, NoMemory}
use Rattle.bd_message.specs.KeyMaps.{HasMapCause, IsCause}

module _ (before now : ℕ) (last : Bool) (bad wider : ℕ → Type 0) (worn more : Counter → Type 0) (bad_is : (b : ℕ) → bad b → wider b) (worn_is : (c : Counter) → worn c → more c) where
  is_wider : (e : MapFault) → IsCause before now last bad worn e → IsCause before now last wider more e
  is_wider DeviceFault h = h
  is_wider (Damaged block) h = bad_is block h
  is_wider (Worn which) h = worn_is which h
  is_wider NoMemory h = h

  -- a fault that a call hands on
  pub fault_wider : {T U : Type 0} (e : MapFault) → HasMapCause {T = T} before now last bad worn (Err e) → HasMapCause {T = U} before now last wider more (Err e)
  fault_wider e h = record { later = h.later; kept = tt; stays = h.stays; failed = is_wider e h.failed }

  -- and whatever it returns
  pub cause_wider : {T : Type 0} (r : Result T MapFault) → HasMapCause before now last bad worn r → HasMapCause before now last wider more r
  cause_wider (Ok x) h = record { later = h.later; kept = h.kept; stays = tt; failed = tt }
  cause_wider (Err e) h = fault_wider e h
