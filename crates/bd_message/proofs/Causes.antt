-- Causes of faults, handed on.
use Rattle.std.proofs.Common.{◌≡◌, ℕ, Bool, subst, Result, Ok, Err}
use Rattle.bd_message.specs.declared.fault.Counter.{Counter}
use Rattle.bd_message.specs.declared.fault.MapFault.{MapFault}
use Rattle.bd_message.specs.declared.fault.MapFault.TheVariants.{DeviceFault, Damaged, Worn, NoMemory}
use Rattle.bd_message.specs.KeyMaps.{HasMapCause}

-- a counter that is worn in a stronger sense is so in a weaker one
pub cause_weaker : {T : Type 0} (before now : ℕ) (last : Bool) (bad : ℕ → Type 0) (worn weaker : Counter → Type 0) → ((c : Counter) → worn c → weaker c) → (r : Result T MapFault) → HasMapCause before now last bad worn r → HasMapCause before now last bad weaker r
cause_weaker before now last bad worn weaker f (Ok _) h = record { later = h.later; kept = h.kept; stays = tt; failed = tt }
cause_weaker before now last bad worn weaker f (Err DeviceFault) h = record { later = h.later; kept = tt; stays = tt; failed = h.failed }
cause_weaker before now last bad worn weaker f (Err (Damaged _)) h = record { later = h.later; kept = tt; stays = h.stays; failed = h.failed }
cause_weaker before now last bad worn weaker f (Err (Worn which)) h = record { later = h.later; kept = tt; stays = h.stays; failed = f which h.failed }
cause_weaker before now last bad worn weaker f (Err NoMemory) h = record { later = h.later; kept = tt; stays = h.stays; failed = tt }

-- a fault of a call is one of the call that makes it
pub cause_passed : {T U : Type 0} (before now : ℕ) (last : Bool) (bad : ℕ → Type 0) (worn : Counter → Type 0) (e : MapFault) → HasMapCause {T = T} before now last bad worn (Err e) → HasMapCause {T = U} before now last bad worn (Err e)
cause_passed before now last bad worn e h = record { later = h.later; kept = tt; stays = h.stays; failed = h.failed }

-- calls that went well before change nothing
pub cause_after : {T : Type 0} (before mid now : ℕ) (last : Bool) (bad : ℕ → Type 0) (worn : Counter → Type 0) (r : Result T MapFault) → mid ≡ before → HasMapCause mid now last bad worn r → HasMapCause before now last bad worn r
cause_after before mid now last bad worn r same h = subst (λ (n : ℕ). HasMapCause n now last bad worn r) same h
