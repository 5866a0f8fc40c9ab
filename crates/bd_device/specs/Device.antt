-- What calls of a device leave alone, and how they fail.
use Rattle.std.specs.Prelude.{◌≡◌, ◌≤◌, ℕ, List, IsTrue, IfErr, OnOk, OnErr, Result}
use Rattle.bd_io.specs.Cause.{next_count}
use Rattle.bd_device.specs.Blocks.{Image}
use Rattle.bd_device.specs.Moments.{Nothing, Elapses}
use Rattle.bd_device.specs.declared.device.Device.{Ghosts}
use Rattle.bd_device.specs.declared.fault.ImageFault.{ImageFault}
use Rattle.bd_device.specs.declared.fault.ImageFault.TheVariants.{DeviceFault, Damaged, NoMemory}

-- what a crash now may leave
abbrev pub left_now : {D : Type 0} → Ghosts D → D → Image → Type 0
left_now g d = g.left_since d (g.call_count d)

-- calls went on, and a crash inside them leaves these images
abbrev pub Goes : {D : Type 0} → Ghosts D → D → D → (Image → Type 0) → Type 0
Goes g old new inside =
    Elapses (g.call_count old) (g.call_count new) (g.left_since old) (g.left_since new) inside

-- what all calls but an attach leave: how many blocks there are, the name, and the loans
pub record Stays {D : Type 0} (g : Ghosts D) (old new : D) : Type 0 where
  pub count : g.block_count new ≡ g.block_count old
  pub same_name : (name : List ℕ) → g.is_named old name → g.is_named new name
  pub same_loans : g.loans new ≡ g.loans old

-- what calls leave that write nothing
pub record OnlyReads {D : Type 0} (g : Ghosts D) (old new : D) : Type 0 where
  pub kept : g.contents new ≡ g.contents old
  pub count : g.block_count new ≡ g.block_count old
  pub write_faults : g.write_fault_count new ≡ g.write_fault_count old
  pub time : Goes g old new Nothing
  pub same_name : (name : List ℕ) → g.is_named old name → g.is_named new name
  pub same_loans : g.loans new ≡ g.loans old

-- of some calls the last one failed, and no other
pub record LastFailed {D : Type 0} (g : Ghosts D) (old new : D) : Type 0 where
  pub one : g.fault_count new ≡ next_count (g.fault_count old)
  pub last : IsTrue (g.last_failed new)

-- of some calls none failed at Ok, and at an error the last one alone
pub record FailsLast {D T E : Type 0} (g : Ghosts D) (old new : D) (result : Result T E)
    : Type 0 where
  pub later : g.fault_count old ≤ g.fault_count new
  pub kept : OnOk result (g.fault_count new ≡ g.fault_count old)
  pub failed : OnErr result (LastFailed g old new)

-- a fault of the device is that of the last call, and of no other; damage is of a bad block; and at
-- damage and want of memory no call failed
abbrev pub IsImageCause : {D : Type 0} → Ghosts D → D → D → (ℕ → Type 0) → ImageFault → Type 0
IsImageCause g old new bad DeviceFault = LastFailed g old new
IsImageCause g old new bad (Damaged block) =
    bad block × (g.fault_count new ≡ g.fault_count old)
IsImageCause g old new bad NoMemory = g.fault_count new ≡ g.fault_count old

-- it is damage of a bad block
abbrev pub IsDamageOf : (ℕ → Type 0) → ImageFault → Type 0
IsDamageOf bad DeviceFault = ⊥
IsDamageOf bad (Damaged block) = bad block
IsDamageOf bad NoMemory = ⊥

-- of some calls none failed at Ok, and at an error each fault has its cause
pub record HasImageCause {D T : Type 0} (g : Ghosts D) (old new : D) (bad : ℕ → Type 0)
    (result : Result T ImageFault) : Type 0 where
  pub later : g.fault_count old ≤ g.fault_count new
  pub kept : OnOk result (g.fault_count new ≡ g.fault_count old)
  pub failed : IfErr result (IsImageCause g old new bad)
