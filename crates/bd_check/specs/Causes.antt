-- Why a check ends, whatever its verdict.
use Rattle.std.specs.Prelude.{◌≡◌, ⊤, Result, Ok, Err, OnOk, IfErr, IfSome}
use Rattle.bd_message.specs.declared.fault.Counter.{Counter}
use Rattle.bd_device.specs.Device.{LastFailed}
use Rattle.bd_device.specs.declared.device.Device.{Ghosts}
use Rattle.bd_image.specs.Damage.{IsNamedAt}
use Rattle.bd_volume.specs.declared.fault.Fault.{Fault}
use Rattle.bd_volume.specs.declared.fault.Fault.TheVariants.{Device, Damaged, Worn, NoMemory, Full, Stopped}
use Rattle.bd_volume.specs.Wears.{WearsReplaying}
use Rattle.bd_check.specs.declared.fault.CheckFault.{CheckFault}
use Rattle.bd_check.specs.declared.fault.CheckFault.TheVariants as check
use Rattle.bd_check.specs.declared.verdict.Verdict.{Verdict}
use Rattle.bd_check.specs.declared.verdict.Verdict.TheVariants.{BadBlock}

-- a counter has no room for a command of the image's log, as far as the image is known
abbrev pub IsWornIn : {D : Type 0} → Ghosts D → D → Counter → Type 0
IsWornIn g old which = IfSome (g.contents old) (λ image. WearsReplaying which image)

-- why it stops: the device's last call failed, and no other, or none did; damage is of a block that
-- is named, and a counter has no room for a command of the log
abbrev pub IsStop : {D : Type 0} → Ghosts D → D → D → Fault → Type 0
IsStop g old new Device = LastFailed g old new
IsStop g old new (Damaged block) =
    IfSome (g.contents old) (λ image. IsNamedAt image block)
    × (g.fault_count new ≡ g.fault_count old)
IsStop g old new (Worn which) =
    IsWornIn g old which × (g.fault_count new ≡ g.fault_count old)
IsStop g old new NoMemory = g.fault_count new ≡ g.fault_count old
IsStop g old new (Full free need) = ⊥
IsStop g old new (Stopped call) = ⊥

-- of some calls none failed at Ok, and at an error each fault has its cause
pub record HasStopCause {D T : Type 0} (g : Ghosts D) (old new : D) (result : Result T Fault)
    : Type 0 where
  pub kept : OnOk result (g.fault_count new ≡ g.fault_count old)
  pub failed : IfErr result (IsStop g old new)

-- the same of faults that are no damage
abbrev pub IsCheckFault : {D : Type 0} → Ghosts D → D → D → CheckFault → Type 0
IsCheckFault g old new check.DeviceFault = LastFailed g old new
IsCheckFault g old new (check.Worn which) =
    IsWornIn g old which × (g.fault_count new ≡ g.fault_count old)
IsCheckFault g old new check.NoMemory = g.fault_count new ≡ g.fault_count old

pub record HasCheckCause {D T : Type 0} (g : Ghosts D) (old new : D) (result : Result T CheckFault)
    : Type 0 where
  pub kept : OnOk result (g.fault_count new ≡ g.fault_count old)
  pub failed : IfErr result (IsCheckFault g old new)

-- a fault with which a check may stop: slots are never short, and nothing was stopped before
abbrev pub CanStop : Fault → Type 0
CanStop Device = ⊤
CanStop (Damaged block) = ⊤
CanStop (Worn which) = ⊤
CanStop NoMemory = ⊤
CanStop (Full free need) = ⊥
CanStop (Stopped call) = ⊥

-- what is said: damage is a verdict
abbrev pub IsSaid : Result Verdict Fault → Result Verdict CheckFault → Type 0
IsSaid (Ok verdict) said = said ≡ Ok verdict
IsSaid (Err Device) said = said ≡ Err check.DeviceFault
IsSaid (Err (Damaged block)) said = said ≡ Ok (BadBlock block)
IsSaid (Err (Worn which)) said = said ≡ Err (check.Worn which)
IsSaid (Err NoMemory) said = said ≡ Err check.NoMemory
IsSaid (Err (Full free need)) said = ⊥
IsSaid (Err (Stopped call)) said = ⊥
