-- The faults of a volume and their causes.
use Rattle.std.specs.Prelude.{◌≡◌, ◌≤◌, ◌<◌, ◌⊎◌, None, Some, Result, OnOk, IfErr}
use Rattle.bd_io.specs.Cause.{next_count}
use Rattle.bd_device.specs.Device.{LastFailed}
use Rattle.bd_device.specs.declared.device.Device.{Ghosts}
use Rattle.bd_device.specs.declared.fault.ImageFault.{ImageFault}
use Rattle.bd_device.specs.declared.fault.ImageFault.TheVariants as image
use Rattle.bd_message.specs.declared.fault.MapFault.{MapFault}
use Rattle.bd_message.specs.declared.fault.MapFault.TheVariants as map
use Rattle.bd_pager.specs.Pagers.{is_bad}
use Rattle.bd_checkpoint.specs.Recovering.{IsBadIn}
use Rattle.bd_volume.specs.declared.fault.Fault.{Fault}
use Rattle.bd_volume.specs.declared.fault.Fault.TheVariants.{Device, Damaged, Worn, NoMemory, Full, Stopped}
use Rattle.bd_volume.specs.declared.volume.Volume.{Volume}
use Rattle.bd_volume.specs.Volume.{device_of, stop_of}

-- a map's fault as the volume's
abbrev pub fault_of : MapFault → Fault
fault_of map.DeviceFault = Device
fault_of (map.Damaged block) = Damaged block
fault_of (map.Worn counter) = Worn counter
fault_of map.NoMemory = NoMemory

-- an image's fault as the volume's
abbrev pub image_fault_of : ImageFault → Fault
image_fault_of image.DeviceFault = Device
image_fault_of (image.Damaged block) = Damaged block
image_fault_of image.NoMemory = NoMemory

-- the volume's fault is one of an image
abbrev pub IsOfImage : Fault → Type 0
IsOfImage fault = (cause : ImageFault) × (fault ≡ image_fault_of cause)

-- why no volume starts: the device's last call failed, and no other, or none did, and damage is of
-- a bad block; slots are never short
abbrev pub IsStartCause : {D : Type 0} → Ghosts D → D → D → Fault → Type 0
IsStartCause g old new Device = LastFailed g old new
IsStartCause g old new (Damaged block) =
    IsBadIn (g.contents old) block × (g.fault_count new ≡ g.fault_count old)
IsStartCause g old new (Worn which) = g.fault_count new ≡ g.fault_count old
IsStartCause g old new NoMemory = g.fault_count new ≡ g.fault_count old
IsStartCause g old new (Full free need) = ⊥
IsStartCause g old new (Stopped call) = ⊥

-- the device has failed as often as before
abbrev pub HasNotFailed : {D : Type 0} → Ghosts D → Volume D → Volume D → Type 0
HasNotFailed g old new = g.fault_count (device_of new) ≡ g.fault_count (device_of old)

-- the device's last call failed, and no other; damage is of a bad block, and a volume that was
-- stopped does nothing; at every fault but its own the device hasn't failed
abbrev pub IsFaultCause : {D : Type 0} → Ghosts D → Volume D → Volume D → Fault → Type 0
IsFaultCause g old new Device = LastFailed g (device_of old) (device_of new)
IsFaultCause g old new (Damaged block) = is_bad g new.engine.pager block × HasNotFailed g old new
IsFaultCause g old new (Worn which) = HasNotFailed g old new
IsFaultCause g old new NoMemory = HasNotFailed g old new
IsFaultCause g old new (Full free need) = (free < need) × HasNotFailed g old new
IsFaultCause g old new (Stopped call) = (stop_of old ≡ Some call) × (new ≡ old)

-- of the device's calls none failed at Ok, and at an error each fault has its cause
pub record HasFaultCause {D T : Type 0} (g : Ghosts D) (old new : Volume D)
    (result : Result T Fault) : Type 0 where
  pub later : g.fault_count (device_of old) ≤ g.fault_count (device_of new)
  pub kept : OnOk result (HasNotFailed g old new)
  pub failed : IfErr result (IsFaultCause g old new)

-- no write or barrier failed, and it isn't stopped
pub record IsGoing {D : Type 0} (g : Ghosts D) (old new : Volume D) : Type 0 where
  pub stop_is : stop_of new ≡ None
  pub write_faults :
      g.write_fault_count (device_of new) ≡ g.write_fault_count (device_of old)

-- a write or a barrier failed, and no other call: the device's last one, which stopped it
pub record IsHalted {D : Type 0} (g : Ghosts D) (old new : Volume D) : Type 0 where
  pub stop_is : stop_of new ≡ Some (g.call_count (device_of new))
  pub write_faults :
      g.write_fault_count (device_of new) ≡ next_count (g.write_fault_count (device_of old))
  pub failed : LastFailed g (device_of old) (device_of new)

-- a volume that wasn't stopped goes on after Ok, and after a fault unless a write or a barrier
-- failed
pub record IsStoppedRightly {D T : Type 0} (g : Ghosts D) (old new : Volume D)
    (result : Result T Fault) : Type 0 where
  pub ok : OnOk result (IsGoing g old new)
  pub err : IfErr result (λ fault. IsGoing g old new ⊎ (IsHalted g old new × (fault ≡ Device)))
