-- The faults that end a run: their statuses and lines, and their causes.
use Rattle.std.specs.Prelude.{◌≡◌, ℕ, ◌≤◌, Bool, IsTrue, List, [], ◌∷◌, ◌++◌, codes, decimal, Result, OnOk, IfErr, ⊤}
use Rattle.bd_io.specs.Cause.{Rose, next_count}
use Rattle.bd_device.specs.declared.fault.ImageFault.{ImageFault}
use Rattle.bd_device.specs.declared.fault.ImageFault.TheVariants as image
use Rattle.bd_message.specs.Counters.{counter_name}
use Rattle.bd_volume.specs.Faults.{image_fault_of}
use Rattle.bd_volume.specs.declared.fault.Fault.{Fault as VolumeFault}
use Rattle.bd_volume.specs.declared.fault.Fault.TheVariants as volume
use Rattle.bd_shell.specs.declared.fault.Fault.{Fault}
use Rattle.bd_shell.specs.declared.fault.Fault.TheVariants.{Device, Damaged, Source, Memory, TooLong, Worn, Sink}

-- the status that a fault ends the program with
abbrev pub status_of : Fault → ℕ
status_of Device = 3
status_of (Damaged block) = 4
status_of Source = 5
status_of Memory = 6
status_of TooLong = 7
status_of (Worn which) = 8
status_of Sink = 9

-- a fault's line; the sink's own fault has none
abbrev pub fault_line : Fault → List ℕ
fault_line Device = codes "fault device" ++ 10 ∷ []
fault_line (Damaged block) = codes "fault damaged " ++ decimal block ++ 10 ∷ []
fault_line Source = codes "fault source" ++ 10 ∷ []
fault_line Memory = codes "fault memory" ++ 10 ∷ []
fault_line TooLong = codes "fault too-long" ++ 10 ∷ []
fault_line (Worn which) = codes "fault worn " ++ counter_name which ++ 10 ∷ []
fault_line Sink = []

-- the fault of a call whose image isn't made
abbrev pub fault_of_image : ImageFault → Fault
fault_of_image image.DeviceFault = Device
fault_of_image (image.Damaged block) = Damaged block
fault_of_image image.NoMemory = Memory

-- the volume's fault is one of an image
abbrev pub IsOfImage : VolumeFault → Type 0
IsOfImage fault = (cause : ImageFault) × (fault ≡ image_fault_of cause)

-- the fault of a run whose volume doesn't start: want of slots and a volume that was stopped aren't
-- why
abbrev pub IsStartFault : VolumeFault → Fault → Type 0
IsStartFault volume.Device fault = fault ≡ Device
IsStartFault (volume.Damaged block) fault = fault ≡ Damaged block
IsStartFault (volume.Worn which) fault = fault ≡ Worn which
IsStartFault volume.NoMemory fault = fault ≡ Memory
IsStartFault (volume.Full free need) fault = ⊥
IsStartFault (volume.Stopped call) fault = ⊥

-- the volume's fault may be that of a start
abbrev pub ComesAtStart : VolumeFault → Type 0
ComesAtStart volume.Device = ⊤
ComesAtStart (volume.Damaged block) = ⊤
ComesAtStart (volume.Worn which) = ⊤
ComesAtStart volume.NoMemory = ⊤
ComesAtStart (volume.Full free need) = ⊥
ComesAtStart (volume.Stopped call) = ⊥

-- how often the outside has failed: the device, also at a write or a barrier, the source, the sink
pub record Faults : Type 0 where
  pub device : ℕ
  pub source : ℕ
  pub sink : ℕ

abbrev pub faults : ℕ → ℕ → ℕ → Faults
faults device source sink = record { device = device; source = source; sink = sink }

-- no count falls
pub record NeverFall (before now : Faults) : Type 0 where
  pub device : before.device ≤ now.device
  pub source : before.source ≤ now.source
  pub sink : before.sink ≤ now.sink

-- the count that is a fault's cause rose, and every other one stays; a fault of the device is that
-- of its last call, and of no other; want of memory is free, and what they leave shows the cause of
-- the others
abbrev pub Caused : Fault → Faults → Faults → Bool → Type 0
Caused Device before now last =
    (now.device ≡ next_count before.device) × IsTrue last
    × (now ≡ record before { device = now.device })
Caused (Damaged block) before now last = now ≡ before
Caused Source before now last =
    Rose before.source now.source × (now ≡ record before { source = now.source })
Caused Memory before now last = now ≡ before
Caused TooLong before now last = now ≡ before
Caused (Worn which) before now last = now ≡ before
Caused Sink before now last =
    Rose before.sink now.sink × (now ≡ record before { sink = now.sink })

-- no count falls, none rises where all went well, and a fault has its cause; `last` says whether
-- the last call of the device failed
pub record IsCaused {T : Type 0} (before now : Faults) (last : Bool) (result : Result T Fault)
    : Type 0 where
  pub later : NeverFall before now
  pub kept : OnOk result (now ≡ before)
  pub cause : IfErr result (λ e. Caused e before now last)

-- counts of the sink alone, and of source and sink
abbrev pub of_sink : ℕ → Faults
of_sink sink = faults 0 0 sink

abbrev pub of_ends : ℕ → ℕ → Faults
of_ends source sink = faults 0 source sink
