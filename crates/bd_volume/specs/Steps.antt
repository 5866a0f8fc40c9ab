-- What the private calls of a volume leave, and why they fail.
use Rattle.std.specs.Prelude.{◌≡◌, ◌⊎◌, ◌+◌, ◌^◌, ◌<◌, ◌≤◌, ℕ, ⊤, List, Option, None, Result, IsNone}
use Rattle.bd_limits.specs.Limits.{flush_limit}
use Rattle.bd_command.specs.Command.{accepted}
use Rattle.bd_command.specs.declared.Command.{Command}
use Rattle.bd_command.specs.declared.reply.Reply.{Reply}
use Rattle.bd_model.specs.Tree.{Tree}
use Rattle.bd_model.specs.Step.{step, refusal_of}
use Rattle.bd_model.specs.Laws.{Accepts, after}
use Rattle.bd_message.specs.declared.fault.Counter.{Counter}
use Rattle.bd_message.specs.declared.fault.Counter.TheVariants.{Count, NextId, Level, Refs, Epoch, Flushes}
use Rattle.bd_device.specs.Device.{Stays}
use Rattle.bd_device.specs.declared.device.Device.{Ghosts}
use Rattle.bd_dirs.specs.Sendings.{Sending}
use Rattle.bd_view.specs.Trees.{IsSettledFor, HasSent, sent_from, waiting_limit}
use Rattle.bd_view.specs.Views.{View, free_slots, need_slots, record_room, log_size}
use Rattle.bd_view.specs.Moves.{OnlyNodes, HasStepped, IsCommandFull, CannotSave, logged}
use Rattle.bd_engine.specs.Engines.{EngineState, view_of as view_in}
use Rattle.bd_engine.specs.Writes.{WritesOn}
use Rattle.bd_volume.specs.declared.fault.Fault.{Fault}
use Rattle.bd_volume.specs.declared.fault.Fault.TheVariants.{Device, Damaged, Worn, NoMemory, Full, Stopped}
use Rattle.bd_volume.specs.declared.volume.Volume.{Volume}
use Rattle.bd_volume.specs.Faults.{HasNotFailed, HasFaultCause, IsGoing, IsStoppedRightly}
use Rattle.bd_volume.specs.Volume.{StandsFor, GoesBy, IsSafeOn, count_of, device_of}
use Rattle.bd_volume.specs.Wears.{IsWornForStep, IsWornForSave, Wears, ShowsWornIn, ShowsWorn}

-- ---- whatever is known

-- no call of the device failed, the volume isn't stopped, and its count stays; which blocks were
-- written
pub record GoesOn {D : Type 0} (g : Ghosts D) (old new : Volume D) : Type 0 where
  pub going : IsGoing g old new
  pub faults : HasNotFailed g old new
  pub count_is : count_of new ≡ count_of old
  pub stays : Stays g (device_of old) (device_of new)
  pub writes : WritesOn g old.engine new.engine

-- each fault has its cause, and the volume is stopped by a failed write or barrier alone; which
-- blocks were written
pub record Ends {D T : Type 0} (g : Ghosts D) (old new : Volume D) (result : Result T Fault)
    : Type 0 where
  pub cause : HasFaultCause g old new result
  pub stop : IsStoppedRightly g old new result
  pub stays : Stays g (device_of old) (device_of new)
  pub writes : WritesOn g old.engine new.engine

-- so many slots are free, the next step of a command needs more, so many, and no checkpoint helps
pub record IsShort (c : Command) (v : View) (free need : ℕ) : Type 0 where
  pub free_is : free ≡ free_slots v
  pub need_is : need ≡ need_slots c v
  pub short : free < need
  pub unsaved : CannotSave v

-- what is told of a fault of a command's step where the nodes may not be known
abbrev pub ShowsStep : {D : Type 0} → Ghosts D → Fault → Command → EngineState D → Type 0
ShowsStep g Device c e = ⊤
ShowsStep g (Damaged block) c e = ⊤
ShowsStep g (Worn which) c e = ShowsWornIn g which c e
ShowsStep g NoMemory c e = ⊤
ShowsStep g (Full free need) c e = IsShort c (view_in g e) free need
ShowsStep g (Stopped call) c e = ⊤

-- and of the command's, after so many commands and flush steps
abbrev pub ShowsFault : {D : Type 0} → Ghosts D → Fault → ℕ → ℕ → Command → EngineState D → Type 0
ShowsFault g Device count before c e = ⊤
ShowsFault g (Damaged block) count before c e = ⊤
ShowsFault g (Worn which) count before c e = ShowsWorn g which count before c e
ShowsFault g NoMemory count before c e = ⊤
ShowsFault g (Full free need) count before c e = IsShort c (view_in g e) free need
ShowsFault g (Stopped call) count before c e = ⊤

-- ---- what it stands for

-- a volume stands for this tree and count as before, and an image that a crash inside the calls
-- leaves for what one of before did, or for them
pub record StillStands {D : Type 0} (g : Ghosts D) (old new : Volume D) (t : Tree) (n : ℕ)
    : Type 0 where
  pub stands : StandsFor g new t n
  pub time : GoesBy g old new t n

-- whatever it stands for
abbrev pub KeepsStanding : {D : Type 0} → Ghosts D → Volume D → Volume D → Type 0
KeepsStanding g old new =
    (t : Tree) (n : ℕ) → StandsFor g old t n → StillStands g old new t n

-- a command was executed: what a crash leaves falls short of the tree and the count after it by no
-- more than the records that wait
pub record TakesSafely {D : Type 0} (g : Ghosts D) (c : Command) (old new : Volume D) (t : Tree)
    (n : ℕ) (reply : Reply) : Type 0 where
  pub safe : new.engine.stop ≡ None → IsSafeOn g new.engine (step t c).0 (n + accepted c reply)
  pub time : GoesBy g old new t n

-- a command was logged and counted, which the tree accepts that the volume stands for
pub record IsLoggedOn {D : Type 0} (g : Ghosts D) (c : Command) (old new : Volume D) (t : Tree)
    (n : ℕ) : Type 0 where
  pub safe : IsSafeOn g new.engine (after t c) (n + 1)
  pub time : GoesBy g old new t n

abbrev pub HasLogged : {D : Type 0} → Ghosts D → Command → Volume D → Volume D → Type 0
HasLogged g c old new =
    (t : Tree) (n : ℕ) → StandsFor g old t n → Accepts t c → IsLoggedOn g c old new t n

-- ---- checkpoints

-- why no checkpoint is made, for which slots are free
abbrev pub IsSaveFault : {D : Type 0} → Volume D → Volume D → Fault → Type 0
IsSaveFault old new Device = ⊤
IsSaveFault old new (Damaged block) = ⊥
IsSaveFault old new (Worn which) =
    (which ≡ Epoch) × (2 ^ 64 ≤ old.engine.live.epoch + 1)
    × (new.engine.live ≡ old.engine.live)
IsSaveFault old new NoMemory = ⊤
IsSaveFault old new (Full free need) = ⊥
IsSaveFault old new (Stopped call) = ⊥

-- ---- steps of a command, where the nodes are known and sound

-- the counter has no room for a flush step, or for a checkpoint that is needed
abbrev pub IsWornInStep : Counter → Command → View → Type 0
IsWornInStep Count c v = ⊥
IsWornInStep NextId c v = IsWornForStep NextId c v.tree
IsWornInStep Level c v = IsWornForStep Level c v.tree
IsWornInStep Refs c v = IsWornForStep Refs c v.tree
IsWornInStep Epoch c v = IsWornForSave c v
IsWornInStep Flushes c v = ⊥

-- why a flush step isn't made, or the checkpoint before it
abbrev pub IsStepFault : Fault → Command → View → Type 0
IsStepFault Device c v = ⊤
IsStepFault (Damaged block) c v = ⊥
IsStepFault (Worn which) c v = IsWornInStep which c v
IsStepFault NoMemory c v = ⊤
IsStepFault (Full free need) c v = IsShort c v free need
IsStepFault (Stopped call) c v = ⊥

-- why a command isn't executed, after so many others
abbrev pub IsCommandFault : Fault → ℕ → Command → View → View → Type 0
IsCommandFault Device count c old new = ⊤
IsCommandFault (Damaged block) count c old new = ⊥
IsCommandFault (Worn which) count c old new = Wears which count c old new
IsCommandFault NoMemory count c old new = ⊤
IsCommandFault (Full free need) count c old new = IsCommandFull c old new free need
IsCommandFault (Stopped call) count c old new = ⊥

-- slots or a counter have no room only for a command that the tree accepts
abbrev pub IsOfAccepted : Fault → Tree → Command → Type 0
IsOfAccepted Device t c = ⊤
IsOfAccepted (Damaged block) t c = ⊤
IsOfAccepted (Worn which) t c = IsNone (refusal_of t c)
IsOfAccepted NoMemory t c = ⊤
IsOfAccepted (Full free need) t c = IsNone (refusal_of t c)
IsOfAccepted (Stopped call) t c = ⊤

-- a command made its steps, and unless it made 65,536 flush steps, none is due on the way of a
-- source
pub record HasSettled (c : Command) (source : Option (List ℕ)) (old new : View) : Type 0 where
  pub stepped : HasStepped c old new
  pub settled : (stepped.made ≡ flush_limit) ⊎ IsSettledFor source new.tree

-- a command made its steps, and then sent this, for which slots were free
pub record SendsIn (c : Command) (what : Sending) (old new : View) : Type 0 where
  pub mid : View
  pub stepped : HasStepped c old mid
  pub enough : mid.tree.table.size ≤ waiting_limit c
  pub settled : (stepped.made ≡ flush_limit) ⊎ IsSettledFor (sent_from what) mid.tree
  pub room : need_slots c mid ≤ free_slots mid
  pub sent : HasSent what mid.tree new.tree
  pub rest : OnlyNodes mid new

-- the log has room for a command's record
abbrev pub HasLogRoom : Command → View → Type 0
HasLogRoom c v = log_size c ≤ record_room c v

-- and then its record waits, for which the log had room
pub record LogsIn (c : Command) (what : Sending) (old new : View) : Type 0 where
  pub last : View
  pub sends : SendsIn c what old last
  pub log : HasLogRoom c last
  pub after : new ≡ logged c last
