-- How the commands of an image's log are replayed, and why that stops.
use Rattle.std.specs.Prelude.{◌≡◌, ◌⊎◌, ◌+◌, ◌*◌, ◌≤◌, ℕ, List, ◌∷◌, ◌++◌, length, map, false, ⊤, Option, Result, OnOk, IfErr}
use Rattle.bd_limits.specs.Limits.{flush_limit}
use Rattle.bd_command.specs.declared.Command.{Command}
use Rattle.bd_model.specs.Tree.{Tree, IsTree}
use Rattle.bd_model.specs.Laws.{Accepts, after}
use Rattle.bd_message.specs.declared.fault.Counter.{Counter}
use Rattle.bd_message.specs.declared.fault.Counter.TheVariants.{Count, NextId, Level, Refs, Epoch, Flushes}
use Rattle.bd_represent.specs.Represents.{Represents}
use Rattle.bd_device.specs.Changes.{StaysBut}
use Rattle.bd_device.specs.Device.{left_now, Goes, OnlyReads, Stays, LastFailed}
use Rattle.bd_device.specs.declared.device.Device.{Ghosts}
use Rattle.bd_dirs.specs.Sendings.{Sending}
use Rattle.bd_dirs.specs.declared.plan.Plan.{Plan}
use Rattle.bd_effects.specs.Carrying.{accepts}
use Rattle.bd_pager.specs.Pagers.{spots_of, is_first_damaged, is_known}
use Rattle.bd_pager.specs.Places.{NoneTurnsBad}
use Rattle.bd_pager.specs.Slots.{IsSpare}
use Rattle.bd_image.specs.Standing.{IsAsBefore}
use Rattle.bd_checkpoint.specs.Kept.{AllAsBefore}
use Rattle.bd_checkpoint.specs.declared.commands.PlacedCommand.{PlacedCommand}
use Rattle.bd_checkpoint.specs.Recovering.{LeadsBy}
use Rattle.bd_view.specs.Trees.{TreeView, IsSettledFor, HasSent, sent_from, waiting_limit}
use Rattle.bd_view.specs.Views.{View}
use Rattle.bd_view.specs.Moves.{OnlyNodes, AreFlushedAgain, IsReplayed, AreReplayed}
use Rattle.bd_engine.specs.Engines.{EngineState, keys_of, IsSoundOn, IsBadOn}
use Rattle.bd_volume.specs.declared.fault.Fault.{Fault}
use Rattle.bd_volume.specs.declared.fault.Fault.TheVariants.{Device, Damaged, Worn, NoMemory, Full, Stopped}
use Rattle.bd_volume.specs.declared.volume.Volume.{Volume}
use Rattle.bd_volume.specs.declared.volume.replaying.Replay.{Replay}
use Rattle.bd_volume.specs.declared.volume.replaying.Replay.TheVariants.{WritesNothing}
use Rattle.bd_volume.specs.Faults.{HasNotFailed, IsStoppedRightly}
use Rattle.bd_volume.specs.Volume.{view_of, count_of, device_of}
use Rattle.bd_volume.specs.Steps.{ShowsFault}
use Rattle.bd_volume.specs.Wears.{IsWornForStep, IsWornInReplay}

-- ---- whatever is known

-- why a replay fails, whatever is known: the device's last call failed, and no other, or none did;
-- slots are never short
abbrev pub IsReplayCause : {D : Type 0} → Ghosts D → Volume D → Volume D → Fault → Type 0
IsReplayCause g old new Device = LastFailed g (device_of old) (device_of new)
IsReplayCause g old new (Damaged block) = HasNotFailed g old new
IsReplayCause g old new (Worn which) = HasNotFailed g old new
IsReplayCause g old new NoMemory = HasNotFailed g old new
IsReplayCause g old new (Full free need) = ⊥
IsReplayCause g old new (Stopped call) = ⊥

-- of the device's calls none failed at Ok, and at an error the last one alone where that says so
pub record HasReplayCause {D T : Type 0} (g : Ghosts D) (old new : Volume D)
    (result : Result T Fault) : Type 0 where
  pub kept : OnOk result (HasNotFailed g old new)
  pub failed : IfErr result (IsReplayCause g old new)

-- what is known of nodes stays so, and no block becomes bad, also where they aren't sound
pub record KeepsGood {D : Type 0} (g : Ghosts D) (old new : EngineState D) : Type 0 where
  pub known : is_known g old.pager → is_known g new.pager
  pub bad : is_known g old.pager → NoneTurnsBad (g.contents old.pager.dev) (spots_of old.pager)
      (g.contents new.pager.dev) (spots_of new.pager)
  pub first : (b : ℕ) → is_first_damaged g new.pager b → is_first_damaged g old.pager b

-- nothing was written but nodes, early, to slots that the last checkpoint doesn't hold: log and last
-- checkpoint stay, and an image that a crash leaves, inside the calls or after them, stands for all
-- that one of before stood for; and where nothing is to be written the device was only read
pub record OnlyEarly {D : Type 0} (g : Ghosts D) (how : Replay) (old new : EngineState D)
    : Type 0 where
  pub time : Goes g old.pager.dev new.pager.dev (IsAsBefore (left_now g old.pager.dev))
  pub kept : AllAsBefore (left_now g old.pager.dev) (left_now g new.pager.dev)
  pub slots : StaysBut (IsSpare old.pager.spare) (g.contents old.pager.dev)
      (g.contents new.pager.dev)
  pub good : KeepsGood g old new
  pub quiet : how ≡ WritesNothing → OnlyReads g old.pager.dev new.pager.dev
  pub stays : Stays g old.pager.dev new.pager.dev
  pub spare : new.pager.spare ≡ old.pager.spare
  pub log : new.log ≡ old.log
  pub live : new.live ≡ old.live

-- so it was, and a failed write alone stopped the volume
pub record ReplaysEarly {D T : Type 0} (g : Ghosts D) (how : Replay) (old new : Volume D)
    (result : Result T Fault) : Type 0 where
  pub early : OnlyEarly g how old.engine new.engine
  pub stop : IsStoppedRightly g old new result

-- ---- one command

-- the nodes of a volume are known and sound, and have this tree
pub record HasTreeOn {D : Type 0} (g : Ghosts D) (v : Volume D) (t : Tree) : Type 0 where
  pub nodes : IsSoundOn g v.engine
  pub is_tree : IsTree t
  pub represents : Represents (keys_of g v.engine.pager) t

-- a command of the log made its flush steps, and then sent this
pub record SendsAgain (c : Command) (what : Sending) (old new : View) : Type 0 where
  pub made : ℕ
  pub mid : View
  pub flushed : AreFlushedAgain c made old mid
  pub few : made ≤ flush_limit
  pub enough : mid.tree.table.size ≤ waiting_limit c
  pub settled : (made ≡ flush_limit) ⊎ IsSettledFor (sent_from what) mid.tree
  pub sent : HasSent what mid.tree new.tree
  pub rest : OnlyNodes mid new

-- it was replayed where the nodes had this tree, which accepts it
pub record ReplaysOn {D : Type 0} (g : Ghosts D) (t : Tree) (c : Command) (old new : Volume D)
    : Type 0 where
  pub accepts : Accepts t c
  pub has : HasTreeOn g new (after t c)
  pub view : IsReplayed t c (view_of g old) (view_of g new)

-- the counter has no room for its next flush step
abbrev pub IsWornAgain : Counter → Command → TreeView → Type 0
IsWornAgain Count c v = ⊥
IsWornAgain NextId c v = IsWornForStep NextId c v
IsWornAgain Level c v = IsWornForStep Level c v
IsWornAgain Refs c v = IsWornForStep Refs c v
IsWornAgain Epoch c v = ⊥
IsWornAgain Flushes c v = ⊥

-- after so many commands a counter has no room for this one, which made its flush steps
pub record WearsAgain (which : Counter) (count : ℕ) (c : Command) (old : View) : Type 0 where
  pub made : ℕ
  pub last : View
  pub flushed : AreFlushedAgain c made old last
  pub few : made ≤ flush_limit
  pub worn : IsWornInReplay which count c made last.tree

-- a command of the log made its flush steps, and unless it made 65,536, none is due on the way of a
-- source
pub record HasFlushedAgain (c : Command) (source : Option (List ℕ)) (old new : View)
    : Type 0 where
  pub made : ℕ
  pub flushed : AreFlushedAgain c made old new
  pub few : made ≤ flush_limit
  pub settled : (made ≡ flush_limit) ⊎ IsSettledFor source new.tree

-- why a flush step of it isn't made: a block is bad, or a counter has no room
abbrev pub IsFlushFault : {D : Type 0} → Ghosts D → Fault → Command → Volume D → Type 0
IsFlushFault g Device c v = ⊤
IsFlushFault g (Damaged block) c v = IsBadOn g v.engine block
IsFlushFault g (Worn which) c v =
    IsSoundOn g v.engine → IsWornAgain which c (view_of g v).tree
IsFlushFault g NoMemory c v = ⊤
IsFlushFault g (Full free need) c v = ⊥
IsFlushFault g (Stopped call) c v = ⊥

-- why they aren't all made, or what it sends isn't sent
abbrev pub IsAgainFault : {D : Type 0} → Ghosts D → Fault → Command → Volume D → Type 0
IsAgainFault g Device c v = ⊤
IsAgainFault g (Damaged block) c v = IsBadOn g v.engine block
IsAgainFault g (Worn which) c v =
    IsSoundOn g v.engine → WearsAgain which (count_of v) c (view_of g v)
IsAgainFault g NoMemory c v = ⊤
IsAgainFault g (Full free need) c v = ⊥
IsAgainFault g (Stopped call) c v = ⊥

-- why what is planned for a command of the log isn't done: it is refused, which is damage of its
-- record, or a block is bad; and slots are never short
abbrev pub IsSendFault : {D : Type 0} → Ghosts D → Fault → PlacedCommand → Plan → Volume D → Type 0
IsSendFault g Device p plan v = ⊤
IsSendFault g (Damaged block) p plan v =
    ((block ≡ p.block) × (accepts plan ≡ false)) ⊎ IsBadOn g v.engine block
IsSendFault g (Worn which) p plan v =
    IsSoundOn g v.engine → WearsAgain which (count_of v) p.command (view_of g v)
IsSendFault g NoMemory p plan v = ⊤
IsSendFault g (Full free need) p plan v = ⊥
IsSendFault g (Stopped call) p plan v = ⊥

-- the tree that the nodes have refuses the command, as far as they have one
abbrev pub Refuses : {D : Type 0} → Ghosts D → Volume D → Command → Type 0
Refuses g v c = (t : Tree) → HasTreeOn g v t → ¬ Accepts t c

-- why a command of the log isn't replayed
abbrev pub IsReplayFault : {D : Type 0} → Ghosts D → Fault → PlacedCommand → Volume D → Type 0
IsReplayFault g Device p v = ⊤
IsReplayFault g (Damaged block) p v =
    ((block ≡ p.block) × Refuses g v p.command) ⊎ IsBadOn g v.engine block
IsReplayFault g (Worn which) p v =
    IsSoundOn g v.engine → WearsAgain which (count_of v) p.command (view_of g v)
IsReplayFault g NoMemory p v = ⊤
IsReplayFault g (Full free need) p v = ⊥
IsReplayFault g (Stopped call) p v = ⊥

-- ---- all of them

-- the commands alone
abbrev pub commands_of : List PlacedCommand → List Command
commands_of list = map (λ p. p.command) list

-- these commands were replayed where the nodes had this tree: each was accepted in its turn
pub record HasReplayed {D : Type 0} (g : Ghosts D) (t : Tree) (list : List PlacedCommand)
    (old new : Volume D) : Type 0 where
  pub tree : Tree
  pub leads : LeadsBy list t tree
  pub has : HasTreeOn g new tree
  pub views : AreReplayed t (commands_of list) (view_of g old) (view_of g new)

-- the first commands were replayed, whatever tree the nodes had; the others are left
pub record ReplaysFront {D : Type 0} (g : Ghosts D) (list rest : List PlacedCommand)
    (old new : Volume D) : Type 0 where
  pub front : List PlacedCommand
  pub there : list ≡ front ++ rest
  pub sound : IsSoundOn g old.engine → IsSoundOn g new.engine
  pub good : KeepsGood g old.engine new.engine
  pub done : (t : Tree) → HasTreeOn g old t → HasReplayed g t front old new
  pub count_is : count_of new ≡ count_of old + length front
  pub few : new.engine.flushes ≤ old.engine.flushes + flush_limit * length front

-- the first commands were replayed, and the next one wasn't
pub record StopsReplaying {D : Type 0} (g : Ghosts D) (fault : Fault) (list : List PlacedCommand)
    (old : Volume D) : Type 0 where
  pub next : PlacedCommand
  pub rest : List PlacedCommand
  pub mid : Volume D
  pub before : ReplaysFront g list (next ∷ rest) old mid
  pub cause : IsReplayFault g fault next mid

-- the same, and what is told of it where the nodes may not be known
pub record ShowsReplay {D : Type 0} (g : Ghosts D) (fault : Fault) (list : List PlacedCommand)
    (old new : Volume D) : Type 0 where
  pub next : PlacedCommand
  pub rest : List PlacedCommand
  pub mid : Volume D
  pub before : ReplaysFront g list (next ∷ rest) old mid
  pub shows : ShowsFault g fault (count_of mid) mid.engine.flushes next.command new.engine
