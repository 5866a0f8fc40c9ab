-- Which counter has no room, where a command can't go on.
use Rattle.std.specs.Prelude.{◌≡◌, ℕ, ◌+◌, ◌^◌, ◌<◌, ◌≤◌, ◌⊎◌, Bool, List, ◌∷◌, ◌++◌, length, IsTrue, ⊤}
use Rattle.bd_limits.specs.Limits.{flush_limit}
use Rattle.bd_command.specs.Command.{writes}
use Rattle.bd_command.specs.declared.Command.{Command}
use Rattle.bd_message.specs.declared.fault.Counter.{Counter}
use Rattle.bd_message.specs.declared.fault.Counter.TheVariants.{Count, NextId, Level, Refs, Epoch, Flushes}
use Rattle.bd_model.specs.Tree.{Tree}
use Rattle.bd_represent.specs.Represents.{Represents}
use Rattle.bd_device.specs.Blocks.{Image}
use Rattle.bd_device.specs.declared.device.Device.{Ghosts}
use Rattle.bd_dirs.specs.Kinds.{Kind, Reads, Sends, SendsLate, Grafts, kind_of}
use Rattle.bd_node.specs.Tables.{IsSound}
use Rattle.bd_graft.specs.Grafting.{IsWornByGraft, IsWornForGraft}
use Rattle.bd_cover.specs.declared.walking.Reclaim.{Reclaim}
use Rattle.bd_reclaim.specs.Changes.{IsWornChange}
use Rattle.bd_pager.specs.Pagers.{table_of}
use Rattle.bd_view.specs.Trees.{TreeView, IsWornToStep, waiting_limit}
use Rattle.bd_super.specs.Live.{IsLive}
use Rattle.bd_super.specs.declared.superblock.Super.{Super}
use Rattle.bd_view.specs.Views.{View, keys_of}
use Rattle.bd_view.specs.Moves.{AreFlushedAgain, AreReplayed, CallsForSave, HasStepped}
use Rattle.bd_view.specs.Reclaiming.{IsDueChange, HasReclaimed}
use Rattle.bd_engine.specs.Engines.{EngineState, flushed_on, IsWornIn}
use Rattle.bd_engine.specs.Reclaiming.{MayMake, IsWornToChange}
use Rattle.bd_engine.specs.Stored.{IsFound}

-- a flush step of a command is due, for which the counter has no room
abbrev pub IsWornForStep : Counter → Command → TreeView → Type 0
IsWornForStep which c v = IsWornToStep (IsSound v.nodes v.table) v.nodes v.table c which

-- a command made so many flush steps, all that it may, and more bytes wait in the root than its
-- limit
pub record IsOutOfFlushes (c : Command) (made : ℕ) (v : TreeView) : Type 0 where
  pub waits : waiting_limit c < v.table.size
  pub all : made ≡ flush_limit

-- no more bytes wait than the command's limit, and the counter has no room for all that this graft
-- adds
pub record IsWornForMove (which : Counter) (s d : List ℕ) (keep : Bool) (c : Command) (v : TreeView)
    : Type 0 where
  pub enough : v.table.size ≤ waiting_limit c
  pub worn : IsWornByGraft v.nodes v.table s d keep which

-- the counter has no room for the sending of a command: it is a graft
abbrev pub IsWornByKind : Kind → Counter → Command → TreeView → Type 0
IsWornByKind Reads which c v = ⊥
IsWornByKind Sends which c v = ⊥
IsWornByKind SendsLate which c v = ⊥
IsWornByKind (Grafts s d keep) which c v = IsWornForMove which s d keep c v

abbrev pub IsWornForSending : Counter → Command → TreeView → Type 0
IsWornForSending which c v = IsWornByKind (kind_of c) which c v

-- the epoch has no room for a checkpoint that the command calls for
pub record IsWornForSave (c : Command) (v : View) : Type 0 where
  pub calls_for : CallsForSave c v
  pub worn : 2 ^ 64 ≤ v.epoch + 1

-- which counter has no room, where so many commands were accepted and this one has made so many
-- flush steps, from a view to another one
abbrev pub IsWornNow : Counter → ℕ → Command → ℕ → View → View → Type 0
IsWornNow Count count c made old new = (2 ^ 64 ≤ count + 1) × (new ≡ old)
IsWornNow NextId count c made old new =
    IsWornForStep NextId c new.tree ⊎ IsWornForSending NextId c new.tree
IsWornNow Level count c made old new =
    IsWornForStep Level c new.tree ⊎ IsWornForSending Level c new.tree
IsWornNow Refs count c made old new =
    IsWornForStep Refs c new.tree ⊎ IsWornForSending Refs c new.tree
IsWornNow Epoch count c made old new = IsWornForSave c new
IsWornNow Flushes count c made old new = IsOutOfFlushes c made new.tree

-- a writing command, after so many accepted ones, made flush steps and checkpoints from the first
-- view to the second, and a counter has no room there
pub record Wears (which : Counter) (count : ℕ) (c : Command) (old new : View) : Type 0 where
  pub counts : IsTrue (writes c)
  pub stepped : HasStepped c old new
  pub worn : IsWornNow which count c stepped.made old new

-- the kind of a command that is a graft
abbrev pub IsGraftKind : Kind → Type 0
IsGraftKind Reads = ⊥
IsGraftKind Sends = ⊥
IsGraftKind SendsLate = ⊥
IsGraftKind (Grafts s d keep) = ⊤

-- a flush step of a command is due, for which the counter has no room, where the nodes may not be
-- known
abbrev pub ShowsWornStep : {D : Type 0} → Ghosts D → Counter → Command → EngineState D → Type 0
ShowsWornStep g which c e = IsWornIn g e.pager c which

-- a command is a graft, before which no more bytes wait in the root than its limit, and for which
-- the counter has no room
pub record ShowsWornMove {D : Type 0} (which : Counter) (c : Command) (e : EngineState D) : Type 0 where
  pub enough : (table_of e.pager).size ≤ waiting_limit c
  pub grafts : IsGraftKind (kind_of c)
  pub worn : IsWornForGraft (table_of e.pager) which

-- what is told of a step of a command, or of its sending, where the nodes may not be known
abbrev pub ShowsWornIn : {D : Type 0} → Ghosts D → Counter → Command → EngineState D → Type 0
ShowsWornIn g Count c e = ⊥
ShowsWornIn g NextId c e = ShowsWornStep g NextId c e ⊎ ShowsWornMove NextId c e
ShowsWornIn g Level c e = ShowsWornStep g Level c e ⊎ ShowsWornMove Level c e
ShowsWornIn g Refs c e = ShowsWornStep g Refs c e ⊎ ShowsWornMove Refs c e
ShowsWornIn g Epoch c e = 2 ^ 64 ≤ e.live.epoch + 1
ShowsWornIn g Flushes c e = ⊥

-- a command has made all the flush steps that it may, where so many were made before it, and more
-- bytes wait in the root than its limit
pub record HasFlushedAll {D : Type 0} (before : ℕ) (c : Command) (e : EngineState D) : Type 0 where
  pub made : e.flushes ≡ flushed_on before flush_limit
  pub waits : waiting_limit c < (table_of e.pager).size

-- which counter has no room, after so many commands, as far as it is told of nodes that may not be
-- known
abbrev pub ShowsWorn : {D : Type 0} → Ghosts D → Counter → ℕ → ℕ → Command → EngineState D → Type 0
ShowsWorn g Count count before c e = 2 ^ 64 ≤ count + 1
ShowsWorn g NextId count before c e = ShowsWornIn g NextId c e
ShowsWorn g Level count before c e = ShowsWornIn g Level c e
ShowsWorn g Refs count before c e = ShowsWornIn g Refs c e
ShowsWorn g Epoch count before c e = ShowsWornIn g Epoch c e
ShowsWorn g Flushes count before c e = HasFlushedAll before c e

-- ---- replay

-- the counter has no room where so many commands were counted, and the next one has made so many
-- flush steps, which led to this tree of nodes
abbrev pub IsWornInReplay : Counter → ℕ → Command → ℕ → TreeView → Type 0
IsWornInReplay Count count c made v = 2 ^ 64 ≤ count + 1
IsWornInReplay NextId count c made v = IsWornForStep NextId c v ⊎ IsWornForSending NextId c v
IsWornInReplay Level count c made v = IsWornForStep Level c v ⊎ IsWornForSending Level c v
IsWornInReplay Refs count c made v = IsWornForStep Refs c v ⊎ IsWornForSending Refs c v
IsWornInReplay Epoch count c made v = ⊥
IsWornInReplay Flushes count c made v = IsOutOfFlushes c made v

-- of the commands of an image's open batches some were replayed, and for the next one a counter has
-- no room
pub record WearsReplaying (which : Counter) (image : Image) : Type 0 where
  pub live : Super
  pub live_is : IsLive image live
  pub stored : View
  pub base : Tree
  pub represents : Represents (keys_of stored) base
  pub front : List Command
  pub next : Command
  pub rest : List Command
  pub found : IsFound image stored (front ++ next ∷ rest)
  pub mid : View
  pub replayed : AreReplayed base front stored mid
  pub made : ℕ
  pub last : View
  pub flushed : AreFlushedAgain next made mid last
  pub few : made ≤ flush_limit
  pub worn : IsWornInReplay which (live.count + length front) next made last.tree

-- ---- reclaiming

-- reclaiming was begun, and made changes, or nothing was done
abbrev pub HasBegunReclaiming : View → View → Type 0
HasBegunReclaiming old new = (new ≡ old) ⊎ ((pushes : ℕ) × HasReclaimed pushes old new)

-- the counter has no room for the change that is next
pub record IsWornForChange (which : Counter) (v : View) : Type 0 where
  pub pushes : ℕ
  pub change : Reclaim
  pub next : IsDueChange pushes change v
  pub worn : IsWornChange (IsSound v.tree.nodes v.tree.table) v.tree.nodes v.tree.table change which

-- which counter has no room where reclaiming goes on from a view
abbrev pub IsWornToReclaim : Counter → View → Type 0
IsWornToReclaim Count v = ⊥
IsWornToReclaim NextId v = IsWornForChange NextId v
IsWornToReclaim Level v = IsWornForChange Level v
IsWornToReclaim Refs v = IsWornForChange Refs v
IsWornToReclaim Epoch v = 2 ^ 64 ≤ v.epoch + 1
IsWornToReclaim Flushes v = ⊥

-- reclaiming went from the first view to the second, and a counter has no room there
pub record WearsReclaiming (which : Counter) (old new : View) : Type 0 where
  pub begun : HasBegunReclaiming old new
  pub worn : IsWornToReclaim which new

-- a change that may be made, as far as the table tells, has no room in the counter
pub record ShowsWornChange {D : Type 0} (g : Ghosts D) (which : Counter) (e : EngineState D)
    : Type 0 where
  pub change : Reclaim
  pub may : MayMake g e.pager change
  pub worn : IsWornToChange g e.pager change which

-- which counter has no room where reclaiming goes on, as far as it is told of nodes that may not be
-- known
abbrev pub ShowsWornToReclaim : {D : Type 0} → Ghosts D → Counter → EngineState D → Type 0
ShowsWornToReclaim g Count e = ⊥
ShowsWornToReclaim g NextId e = ShowsWornChange g NextId e
ShowsWornToReclaim g Level e = ShowsWornChange g Level e
ShowsWornToReclaim g Refs e = ShowsWornChange g Refs e
ShowsWornToReclaim g Epoch e = 2 ^ 64 ≤ e.live.epoch + 1
ShowsWornToReclaim g Flushes e = ⊥
