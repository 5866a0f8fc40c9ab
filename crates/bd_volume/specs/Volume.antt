-- What a volume stands for.
use Rattle.std.specs.Prelude.{◌≡◌, ℕ, ◌+◌, List, length, Option, None}
use Rattle.bd_command.specs.declared.Command.{Command}
use Rattle.bd_model.specs.Tree.{Tree, IsTree}
use Rattle.bd_represent.specs.Represents.{Represents}
use Rattle.bd_device.specs.Blocks.{Image}
use Rattle.bd_device.specs.Device.{left_now, Goes}
use Rattle.bd_device.specs.declared.device.Device.{Ghosts}
use Rattle.bd_image.specs.ImageTree.{LeadsOn}
use Rattle.bd_image.specs.Standing.{IsOldOrNew}
use Rattle.bd_image.specs.Versions.{version_of}
use Rattle.bd_checkpoint.specs.Kept.{AllStandFor}
use Rattle.bd_view.specs.Views.{View, keys_of as view_keys}
use Rattle.bd_view.specs.Moves.{AreReplayed}
use Rattle.bd_message.specs.KeyMaps.{SameAt}
use Rattle.bd_engine.specs.Engines.{EngineState, keys_of, IsSoundOn, view_of as view_in}
use Rattle.bd_engine.specs.Stored.{IsFound}
use Rattle.bd_volume.specs.declared.volume.Volume.{Volume}

-- what is seen of it
abbrev pub view_of : {D : Type 0} → Ghosts D → Volume D → View
view_of g v = view_in g v.engine

-- its device
abbrev pub device_of : {D : Type 0} → Volume D → D
device_of v = v.engine.pager.dev

-- the number of the device's call that stopped it
abbrev pub stop_of : {D : Type 0} → Volume D → Option ℕ
stop_of v = v.engine.stop

-- how many commands it has accepted
abbrev pub count_of : {D : Type 0} → Volume D → ℕ
count_of v = v.count

-- what a crash leaves of a volume: each of these images stands for one tree and count, from which
-- the records that wait in the log of this version lead to the volume's own
pub record IsSafe (version : ℕ) (waiting : List (List ℕ)) (left : Image → Type 0) (tree : Tree)
    (count : ℕ) : Type 0 where
  pub safe : Tree
  pub low : ℕ
  pub each : AllStandFor safe low left
  pub leads : LeadsOn version waiting safe tree
  pub counted : count ≡ low + length waiting

-- so it is of the engine's log and of each image that a crash now may leave
abbrev pub IsSafeOn : {D : Type 0} → Ghosts D → EngineState D → Tree → ℕ → Type 0
IsSafeOn g e tree count =
    IsSafe (version_of e.live) e.log.waiting (left_now g e.pager.dev) tree count

-- a volume stands for a tree, which its nodes represent, after this many accepted commands; what a
-- crash leaves of it falls short by no more than the records that wait, until it is stopped
pub record StandsFor {D : Type 0} (g : Ghosts D) (v : Volume D) (tree : Tree) (count : ℕ)
    : Type 0 where
  pub nodes : IsSoundOn g v.engine
  pub is_tree : IsTree tree
  pub represents : Represents (keys_of g v.engine.pager) tree
  pub count_is : v.count ≡ count
  pub safe : v.engine.stop ≡ None → IsSafeOn g v.engine tree count

-- calls went on, and an image that a crash inside them leaves stands for what one of before stood
-- for, or for this tree and count
abbrev pub GoesBy : {D : Type 0} → Ghosts D → Volume D → Volume D → Tree → ℕ → Type 0
GoesBy g old new tree count = Goes g (device_of old) (device_of new)
    (IsOldOrNew (left_now g (device_of old)) tree count)

-- the volume, of which no graft is told
abbrev pub without_walk : {D : Type 0} → Volume D → Volume D
without_walk v = record v { engine = record v.engine { walk = record { visits = 0; height = 0 } } }

-- the view, of which no graft is told
abbrev pub without_walk_in : View → View
without_walk_in v = record v { tree = record v.tree { walk = record { visits = 0; height = 0 } } }

-- the first view of an image: that of its last checkpoint, whose nodes represent a tree, after the
-- commands of its open batches were replayed from that on; no graft is told yet
pub record IsFirstView (image : Image) (v : View) : Type 0 where
  pub stored : View
  pub base : Tree
  pub represents : Represents (view_keys stored) base
  pub commands : List Command
  pub found : IsFound image stored commands
  pub last : View
  pub replayed : AreReplayed base commands stored last
  pub view_is : v ≡ without_walk_in last

-- sound nodes stay so, and what stands at their keys, also where that is no tree
pub record KeepsKeys {D : Type 0} (g : Ghosts D) (old new : Volume D) : Type 0 where
  pub sound : IsSoundOn g old.engine → IsSoundOn g new.engine
  pub same : IsSoundOn g old.engine
      → SameAt (keys_of g old.engine.pager) (keys_of g new.engine.pager)
