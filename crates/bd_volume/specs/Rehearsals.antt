-- What a replay comes to that writes nothing.
use Rattle.std.specs.Prelude.{◌≡◌, ◌+◌, ℕ, List, [], ◌∷◌, ◌++◌, length}
use Rattle.bd_model.specs.Tree.{Tree}
use Rattle.bd_model.specs.Laws.{Accepts}
use Rattle.bd_message.specs.declared.fault.Counter.{Counter}
use Rattle.bd_device.specs.Blocks.{Image}
use Rattle.bd_device.specs.Device.{LastFailed}
use Rattle.bd_device.specs.declared.device.Device.{Ghosts}
use Rattle.bd_pager.specs.Pagers.{Paged, nodes_of, table_of, is_known}
use Rattle.bd_super.specs.Live.{IsLive}
use Rattle.bd_checkpoint.specs.Kept.{AreOfTree}
use Rattle.bd_checkpoint.specs.Recovering.{LeadsBy}
use Rattle.bd_checkpoint.specs.declared.commands.PlacedCommand.{PlacedCommand}
use Rattle.bd_checkpoint.specs.declared.recovering.Recovered.{Recovered}
use Rattle.bd_view.specs.Views.{View}
use Rattle.bd_engine.specs.Engines.{started, view_of as view_in}
use Rattle.bd_engine.specs.Stored.{IsFound}
use Rattle.bd_volume.specs.declared.fault.Fault.{Fault}
use Rattle.bd_volume.specs.declared.fault.Fault.TheVariants.{Device, Damaged, Worn, NoMemory, Full, Stopped}
use Rattle.bd_volume.specs.Replays.{commands_of}
use Rattle.bd_volume.specs.Wears.{WearsReplaying}

-- the nodes of a pager are known, and have this tree
pub record HasBase {D : Type 0} (g : Ghosts D) (p : Paged D) (base : Tree) : Type 0 where
  pub known : is_known g p
  pub have : AreOfTree (nodes_of g p) (table_of p) base

-- all commands were accepted, each in its turn, and counted
pub record HasRehearsed {D : Type 0} (g : Ghosts D) (r : Recovered D) (count : ℕ) : Type 0 where
  pub count_is : count ≡ r.live.count + length r.commands.items
  pub leads : (base : Tree) → HasBase g r.pager base
      → (tree : Tree) × LeadsBy r.commands.items base tree

-- the first commands are accepted, each in its turn, and the tree after them refuses the next one,
-- which has this block
pub record IsRefusedOf (list : List PlacedCommand) (base : Tree) (block : ℕ) : Type 0 where
  pub front : List PlacedCommand
  pub next : PlacedCommand
  pub rest : List PlacedCommand
  pub there : list ≡ front ++ next ∷ rest
  pub tree : Tree
  pub leads : LeadsBy front base tree
  pub refused : ¬ Accepts tree next.command
  pub block_is : block ≡ next.block

-- the view from which it begins
abbrev pub view_before : {D : Type 0} → Ghosts D → Recovered D → View
view_before g r = view_in g (started r.pager [] r.log r.live)

-- a counter has no room, in whatever image this was found
abbrev pub WearsRehearsing : {D : Type 0} → Ghosts D → Recovered D → Counter → Type 0
WearsRehearsing g r which = (image : Image) (base : Tree) → IsLive image r.live
    → IsFound image (view_before g r) (commands_of r.commands.items) → HasBase g r.pager base
    → WearsReplaying which image

-- why it stops: the device's last call failed, and no other, or none did; damage is of the next
-- command, and slots are never short
abbrev pub IsRehearsalFault : {D : Type 0} → Ghosts D → Recovered D → D → Fault → Type 0
IsRehearsalFault g r d Device = LastFailed g r.pager.dev d
IsRehearsalFault g r d (Damaged block) =
    ((base : Tree) → HasBase g r.pager base → IsRefusedOf r.commands.items base block)
    × (g.fault_count d ≡ g.fault_count r.pager.dev)
IsRehearsalFault g r d (Worn which) =
    WearsRehearsing g r which × (g.fault_count d ≡ g.fault_count r.pager.dev)
IsRehearsalFault g r d NoMemory = g.fault_count d ≡ g.fault_count r.pager.dev
IsRehearsalFault g r d (Full free need) = ⊥
IsRehearsalFault g r d (Stopped call) = ⊥
