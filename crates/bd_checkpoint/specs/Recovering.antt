-- What is known when a volume starts from an image.
use Rattle.std.specs.Prelude.{◌≡◌, ◌+◌, ◌≤◌, ◌⊎◌, ℕ, List, [], ◌∷◌, length, Option, Some, IfSome}
use Rattle.bd_io.specs.Cause.{Rose, next_count}
use Rattle.bd_model.specs.Tree.{Tree}
use Rattle.bd_model.specs.Laws.{Accepts, after}
use Rattle.bd_device.specs.Blocks.{Image}
use Rattle.bd_device.specs.Device.{Goes, Stays}
use Rattle.bd_device.specs.Moments.{Nothing, IsOnly}
use Rattle.bd_device.specs.declared.device.Device.{Ghosts}
use Rattle.bd_node.specs.Meaning.{Nodes}
use Rattle.bd_node.specs.Tables.{IsSound}
use Rattle.bd_table.specs.Image.{HoldsTable}
use Rattle.bd_super.specs.Live.{IsLive}
use Rattle.bd_super.specs.declared.superblock.Super.{Super}
use Rattle.bd_pager.specs.Pagers.{Paged, spots_of, nodes_of, table_of, is_known}
use Rattle.bd_pager.specs.Places.{IsBadSpot}
use Rattle.bd_image.specs.Stored.{HoldsNodes, table_of as stored_table}
use Rattle.bd_image.specs.Damage.{IsFoundBad, IsBadAt}
use Rattle.bd_checkpoint.specs.declared.commands.PlacedCommand.{PlacedCommand}
use Rattle.bd_checkpoint.specs.Kept.{Saved, AreOfTree}

-- what reads and barriers leave of a device, also where one failed
pub record OnlySettles {D : Type 0} (g : Ghosts D) (old new : D) : Type 0 where
  pub kept : g.contents new ≡ g.contents old
  pub stays : Stays g old new
  pub time : Goes g old new Nothing
  pub write_faults : (g.write_fault_count new ≡ g.write_fault_count old)
      ⊎ (g.write_fault_count new ≡ next_count (g.write_fault_count old))

-- since the return of its first call, which was the barrier, a crash leaves what reads gave before
pub record HasSettled {D : Type 0} (g : Ghosts D) (old new : D) : Type 0 where
  pub called : g.call_count old + 1 ≤ g.call_count new
  pub only : IsOnly (g.contents old) (g.left_since new (g.call_count old + 1))

-- no call came back but a write or a barrier that failed: the first one, if any
pub record FailsFirst {D : Type 0} (g : Ghosts D) (old new : D) : Type 0 where
  pub few : g.call_count new ≤ g.call_count old + 1
  pub rose : Rose (g.write_fault_count old) (g.write_fault_count new)

-- the block is why what reads give stands for no tree, as far as that is known
abbrev pub IsBadIn : Option Image → ℕ → Type 0
IsBadIn known b = IfSome known (λ image. IsBadAt image b)

-- the block is found bad in what reads give, as far as that is known
abbrev pub IsFoundIn : Option Image → ℕ → Type 0
IsFoundIn known b = IfSome known (λ image. IsFoundBad image b)

-- the last checkpoint, as a pager has it
abbrev pub saved_of : {D : Type 0} → Paged D → Saved
saved_of p = record { at = p.at; table = p.saved }

-- the nodes of a pager are those that an image stores by its table, and the image stores them where
-- they are sound; where the image starts from that table, a block that is bad for a node is why it
-- stands for no tree
pub record AreStored {D : Type 0} (g : Ghosts D) (p : Paged D) (image : Image) : Type 0 where
  pub nodes : (stored : Nodes) → HoldsNodes image p.saved stored → nodes_of g p ≡ stored
  pub table : (stored : Nodes) → HoldsNodes image p.saved stored
      → table_of p ≡ stored_table p.saved stored
  pub held : IsSound (nodes_of g p) (table_of p) → HoldsNodes image p.saved (nodes_of g p)
  pub bad : (live : Super) → IsLive image live → HoldsTable image live.slots live.table p.saved
      → (id b : ℕ) → IsBadSpot (Some image) (spots_of p id) b → IsBadAt image b

-- commands that lead from one tree to another, each accepted in its turn
abbrev pub LeadsBy : List PlacedCommand → Tree → Tree → Type 0
LeadsBy [] t u = t ≡ u
LeadsBy (p ∷ ps) t u = Accepts t p.command × LeadsBy ps (after t p.command) u

-- the nodes of a pager are known and have a tree; from that these commands lead to this one, and
-- from the superblock's count to this one
pub record LeadsTo {D : Type 0} (g : Ghosts D) (p : Paged D) (live : Super)
    (list : List PlacedCommand) (tree : Tree) (count : ℕ) : Type 0 where
  pub known : is_known g p
  pub base : Tree
  pub have : AreOfTree (nodes_of g p) (table_of p) base
  pub leads : LeadsBy list base tree
  pub count_is : count ≡ live.count + length list
