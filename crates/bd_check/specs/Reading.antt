-- What is found where the slots of a table's entries are read.
use Rattle.std.specs.Prelude.{◌≡◌, ℕ, List, Option, Some, IfSome}
use Rattle.bd_slots.specs.Layout.{slot_block}
use Rattle.bd_device.specs.Blocks.{Image}
use Rattle.bd_node.specs.Tables.{IsSound}
use Rattle.bd_table.specs.declared.table.Table.{Table as StoredTable}
use Rattle.bd_table.specs.declared.table.TableEntry.{TableEntry}
use Rattle.bd_pager.specs.Damage.{IsFirstBad}
use Rattle.bd_image.specs.Stored.{table_of}
use Rattle.bd_tally.specs.Seen.{HasSeen}
use Rattle.bd_tally.specs.declared.count.Count.{Count}
use Rattle.bd_check.specs.Slots.{HaveGoodNodes, IsMiscounted, nodes_in}
use Rattle.bd_check.specs.declared.verdict.Verdict.{Verdict}
use Rattle.bd_check.specs.declared.verdict.Verdict.TheVariants.{Yes, BadBlock, BadNode, Limit}

-- what is owed has seen the nodes of these ids, as far as the contents are known
abbrev pub Sees : Option Image → StoredTable → List ℕ → List Count → Type 0
Sees contents t seen owed = IfSome contents (λ image. HasSeen (nodes_in image t) t seen owed)

-- the block is the first one of the slot of the first entry whose slot has no good node
abbrev pub IsFirstBadBlock : Image → StoredTable → ℕ → Type 0
IsFirstBadBlock image t b =
    (e : TableEntry) × (b ≡ slot_block e.slot) × IsFirstBad (Some image) t.entries e

-- each entry's slot has a good node, and these are sound
pub record HasSoundNodes (image : Image) (t : StoredTable) : Type 0 where
  pub good : HaveGoodNodes image t
  pub sound : IsSound (nodes_in image t) (table_of t (nodes_in image t))

-- the verdict names that block; or, where all nodes are good, the least id of one that isn't named as
-- often as its entry says
abbrev pub IsWrongIn : Image → StoredTable → Verdict → Type 0
IsWrongIn image t (Yes nodes keys count) = ⊥
IsWrongIn image t (BadBlock block) = IsFirstBadBlock image t block
IsWrongIn image t (BadNode id) = HaveGoodNodes image t × IsMiscounted image t id
IsWrongIn image t Limit = ⊥
