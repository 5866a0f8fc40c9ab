-- What an image stands for: the tree of its nodes, after the commands of its log.
use Rattle.std.specs.Prelude.{◌≡◌, ◌+◌, ℕ, List, [], ◌∷◌, length}
use Rattle.std.specs.List.{flat_map}
use Rattle.bd_command.specs.Log.{log_record}
use Rattle.bd_command.specs.declared.Command.{Command}
use Rattle.bd_model.specs.Tree.{Tree, IsTree}
use Rattle.bd_model.specs.Laws.{Accepts, after}
use Rattle.bd_represent.specs.Represents.{Represents}
use Rattle.bd_device.specs.Blocks.{Image}
use Rattle.bd_node.specs.Meaning.{Nodes}
use Rattle.bd_node.specs.Tables.{IsSound, root_at}
use Rattle.bd_table.specs.Image.{HoldsTable}
use Rattle.bd_table.specs.declared.table.Table.{Table as StoredTable}
use Rattle.bd_super.specs.Superblocks.{log_block}
use Rattle.bd_super.specs.Live.{IsLive}
use Rattle.bd_super.specs.declared.superblock.Super.{Super}
use Rattle.bd_log.specs.Batches.{AreBatches}
use Rattle.bd_log.specs.declared.batch.Batch.{Batch}
use Rattle.bd_image.specs.Versions.{version_of, IsOfVersion, IsLoggedIn}
use Rattle.bd_image.specs.Stored.{HoldsNodes, table_of}

-- records of commands that lead from one tree to another, each accepted in its turn
abbrev pub LeadsOn : ℕ → List (List ℕ) → Tree → Tree → Type 0
LeadsOn version [] t u = t ≡ u
LeadsOn version (r ∷ rs) t u =
    (c : Command) × IsLoggedIn version c × (r ≡ log_record c) × Accepts t c
    × LeadsOn version rs (after t c) u

-- the records of batches, in order
abbrev pub records_of : List Batch → List (List ℕ)
records_of batches = flat_map (λ (b : Batch). b.records) batches

-- the nodes are sound, and what their root has represents the tree, which is one of this version
pub record HaveTree (version : ℕ) (t : StoredTable) (nodes : Nodes) (tree : Tree) : Type 0 where
  pub sound : IsSound nodes (table_of t nodes)
  pub is_tree : IsTree tree
  pub of_version : IsOfVersion version tree
  pub represents : Represents (root_at nodes (table_of t nodes)) tree

-- the image starts from this superblock, and has its table and these nodes
pub record StartsFrom (image : Image) (s : Super) (t : StoredTable) (nodes : Nodes)
    : Type 0 where
  pub live : IsLive image s
  pub table : HoldsTable image s.slots s.table t
  pub stored : HoldsNodes image t nodes

-- the image starts from this superblock and table, and its nodes have a tree; from that the records
-- of its open batches, which end at this place, lead to the tree that it stands for
pub record HasTree (s : Super) (t : StoredTable) (place : ℕ) (tree : Tree) (count : ℕ)
    (image : Image) : Type 0 where
  pub nodes : Nodes
  pub base : Tree
  pub batches : List Batch
  pub starts : StartsFrom image s t nodes
  pub have : HaveTree (version_of s) t nodes base
  pub logged : AreBatches image (log_block s.half) s.epoch batches place
  pub leads : LeadsOn (version_of s) (records_of batches) base tree
  pub count_is : count ≡ s.count + length (records_of batches)

-- an image stands for a tree and for the count of the commands that led to it
abbrev pub ImageStandsFor : Tree → ℕ → Image → Type 0
ImageStandsFor tree count image =
    (s : Super) × (t : StoredTable) × (place : ℕ) × HasTree s t place tree count image
