-- Which verdicts are right of an image.
use Rattle.std.specs.Prelude.{◌≡◌, ◌⊎◌, ⊤, ℕ, Bool, not, nat_lt, length, Option, IfSome}
use Rattle.bd_model.specs.Tree.{Tree}
use Rattle.bd_device.specs.Blocks.{Image}
use Rattle.bd_node.specs.Meaning.{Nodes}
use Rattle.bd_node.specs.Tables.{IsSound, root_at}
use Rattle.bd_table.specs.Image.{HoldsTable}
use Rattle.bd_table.specs.declared.table.Table.{Table as StoredTable}
use Rattle.bd_super.specs.Live.{IsLive}
use Rattle.bd_super.specs.declared.superblock.Super.{Super}
use Rattle.bd_image.specs.Versions.{mode_version, version_of}
use Rattle.bd_image.specs.Stored.{table_of}
use Rattle.bd_image.specs.ImageTree.{HasTree, StartsFrom}
use Rattle.bd_image.specs.Damage.{IsNamedAt}
use Rattle.bd_entries.specs.Verdicts.{IsWhole, IsBroken, IsOver}
use Rattle.bd_check.specs.Slots.{HaveGoodNodes, IsMiscounted}
use Rattle.bd_check.specs.declared.verdict.Verdict.{Verdict}
use Rattle.bd_check.specs.declared.verdict.Verdict.TheVariants.{Yes, BadBlock, BadNode, Limit}

-- the most keys that are looked at
abbrev pub key_count_limit : ℕ
key_count_limit = 16777216

-- a tree of an image of this version has modes
abbrev pub has_modes : ℕ → Bool
has_modes version = not (nat_lt version mode_version)

-- the image stands for a tree and this count; its table has so many nodes, and their root so many
-- keys, no more than are looked at
pub record IsYes (image : Image) (nodes keys count : ℕ) : Type 0 where
  pub superblock : Super
  pub table : StoredTable
  pub place : ℕ
  pub tree : Tree
  pub has : HasTree superblock table place tree count image
  pub nodes_is : nodes ≡ length table.entries
  pub keys_are : IsWhole (has_modes (version_of superblock))
      (root_at has.nodes (table_of table has.nodes)) key_count_limit keys

-- the node of this id isn't named as often as its entry says, where all nodes are good
pub record IsMiscountedIn (image : Image) (id : ℕ) : Type 0 where
  pub superblock : Super
  pub table : StoredTable
  pub live : IsLive image superblock
  pub held : HoldsTable image superblock.slots superblock.table table
  pub good : HaveGoodNodes image table
  pub wrong : IsMiscounted image table id

-- the image starts from sound nodes
pub record IsSoundStart (image : Image) (s : Super) (t : StoredTable) (nodes : Nodes) : Type 0
  where
    pub starts : StartsFrom image s t nodes
    pub sound : IsSound nodes (table_of t nodes)

-- no tree has what their root has, which has this id
pub record HasNoTreeAt (image : Image) (id : ℕ) : Type 0 where
  pub superblock : Super
  pub table : StoredTable
  pub nodes : Nodes
  pub start : IsSoundStart image superblock table nodes
  pub broken : IsBroken (has_modes (version_of superblock))
      (root_at nodes (table_of table nodes)) key_count_limit
  pub root_is : id ≡ table.root

-- the node of this id is miscounted, or is a root that has no tree
abbrev pub IsBadNode : Image → ℕ → Type 0
IsBadNode image id = IsMiscountedIn image id ⊎ HasNoTreeAt image id

-- the root of sound nodes has more keys than are looked at, and a tree has the first of them
pub record HasTooManyKeys (image : Image) : Type 0 where
  pub superblock : Super
  pub table : StoredTable
  pub nodes : Nodes
  pub start : IsSoundStart image superblock table nodes
  pub over : IsOver (has_modes (version_of superblock))
      (root_at nodes (table_of table nodes)) key_count_limit

-- the verdict is right of the image
abbrev pub IsVerdictOn : Image → Verdict → Type 0
IsVerdictOn image (Yes nodes keys count) = IsYes image nodes keys count
IsVerdictOn image (BadBlock block) = IsNamedAt image block
IsVerdictOn image (BadNode id) = IsBadNode image id
IsVerdictOn image Limit = HasTooManyKeys image

-- the same of what reads give, as far as that is known
abbrev pub IsRightOf : Option Image → Verdict → Type 0
IsRightOf known v = IfSome known (λ image. IsVerdictOn image v)

-- it is a yes
abbrev pub SaysYes : Verdict → Type 0
SaysYes (Yes nodes keys count) = ⊤
SaysYes (BadBlock block) = ⊥
SaysYes (BadNode id) = ⊥
SaysYes Limit = ⊥

-- a yes with this count, or the limit
abbrev pub IsGoodAnswer : ℕ → Verdict → Type 0
IsGoodAnswer number (Yes nodes keys count) = count ≡ number
IsGoodAnswer number (BadBlock block) = ⊥
IsGoodAnswer number (BadNode id) = ⊥
IsGoodAnswer number Limit = ⊤
