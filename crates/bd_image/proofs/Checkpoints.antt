-- What an image stands for while a checkpoint is made.
use Rattle.std.proofs.Common.{◌≡◌, ℕ, ◌+◌, ◌<◌, ◌≤◌, inl, inr, List, [], Some, refl, subst, arith}
use Rattle.std.specs.Prelude.{Contains}
use Rattle.bd_model.specs.Tree.{Tree}
use Rattle.bd_device.specs.Blocks.{Image}
use Rattle.bd_device.specs.Changes.{SameBut}
use Rattle.bd_device.specs.Commits.{IsCommitted}
use Rattle.bd_node.specs.Meaning.{Nodes}
use Rattle.bd_table.specs.Image.{HoldsTable}
use Rattle.bd_table.specs.declared.table.Table.{Table as StoredTable}
use Rattle.bd_super.specs.Superblocks.{log_block, other}
use Rattle.bd_super.specs.Live.{IsLive}
use Rattle.bd_super.specs.Published.{IsOfHalf, SameLive, IsPublished, SameSuperblocks}
use Rattle.bd_super.specs.declared.superblock.Half.{Half}
use Rattle.bd_super.specs.declared.superblock.Half.TheVariants.{A, B}
use Rattle.bd_super.specs.declared.superblock.Super.{Super}
use Rattle.bd_super.proofs.LiveLemmas.{same_halves, same_superblocks}
use Rattle.bd_tails.specs.Tails.{IsOfSlot}
use Rattle.bd_image.specs.Versions.{version_of}
use Rattle.bd_image.specs.Stored.{HoldsNodes}
use Rattle.bd_image.specs.ImageTree.{HaveTree, HasTree}
use Rattle.bd_image.specs.Used.{used_slots, IsOfSlots, IsUsed, SameSlots}
use Rattle.bd_image.proofs.Frame.{table_same, nodes_same, tree_same}

-- ---- slots that aren't used

one_slot : (slot other b : ℕ) → IsOfSlot slot b → IsOfSlot other b → slot ≡ other
one_slot slot other b own his = omega (arith, own.0, own.1, his.0, his.1)

half_low : (half : Half) → log_block half + 64 ≤ 132
half_low A = omega arith
half_low B = omega arith

not_spare : (s : Super) (t : StoredTable) (slots : List ℕ) → ((slot : ℕ) → Contains slots slot → ¬ Contains (used_slots s.table t) slot) → (b : ℕ) → IsUsed s t b → ¬ IsOfSlots slots b
not_spare s t slots apart b (inl own) is = omega (arith, half_low s.half, own.1, is.4.0)
not_spare s t slots apart b (inr own) is =
    let same : own.1 ≡ is.1 = one_slot own.1 is.1 b own.4 is.4 in
    let used : Contains (used_slots s.table t) is.1 = subst (Contains (used_slots s.table t)) same (own.0, own.2, own.3) in
    apart is.1 (is.0, is.2, is.3) used

pub unused : (s : Super) (t : StoredTable) (place : ℕ) (tree : Tree) (count : ℕ) (slots : List ℕ) (old new : Image) → SameBut (IsOfSlots slots) old new
    → ((slot : ℕ) → Contains slots slot → ¬ Contains (used_slots s.table t) slot) → HasTree s t place tree count old → HasTree s t place tree count new
unused s t place tree count slots old new same apart h =
    let supers : SameSuperblocks old new = record { size = same.size; blocks = λ b lt. same.others b (λ is. omega (arith, lt, is.4.0)) } in
    let live : IsLive new s = (same_halves old new (same_superblocks old new supers) s).0 h.starts.live in
    tree_same s t place tree count old new (λ b used. same.others b (not_spare s t slots apart b used)) live h

-- ---- the blocks that publishing writes

-- none is of a slot, nor of the other half of the log
pub not_slot : (half : Half) (b : ℕ) → 132 ≤ b → ¬ IsOfHalf half b
not_slot A b high (inl e) = omega (arith, high, e)
not_slot A b high (inr (inl e)) = omega (arith, high, e)
not_slot A b high (inr (inr e)) = omega (arith, high, e)
not_slot B b high (inl e) = omega (arith, high, e)
not_slot B b high (inr (inl e)) = omega (arith, high, e)
not_slot B b high (inr (inr e)) = omega (arith, high, e)

not_log : (half : Half) (b : ℕ) → log_block (other half) ≤ b → b < log_block (other half) + 64 → ¬ IsOfHalf half b
not_log A b low high (inl e) = omega (arith, low, e)
not_log A b low high (inr (inl e)) = omega (arith, low, e)
not_log A b low high (inr (inr e)) = omega (arith, low, e)
not_log B b low high (inl e) = omega (arith, low, e)
not_log B b low high (inr (inl e)) = omega (arith, low, e)
not_log B b low high (inr (inr e)) = omega (arith, high, e)

not_used : (half : Half) (s : Super) (t : StoredTable) → s.half ≡ other half → (b : ℕ) → IsUsed s t b → ¬ IsOfHalf half b
not_used half s t beside b (inl own) =
    not_log half b (subst (λ (h : Half). log_block h ≤ b) beside own.0) (subst (λ (h : Half). b < log_block h + 64) beside own.1)
not_used half s t beside b (inr own) = not_slot half b (omega (arith, own.4.0))

-- staged: what an image of before stands for
pub staged : (half : Half) (s : Super) (t : StoredTable) (place : ℕ) (tree : Tree) (count : ℕ) (old new : Image) → s.half ≡ other half → SameBut (IsOfHalf half) old new → SameLive old new
    → HasTree s t place tree count old → HasTree s t place tree count new
staged half s t place tree count old new beside same live h =
    tree_same s t place tree count old new (λ b used. same.others b (not_used half s t beside b used)) ((live s).0 h.starts.live) h

-- published: the tree of the nodes
pub published : (s : Super) (t : StoredTable) (nodes : Nodes) (tree : Tree) (old new : Image) → IsPublished s (Some old) new → HoldsTable old s.slots s.table t → HoldsNodes old t nodes
    → HaveTree (version_of s) t nodes tree → HasTree s t 0 tree s.count new
published s t nodes tree old new is table stored have =
    let same : SameBut (IsOfHalf s.half) old new = is.outside in
    let slots : SameSlots (used_slots s.table t) old new = λ b own. same.others b (not_slot s.half b (omega (arith, own.4.0))) in
    let first : log_block s.half + 0 ≡ log_block s.half = omega arith in
    record {
      nodes = nodes;
      base = tree;
      batches = [];
      starts = record { live = is.live; table = table_same s.slots s.table t old new slots table; stored = nodes_same s.table t nodes old new same.size slots stored };
      have = have;
      logged = record { follow = refl; closed = λ on. is.log (subst (IsCommitted new) first on) };
      leads = refl;
      count_is = omega arith;
    }
