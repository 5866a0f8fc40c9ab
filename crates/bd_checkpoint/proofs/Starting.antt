-- What an image stands for, it stands for by the superblock, the table and the batches that are known.
use Rattle.std.proofs.Common.{◌≡◌, ℕ, ◌^◌, ◌<◌, List, length, sym, subst, ◌∙◌}
use Rattle.bd_model.specs.Tree.{Tree}
use Rattle.bd_device.specs.Blocks.{Image}
use Rattle.bd_table.specs.Tables.{IsTableAt, table_bytes}
use Rattle.bd_table.specs.declared.table.Table.{Table as StoredTable}
use Rattle.bd_super.specs.Superblocks.{log_block}
use Rattle.bd_super.specs.declared.superblock.Super.{Super}
use Rattle.bd_super.proofs.LiveLemmas.{one_live}
use Rattle.bd_log.specs.Batches.{AreBatches}
use Rattle.bd_log.specs.declared.batch.Batch.{Batch}
use Rattle.bd_image.specs.ImageTree.{HasTree, ImageStandsFor}
use Rattle.bd_checkpoint.specs.Kept.{Saved, StartsAs}

-- an image has one table and one list of open batches
pub record PartsAreOne : Type 0 where
  pub tables : (slots : ℕ) (at : List ℕ) (a b : StoredTable) → IsTableAt slots at a → IsTableAt slots at b → table_bytes (length at) a ≡ table_bytes (length at) b → a ≡ b
  pub batches : (image : Image) (first epoch : ℕ) (some others : List Batch) (end place : ℕ) → epoch < 2 ^ 64 → AreBatches image first epoch some end → AreBatches image first epoch others place
      → (some ≡ others) × (end ≡ place)

pub recovered : PartsAreOne → (live : Super) (saved : Saved) (place : ℕ) (image : Image) (tree : Tree) (count : ℕ) → StartsAs live saved place image
    → ImageStandsFor tree count image → HasTree live saved.table place tree count image
recovered one live saved place image tree count starts (s, t, p, h) =
    let super : s ≡ live = one_live image s live h.starts.live starts.live_is in
    let by_super : HasTree live t p tree count image = subst (λ (x : Super). HasTree x t p tree count image) super h in
    let table : t ≡ saved.table = one.tables live.slots live.table t saved.table by_super.starts.table.0 starts.table_is.0 (sym by_super.starts.table.1 ∙ starts.table_is.1) in
    let by_table : HasTree live saved.table p tree count image = subst (λ (x : StoredTable). HasTree live x p tree count image) table by_super in
    let end : p ≡ place = (one.batches image (log_block live.half) live.epoch by_table.batches starts.batches p place starts.live_is.held.fits.last_epoch by_table.logged starts.batches_are).1 in
    subst (λ (n : ℕ). HasTree live saved.table n tree count image) end by_table
