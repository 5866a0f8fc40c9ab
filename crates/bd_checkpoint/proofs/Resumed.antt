-- What is known once the log of an image was read.
use Rattle.std.proofs.Common.{◌≡◌, ℕ, List, Option, None, Some, IfSome, inl, inr, refl, sym, subst, ◌∙◌}
use Rattle.std.specs.Prelude.{IsSomeAnd}
use Rattle.bd_slots.specs.Layout.{image_blocks}
use Rattle.bd_device.specs.Blocks.{Image}
use Rattle.bd_device.specs.Device.{IsImageCause}
use Rattle.bd_device.specs.Moments.{IsOnly}
use Rattle.bd_device.specs.declared.device.Device.{Ghosts}
use Rattle.bd_device.specs.declared.fault.ImageFault.{ImageFault}
use Rattle.bd_device.specs.declared.fault.ImageFault.TheVariants.{DeviceFault, Damaged, NoMemory}
use Rattle.bd_table.specs.declared.table.Table.{Table as StoredTable}
use Rattle.bd_super.specs.Superblocks.{IsSuper, log_block}
use Rattle.bd_super.specs.Live.{IsLive}
use Rattle.bd_super.specs.Published.{SameSuperblocks}
use Rattle.bd_super.specs.declared.superblock.Half.{Half}
use Rattle.bd_super.specs.declared.superblock.Half.TheVariants.{A, B}
use Rattle.bd_super.specs.declared.superblock.Super.{Super}
use Rattle.bd_log.specs.Batches.{AreBatches, IsDamagedAt}
use Rattle.bd_log.specs.Logs.{LogState, IsLogHalf}
use Rattle.bd_log.specs.declared.batch.Batch.{Batch}
use Rattle.bd_image.specs.Versions.{version_of}
use Rattle.bd_image.specs.Synced.{IsLogOf}
use Rattle.bd_image.specs.Damage.{placed_records}
use Rattle.bd_image.specs.Damage.IsFoundBad.{bad_batch, bad_record}
use Rattle.bd_checkpoint.specs.Commands.{records_for, StopsAt, IsCommandFault}
use Rattle.bd_checkpoint.specs.Kept.{IsOpen}
use Rattle.bd_checkpoint.specs.Following.{HasTableOf, saved_by}
use Rattle.bd_checkpoint.specs.Resuming.{IsFoundUnder}
use Rattle.bd_checkpoint.proofs.Published.{of_left}

pub log_half : (half : Half) → IsLogHalf (log_block half)
log_half A = inl refl
log_half B = inr refl

-- ---- the block

-- a broken batch
broken_batch : (known : Option Image) (live : Super) (b : ℕ) → IfSome known (λ image. IsDamagedAt image (log_block live.half) live.epoch b) → IsFoundUnder known live b
broken_batch None live b damaged = tt
broken_batch (Some image) live b damaged = λ is. bad_batch live b is damaged

pub batch_cause : {D : Type 0} (g : Ghosts D) (old new : D) (known : Option Image) (live : Super) (fault : ImageFault)
    → IsImageCause g old new (λ b. IfSome known (λ image. IsDamagedAt image (log_block live.half) live.epoch b)) fault → IsImageCause g old new (IsFoundUnder known live) fault
batch_cause g old new known live DeviceFault h = h
batch_cause g old new known live NoMemory h = h
batch_cause g old new known live (Damaged b) h = (broken_batch known live b h.0, h.1)

-- a record of no command
no_command : (known : Option Image) (live : Super) (batches : List Batch) (place b : ℕ) → IfSome known (λ image. AreBatches image (log_block live.half) live.epoch batches place)
    → StopsAt (version_of live) (placed_records batches) b → IsFoundUnder known live b
no_command None live batches place b logged h = tt
no_command (Some image) live batches place b logged h = λ is.
    bad_record live (records_for h.front) b h.bytes (record { live = is; batches = batches; place = place; logged = logged; rest = h.rest; there = h.there }) h.none

pub command_cause : {D : Type 0} (g : Ghosts D) (old new : D) (known : Option Image) (live : Super) (batches : List Batch) (place : ℕ) (fault : ImageFault)
    → IfSome known (λ image. AreBatches image (log_block live.half) live.epoch batches place) → g.fault_count new ≡ g.fault_count old
    → IsCommandFault (version_of live) (placed_records batches) fault → IsImageCause g old new (IsFoundUnder known live) fault
command_cause g old new known live batches place DeviceFault logged kept h = absurd h
command_cause g old new known live batches place NoMemory logged kept h = kept
command_cause g old new known live batches place (Damaged b) logged kept h = (no_command known live batches place b logged h, kept)

-- ---- what is known

pub open_resumed : (known now : Option Image) (before left : Image → Type 0) (count total : ℕ) (live : Super) (t : StoredTable) (log : LogState) → IsSuper live → count ≡ image_blocks live.slots
    → total ≡ count → now ≡ known → ((c : Image) → left c → before c) → IsOnly known before
    → IfSome known (λ image. IsLive image live) → IfSome known (HasTableOf live t) → IfSome known (λ image. AreBatches image (log_block live.half) live.epoch log.batches log.place)
    → IsLogOf live log → IsOpen now left total live (saved_by live t) log
open_resumed known now before left count total live t log fits size same_count same back only live_is table_is logged log_is = record {
  fits = fits;
  size = same_count ∙ size;
  live_is = subst (λ (o : Option Image). IfSome o (λ image. IsLive image live)) (sym same) live_is;
  settled = λ c was. subst (λ (o : Option Image). IsSomeAnd o (λ image. SameSuperblocks image c)) (sym (same ∙ only c (back c was))) (record { size = refl; blocks = λ b low. refl });
  each = λ c was.
      let one : known ≡ Some c = only c (back c was) in
      record {
        live_is = of_left (λ image. IsLive image live) known c live_is one;
        table_is = of_left (HasTableOf live t) known c table_is one;
        batches = log.batches;
        batches_are = of_left (λ image. AreBatches image (log_block live.half) live.epoch log.batches log.place) known c logged one;
      };
  at = refl;
  log_is = log_is;
}
