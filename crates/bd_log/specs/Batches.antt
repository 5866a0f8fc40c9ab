-- Batches of records, and how they stand in a half of the log. A half has 64 blocks; places are
-- counted from its first one.
use Rattle.std.specs.Prelude.{◌≡◌, ℕ, zero, suc, ◌+◌, ◌-◌, ◌*◌, ◌/◌, ◌<◌, ◌≤◌, List, [], ◌∷◌, ◌++◌, length, take, drop}
use Rattle.std.specs.List.{concat, AllByRecursion}
use Rattle.std.specs.Int.{w16, w32, w64}
use Rattle.bd_limits.specs.Limits.{block_size, log_blocks}
use Rattle.bd_device.specs.Blocks.{Image}
use Rattle.bd_wire.specs.Numbers.{be, number_at}
use Rattle.bd_wire.specs.Text.{text16, FitsText16, zeros}
use Rattle.bd_device.specs.Commits.{IsCommitted}
use Rattle.bd_device.specs.Changes.{bytes_at}
use Rattle.bd_log.specs.declared.batch.Batch.{Batch}

-- a record: a length of two bytes, and that many bytes
abbrev pub IsLogRecord : List ℕ → Type 0
IsLogRecord bytes = (text : List ℕ) × FitsText16 text × (bytes ≡ text16 text)

-- so many records that stand one after the other
abbrev pub records_in : ℕ → List ℕ → List (List ℕ)
records_in zero bytes = []
records_in (suc count) bytes =
    take (2 + number_at w16 bytes) bytes ∷ records_in count (drop (2 + number_at w16 bytes) bytes)

-- the bytes of a body's header
abbrev pub batch_header_size : ℕ
batch_header_size = 24

-- so many bytes after a body's header
abbrev pub after_header : ℕ → List ℕ → List ℕ
after_header size body = take size (drop batch_header_size body)

-- the blocks that a header and so many bytes of records take
abbrev pub blocks_for : ℕ → ℕ
blocks_for size = (batch_header_size + size + (block_size - 1)) / block_size

-- the blocks of a body with these records
abbrev pub body_blocks : List (List ℕ) → ℕ
body_blocks records = blocks_for (length (concat records))

-- `BDLB` as a number
abbrev pub batch_magic : ℕ
batch_magic = 1111772226

-- the magic, the body's blocks, the epoch, how many records there are, and their bytes
abbrev pub header_bytes : ℕ → ℕ → ℕ → ℕ → List ℕ
header_bytes blocks epoch count size =
    be w32 batch_magic ++ be w32 blocks ++ be w64 epoch ++ be w32 count ++ be w32 size

-- the body of a batch: a header, the records, and zeros to the end of its last block
abbrev pub body_bytes : ℕ → List (List ℕ) → List ℕ
body_bytes epoch records =
    header_bytes (body_blocks records) epoch (length records) (length (concat records))
    ++ concat records
    ++ zeros (body_blocks records * block_size - (batch_header_size + length (concat records)))

-- A batch whose commit block has this place: one record or more, whose body is in the blocks after
-- the commit block, so that the next batch's commit block is in the half too.
pub record IsBatchAt (image : Image) (first epoch place : ℕ) (batch : Batch) : Type 0 where
  pub body : batch.body ≡ first + place + 1
  pub some : 1 ≤ length batch.records
  pub each : AllByRecursion IsLogRecord batch.records
  pub room : place + 1 + body_blocks batch.records < log_blocks
  pub bytes : bytes_at image batch.body (body_blocks batch.records)
      ≡ body_bytes epoch batch.records

-- committed batches follow each other, from one place to another
abbrev pub AreChained : Image → ℕ → ℕ → ℕ → List Batch → ℕ → Type 0
AreChained image first epoch place [] end = place ≡ end
AreChained image first epoch place (batch ∷ batches) end =
    IsCommitted image (first + place)
    × IsBatchAt image first epoch place batch
    × AreChained image first epoch (place + 1 + body_blocks batch.records) batches end

-- the open batches of a half are these, and the next one goes to this place: they follow each other
-- from its first block on, up to the first commit block that isn't committed
pub record AreBatches (image : Image) (first epoch : ℕ) (batches : List Batch) (end : ℕ)
    : Type 0 where
  pub follow : AreChained image first epoch 0 batches end
  pub closed : ¬ IsCommitted image (first + end)

-- a half is damaged at this block: after some batches a commit block is committed before it, and no
-- batch stands there
abbrev pub IsDamagedAt : Image → ℕ → ℕ → ℕ → Type 0
IsDamagedAt image first epoch block =
    (batches : List Batch) × (end : ℕ) × AreChained image first epoch 0 batches end
    × IsCommitted image (first + end)
    × ((batch : Batch) → ¬ IsBatchAt image first epoch end batch)
    × (block ≡ first + end + 1)
