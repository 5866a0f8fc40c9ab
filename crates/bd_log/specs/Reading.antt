-- What is read of a batch.
use Rattle.std.specs.Prelude.{◌≡◌, ℕ, ◌+◌, ◌^◌, ◌<◌, ◌≤◌, List, ◌++◌, length, Option, None, Some}
use Rattle.std.specs.List.{concat, AllByRecursion}
use Rattle.std.specs.Int.{w32, w64}
use Rattle.bd_device.specs.Blocks.{Image}
use Rattle.bd_wire.specs.Numbers.{be}
use Rattle.bd_log.specs.Batches.{IsLogRecord, IsBatchAt, body_blocks, body_bytes}
use Rattle.bd_device.specs.Commits.{IsCommitted}
use Rattle.bd_device.specs.Changes.{bytes_at}
use Rattle.bd_log.specs.declared.batch.Batch.{Batch}
use Rattle.bd_log.specs.declared.decode.Header.{Header}

-- the numbers of a header, in order
abbrev pub encode_header : Header → List ℕ
encode_header h =
    be w32 h.magic ++ be w32 h.blocks ++ be w64 h.epoch ++ be w32 h.count ++ be w32 h.size

-- they have these widths
pub record FitsHeader (h : Header) : Type 0 where
  pub magic : h.magic < 2 ^ 32
  pub blocks : h.blocks < 2 ^ 32
  pub epoch : h.epoch < 2 ^ 64
  pub count : h.count < 2 ^ 32
  pub size : h.size < 2 ^ 32

-- so many records are these bytes, or none are
abbrev pub AreRecordsOf : List ℕ → ℕ → Option (List (List ℕ)) → Type 0
AreRecordsOf bytes count (Some rs) =
    (length rs ≡ count) × AllByRecursion IsLogRecord rs × (concat rs ≡ bytes)
AreRecordsOf bytes count None =
    (rs : List (List ℕ)) → length rs ≡ count → AllByRecursion IsLogRecord rs → concat rs ≡ bytes → ⊥

-- the body of these records are these bytes, or of none
abbrev pub IsBodyOf : List ℕ → ℕ → Option (List (List ℕ)) → Type 0
IsBodyOf bytes epoch (Some rs) =
    (1 ≤ length rs) × AllByRecursion IsLogRecord rs × (bytes ≡ body_bytes epoch rs)
IsBodyOf bytes epoch None =
    (rs : List (List ℕ)) → 1 ≤ length rs → AllByRecursion IsLogRecord rs
    → bytes ≡ body_bytes epoch rs → ⊥

-- The body of some records, of at most so many blocks, from a block on.
pub record IsBodyAt (image : Image) (b most epoch : ℕ) (records : List (List ℕ)) : Type 0 where
  pub some : 1 ≤ length records
  pub each : AllByRecursion IsLogRecord records
  pub room : body_blocks records ≤ most
  pub bytes : bytes_at image b (body_blocks records) ≡ body_bytes epoch records

-- such a body stands there, with its blocks, or none does
abbrev pub IsBodyRead : Image → ℕ → ℕ → ℕ → Option (List (List ℕ) × ℕ) → Type 0
IsBodyRead image b most epoch (Some found) = IsBodyAt image b most epoch found.0
IsBodyRead image b most epoch None = (rs : List (List ℕ)) → ¬ IsBodyAt image b most epoch rs

-- a batch stands at a place, with its blocks, or nothing is committed there
abbrev pub IsNextBatch : Image → ℕ → ℕ → ℕ → Option (Batch × ℕ) → Type 0
IsNextBatch image first epoch place (Some found) =
    IsCommitted image (first + place) × IsBatchAt image first epoch place found.0
IsNextBatch image first epoch place None = ¬ IsCommitted image (first + place)

-- no batch stands at a committed place
abbrev pub IsBroken : Image → ℕ → ℕ → ℕ → ℕ → Type 0
IsBroken image first epoch place block =
    IsCommitted image (first + place)
    × ((batch : Batch) → ¬ IsBatchAt image first epoch place batch)
    × (block ≡ first + place + 1)
