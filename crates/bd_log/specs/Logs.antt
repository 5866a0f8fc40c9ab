-- The log as its callers see it.
use Rattle.std.specs.Prelude.{◌≡◌, ℕ, ◌+◌, ◌-◌, ◌*◌, ◌≤◌, ◌⊎◌, List, [], ◌∷◌, ◌++◌, length}
use Rattle.std.specs.List.{concat, AllByRecursion}
use Rattle.bd_limits.specs.Limits.{block_size, log_blocks, body_block_limit}
use Rattle.bd_limits.specs.Places.{first_log_block, second_log_block}
use Rattle.bd_device.specs.Blocks.{Image}
use Rattle.bd_device.specs.Changes.{SameBut, IsInRange}
use Rattle.bd_log.specs.Batches.{IsLogRecord, records_in, batch_header_size, after_header, body_blocks, AreBatches}
use Rattle.bd_log.specs.declared.batch.Batch.{Batch}

-- the first block of its half, the epoch of its batches, the place of the next batch's commit
-- block, the records that wait for a sync, and the batches that were there when it was resumed
pub record LogState : Type 0 where
  pub first : ℕ
  pub epoch : ℕ
  pub place : ℕ
  pub waiting : List (List ℕ)
  pub batches : List Batch

-- a half of the log begins at this block
abbrev pub IsLogHalf : ℕ → Type 0
IsLogHalf first = (first ≡ first_log_block) ⊎ (first ≡ second_log_block)

-- the bytes of records that a batch has room for whose commit block has this place
abbrev pub room_at : ℕ → ℕ
room_at place = (body_block_limit - place) * block_size - batch_header_size

-- and how many more there is room for
abbrev pub room_left : LogState → ℕ
room_left log = room_at log.place - length (concat log.waiting)

-- a log without batches and with nothing waiting
abbrev pub fresh_log : ℕ → ℕ → LogState
fresh_log first epoch =
    record { first = first; epoch = epoch; place = 0; waiting = []; batches = [] }

-- waiting records as a batch with this first block of its body, where there are some
abbrev pub batches_of : ℕ → List (List ℕ) → List Batch
batches_of body [] = []
batches_of body (r ∷ rs) = record { body = body; records = r ∷ rs } ∷ []

-- the place after that batch
abbrev pub place_after : ℕ → List (List ℕ) → ℕ
place_after place [] = place
place_after place (r ∷ rs) = place + 1 + body_blocks (r ∷ rs)

-- the log after a sync: nothing waits
abbrev pub after_sync : LogState → LogState
after_sync log = record log { place = place_after log.place log.waiting; waiting = [] }

-- the batches of an image, as the log has them, are there, and as one batch more all that waits
abbrev pub HasAll : LogState → Image → Image → Type 0
HasAll log old new = (batches : List Batch)
    → AreBatches old log.first log.epoch batches log.place
    → AreBatches new log.first log.epoch
    (batches ++ batches_of (log.first + log.place + 1) log.waiting)
    (place_after log.place log.waiting)

-- they are there, and of what waits either all or none
abbrev pub HasAllOrNone : LogState → Image → Image → Type 0
HasAllOrNone log old new = (batches : List Batch)
    → AreBatches old log.first log.epoch batches log.place
    → AreBatches new log.first log.epoch batches log.place
    ⊎ AreBatches new log.first log.epoch
    (batches ++ batches_of (log.first + log.place + 1) log.waiting)
    (place_after log.place log.waiting)

-- an image that a crash inside a sync leaves: one of before, but for the log's half, which has the
-- batches of before and all or none of what waits
abbrev pub IsSyncing : LogState → (Image → Type 0) → Image → Type 0
IsSyncing log before c =
    (d : Image) × before d × SameBut (IsInRange log.first (log.first + log_blocks)) d c
    × HasAllOrNone log d c

-- an image that a crash after a sync leaves: the same, with all that waited
abbrev pub IsSynced : LogState → (Image → Type 0) → Image → Type 0
IsSynced log before c =
    (d : Image) × before d × SameBut (IsInRange log.first (log.first + log_blocks)) d c
    × HasAll log d c

-- the body of the next batch has room for the waiting records, which are so many and of so many
-- bytes after its header
pub record IsBuffer (place size count : ℕ) (body : List ℕ) : Type 0 where
  pub total : length body ≡ body_block_limit * block_size
  pub room : size ≤ room_at place
  pub whole : concat (records_in count (after_header size body)) ≡ after_header size body
  pub each : AllByRecursion IsLogRecord (records_in count (after_header size body))
