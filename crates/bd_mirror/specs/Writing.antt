-- The calls that each half in use gets: what they change, and what a crash inside them may leave.
use Rattle.std.specs.Prelude.{⊤, ℕ, ◌+◌, ◌-◌, ◌*◌, ◌^◌, ◌<◌, ◌≤◌, ◌⊎◌, List, [], Option, length, take, drop, slice_set, zero, suc}
use Rattle.std.specs.Option.{option_map}
use Rattle.bd_limits.specs.Limits.{block_size}
use Rattle.bd_device.specs.Blocks.{Image}
use Rattle.bd_device.specs.Changes.{IsBeforeBut, IsInRange}
use Rattle.bd_device.specs.Moments.{Nothing, TornAt}
use Rattle.bd_mirror.specs.declared.writing.WritingCall.{WritingCall}
use Rattle.bd_mirror.specs.declared.writing.WritingCall.TheVariants.{Write, Run, Barrier}

-- the blocks that it writes are among so many
abbrev pub IsWithin : WritingCall → ℕ → Type 0
IsWithin (Write b from) count = b < count
IsWithin (Run first from n) count = first + n ≤ count
IsWithin Barrier count = ⊤

-- there are bytes for its blocks, whose numbers fit
abbrev pub HasBytes : WritingCall → Type 0
HasBytes (Write b from) = ⊤
HasBytes (Run first from n) = (first + n < 2 ^ 64) × (n * block_size ≤ length from.now)
HasBytes Barrier = ⊤

-- it is a barrier
abbrev pub IsBarrier : WritingCall → Type 0
IsBarrier (Write b from) = ⊥
IsBarrier (Run first from n) = ⊥
IsBarrier Barrier = ⊤

-- ---- blocks in a row

-- the image in which so many blocks, from one on, hold these bytes
abbrev pub with_run : ℕ → ℕ → (ℕ → List ℕ) → Image → Image
with_run first zero bytes image = image
with_run first (suc n) bytes image =
    slice_set (with_run first n bytes image) (first + n) (bytes (first + n))

-- so it is of what reads give
abbrev pub contents_with_run : ℕ → ℕ → (ℕ → List ℕ) → Option Image → Option Image
contents_with_run first n bytes contents =
    option_map (λ image. with_run first n bytes image) contents

-- the bytes for each block, in a list of those of the blocks from one on
abbrev pub run_bytes : ℕ → List ℕ → ℕ → List ℕ
run_bytes first bytes b = take block_size (drop ((b - first) * block_size) bytes)

-- ---- calls

-- the bytes that it writes to each block
abbrev pub bytes_of : WritingCall → ℕ → List ℕ
bytes_of (Write b from) = λ _. from.now
bytes_of (Run first from n) = run_bytes first from.now
bytes_of Barrier = λ _. []

-- the image in which the blocks that it writes hold these bytes
abbrev pub image_after : WritingCall → (ℕ → List ℕ) → Image → Image
image_after (Write b from) bytes image = slice_set image b (bytes b)
image_after (Run first from n) bytes image = with_run first n bytes image
image_after Barrier bytes image = image

-- so it is of what reads give
abbrev pub contents_after : WritingCall → (ℕ → List ℕ) → Option Image → Option Image
contents_after call bytes contents = option_map (λ image. image_after call bytes image) contents

-- one of these images in which the blocks that it writes were torn
abbrev pub TornBy : WritingCall → (Image → Type 0) → Image → Type 0
TornBy (Write b from) before = TornAt b before
TornBy (Run first from n) before = IsBeforeBut (IsInRange first (first + n)) before
TornBy Barrier before = Nothing

-- one of these images, or inside the call one in which its blocks were torn
abbrev pub IsLeftBy : WritingCall → (Image → Type 0) → Image → Type 0
IsLeftBy call before image = before image ⊎ TornBy call before image
