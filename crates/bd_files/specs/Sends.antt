-- What the messages of a write and of a truncation are.
use Rattle.std.specs.Prelude.{◌≡◌, ◌≢◌, ℕ, zero, suc, ◌+◌, ◌-◌, ◌/◌, ◌%◌, ◌^◌, ◌<◌, ◌≤◌, ◌&&◌, List, [], ◌∷◌, ◌++◌, length, take, drop, nat_lt, if◌then◌else◌}
use Rattle.std.specs.Int.{w32}
use Rattle.bd_limits.specs.Limits.{block_limit}
use Rattle.bd_wire.specs.Numbers.{be}
use Rattle.bd_keys.specs.Edits.{overwritten}
use Rattle.bd_records.specs.declared.Record.TheVariants.{File}
use Rattle.bd_records.specs.Records.{record_bytes}
use Rattle.bd_message.specs.declared.message.Message.{Message}
use Rattle.bd_message.specs.declared.message.Message.TheVariants.{Put, Patch, Cut}
use Rattle.bd_message.specs.KeyMaps.{At}
use Rattle.bd_represent.specs.EntryKeys.{record_key, blocks_prefix, block_key}
use Rattle.bd_represent.specs.Represents.{stored, HasBytes, HasOnlyEntries}
use Rattle.bd_represent.specs.Plans.{after}

-- the record of a file of so many bytes, with its mode
abbrev pub put_length : List (List ℕ) → ℕ → ℕ → Message
put_length path mode len = Put (record_key path) (record_bytes (File len mode))

-- the new record, where a file grows
abbrev pub growth : List (List ℕ) → ℕ → ℕ → ℕ → List Message
growth path mode len end = if nat_lt len end then put_length path mode end ∷ [] else []

-- how many bytes of a block there are from a place of the file on
abbrev pub room_in_block : ℕ → ℕ
room_in_block off = block_limit - off % block_limit

-- the messages that overwrite bytes from `off` on, one for each block that is touched, of so many
-- blocks at most
abbrev pub patches_of : ℕ → List (List ℕ) → ℕ → List ℕ → List Message
patches_of zero path off bytes = []
patches_of (suc n) path off [] = []
patches_of (suc n) path off (b ∷ bs) =
    Patch (block_key path (off / block_limit)) (off % block_limit)
    (take (room_in_block off) (b ∷ bs))
    ∷ patches_of n path (off + room_in_block off) (drop (room_in_block off) (b ∷ bs))

-- what a write of at most 2,048 bytes sends, into a file of `len` bytes, whose mode stays
abbrev pub written : List (List ℕ) → ℕ → ℕ → ℕ → List ℕ → List Message
written path mode len off bytes =
    growth path mode len (off + length bytes) ++ patches_of 3 path off bytes

-- the messages overwrite bytes within a file, and change nothing but its blocks
pub record IsOverwriting (path : List (List ℕ)) (off : ℕ) (bytes : List ℕ) (list : List Message)
    : Type 0 where
  pub file : (old : At) (file : List ℕ) → off + length bytes ≤ length file → HasBytes old path file
      → HasBytes (after list old) path (overwritten file off bytes)
  pub beside : (old : At) (k : List ℕ) → ((i : ℕ) → i < 2 ^ 32 → k ≢ block_key path i)
      → after list old k ≡ old k
  pub only : (old : At) → HasOnlyEntries old → HasOnlyEntries (after list old)

-- the first block wholly past the end of a file of so many bytes
abbrev pub first_past : ℕ → ℕ
first_past len = (len + (block_limit - 1)) / block_limit

-- what is past the end goes
abbrev pub cut_past : List (List ℕ) → ℕ → Message
cut_past path len = Cut (blocks_prefix path) (be w32 (first_past len))

-- the last block, where it stores bytes past the end
abbrev pub shortened : List (List ℕ) → ℕ → List ℕ → List Message
shortened path len block =
    if nat_lt 0 (len % block_limit) && nat_lt (len % block_limit) (length block)
    then Put (block_key path (len / block_limit)) (take (len % block_limit) block) ∷ [] else []

-- what a truncation to `len` bytes sends, of a file of `size` bytes in a map that has this; its mode
-- stays
abbrev pub truncated : At → List (List ℕ) → ℕ → ℕ → ℕ → List Message
truncated at path mode size len =
    put_length path mode len
    ∷ (if nat_lt len size
    then cut_past path len ∷ shortened path len (stored at path (len / block_limit)) else [])
