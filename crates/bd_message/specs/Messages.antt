-- Messages: what they may hold, and how large they count.
use Rattle.std.specs.Prelude.{ℕ, ◌+◌, ◌^◌, ◌<◌, ◌≤◌, length, ⊤}
use Rattle.bd_limits.specs.Limits.{key_limit, block_limit, base_size}
use Rattle.bd_message.specs.declared.message.Message.{Message}
use Rattle.bd_message.specs.declared.message.Message.TheVariants.{Put, Del, Patch, Cut, Goto}

-- a key has at most 518 bytes, and so has a prefix, a source, and a Cut's prefix and beginning in
-- sum; a value has 1 to 1,024
abbrev pub IsMessage : Message → Type 0
IsMessage (Put key value) =
    (length key ≤ key_limit) × (1 ≤ length value) × (length value ≤ block_limit)
IsMessage (Del key) = length key ≤ key_limit
IsMessage (Patch key off bytes) =
    (length key ≤ key_limit) × (1 ≤ length bytes) × (off + length bytes ≤ block_limit)
IsMessage (Cut prefix from) = length prefix + length from ≤ key_limit
IsMessage (Goto prefix source child) =
    (length prefix ≤ key_limit) × (length source ≤ key_limit) × (1 ≤ child) × (child < 2 ^ 64)

-- it names no node
abbrev pub IsPlain : Message → Type 0
IsPlain (Goto prefix source child) = ⊥
IsPlain _ = ⊤

-- how many bytes it counts in a buffer
abbrev pub size : Message → ℕ
size (Put key value) = base_size + length key + length value
size (Del key) = base_size + length key
size (Patch key off bytes) = base_size + length key + off + length bytes
size (Cut prefix from) = base_size + length prefix + length from
size (Goto prefix source child) = base_size + length prefix + length source
