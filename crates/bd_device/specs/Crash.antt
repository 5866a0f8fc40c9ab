-- What a loss of power leaves of a device in memory.
use Rattle.std.specs.Prelude.{◌≡◌, ℕ, ◌⊎◌, ◌==◌, if◌then◌else◌, List, [], ◌∷◌, reverse, replicate, slice_index_or, slice_set}
use Rattle.bd_limits.specs.Limits.{block_size}
use Rattle.bd_device.specs.Blocks.{Image}
use Rattle.bd_device.specs.Memory.{MemoryDevice}
use Rattle.bd_device.specs.declared.torn.Torn.{Torn}
use Rattle.bd_device.specs.declared.torn.Torn.TheVariants.{Old, New, Fill}
use Rattle.bd_device.specs.declared.write_record.WriteRecord.{WriteRecord}

-- by these writes, the last first, the block was written since the last barrier that succeeded
abbrev pub IsInFlight : ℕ → List WriteRecord → ℕ → Type 0
IsInFlight barrier [] b = ⊥
IsInFlight barrier (w ∷ ws) b = (barrier ≡ 0) × ((b ≡ w.block) ⊎ IsInFlight w.barrier ws b)

-- the bytes of a block of which this is a write in flight, and which reads give so
abbrev pub torn_bytes : Torn → WriteRecord → List ℕ → List ℕ
torn_bytes Old w bytes = w.before
torn_bytes New w bytes = bytes
torn_bytes (Fill byte) w bytes = replicate block_size byte

-- the blocks with each that these writes, the last first, left in flight torn
abbrev pub torn_blocks : Torn → ℕ → List WriteRecord → Image → Image
torn_blocks how barrier [] blocks = blocks
torn_blocks how barrier (w ∷ ws) blocks =
    if barrier == 0
    then torn_blocks how w.barrier ws
    (slice_set blocks w.block (torn_bytes how w (slice_index_or blocks w.block [])))
    else blocks

-- after a loss of power: with nothing in flight
abbrev pub after_crash : Torn → MemoryDevice → MemoryDevice
after_crash how d = record d {
  blocks = torn_blocks how d.barrier (reverse d.writes) d.blocks;
  writes = [];
  barrier = 0;
}
