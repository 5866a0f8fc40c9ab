-- Writes to the blocks of an image, of which only the first are attached.
use Rattle.std.proofs.Common.{◌≡◌, ℕ, ◌^◌, ◌<◌, ◌≤◌, List, [], Bool, true, false, if◌then◌else◌, Some, length, take, sym, ap, arith, All, slice_set, slice_index, slice_index_or, replicate, Result, Ok, Err, OnErr}
use Rattle.std.proofs.lemmas.List.{set-get_or, length-take-le, length-replicate, get_or-replicate, get_or_past}
use Rattle.std.proofs.lemmas.Grind.{common_steps}
use Rattle.std.proofs.lemmas.List.Elements.{All-take}
use Rattle.std.proofs.Math.Seq.{take-set-lt}
use Rattle.bd_device.specs.Blocks.{Image, IsBlock, ChangesOnly}
use Rattle.bd_device.specs.Memory.{MemoryDevice, attached_size}

-- a write to an attached block is one to the attached image
pub attached-set : (attached : Bool) (size b : ℕ) (blocks : Image) (bytes : List ℕ) → b < (if attached then size else 0)
    → (if attached then take size (slice_set blocks b bytes) else []) ≡ slice_set (if attached then take size blocks else []) b bytes
attached-set false size b blocks bytes lt = absurd (omega arith)
attached-set true size b blocks bytes lt = take-set-lt size blocks b bytes lt

-- an image that stays as it was is one in which at most one block changed
pub ChangesOnly-none : (image : Image) (b : ℕ) → b < length image → All IsBlock image → ChangesOnly b (Some image) (Some image)
ChangesOnly-none image b lt whole = (slice_index_or image b [], whole b [] lt, ap Some (sym (set-get_or image b [])))

-- so it is with the attached part of blocks that stay
pub ChangesOnly-attached : (attached : Bool) (size b : ℕ) (blocks : Image) → b < (if attached then size else 0) → size ≤ length blocks → All IsBlock blocks
    → ChangesOnly b (Some (if attached then take size blocks else [])) (Some (if attached then take size blocks else []))
ChangesOnly-attached false size b blocks lt fits whole = absurd (omega arith)
ChangesOnly-attached true size b blocks lt fits whole =
    let inside : b < length (take size blocks) = omega (arith, length-take-le size blocks fits) in
    ChangesOnly-none (take size blocks) b inside (All-take IsBlock size blocks whole)

-- what holds anyway holds at an error
pub OnErr-always : {T E P : Type 0} (r : Result T E) → P → OnErr r P
OnErr-always (Ok x) p = tt
OnErr-always (Err e) p = p

-- each index of copies of a byte has a byte
pub copy-below : (n i byte bound : ℕ) → byte < bound → slice_index (replicate n byte) i < bound
copy-below n i byte bound lt = grind (arith, common_steps, get_or-replicate, get_or_past)

-- a block of one byte
pub IsBlock-full : (byte : ℕ) → byte < 2 ^ 8 → IsBlock (replicate 4096 byte)
IsBlock-full byte lt = (length-replicate {A = ℕ} 4096 byte, λ i. copy-below 4096 i byte (2 ^ 8) lt)

-- a block of zero bytes
pub IsBlock-zero : IsBlock (replicate 4096 0)
IsBlock-zero = IsBlock-full 0 (omega arith)

-- an attached block is one of the image
pub attached_in_size : (d : MemoryDevice) (b : ℕ) → b < attached_size d → b < d.size
attached_in_size d b lt = grind arith

-- where there are attached blocks they are those of the image
pub attached_size-is : (d : MemoryDevice) → 0 < attached_size d → attached_size d ≡ d.size
attached_size-is d lt = grind arith
