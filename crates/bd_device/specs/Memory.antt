-- A device in memory, as its callers see it.
use Rattle.std.specs.Prelude.{◌≡◌, ⊤, ℕ, Bool, ◌||◌, nat_lt, nat_le, IsTrue, if◌then◌else◌, List, [], Option, Some, ◌∷◌, ◌++◌, length, take, reverse, slice_set, slice_index_or, ◌+◌, ◌-◌, ◌^◌, ◌<◌, ◌≤◌, ◌⊎◌, ◌&&◌, ◌==◌, Result, is_ok, unwrap_or, slice_index, EachIndex}
use Rattle.std.proofs.Common.{ap, sym, inl, inr, ⊎_elim, arith}
use Rattle.bd_io.specs.Cause.{next_count}
use Rattle.bd_io.specs.Plan.{PlannedCalls, next_fails, calls_after}
use Rattle.bd_device.specs.Blocks.{Image, IsBlock}
use Rattle.bd_device.specs.Calls.{faults_after}
use Rattle.bd_device.specs.Moments.{TornAt}
use Rattle.bd_device.specs.declared.write_record.WriteRecord.{WriteRecord}

-- all blocks that it was made with, how many of them its image has, whether the image is attached,
-- the writes since it was made or lost power, how many there is room for in all, the first barrier
-- that succeeded since the last of them, or 0, the calls, and how many writes and barriers failed
pub record MemoryDevice : Type 0 where
  pub blocks : Image
  pub size : ℕ
  pub attached : Bool
  pub writes : List WriteRecord
  pub room : ℕ
  pub barrier : ℕ
  pub plan : PlannedCalls
  pub write_faults : ℕ

-- the image that it holds, also while it is detached
abbrev pub held_image : MemoryDevice → Image
held_image d = take d.size d.blocks

-- the image that reads give
abbrev pub attached_image : MemoryDevice → Image
attached_image d = if d.attached then held_image d else []

-- while it is attached, reads give all that it holds
pub held-attached : (d : MemoryDevice) → IsTrue d.attached
    → Some (held_image d) ≡ Some (attached_image d)
held-attached d on = ap (λ b. Some (if b then held_image d else [])) (sym on)

-- how many blocks it has
abbrev pub attached_size : MemoryDevice → ℕ
attached_size d = if d.attached then d.size else 0

-- the next write fails: by the plan, or since there is no room for its record
abbrev pub write_fails : MemoryDevice → Bool
write_fails d = next_fails d.plan || nat_le d.room (length d.writes)

-- a write after so many calls has a record, also where it fails: there is room for it, and a number
abbrev pub is_recorded : ℕ → MemoryDevice → Bool
is_recorded calls d = nat_lt (length d.writes) d.room && nat_lt (calls + 1) (2 ^ 64)

-- the record of a write after so many calls
abbrev pub written_record : ℕ → ℕ → List ℕ → Bool → MemoryDevice → WriteRecord
written_record calls b bytes is_done d = record {
  call = calls + 1;
  block = b;
  bytes = bytes;
  before = slice_index_or d.blocks b [];
  is_done = is_done;
  barrier = d.barrier;
}

-- with the record of a write after so many calls
abbrev pub with_record : ℕ → ℕ → List ℕ → Bool → MemoryDevice → MemoryDevice
with_record calls b bytes is_done d = record d {
  writes = d.writes ++ written_record calls b bytes is_done d ∷ [];
  barrier = 0;
}

-- with that record where there is room and a number for it
abbrev pub recorded : ℕ → ℕ → List ℕ → Bool → MemoryDevice → MemoryDevice
recorded calls b bytes is_done d =
    if is_recorded calls d then with_record calls b bytes is_done d else d

-- after a write of these bytes that ended so
abbrev pub after_write : {T E : Type 0} → ℕ → List ℕ → Result T E → MemoryDevice → MemoryDevice
after_write b bytes result d = record (recorded d.plan.calls b bytes (is_ok result) d) {
  blocks = if is_ok result then slice_set d.blocks b bytes else d.blocks;
  plan = calls_after d.plan result;
  write_faults = faults_after d.write_faults result;
}

-- after a barrier that ended so
abbrev pub after_barrier : {T E : Type 0} → Result T E → MemoryDevice → MemoryDevice
after_barrier result d = record d {
  barrier = if is_ok result && d.barrier == 0 then next_count d.plan.calls else d.barrier;
  plan = calls_after d.plan result;
  write_faults = faults_after d.write_faults result;
}

-- a record of a write to one of so many blocks, which was a block before
abbrev pub IsRecordIn : ℕ → WriteRecord → Type 0
IsRecordIn count w = (w.block < count) × IsBlock w.before

-- the last of these writes, the last first, is among so many calls
abbrev pub IsAmongCalls : ℕ → List WriteRecord → Type 0
IsAmongCalls calls [] = ⊤
IsAmongCalls calls (w ∷ ws) = w.call ≤ calls

-- the image before a write
abbrev pub image_before : WriteRecord → Image → Image
image_before w image = slice_set image w.block w.before

-- what a crash since a number of calls might have left, from the last write back: what there is
-- now, an image with that write torn, at a moment before the barrier after it, or what a crash
-- before that write might have left
abbrev pub HasLeft : ℕ → List WriteRecord → Image → ℕ → Image → Type 0
HasLeft barrier [] image t c = c ≡ image
HasLeft barrier (w ∷ ws) image t c =
    (c ≡ image)
    ⊎ (((barrier ≡ 0) ⊎ (t < barrier))
    × TornAt w.block (HasLeft w.barrier ws (image_before w image) (w.call - 1)) c)
    ⊎ ((t < w.call) × HasLeft w.barrier ws (image_before w image) t c)

-- what a crash since a number of calls might have left of its image
abbrev pub left_of : MemoryDevice → ℕ → Image → Type 0
left_of d = HasLeft d.barrier (reverse d.writes) (held_image d)

-- since an earlier call it might have left more
pub HasLeft-earlier : (barrier : ℕ) (ws : List WriteRecord) (image : Image) (t u : ℕ) (c : Image)
    → t ≤ u → HasLeft barrier ws image u c → HasLeft barrier ws image t c
HasLeft-earlier barrier [] image t u c le left = left
HasLeft-earlier barrier (w ∷ ws) image t u c le (inl now) = inl now
HasLeft-earlier barrier (w ∷ ws) image t u c le (inr (inl torn)) =
    inr (inl (⊎_elim (λ z. inl z) (λ lt. inr (omega (arith, le, lt))) torn.0, torn.1))
HasLeft-earlier barrier (w ∷ ws) image t u c le (inr (inr old)) = inr (inr (
  omega (arith, le, old.0),
  HasLeft-earlier w.barrier ws (image_before w image) t u c le old.1,
))

-- the next attach fails: by the plan, or since it asks for more blocks than there are
abbrev pub attach_fails : MemoryDevice → Option ℕ → Bool
attach_fails d create = next_fails d.plan || nat_lt (length d.blocks) (unwrap_or create d.size)

-- all bytes are 0
abbrev pub IsZero : List ℕ → Type 0
IsZero bytes = EachIndex bytes (λ i. slice_index bytes i ≡ 0)
