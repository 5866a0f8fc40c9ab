-- What is known inside a checkpoint and after it.
use Rattle.std.proofs.Common.{◌≡◌, ℕ, ◌⊎◌, inl, inr, List, length, Option, IfSome, Err, refl, sym, ap, subst, ◌∙◌}
use Rattle.bd_io.specs.Cause.{next_count}
use Rattle.bd_model.specs.Tree.{Tree}
use Rattle.bd_slots.specs.Layout.{IsTablePlace, image_blocks}
use Rattle.bd_device.specs.Blocks.{Image}
use Rattle.bd_device.specs.Changes.{StaysBut}
use Rattle.bd_device.specs.Device.{left_now, Goes, OnlyReads, LastFailed, IsImageCause}
use Rattle.bd_device.specs.declared.device.Device.{Ghosts}
use Rattle.bd_device.specs.declared.fault.ImageFault.{ImageFault}
use Rattle.bd_device.specs.declared.fault.ImageFault.TheVariants as image
use Rattle.bd_device.proofs.Moments.{goes_on, within}
use Rattle.bd_table.specs.Tables.{AreFreeSlots}
use Rattle.bd_super.specs.Published.{CanFollow, IsOfHalf}
use Rattle.bd_super.specs.declared.superblock.Half.{Half}
use Rattle.bd_super.specs.declared.superblock.Super.{Super}
use Rattle.bd_log.specs.Logs.{LogState}
use Rattle.bd_pager.specs.Moving.{Spills}
use Rattle.bd_pager.specs.Readers.{map_fault}
use Rattle.bd_pager.specs.Slots.{IsSpare}
use Rattle.bd_pager.specs.WritingOut.{write_faults_after, IsWrittenOut}
use Rattle.bd_pager.specs.Pagers.{Paged}
use Rattle.bd_image.specs.Standing.{IsAsBefore, IsOldOrNew}
use Rattle.bd_checkpoint.specs.Following.{super_after, IsNext}
use Rattle.bd_checkpoint.specs.Kept.{slots_held, IsOpenOn, AllAsBefore}
use Rattle.bd_checkpoint.specs.Recovering.{saved_of}
use Rattle.bd_checkpoint.specs.Saving.{IsStoppedOrGoesOn, IsCheckpointCause}
use Rattle.bd_checkpoint.specs.Spare.{WritesSpare}
use Rattle.bd_checkpoint.specs.Surviving.{IsOfHalfOrSpare}
use Rattle.bd_checkpoint.proofs.Slots.{stays_both, stays_wider}
use Rattle.bd_checkpoint.proofs.Handed.{IsSince, open_after, all_after, before_twice, from_before}
use Rattle.bd_checkpoint.proofs.Published.{same_slots, can_follow, is_next}
use Rattle.bd_checkpoint.proofs.Spare.{open_on, time_on, kept_on}
use Rattle.bd_checkpoint.proofs.Starting.{PartsAreOne}

-- ---- causes

pub written_cause : {D : Type 0} (g : Ghosts D) (old new : D) (live : Super) (fault : ImageFault) → IsImageCause g old new (λ b. ⊥) fault → (fault ≡ image.NoMemory → new ≡ old)
    → IsCheckpointCause g old new live (map_fault fault)
written_cause g old new live image.DeviceFault h same = h
written_cause g old new live (image.Damaged block) h same = h.0
written_cause g old new live image.NoMemory h same = same refl

pub failed_after : {D : Type 0} (g : Ghosts D) (old mid new : D) → g.fault_count mid ≡ g.fault_count old → LastFailed g mid new → LastFailed g old new
failed_after g old mid new kept failed = record { one = failed.one ∙ ap next_count kept; last = failed.last }

-- ---- what is written

module _ {D : Type 0} (g : Ghosts D) (old mid : Paged D) (half : Half) (spills : Spills g old mid) where
  -- slots, to which nodes and table go
  pub writes_mid : StaysBut (IsOfHalfOrSpare half old.spare) (g.contents old.dev) (g.contents mid.dev)
  writes_mid = stays_wider (IsSpare old.spare) (IsOfHalfOrSpare half old.spare) (g.contents old.dev) (g.contents mid.dev) (λ b not is. not (inr is)) spills.moves.elsewhere

  -- and the blocks of the half in which the superblock is published
  pub writes_last : (next : Half) (last : D) → next ≡ half → StaysBut (IsOfHalf next) (g.contents mid.dev) (g.contents last) → StaysBut (IsOfHalfOrSpare half old.spare) (g.contents old.dev) (g.contents last)
  writes_last next last same outside =
      stays_both (IsOfHalfOrSpare half old.spare) (g.contents old.dev) (g.contents mid.dev) (g.contents last) writes_mid
      (stays_wider (IsOfHalf half) (IsOfHalfOrSpare half old.spare) (g.contents mid.dev) (g.contents last) (λ b not is. not (inl is))
      (subst (λ (h : Half). StaysBut (IsOfHalf h) (g.contents mid.dev) (g.contents last)) same outside))

-- ---- slots are written

module _ {D : Type 0} (g : Ghosts D) (one : PartsAreOne) (old mid : Paged D) (since_mid : IsSince g mid.dev) (live : Super) (log : LogState) (given : IsOpenOn g old.dev live (saved_of old) log)
    (free : AreFreeSlots live.slots (slots_held (saved_of old)) old.spare) (spills : Spills g old mid) where
  writes : WritesSpare g old.dev mid.dev old.spare
  writes = record { count = spills.moves.stays.count; elsewhere = spills.moves.elsewhere; time = spills.moves.time }

  pub open_mid : IsOpenOn g mid.dev live (saved_of old) log
  open_mid = open_on g old.dev mid.dev since_mid old.spare writes one live (saved_of old) log given free

  kept_mid : AllAsBefore (left_now g old.dev) (left_now g mid.dev)
  kept_mid = kept_on g old.dev mid.dev since_mid old.spare writes one live (saved_of old) log given free

  pub time_mid : (tree : Tree) (count : ℕ) → Goes g old.dev mid.dev (IsOldOrNew (left_now g old.dev) tree count)
  time_mid tree count =
      within (IsAsBefore (left_now g old.dev)) (IsOldOrNew (left_now g old.dev) tree count) (time_on g old.dev mid.dev since_mid old.spare writes one live (saved_of old) log given free) (λ c is. inl is)

  pub stopped_mid : (fault : ImageFault) → IsImageCause g old.dev mid.dev (λ b. ⊥) fault → (fault ≡ image.NoMemory → mid.dev ≡ old.dev)
      → g.write_fault_count mid.dev ≡ write_faults_after {T = List ℕ} (g.write_fault_count old.dev) (Err fault) → IsStoppedOrGoesOn g old.dev mid.dev live (saved_of old) log old.spare
  stopped_mid image.DeviceFault h same count = inl count
  stopped_mid (image.Damaged block) h same count = absurd h.0
  stopped_mid image.NoMemory h same count = inr (record { known = open_mid; slots = spills.moves.elsewhere; kept = kept_mid; write_faults = count })

  -- ---- the superblock is published

  module _ (last : D) (since_last : IsSince g last) where
    pub time_last : (tree : Tree) (count : ℕ) → Goes g mid.dev last (IsOldOrNew (left_now g mid.dev) tree count) → Goes g old.dev last (IsOldOrNew (left_now g old.dev) tree count)
    time_last tree count published =
        goes_on (IsOldOrNew (left_now g old.dev) tree count) (IsOldOrNew (left_now g mid.dev) tree count) (time_mid tree count) published
        (from_before (left_now g old.dev) (left_now g mid.dev) tree count kept_mid)

    pub stopped_last : g.write_fault_count mid.dev ≡ g.write_fault_count old.dev
        → ((g.write_fault_count last ≡ next_count (g.write_fault_count mid.dev)) ⊎ OnlyReads g mid.dev last) → IsStoppedOrGoesOn g old.dev last live (saved_of old) log old.spare
    stopped_last kept (inl failed) = inl (failed ∙ ap next_count kept)
    stopped_last kept (inr reads) = inr (record {
      known = open_after g mid.dev last since_last reads live (saved_of old) log open_mid;
      slots = subst (λ (o : Option Image). StaysBut (IsSpare old.spare) (g.contents old.dev) o) (sym reads.kept) spills.moves.elsewhere;
      kept = before_twice (left_now g old.dev) (left_now g mid.dev) (left_now g last) kept_mid (all_after g mid.dev last since_last reads);
      write_faults = reads.write_faults ∙ kept;
    })

  -- ---- the superblock after the live one

  long : length mid.spare ≡ live.slots
  long = ap (λ (x : Paged D). length x.spare) spills.rest ∙ free.count

  module _ (at : List ℕ) (written : IsWrittenOut (g.contents mid.dev) at mid) where
    pub place_mid : IsTablePlace live.slots at
    place_mid = subst (λ (n : ℕ). IsTablePlace n at) long written.place

    module _ (next : Super) (count : ℕ) (next_is : next ≡ super_after live count at) where
      pub slots_mid : next.slots ≡ length mid.spare
      slots_mid = ap (λ (s : Super). s.slots) next_is ∙ sym long

      pub next_mid : IsNext live next
      next_mid = is_next live next count at next_is

      pub follows_mid : IfSome (g.contents mid.dev) (CanFollow next)
      follows_mid = can_follow (g.contents mid.dev) live next next_mid open_mid.live_is

      pub size_mid : g.block_count mid.dev ≡ image_blocks next.slots
      size_mid = open_mid.size ∙ ap image_blocks (sym (same_slots live next next_mid))
