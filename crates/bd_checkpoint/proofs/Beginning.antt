-- What is known while the first checkpoint is made.
use Rattle.std.proofs.Common.{◌≡◌, ℕ, ◌≤◌, List, length, Option, None, Some, IfSome, inl, sym, ap, subst, ◌∙◌, arith}
use Rattle.bd_slots.specs.Layout.{IsTablePlace, image_blocks}
use Rattle.bd_device.specs.Blocks.{Image}
use Rattle.bd_device.specs.Device.{left_now}
use Rattle.bd_device.specs.declared.device.Device.{Ghosts}
use Rattle.bd_super.specs.Superblocks.{version_number}
use Rattle.bd_super.specs.Live.{NoneIsCommitted}
use Rattle.bd_super.specs.Published.{CanFollow, AreSettled}
use Rattle.bd_super.specs.declared.superblock.Super.{Super}
use Rattle.bd_pager.specs.Moving.{Spills}
use Rattle.bd_pager.specs.WritingOut.{IsWrittenOut}
use Rattle.bd_pager.specs.Pagers.{Paged}
use Rattle.bd_image.specs.Fresh.{first_super}
use Rattle.bd_image.specs.Versions.{version_of}
use Rattle.bd_checkpoint.specs.Spare.{WritesSpare}
use Rattle.bd_checkpoint.proofs.Handed.{IsSince}
use Rattle.bd_checkpoint.proofs.Spare.{none_spare, settled_on}

can_be_first : (known : Option Image) (s : Super) → IfSome known NoneIsCommitted → IfSome known (CanFollow s)
can_be_first None s none = tt
can_be_first (Some image) s none = inl none

module _ {D : Type 0} (g : Ghosts D) (old mid : Paged D) (spills : Spills g old mid) (slots : ℕ) (old_long : length old.spare ≡ slots) where
  writes : WritesSpare g old.dev mid.dev old.spare
  writes = record { count = spills.moves.stays.count; elsewhere = spills.moves.elsewhere; time = spills.moves.time }

  pub settled_first : IsSince g mid.dev → AreSettled (g.contents old.dev) (left_now g old.dev) → AreSettled (g.contents mid.dev) (left_now g mid.dev)
  settled_first since = settled_on g old.dev mid.dev since old.spare writes

  pub follows_first : (first : Super) → IfSome (g.contents old.dev) NoneIsCommitted → IfSome (g.contents mid.dev) (CanFollow first)
  follows_first first none = can_be_first (g.contents mid.dev) first (none_spare old.spare (g.contents old.dev) (g.contents mid.dev) spills.moves.elsewhere none)

  long : length mid.spare ≡ slots
  long = ap (λ (x : Paged D). length x.spare) spills.rest ∙ old_long

  module _ (at : List ℕ) where
    pub place_first : IsWrittenOut (g.contents mid.dev) at mid → IsTablePlace slots at
    place_first written = subst (λ (n : ℕ). IsTablePlace n at) long written.place

    module _ (first : Super) (first_is : first ≡ first_super slots at) where
      pub slots_first : first.slots ≡ length mid.spare
      slots_first = ap (λ (s : Super). s.slots) first_is ∙ sym long

      pub today_first : 2 ≤ version_of first
      today_first = omega (arith, ap (λ (s : Super). version_number s.version) first_is)

      pub size_first : g.block_count old.dev ≡ image_blocks slots → g.block_count mid.dev ≡ image_blocks first.slots
      size_first size = spills.moves.stays.count ∙ size ∙ ap image_blocks (sym (ap (λ (s : Super). s.slots) first_is))
