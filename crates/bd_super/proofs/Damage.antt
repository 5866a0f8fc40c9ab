-- Damage is named exactly.
use Rattle.std.proofs.Common.{◌≡◌, ℕ, ◌≤◌, length, inl, inr, sym, ap, subst, ◌∙◌, arith}
use Rattle.bd_limits.specs.Limits.{slot_minimum}
use Rattle.bd_slots.specs.Layout.{image_blocks}
use Rattle.bd_device.specs.Blocks.{Image}
use Rattle.bd_super.specs.Superblocks.{commit_block, other}
use Rattle.bd_device.specs.Commits.{IsCommitted}
use Rattle.bd_super.specs.Live.{Holds, HoldsIn, IsLive, IsBad, IsNoImage, IsBadLater, IsDamaged, HasEqualEpochs}
use Rattle.bd_super.specs.Published.{CanFollow}
use Rattle.bd_super.specs.declared.superblock.Half.{Half}
use Rattle.bd_super.specs.declared.superblock.Half.TheVariants.{A, B}
use Rattle.bd_super.specs.declared.superblock.Super.{Super}
use Rattle.bd_super.proofs.LiveLemmas.{this_or_other, one_held}

-- in an image with a live superblock each committed half holds one
committed_holds : (image : Image) (s : Super) → IsLive image s → (half : Half) → IsCommitted image (commit_block half) → HoldsIn image half
committed_holds image s live half committed = elim (this_or_other half s.half) [
  | inl this ↦ (s, sym this, live.held)
  | inr beside ↦
      let older = live.newest (subst (λ h. IsCommitted image (commit_block h)) beside committed) in
      (older.0, older.1 ∙ sym beside, older.2)
]

-- and one of them holds the live one
a_half_is_committed : (image : Image) (s : Super) (half : Half) → s.half ≡ half → Holds image s → IsCommitted image (commit_block half)
a_half_is_committed image s half in_half held = subst (λ h. IsCommitted image (commit_block h)) in_half held.committed

not_no_image : (image : Image) (s : Super) → IsLive image s → ¬ IsNoImage image
not_no_image image s live (inl small) = omega (arith, small, live.held.size, live.held.fits.slots.0)
not_no_image image s live (inr none) = elim (this_or_other s.half A) [
  | inl first ↦ none.0 (a_half_is_committed image s A first live.held)
  | inr second ↦ none.1 (a_half_is_committed image s B second live.held)
]

not_equal_epochs : (image : Image) (s : Super) → IsLive image s → ¬ HasEqualEpochs image
not_equal_epochs image s live (a, b, first, second, ha, hb, same) = elim (this_or_other s.half A) [
  | inl in_first ↦
      let older = live.newest (subst (λ h. IsCommitted image (commit_block (other h))) (sym in_first) (a_half_is_committed image b B second hb)) in
      let is_a = one_held image s a (in_first ∙ sym first) live.held ha in
      let is_b = one_held image older.0 b (older.1 ∙ ap other in_first ∙ sym second) older.2 hb in
      omega (arith, older.3, ap (λ (t : Super). t.epoch) is_a, ap (λ (t : Super). t.epoch) is_b, same)
  | inr in_second ↦
      let older = live.newest (subst (λ h. IsCommitted image (commit_block (other h))) (sym in_second) (a_half_is_committed image a A first ha)) in
      let is_b = one_held image s b (in_second ∙ sym second) live.held hb in
      let is_a = one_held image older.0 a (older.1 ∙ ap other in_second ∙ sym first) older.2 ha in
      omega (arith, older.3, ap (λ (t : Super). t.epoch) is_a, ap (λ (t : Super). t.epoch) is_b, same)
]

-- an image with a live superblock has no damage
pub live_undamaged : (image : Image) (s : Super) (b : ℕ) → IsLive image s → ¬ IsDamaged image b
live_undamaged image s b live (inl no_image) = not_no_image image s live no_image.1
live_undamaged image s b live (inr (inl first)) = first.2.none (committed_holds image s live A first.2.committed)
live_undamaged image s b live (inr (inr (e, some, inl bad))) = bad.0.none (committed_holds image s live B bad.0.committed)
live_undamaged image s b live (inr (inr (e, some, inr equal))) = not_equal_epochs image s live equal

-- the first half isn't bad where the second one is named
first_not_bad : (image : Image) → IsBadLater image → ¬ IsBad image A
first_not_bad image (inl second) bad = second.1 bad
first_not_bad image (inr equal) bad = bad.none (equal.0, equal.2, equal.4)

-- one block is named
pub one_damage : (image : Image) (a b : ℕ) → IsDamaged image a → IsDamaged image b → a ≡ b
one_damage image a b (inl p) (inl q) = p.0 ∙ sym q.0
one_damage image a b (inl p) (inr (inl q)) = absurd (q.1 p.1)
one_damage image a b (inl p) (inr (inr q)) = absurd (q.1 p.1)
one_damage image a b (inr (inl p)) (inl q) = absurd (p.1 q.1)
one_damage image a b (inr (inl p)) (inr (inl q)) = p.0 ∙ sym q.0
one_damage image a b (inr (inl p)) (inr (inr q)) = absurd (first_not_bad image q.2 p.2)
one_damage image a b (inr (inr p)) (inl q) = absurd (p.1 q.1)
one_damage image a b (inr (inr p)) (inr (inl q)) = absurd (first_not_bad image p.2 q.2)
one_damage image a b (inr (inr p)) (inr (inr q)) = p.0 ∙ sym q.0

-- where the first block is named of an image that is large enough, no half is committed
pub first_block : (image : Image) (s : Super) → IsDamaged image 0 → image_blocks slot_minimum ≤ length image → CanFollow s image
first_block image s (inl (e, inl small)) large = absurd (omega (arith, small, large))
first_block image s (inl (e, inr none)) large = inl none
first_block image s (inr (inl first)) large = absurd (omega (arith, first.0))
first_block image s (inr (inr second)) large = absurd (omega (arith, second.0))
