-- When the same superblock is live in two images.
use Rattle.std.proofs.Common.{◌≡◌, ◌≢◌, ◌↔◌, ℕ, ◌<◌, ◌⊎◌, List, [], length, inl, inr, refl, sym, ap, subst, ◌∙◌, arith}
use Rattle.std.specs.Prelude.{slice_index, slice_set}
use Rattle.std.proofs.lemmas.List.{get_or-set_other, get_or-set_same}
use Rattle.bd_device.specs.Blocks.{Image}
use Rattle.bd_super.specs.Superblocks.{commit_block, body_block, other}
use Rattle.bd_device.specs.Commits.{block_at, IsCommitted}
use Rattle.bd_super.specs.Live.{Holds, IsLive}
use Rattle.bd_super.specs.Published.{SameLive, SameSuperblocks}
use Rattle.bd_super.specs.declared.superblock.Half.{Half}
use Rattle.bd_super.specs.declared.superblock.Half.TheVariants.{A, B}
use Rattle.bd_super.specs.declared.superblock.Super.{Super}
use Rattle.bd_super.proofs.Bodies.{one_super}

-- a half is the one or the other
pub this_or_other : (h half : Half) → (h ≡ half) ⊎ (h ≡ other half)
this_or_other A A = inl refl
this_or_other A B = inr refl
this_or_other B A = inr refl
this_or_other B B = inl refl

pub other_differs : (half : Half) → other half ≢ half
other_differs A e = absurd (omega (arith, ap commit_block e))
other_differs B e = absurd (omega (arith, ap commit_block e))

pub other_twice : (half : Half) → other (other half) ≡ half
other_twice A = refl
other_twice B = refl

-- one half holds one superblock
pub one_held : (image : Image) (a b : Super) → a.half ≡ b.half → Holds image a → Holds image b → a ≡ b
one_held image a b half ha hb =
    one_super a b ha.fits hb.fits half (sym ha.body ∙ ap (λ h. block_at image (body_block h)) half ∙ hb.body)

-- one superblock is live
pub one_live : (image : Image) (a b : Super) → IsLive image a → IsLive image b → a ≡ b
one_live image a b la lb =
    elim (this_or_other b.half a.half) [
      | inl same ↦ one_held image a b (sym same) la.held lb.held
      | inr beside ↦
          let older = la.newest (subst (λ h. IsCommitted image (commit_block h)) beside lb.held.committed) in
          let b_older : b.epoch < a.epoch = subst (λ (t : Super). t.epoch < a.epoch) (one_held image older.0 b (older.1 ∙ sym beside) older.2 lb.held) older.3 in
          let back : other b.half ≡ a.half = ap other beside ∙ other_twice a.half in
          let newer = lb.newest (subst (λ h. IsCommitted image (commit_block h)) (sym back) la.held.committed) in
          let a_older : a.epoch < b.epoch = subst (λ (t : Super). t.epoch < b.epoch) (one_held image newer.0 a (newer.1 ∙ back) newer.2 la.held) newer.3 in
          absurd (omega (arith, a_older, b_older))
    ]

-- a superblock stands in an image of the same size with the same body, where it is still committed
pub still_held : (d c : Image) (s : Super) → length c ≡ length d → IsCommitted c (commit_block s.half)
    → block_at c (body_block s.half) ≡ block_at d (body_block s.half) → Holds d s → Holds c s
still_held d c s size committed body held =
    record { committed = committed; fits = held.fits; body = body ∙ held.body; size = size ∙ held.size }

-- what is live stays so where its half is still committed, the other one isn't newly so, and the bodies of committed halves stay
pub still_live : (d c : Image) (s : Super) → length c ≡ length d → IsCommitted c (commit_block s.half)
    → (IsCommitted c (commit_block (other s.half)) → IsCommitted d (commit_block (other s.half)))
    → ((h : Half) → IsCommitted d (commit_block h) → IsCommitted c (commit_block h) → block_at c (body_block h) ≡ block_at d (body_block h))
    → IsLive d s → IsLive c s
still_live d c s size committed no_more bodies live = record {
  held = still_held d c s size committed (bodies s.half live.held.committed committed) live.held;
  newest = λ beside.
      let older = live.newest (no_more beside) in
      let in_half : IsCommitted c (commit_block older.0.half) = subst (λ h. IsCommitted c (commit_block h)) (sym older.1) beside in
      (older.0, older.1, still_held d c older.0 size in_half (bodies older.0.half older.2.committed in_half) older.2, older.3);
}

-- the same halves are committed, and have the same bodies
pub record SameHalves (d c : Image) : Type 0 where
  pub size : length c ≡ length d
  pub committed : (h : Half) → IsCommitted d (commit_block h) ↔ IsCommitted c (commit_block h)
  pub bodies : (h : Half) → IsCommitted d (commit_block h) → block_at c (body_block h) ≡ block_at d (body_block h)

-- then the same superblock is live
pub same_halves : (d c : Image) → SameHalves d c → SameLive d c
same_halves d c same s = (
  λ live. still_live d c s same.size ((same.committed s.half).0 live.held.committed) (same.committed (other s.half)).1 (λ h was _. same.bodies h was) live,
  λ live. still_live c d s (sym same.size) ((same.committed s.half).1 live.held.committed) (same.committed (other s.half)).0 (λ h _ was. sym (same.bodies h was)) live,
)

-- the blocks of a superblock are among the first four
superblocks_first : (h : Half) → (commit_block h < 4) × (body_block h < 4)
superblocks_first A = (omega arith, omega arith)
superblocks_first B = (omega arith, omega arith)

-- images with the same superblocks
pub same_superblocks : (d c : Image) → SameSuperblocks d c → SameHalves d c
same_superblocks d c same = record {
  size = same.size;
  committed = λ h.
      let e = ap (λ l. slice_index l 0) (same.blocks (commit_block h) (superblocks_first h).0) in
      (λ was. e ∙ was, λ is. sym e ∙ is);
  bodies = λ h _. same.blocks (body_block h) (superblocks_first h).1;
}

-- a block of a changed image
pub block_other : (d : Image) (b a : ℕ) (bytes : List ℕ) → a ≢ b → block_at (slice_set d b bytes) a ≡ block_at d a
block_other d b a bytes ne = get_or-set_other d b a bytes [] ne

pub block_same : (d : Image) (b : ℕ) (bytes : List ℕ) → b < length d → block_at (slice_set d b bytes) b ≡ bytes
block_same d b bytes lt = get_or-set_same d b bytes [] lt
