-- From the body that was settled to the superblock that is live.
use Rattle.std.proofs.Common.{◌≡◌, ◌≢◌, ℕ, ◌<◌, List, Option, None, Some, IfSome, length, inl, inr, refl, sym, ap, subst, ◌∙◌, arith}
use Rattle.std.specs.Prelude.{slice_index, slice_set}
use Rattle.std.proofs.lemmas.Bool.{cases_eq}
use Rattle.std.proofs.lemmas.List.{length-set}
use Rattle.bd_slots.specs.Layout.{image_blocks}
use Rattle.bd_device.specs.Blocks.{Image, HasBlocks, with_block}
use Rattle.bd_device.specs.Changes.{SameBut, StaysBut}
use Rattle.bd_device.specs.Moments.{TornAt}
use Rattle.bd_device.proofs.Changes.{stays_both, stays_written}
use Rattle.bd_super.specs.Superblocks.{IsSuper, super_body, commit_block, body_block, log_block, other}
use Rattle.bd_device.specs.Commits.{block_at, IsCommitted}
use Rattle.bd_super.specs.Live.{HoldsOlder, NoneIsCommitted}
use Rattle.bd_super.specs.Published.{IsOfHalf, IsStaged, IsPublished, IsStagedOrPublished, CanFollow}
use Rattle.bd_super.specs.declared.superblock.Half.{Half}
use Rattle.bd_super.specs.declared.superblock.Half.TheVariants.{A, B}
use Rattle.bd_super.specs.declared.superblock.Super.{Super}
use Rattle.bd_super.proofs.LiveLemmas.{same_halves, other_differs, still_held, block_other, block_same}
use Rattle.bd_super.proofs.Staging.{staged_torn, same_flag, torn_log, torn_body, commit_not_log, commit_not_body, body_not_log, body_not_commit, same_commit_block, same_body_block, commit_first}

pub log_first : (h : Half) → log_block h < 132
log_first A = omega arith
log_first B = omega arith

body_first : (h : Half) → body_block h < 4
body_first A = omega arith
body_first B = omega arith

none_committed : (image : Image) → NoneIsCommitted image → (h : Half) → ¬ IsCommitted image (commit_block h)
none_committed image none A = none.0
none_committed image none B = none.1

-- the superblock only has to be committed
pub record IsReady (s : Super) (known : Option Image) (d : Image) : Type 0 where
  pub outside : StaysBut (IsOfHalf s.half) known (Some d)
  pub size : length d ≡ image_blocks s.slots
  pub body : block_at d (body_block s.half) ≡ super_body s
  pub closed : ¬ IsCommitted d (commit_block s.half)
  pub log : ¬ IsCommitted d (log_block s.half)

-- another block stays not committed
closed_other : (d : Image) (b a : ℕ) (bytes : List ℕ) → a ≢ b → ¬ IsCommitted d a → ¬ IsCommitted (slice_set d b bytes) a
closed_other d b a bytes ne closed is = closed (sym (ap (λ l. slice_index l 0) (block_other d b a bytes ne)) ∙ is)

-- it is so once the half is taken back, its log closed and the body settled
pub ready : (known taken logged settled : Option Image) (s : Super) (count : ℕ) (bytes : List ℕ) → StaysBut (IsOfHalf s.half) known taken
    → IfSome taken (λ image. ¬ IsCommitted image (commit_block s.half)) → logged ≡ with_block (log_block s.half) bytes taken → slice_index bytes 0 ≢ 1
    → settled ≡ with_block (body_block s.half) (super_body s) logged → IfSome settled (HasBlocks count) → count ≡ image_blocks s.slots
    → IfSome settled (IsReady s known)
ready known None logged settled s count bytes outside closed log shut body shape size =
    let none : settled ≡ None = body ∙ ap (with_block (body_block s.half) (super_body s)) log in
    subst (λ (o : Option Image). IfSome o (IsReady s known)) (sym none) tt
ready known (Some m) logged settled s count bytes outside closed log shut body shape size =
    let half = s.half in
    let d1 = slice_set m (log_block half) bytes in
    let d = slice_set d1 (body_block half) (super_body s) in
    let some : settled ≡ Some d = body ∙ ap (with_block (body_block half) (super_body s)) log in
    let blocks : HasBlocks count d = subst (λ (o : Option Image). IfSome o (HasBlocks count)) some shape in
    let whole : length d ≡ image_blocks s.slots = blocks.count_is ∙ size in
    let l1 : length d ≡ length d1 = length-set d1 (body_block half) (super_body s) in
    let l0 : length d1 ≡ length m = length-set m (log_block half) bytes in
    let shut1 : ¬ IsCommitted d1 (log_block half) = λ is.
    shut (sym (ap (λ l. slice_index l 0) (block_same m (log_block half) bytes (omega (arith, whole, l1, l0, log_first half)))) ∙ is) in
    subst (λ (o : Option Image). IfSome o (IsReady s known)) (sym some)
    (record {
      outside = stays_both (IsOfHalf half) known (Some m) (Some d) outside
          (stays_both (IsOfHalf half) (Some m) (Some d1) (Some d) (stays_written (IsOfHalf half) (log_block half) bytes (Some m) (Some d1) (inr (inr refl)) refl)
          (stays_written (IsOfHalf half) (body_block half) (super_body s) (Some d1) (Some d) (inr (inl refl)) refl));
      size = whole;
      body = block_same d1 (body_block half) (super_body s) (omega (arith, whole, l1, body_first half));
      closed = closed_other d1 (body_block half) (commit_block half) (super_body s) (commit_not_body half half)
          (closed_other m (log_block half) (commit_block half) bytes (commit_not_log half half) closed);
      log = closed_other d1 (body_block half) (log_block half) (super_body s) (λ e. body_not_log half half (sym e)) shut1;
    })

-- committed, it is published
pub committed_ready : (known : Option Image) (s : Super) (d : Image) (bytes : List ℕ) → IsReady s known d → IfSome known (CanFollow s) → IsSuper s → slice_index bytes 0 ≡ 1
    → IsPublished s known (slice_set d (commit_block s.half) bytes)
committed_ready None s d bytes is follows fits one = absurd is.outside
committed_ready (Some old) s d bytes is follows fits one =
    let half = s.half in
    let c = slice_set d (commit_block half) bytes in
    let size : length c ≡ length d = length-set d (commit_block half) bytes in
    let lt : commit_block half < length d = omega (arith, is.size, commit_first half) in
    let outside : SameBut (IsOfHalf half) old c = stays_both (IsOfHalf half) (Some old) (Some d) (Some c) is.outside (stays_written (IsOfHalf half) (commit_block half) bytes (Some d) (Some c) (inl refl) refl) in
    let commit_outside : ¬ IsOfHalf half (commit_block (other half)) = λ e. elim e [
      | inl same ↦ other_differs half (same_commit_block (other half) half same)
      | inr (inl same) ↦ commit_not_body (other half) half same
      | inr (inr same) ↦ commit_not_log (other half) half same
    ] in
    let body_outside : ¬ IsOfHalf half (body_block (other half)) = λ e. elim e [
      | inl same ↦ body_not_commit (other half) half same
      | inr (inl same) ↦ other_differs half (same_body_block (other half) half same)
      | inr (inr same) ↦ body_not_log (other half) half same
    ] in
    record {
      outside = outside;
      live = record {
        held = record {
          committed = ap (λ l. slice_index l 0) (block_same d (commit_block half) bytes lt) ∙ one;
          fits = fits;
          body = block_other d (commit_block half) (body_block half) bytes (body_not_commit half half) ∙ is.body;
          size = size ∙ is.size;
        };
        newest = λ beside.
            let was : IsCommitted old (commit_block (other half)) = sym (ap (λ l. slice_index l 0) (outside.others (commit_block (other half)) commit_outside)) ∙ beside in
            elim follows as (λ _. HoldsOlder c (other half) s.epoch) [
              | inl none ↦ absurd (none_committed old none (other half) was)
              | inr older ↦ (
                older.0,
                older.2,
                still_held old c older.0 outside.size (subst (λ h. IsCommitted c (commit_block h)) (sym older.2) beside)
                    (subst (λ h. block_at c (body_block h) ≡ block_at old (body_block h)) (sym older.2) (outside.others (body_block (other half)) body_outside)) older.1.held,
                older.3,
              )
            ];
      };
      log = closed_other d (commit_block half) (log_block half) bytes (λ e. commit_not_log half half (sym e)) is.log;
    }

-- a torn commit block leaves it staged or published
pub torn_commit : (known contents : Option Image) (s : Super) (before left : Image → Type 0) → IfSome contents (IsReady s known) → ((image : Image) → left image → contents ≡ Some image)
    → ((image : Image) → left image → IsStaged s.half before image) → IfSome known (CanFollow s) → IsSuper s
    → (c : Image) → TornAt (commit_block s.half) left c → IsStagedOrPublished s known before c
torn_commit known contents s before left is only staged follows fits c (d, was, bytes, whole, e) =
    let half = s.half in
    let d_ready : IsReady s known d = subst (λ (o : Option Image). IfSome o (IsReady s known)) (only d was) is in
    subst (IsStagedOrPublished s known before) (sym e)
    (elim (cases_eq (slice_index bytes 0) 1) [
      | inl one ↦ inr (committed_ready known s d bytes d_ready follows fits one)
      | inr closed ↦ inl (staged_torn half before d (commit_block half) bytes (inl refl) (staged d was)
          (same_halves d (slice_set d (commit_block half) bytes)
          (same_flag d half bytes (omega (arith, d_ready.size, commit_first half)) (λ was_one. absurd (d_ready.closed was_one), λ one. absurd (closed one)))))
    ])

-- a torn block of the log or of a body that isn't committed leaves it staged
pub torn_log_staged : (half : Half) (before left : Image → Type 0) → ((image : Image) → left image → IsStaged half before image) → (c : Image) → TornAt (log_block half) left c → IsStaged half before c
torn_log_staged half before left staged c (d, was, bytes, whole, e) =
    subst (IsStaged half before) (sym e)
    (staged_torn half before d (log_block half) bytes (inr (inr refl)) (staged d was) (same_halves d (slice_set d (log_block half) bytes) (torn_log d half bytes)))

pub torn_body_staged : (half : Half) (contents : Option Image) (before left : Image → Type 0) → IfSome contents (λ image. ¬ IsCommitted image (commit_block half))
    → ((image : Image) → left image → contents ≡ Some image) → ((image : Image) → left image → IsStaged half before image) → (c : Image) → TornAt (body_block half) left c → IsStaged half before c
torn_body_staged half contents before left closed only staged c (d, was, bytes, whole, e) =
    let shut : ¬ IsCommitted d (commit_block half) = subst (λ (o : Option Image). IfSome o (λ image. ¬ IsCommitted image (commit_block half))) (only d was) closed in
    subst (IsStaged half before) (sym e)
    (staged_torn half before d (body_block half) bytes (inr (inl refl)) (staged d was) (same_halves d (slice_set d (body_block half) bytes) (torn_body d half bytes shut)))

-- with the log closed the half is still taken back
pub closed_log : (taken logged : Option Image) (half : Half) (bytes : List ℕ) → IfSome taken (λ image. ¬ IsCommitted image (commit_block half)) → logged ≡ with_block (log_block half) bytes taken
    → IfSome logged (λ image. ¬ IsCommitted image (commit_block half))
closed_log None logged half bytes closed log = subst (λ (o : Option Image). IfSome o (λ image. ¬ IsCommitted image (commit_block half))) (sym log) tt
closed_log (Some m) logged half bytes closed log =
    subst (λ (o : Option Image). IfSome o (λ image. ¬ IsCommitted image (commit_block half))) (sym log) (closed_other m (log_block half) (commit_block half) bytes (commit_not_log half half) closed)

-- what reads give in the end is published
pub published_known : (known ready_now new : Option Image) (s : Super) (bytes : List ℕ) → IfSome ready_now (IsReady s known) → new ≡ with_block (commit_block s.half) bytes ready_now
    → IfSome known (CanFollow s) → IsSuper s → slice_index bytes 0 ≡ 1 → IfSome new (IsPublished s known)
published_known known None new s bytes is e follows fits one = subst (λ (o : Option Image). IfSome o (IsPublished s known)) (sym e) tt
published_known known (Some d) new s bytes is e follows fits one =
    subst (λ (o : Option Image). IfSome o (IsPublished s known)) (sym e) (committed_ready known s d bytes is follows fits one)
