-- What a torn block of the half in which a superblock is published changes.
use Rattle.std.proofs.Common.{◌≡◌, ◌≢◌, ◌↔◌, ℕ, ◌<◌, List, Option, None, Some, IfSome, Result, Ok, Err, OnOk, OnErr, length, inl, inr, refl, sym, ap, subst, ◌∙◌, arith}
use Rattle.std.specs.Prelude.{slice_get, slice_index, slice_set, IsSomeAnd}
use Rattle.std.proofs.lemmas.List.{length-set}
use Rattle.std.proofs.lemmas.Bool.{cases_eq}
use Rattle.bd_device.specs.Blocks.{Image, HasBlocks, with_block}
use Rattle.bd_device.specs.Moments.{TornAt, IsOnly}
use Rattle.bd_super.specs.Superblocks.{commit_block, body_block, log_block, other}
use Rattle.bd_device.specs.Commits.{block_at, IsCommitted}
use Rattle.bd_super.specs.Live.{Holds, IsLive}
use Rattle.bd_super.specs.Published.{IsOfHalf, SameLive, IsStaged, AreSettled, IsLiveBeside, SameSuperblocks}
use Rattle.bd_super.specs.declared.superblock.Half.{Half}
use Rattle.bd_super.specs.declared.superblock.Half.TheVariants.{A, B}
use Rattle.bd_super.specs.declared.superblock.Super.{Super}
use Rattle.bd_super.proofs.Halves.{block_read}
use Rattle.bd_super.proofs.LiveLemmas.{SameHalves, same_halves, same_superblocks, this_or_other, other_differs, other_twice, one_held, one_live, still_held, still_live, block_other, block_same}

pub commit_not_log : (h half : Half) → commit_block h ≢ log_block half
commit_not_log A A e = omega arith
commit_not_log A B e = omega arith
commit_not_log B A e = omega arith
commit_not_log B B e = omega arith

pub body_not_log : (h half : Half) → body_block h ≢ log_block half
body_not_log A A e = omega arith
body_not_log A B e = omega arith
body_not_log B A e = omega arith
body_not_log B B e = omega arith

pub commit_not_body : (h half : Half) → commit_block h ≢ body_block half
commit_not_body A A e = omega arith
commit_not_body A B e = omega arith
commit_not_body B A e = omega arith
commit_not_body B B e = omega arith

pub body_not_commit : (h half : Half) → body_block h ≢ commit_block half
body_not_commit h half e = commit_not_body half h (sym e)

pub same_body_block : (h half : Half) → body_block h ≡ body_block half → h ≡ half
same_body_block A A e = refl
same_body_block A B e = absurd (omega arith)
same_body_block B A e = absurd (omega arith)
same_body_block B B e = refl

pub same_commit_block : (h half : Half) → commit_block h ≡ commit_block half → h ≡ half
same_commit_block A A e = refl
same_commit_block A B e = absurd (omega arith)
same_commit_block B A e = absurd (omega arith)
same_commit_block B B e = refl

-- a commit block that isn't the torn one says the same
flag_other : (d : Image) (b a : ℕ) (bytes : List ℕ) → a ≢ b → IsCommitted d a ↔ IsCommitted (slice_set d b bytes) a
flag_other d b a bytes ne =
    let e = ap (λ l. slice_index l 0) (block_other d b a bytes ne) in
    (λ was. e ∙ was, λ is. sym e ∙ is)

-- the first block of a log is none of a superblock
pub torn_log : (d : Image) (half : Half) (bytes : List ℕ) → SameHalves d (slice_set d (log_block half) bytes)
torn_log d half bytes = record {
  size = length-set d (log_block half) bytes;
  committed = λ h. flag_other d (log_block half) (commit_block h) bytes (commit_not_log h half);
  bodies = λ h _. block_other d (log_block half) (body_block h) bytes (body_not_log h half);
}

-- the body of a half that isn't committed is no superblock's
pub torn_body : (d : Image) (half : Half) (bytes : List ℕ) → ¬ IsCommitted d (commit_block half) → SameHalves d (slice_set d (body_block half) bytes)
torn_body d half bytes closed = record {
  size = length-set d (body_block half) bytes;
  committed = λ h. flag_other d (body_block half) (commit_block h) bytes (commit_not_body h half);
  bodies = λ h was. block_other d (body_block half) (body_block h) bytes (λ e. closed (subst (λ k. IsCommitted d (commit_block k)) (same_body_block h half e) was));
}

-- a commit block that says the same changes nothing
pub same_flag : (d : Image) (half : Half) (bytes : List ℕ) → commit_block half < length d → (IsCommitted d (commit_block half) ↔ (slice_index bytes 0 ≡ 1))
    → SameHalves d (slice_set d (commit_block half) bytes)
same_flag d half bytes lt same = record {
  size = length-set d (commit_block half) bytes;
  committed = λ h. elim (this_or_other h half) [
    | inl this ↦
        let now = ap (λ l. slice_index l 0) (block_same d (commit_block half) bytes lt) in
        subst (λ k. IsCommitted d (commit_block k) ↔ IsCommitted (slice_set d (commit_block half) bytes) (commit_block k)) (sym this)
        (λ was. now ∙ same.0 was, λ is. same.1 (sym now ∙ is))
    | inr beside ↦ flag_other d (commit_block half) (commit_block h) bytes (λ e. other_differs half (sym beside ∙ same_commit_block h half e))
  ];
  bodies = λ h _. block_other d (commit_block half) (body_block h) bytes (body_not_commit h half);
}

-- where the other half is live, a half may be closed
pub closed_beside : (d : Image) (half : Half) (l : Super) (bytes : List ℕ) → commit_block half < length d → IsLive d l → l.half ≡ other half → slice_index bytes 0 ≢ 1
    → SameLive d (slice_set d (commit_block half) bytes)
closed_beside d half l bytes lt live beside closed s =
    let c = slice_set d (commit_block half) bytes in
    let size : length c ≡ length d = length-set d (commit_block half) bytes in
    let shut : ¬ IsCommitted c (commit_block half) = λ is. closed (sym (ap (λ l. slice_index l 0) (block_same d (commit_block half) bytes lt)) ∙ is) in
    let bodies : (h : Half) → block_at c (body_block h) ≡ block_at d (body_block h) = λ h. block_other d (commit_block half) (body_block h) bytes (body_not_commit h half) in
    let flag : IsCommitted d (commit_block (other half)) ↔ IsCommitted c (commit_block (other half)) =
    flag_other d (commit_block half) (commit_block (other half)) bytes (λ e. other_differs half (same_commit_block (other half) half e)) in (
      λ was.
          let same : s ≡ l = one_live d s l was live in
          let in_half : s.half ≡ other half = ap (λ (t : Super). t.half) same ∙ beside in
          still_live d c s size (subst (λ h. IsCommitted c (commit_block h)) (sym in_half) (flag.0 (subst (λ h. IsCommitted d (commit_block h)) in_half was.held.committed)))
          (λ is. absurd (shut (subst (λ h. IsCommitted c (commit_block h)) (ap other in_half ∙ other_twice half) is))) (λ h _ _. bodies h) was,
      λ is.
          elim (this_or_other s.half half) [
            | inl this ↦ absurd (shut (subst (λ h. IsCommitted c (commit_block h)) this is.held.committed))
            | inr in_half ↦
                let held : Holds d s =
                still_held c d s (sym size) (subst (λ h. IsCommitted d (commit_block h)) (sym in_half) (flag.1 (subst (λ h. IsCommitted c (commit_block h)) in_half is.held.committed))) (sym (bodies s.half))
                is.held in
                subst (IsLive d) (one_held d l s (beside ∙ sym in_half) live.held held) live
          ],
    )

pub commit_first : (h : Half) → commit_block h < 4
commit_first A = omega arith
commit_first B = omega arith

-- an image of before is staged
pub staged_same : (half : Half) (before : Image → Type 0) (d : Image) → before d → IsStaged half before d
staged_same half before d was =
    record { old = d; was = was; outside = record { size = refl; others = λ b _. refl }; live = λ s. (λ l. l, λ l. l) }

-- a staged image stays so with a torn block of the half, where the same superblock is live
pub staged_torn : (half : Half) (before : Image → Type 0) (d : Image) (b : ℕ) (bytes : List ℕ) → IsOfHalf half b → IsStaged half before d
    → SameLive d (slice_set d b bytes) → IsStaged half before (slice_set d b bytes)
staged_torn half before d b bytes of_half staged same = record {
  old = staged.old;
  was = staged.was;
  outside = record {
    size = length-set d b bytes ∙ staged.outside.size;
    others = λ a outside. block_other d b a bytes (λ e. outside (subst (IsOfHalf half) (sym e) of_half)) ∙ staged.outside.others a outside;
  };
  live = λ s. (λ l. (same s).0 ((staged.live s).0 l), λ l. (staged.live s).1 ((same s).1 l));
}

-- what holds of the superblocks that reads give holds of each image that a crash leaves: a half whose other one is live may be taken back
pub torn_back : (known : Option Image) (half : Half) (before : Image → Type 0) → AreSettled known before
    → IfSome known (λ image. IsCommitted image (commit_block half)) → IfSome known (λ image. IsCommitted image (commit_block half) → IsLiveBeside half image)
    → (c : Image) → TornAt (commit_block half) before c → IsStaged half before c
torn_back None half before settled committed beside c torn = absurd (settled torn.0 torn.1)
torn_back (Some image) half before settled committed beside c (d, was, bytes, whole, e) =
    let same = same_superblocks image d (settled d was) in
    let l = beside committed in
    let live : IsLive d l.0 = (same_halves image d same l.0).0 l.1 in
    let lt : commit_block half < length d = omega (arith, live.held.size, commit_first half) in
    let is : IsCommitted d (commit_block half) = (same.committed half).0 committed in
    let kept : SameLive d (slice_set d (commit_block half) bytes) = elim (cases_eq (slice_index bytes 0) 1) [
      | inl open_still ↦ same_halves d (slice_set d (commit_block half) bytes) (same_flag d half bytes lt (λ _. open_still, λ _. is))
      | inr closed ↦ closed_beside d half l.0 bytes lt live l.2 closed
    ] in
    subst (IsStaged half before) (sym e) (staged_torn half before d (commit_block half) bytes (inl refl) (staged_same half before d was) kept)

-- after a block that isn't committed was written, it isn't
pub written_closed : (old new : Option Image) (b count : ℕ) (bytes : List ℕ) → new ≡ with_block b bytes old → IfSome new (HasBlocks count) → b < count
    → slice_index bytes 0 ≢ 1 → IfSome new (λ image. ¬ IsCommitted image b)
written_closed None new b count bytes e shape lt closed = subst (λ (n : Option Image). IfSome n (λ image. ¬ IsCommitted image b)) (sym e) tt
written_closed (Some image) new b count bytes e shape lt closed =
    let now : HasBlocks count (slice_set image b bytes) = subst (λ (n : Option Image). IfSome n (HasBlocks count)) e shape in
    subst (λ (n : Option Image). IfSome n (λ image. ¬ IsCommitted image b)) (sym e)
    (λ is. closed (sym (ap (λ l. slice_index l 0) (block_same image b bytes (omega (arith, lt, now.count_is, length-set image b bytes)))) ∙ is))

-- what follows from either outcome
pub either_way : {T E P Q S : Type 0} (r : Result T E) → OnOk r P → OnErr r Q → (P → S) → (Q → S) → S
either_way (Ok x) p q at_ok at_err = at_ok p
either_way (Err e) p q at_ok at_err = at_err q

-- a block whose first byte is 1 was read
pub read_committed : (known : Option Image) (b : ℕ) (bytes : List ℕ) → IfSome known (λ image. slice_get image b ≡ Some bytes) → slice_index bytes 0 ≡ 1
    → IfSome known (λ image. IsCommitted image b)
read_committed None b bytes read first = tt
read_committed (Some image) b bytes read first = ap (λ l. slice_index l 0) (block_read image b bytes read) ∙ first

-- where a crash leaves only what reads give, the superblocks are settled
pub only_settled : (known : Option Image) (left : Image → Type 0) → IsOnly known left → AreSettled known left
only_settled known left only c was =
    subst (λ (o : Option Image). IsSomeAnd o (λ image. SameSuperblocks image c)) (sym (only c was)) (record { size = refl; blocks = λ b lt. refl })
