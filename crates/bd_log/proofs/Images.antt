-- How a commit changes an image.
use Rattle.std.proofs.Common.{◌≡◌, ℕ, ◌+◌, ◌*◌, ◌<◌, ◌≤◌, List, [], length, take, drop, sym, ap, subst, ◌∙◌, arith, Option, None, Some, ◌⊎◌, inl, inr}
use Rattle.std.proofs.lemmas.List.{drop-set-lt, take-set, drop-set-add, get_or-set_same, get_or-set_other, get_or_past, length-set}
use Rattle.std.proofs.lemmas.Bool.{cases_lt, cases_eq}
use Rattle.std.proofs.Math.Seq.{take-length}
use Rattle.std.specs.List.{concat}
use Rattle.std.specs.Prelude.{slice_set, slice_index_or}
use Rattle.std.specs.Prelude.{IfSome, slice_index}
use Rattle.bd_device.specs.Blocks.{Image, HasBlocks, with_block}
use Rattle.bd_device.specs.Changes.{SameBut, IsBeforeBut, IsInRange, bytes_at}
use Rattle.bd_device.specs.Moments.{Elapses, TornAt}
use Rattle.bd_device.proofs.Changes.{same_wider, same_then, same_set, before_wider, before_now, write_more}
use Rattle.bd_device.proofs.Moments.{goes_on, within, after}
use Rattle.bd_device.specs.Commits.{IsCommitted}
use Rattle.bd_log.specs.Commits.{IsWholeAt, IsNoneOrWhole, WasWritten}

-- a block replaced after the others changes none of them
bytes_before : (image : Image) (b count : ℕ) (block : List ℕ) → bytes_at (slice_set image (b + count) block) b count ≡ bytes_at image b count
bytes_before image b count block = ap (λ l. concat (take count l)) (drop-set-add b image count block) ∙ ap concat (take-set (drop b image) count block)

-- a commit block that begins with another byte isn't committed
not_committed : (image : Image) (b : ℕ) (block : List ℕ) → slice_index block 0 ≡ 0 → ¬ IsCommitted (slice_set image b block) b
not_committed image b block zero_byte is =
    elim (cases_lt b (length image)) [
      | inl lt ↦ let there = ap (λ (l : List ℕ). slice_index l 0) (get_or-set_same image b block [] lt) in absurd (omega (arith, there, zero_byte, is))
      | inr le ↦ let past = ap (λ (l : List ℕ). slice_index l 0) (get_or_past (slice_set image b block) b [] (omega (arith, length-set image b block, le))) in absurd (omega (arith, past, is))
    ]

-- while the body is written, nothing is committed
pub none_yet : (commit blocks : ℕ) (bytes : List ℕ) (before : Image → Type 0) (image : Image)
    → IsBeforeBut (IsInRange (commit + 1) (commit + blocks + 2)) before image → IsNoneOrWhole commit blocks bytes before image
none_yet commit blocks bytes before image h =
    let same = h.2.others commit (λ is. omega (arith, is.0)) in (
      h.0,
      h.1,
      same_wider (IsInRange (commit + 1) (commit + blocks + 2)) (IsInRange commit (commit + blocks + 2)) (λ i is. (omega (arith, is.0), is.1)) h.2,
      inl (λ closed is. closed (sym (ap (λ (l : List ℕ). slice_index l 0) same) ∙ is)),
    )

-- What is known once the body is settled: the body, and that no batch follows it.
pub record IsSettled (commit blocks : ℕ) (bytes : List ℕ) (image : Image) : Type 0 where
  pub body : bytes_at image (commit + 1) blocks ≡ bytes
  pub ends : ¬ IsCommitted image (commit + 1 + blocks)
  pub room : commit < length image

pub settled : (count commit blocks : ℕ) (bytes block : List ℕ) (old new : Option Image) (image : Image) → commit < count → blocks * 4096 ≡ length bytes
    → IfSome old (λ image. bytes_at image (commit + 1) blocks ≡ take (blocks * 4096) bytes) → slice_index block 0 ≡ 0
    → new ≡ with_block (commit + 1 + blocks) block old → IfSome new (HasBlocks count) → new ≡ Some image → IsSettled commit blocks bytes image
settled count commit blocks bytes block None new image lt size body zero_byte done shape is = let no : None ≡ Some image = sym done ∙ is in absurd (cc)
settled count commit blocks bytes block (Some old) new image lt size body zero_byte done shape is =
    let set : Some image ≡ Some (slice_set old (commit + 1 + blocks) block) = sym is ∙ done in
    let same : slice_set old (commit + 1 + blocks) block ≡ image = cc in
    let all : take (blocks * 4096) bytes ≡ bytes = ap (λ n. take n bytes) size ∙ take-length bytes in
    let there : HasBlocks count image = subst (λ (known : Option Image). IfSome known (HasBlocks count)) is shape in
    record {
      body = subst (λ (i : Image). bytes_at i (commit + 1) blocks ≡ bytes) same (bytes_before old (commit + 1) blocks block ∙ body ∙ all);
      ends = subst (λ (i : Image). ¬ IsCommitted i (commit + 1 + blocks)) same (not_committed old (commit + 1 + blocks) block zero_byte);
      room = omega (arith, there.count_is, lt);
    }

-- what stands after the commit block stays, whatever it holds
after_commit : (commit blocks : ℕ) (bytes block : List ℕ) (image : Image) → IsSettled commit blocks bytes image → IsCommitted (slice_set image commit block) commit
    → IsWholeAt commit blocks bytes (slice_set image commit block)
after_commit commit blocks bytes block image h is =
    let next = get_or-set_other image commit (commit + 1 + blocks) block [] (omega arith) in
    record {
      committed = is;
      body = ap (λ l. concat (take blocks l)) (drop-set-lt (commit + 1) image commit block (omega arith)) ∙ h.body;
      ends = λ on. h.ends (sym (ap (λ (l : List ℕ). slice_index l 0) next) ∙ on);
    }

opened_outside : (commit blocks : ℕ) (block : List ℕ) (d image : Image) → SameBut (IsInRange (commit + 1) (commit + blocks + 2)) d image → SameBut (IsInRange commit (commit + blocks + 2)) d (slice_set image commit block)
opened_outside commit blocks block d image p =
    let range = IsInRange commit (commit + blocks + 2) in
    same_then (same_wider (IsInRange (commit + 1) (commit + blocks + 2)) range (λ i is. (omega (arith, is.0), is.1)) p) (same_set range commit image block (omega arith, omega arith))

torn_either : (commit blocks : ℕ) (bytes block : List ℕ) (d image : Image) → IsSettled commit blocks bytes image
    → (¬ IsCommitted d commit → ¬ IsCommitted (slice_set image commit block) commit) ⊎ IsWholeAt commit blocks bytes (slice_set image commit block)
torn_either commit blocks bytes block d image s =
    elim (cases_eq (slice_index (slice_index_or (slice_set image commit block) commit []) 0) 1) [
      | inl on ↦ inr (after_commit commit blocks bytes block image s on)
      | inr off ↦ inl (λ closed. off)
    ]

-- a torn opening leaves either
pub torn_open : (commit blocks : ℕ) (bytes block : List ℕ) (before : Image → Type 0) (image opened : Image)
    → IsBeforeBut (IsInRange (commit + 1) (commit + blocks + 2)) before image → IsSettled commit blocks bytes image → opened ≡ slice_set image commit block
    → IsNoneOrWhole commit blocks bytes before opened
torn_open commit blocks bytes block before image opened h s is =
    let P : Image → Type 0 = IsNoneOrWhole commit blocks bytes before in
    subst P (sym is) (h.0, h.1, opened_outside commit blocks block h.0 image h.2, torn_either commit blocks bytes block h.0 image s)

-- an opening leaves it whole
pub whole_open : (commit blocks : ℕ) (bytes block : List ℕ) (before : Image → Type 0) (image opened : Image)
    → IsBeforeBut (IsInRange (commit + 1) (commit + blocks + 2)) before image → IsSettled commit blocks bytes image → slice_index block 0 ≡ 1 → opened ≡ slice_set image commit block
    → WasWritten commit blocks bytes before opened
whole_open commit blocks bytes block before image opened h s one is =
    let P : Image → Type 0 = WasWritten commit blocks bytes before in
    subst P (sym is) (
      h.0,
      h.1,
      opened_outside commit blocks block h.0 image h.2,
      after_commit commit blocks bytes block image s (ap (λ (l : List ℕ). slice_index l 0) (get_or-set_same image commit block [] s.room) ∙ one),
    )

-- what a crash leaves after the opening was settled is an image settled before it, with the commit block
pub settled_from : {a b : ℕ} {mid last : ℕ → Image → Type 0} (commit : ℕ) (known : Option Image) → Elapses a b mid last (TornAt commit (mid a))
    → ((t u : ℕ) (image : Image) → t ≤ u → last u image → last t image) → ((image : Image) → mid a image → known ≡ Some image)
    → (image : Image) → last b image → (e : Image) × mid a e × (known ≡ Some e)
settled_from {a} {b} {mid} {last} commit known time earlier only image left =
    after (TornAt commit (mid a)) (λ image. (e : Image) × mid a e × (known ≡ Some e)) time earlier
    (λ image was. (image, was, only image was)) (λ image torn. (torn.0, torn.1, only torn.0 torn.1)) image left

pub committed_from : (commit : ℕ) (block : List ℕ) (old new : Option Image) (e image : Image) → new ≡ with_block commit block old → old ≡ Some e → new ≡ Some image → image ≡ slice_set e commit block
committed_from commit block old new e image done was is =
    let set : Some image ≡ Some (slice_set e commit block) = sym is ∙ done ∙ ap (with_block commit block) was in cc

-- ---- the calls of one commit

-- the body and the next commit block
pub body_time : {a b c : ℕ} {first mid last : ℕ → Image → Type 0} (commit blocks : ℕ)
    → Elapses a b first mid (IsBeforeBut (IsInRange (commit + 1) (commit + 1 + blocks)) (first a))
    → ((t u : ℕ) (image : Image) → t ≤ u → mid u image → mid t image)
    → Elapses b c mid last (TornAt (commit + 1 + blocks) (mid b))
    → Elapses a c first last (IsBeforeBut (IsInRange (commit + 1) (commit + blocks + 2)) (first a))
body_time {a} {b} {c} {first} {mid} {last} commit blocks body earlier next =
    let low = commit + 1 in
    let high = commit + blocks + 2 in
    write_more (IsInRange low high) (commit + 1 + blocks) (omega arith, omega arith)
    (within (IsBeforeBut (IsInRange low (commit + 1 + blocks)) (first a)) (IsBeforeBut (IsInRange low high) (first a)) body
    (λ image h. before_wider (IsInRange low (commit + 1 + blocks)) (IsInRange low high) (first a) image (λ i is. (is.0, omega (arith, is.1))) h))
    earlier next

-- then the commit block
pub commit_time : {a b c : ℕ} {first mid last : ℕ → Image → Type 0} (commit blocks : ℕ) (bytes : List ℕ) (known : Option Image)
    → Elapses a b first mid (IsBeforeBut (IsInRange (commit + 1) (commit + blocks + 2)) (first a))
    → ((t u : ℕ) (image : Image) → t ≤ u → mid u image → mid t image)
    → ((image : Image) → mid b image → known ≡ Some image)
    → ((image : Image) → known ≡ Some image → IsSettled commit blocks bytes image)
    → Elapses b c mid last (TornAt commit (mid b))
    → Elapses a c first last (IsNoneOrWhole commit blocks bytes (first a))
commit_time {a} {b} {c} {first} {mid} {last} commit blocks bytes known body earlier only facts time =
    let low = commit + 1 in
    let high = commit + blocks + 2 in
    goes_on (IsNoneOrWhole commit blocks bytes (first a)) (TornAt commit (mid b))
    (within (IsBeforeBut (IsInRange low high) (first a)) (IsNoneOrWhole commit blocks bytes (first a)) body (none_yet commit blocks bytes (first a)))
    time
    (λ image torn. torn_open commit blocks bytes torn.2 (first a) torn.0 image (before_now (IsInRange low high) body earlier torn.0 torn.1)
    (facts torn.0 (only torn.0 torn.1)) torn.4)

-- and once that is settled, the body is there
pub commit_whole : {a b c : ℕ} {first mid last : ℕ → Image → Type 0} (commit blocks : ℕ) (bytes block : List ℕ) (known known' : Option Image)
    → Elapses a b first mid (IsBeforeBut (IsInRange (commit + 1) (commit + blocks + 2)) (first a))
    → ((t u : ℕ) (image : Image) → t ≤ u → mid u image → mid t image)
    → ((t u : ℕ) (image : Image) → t ≤ u → last u image → last t image)
    → ((image : Image) → mid b image → known ≡ Some image)
    → ((image : Image) → known ≡ Some image → IsSettled commit blocks bytes image)
    → Elapses b c mid last (TornAt commit (mid b))
    → known' ≡ with_block commit block known → ((image : Image) → last c image → known' ≡ Some image) → slice_index block 0 ≡ 1
    → (image : Image) → last c image → WasWritten commit blocks bytes (first a) image
commit_whole {a} {b} {c} {first} {mid} {last} commit blocks bytes block known known' body earlier earlier' only facts time done only' one image left =
    let from = settled_from commit known time earlier' only image left in
    whole_open commit blocks bytes block (first a) from.0 image (before_now (IsInRange (commit + 1) (commit + blocks + 2)) body earlier from.0 from.1) (facts from.0 from.2) one
    (committed_from commit block known known' from.0 image done from.2 (only' image left))
