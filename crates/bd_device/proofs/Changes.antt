-- Images that agree but for some blocks, and how writes change them.
use Rattle.std.proofs.Common.{◌≡◌, ℕ, ◌+◌, ◌*◌, ◌<◌, ◌≤◌, List, [], ◌∷◌, ◌++◌, length, take, drop, min, refl, sym, ap, subst, ◌∙◌, arith, Option, None, Some, append-nil, length-append, zero, suc}
use Rattle.std.proofs.lemmas.List.{take_more_set, drop-set-add, get_or-take, get_or-set_other, ext_get_or, length-drop, length-take, length-take-le, take_at, length-set, drop-drop}
use Rattle.std.proofs.Math.Seq.{take-add}
use Rattle.std.proofs.lemmas.List.Folds.{concat-append}
use Rattle.std.specs.List.{concat}
use Rattle.std.specs.Prelude.{slice_get, slice_set, IfSome}
use Rattle.bd_device.specs.Blocks.{Image, HasBlocks, with_block, ChangesOnly}
use Rattle.bd_device.specs.Changes.{SameBut, StaysBut, IsBeforeBut, IsInRange, bytes_at}
use Rattle.bd_device.specs.Moments.{Elapses, TornAt}
use Rattle.bd_device.proofs.Moments.{goes_on, after}

-- ---- images

pub same_same : (changed : ℕ → Type 0) (image : Image) → SameBut changed image image
same_same changed image = record { size = refl; others = λ b _. refl }

pub same_then : {changed : ℕ → Type 0} {a b c : Image} → SameBut changed a b → SameBut changed b c → SameBut changed a c
same_then p q = record {
  size = q.size ∙ p.size;
  others = λ b other. q.others b other ∙ p.others b other;
}

-- more blocks may have changed
pub same_wider : {a b : Image} (changed more : ℕ → Type 0) → ((i : ℕ) → changed i → more i) → SameBut changed a b → SameBut more a b
same_wider changed more wider p = record { size = p.size; others = λ b other. p.others b (λ is. other (wider b is)) }

-- one of them was replaced
pub same_set : (changed : ℕ → Type 0) (i : ℕ) (image : Image) (bytes : List ℕ) → changed i → SameBut changed image (slice_set image i bytes)
same_set changed i image bytes is = record {
  size = length-set image i bytes;
  others = λ b other. get_or-set_other image i b bytes [] (λ e. other (subst changed (sym e) is));
}

-- what stands before a range of blocks
pub same_before : (from to : ℕ) (a b : Image) → SameBut (IsInRange from to) a b → take from b ≡ take from a
same_before from to a b p = ext_get_or [] (take from b) (take from a)
    (length-take from b ∙ ap (λ n. min from n) p.size ∙ sym (length-take from a))
    (λ i lt.
    let below : i < from = omega (arith, lt, length-take from b) in
    get_or-take from b i [] below ∙ p.others i (λ is. omega (arith, is.0, below)) ∙ sym (get_or-take from a i [] below))

-- ---- what reads give

pub stays_same : (changed : ℕ → Type 0) (known : Option Image) → StaysBut changed known known
stays_same changed None = tt
stays_same changed (Some image) = same_same changed image

pub stays_both : (changed : ℕ → Type 0) (a b c : Option Image) → StaysBut changed a b → StaysBut changed b c → StaysBut changed a c
stays_both changed None None None p q = tt
stays_both changed (Some a) (Some b) (Some c) p q = same_then p q
stays_both changed None None (Some c) p q = q
stays_both changed None (Some b) c p q = absurd p
stays_both changed (Some a) None c p q = absurd p
stays_both changed (Some a) (Some b) None p q = q

pub stays_wider : (changed more : ℕ → Type 0) (a b : Option Image) → ((i : ℕ) → changed i → more i) → StaysBut changed a b → StaysBut more a b
stays_wider changed more None None wider p = tt
stays_wider changed more (Some a) (Some b) wider p = same_wider changed more wider p
stays_wider changed more None (Some b) wider p = p
stays_wider changed more (Some a) None wider p = p

-- one of the blocks was written
pub stays_written : (changed : ℕ → Type 0) (i : ℕ) (bytes : List ℕ) (a b : Option Image) → changed i → b ≡ with_block i bytes a → StaysBut changed a b
stays_written changed i bytes None b is e = subst (StaysBut changed None) (sym e) tt
stays_written changed i bytes (Some a) b is e = subst (StaysBut changed (Some a)) (sym e) (same_set changed i a bytes is)

-- or holds any bytes
pub stays_changed : (changed : ℕ → Type 0) (i : ℕ) (a b : Option Image) → changed i → ChangesOnly i a b → StaysBut changed a b
stays_changed changed i a b is h = stays_written changed i h.0 a b is h.2

-- ---- what a crash may leave

pub before_same : (changed : ℕ → Type 0) (before : Image → Type 0) (image : Image) → before image → IsBeforeBut changed before image
before_same changed before image was = (image, was, same_same changed image)

pub before_wider : (changed more : ℕ → Type 0) (before : Image → Type 0) (image : Image) → ((i : ℕ) → changed i → more i)
    → IsBeforeBut changed before image → IsBeforeBut more before image
before_wider changed more before image wider h = (h.0, h.1, same_wider changed more wider h.2)

-- after changes it is an image of before but for them
pub before_now : {a b : ℕ} {first mid : ℕ → Image → Type 0} (changed : ℕ → Type 0)
    → Elapses a b first mid (IsBeforeBut changed (first a))
    → ((t u : ℕ) (image : Image) → t ≤ u → mid u image → mid t image)
    → (image : Image) → mid b image → IsBeforeBut changed (first a) image
before_now {a} {b} {first} {mid} changed time earlier image left =
    after (IsBeforeBut changed (first a)) (IsBeforeBut changed (first a)) time earlier (before_same changed (first a)) (λ image here. here) image left

-- one of the blocks was torn
pub torn_before : (changed : ℕ → Type 0) (i : ℕ) (before : Image → Type 0) (image : Image) → changed i
    → TornAt i (IsBeforeBut changed before) image → IsBeforeBut changed before image
torn_before changed i before image is torn =
    (torn.1.0, torn.1.1, same_then torn.1.2 (subst (SameBut changed torn.0) (sym torn.4) (same_set changed i torn.0 torn.2 is)))

-- a write of one of the blocks more
pub write_more : {a b c : ℕ} {first mid last : ℕ → Image → Type 0} (changed : ℕ → Type 0) (i : ℕ) → changed i
    → Elapses a b first mid (IsBeforeBut changed (first a))
    → ((t u : ℕ) (image : Image) → t ≤ u → mid u image → mid t image)
    → Elapses b c mid last (TornAt i (mid b))
    → Elapses a c first last (IsBeforeBut changed (first a))
write_more {a} {b} {c} {first} {mid} {last} changed i is so_far earlier time =
    goes_on (IsBeforeBut changed (first a)) (TornAt i (mid b)) so_far time
    (λ image torn. torn_before changed i (first a) image is (torn.0, before_now changed so_far earlier torn.0 torn.1, torn.2, torn.3, torn.4))

-- ---- blocks in a row

-- the blocks from b on, with one more
bytes_more : (image : Image) (b i : ℕ) (bytes block : List ℕ) → b + i < length image → bytes_at image b i ≡ take (i * 4096) bytes → block ≡ take 4096 (drop (i * 4096) bytes)
    → bytes_at (slice_set image (b + i) block) b (i + 1) ≡ take ((i + 1) * 4096) bytes
bytes_more image b i bytes block lt e is =
    let room : i < length (drop b image) = omega (arith, length-drop b image) in
    let size : (i + 1) * 4096 ≡ i * 4096 + 4096 = omega arith in
    ap (λ l. concat (take (i + 1) l)) (drop-set-add b image i block)
    ∙ ap concat (take_more_set (drop b image) i block room)
    ∙ concat-append (take i (drop b image)) (block ∷ [])
    ∙ ap (λ l. bytes_at image b i ++ l) (append-nil block)
    ∙ ap (λ l. l ++ block) e ∙ ap (λ l. take (i * 4096) bytes ++ l) is
    ∙ sym (take-add (i * 4096) 4096 bytes) ∙ ap (λ n. take n bytes) (sym size)

pub written_more : (count b i : ℕ) (bytes block : List ℕ) (old new : Option Image) → b + i < count
    → IfSome old (λ image. bytes_at image b i ≡ take (i * 4096) bytes) → block ≡ take 4096 (drop (i * 4096) bytes)
    → new ≡ with_block (b + i) block old → IfSome new (HasBlocks count) → IfSome new (λ image. bytes_at image b (i + 1) ≡ take ((i + 1) * 4096) bytes)
written_more count b i bytes block None new lt e is done shape =
    subst (λ (known : Option Image). IfSome known (λ image. bytes_at image b (i + 1) ≡ take ((i + 1) * 4096) bytes)) (sym done) tt
written_more count b i bytes block (Some image) new lt e is done shape =
    let there : HasBlocks count (slice_set image (b + i) block) = subst (λ (known : Option Image). IfSome known (HasBlocks count)) done shape in
    let room : b + i < length image = omega (arith, there.count_is, length-set image (b + i) block) in
    subst (λ (known : Option Image). IfSome known (λ image. bytes_at image b (i + 1) ≡ take ((i + 1) * 4096) bytes)) (sym done) (bytes_more image b i bytes block room e is)

-- the items from one on
get_drop : (image : Image) (b : ℕ) (block : List ℕ) → slice_get image b ≡ Some block → drop b image ≡ block ∷ drop (suc b) image
get_drop [] b block e = cc
get_drop (x ∷ xs) zero block e = let same : x ≡ block = cc in ap (λ (y : List ℕ). y ∷ xs) same
get_drop (x ∷ xs) (suc b) block e = get_drop xs b block e

-- a block in front of others
pub bytes_first : (image : Image) (b count : ℕ) (block : List ℕ) → slice_get image b ≡ Some block → bytes_at image b (suc count) ≡ block ++ bytes_at image (suc b) count
bytes_first image b count block e = ap (λ l. concat (take (suc count) l)) (get_drop image b block e)

-- and behind them
bytes_last : (image : Image) (b i : ℕ) (block : List ℕ) → slice_get image (b + i) ≡ Some block → bytes_at image b (i + 1) ≡ bytes_at image b i ++ block
bytes_last image b i block e =
    let one : drop i (drop b image) ≡ block ∷ drop (suc (b + i)) image = drop-drop i b image ∙ get_drop image (b + i) block e in
    ap concat (take-add i 1 (drop b image)) ∙ concat-append (take i (drop b image)) (take 1 (drop i (drop b image)))
    ∙ ap (λ l. bytes_at image b i ++ concat (take 1 l)) one ∙ ap (λ l. bytes_at image b i ++ l) (append-nil block)

put_block : (i : ℕ) (into block new : List ℕ) → length block ≡ 4096 → i * 4096 + 4096 ≤ length into → new ≡ take (i * 4096) into ++ block ++ drop (i * 4096 + length block) into
    → take ((i + 1) * 4096) new ≡ take (i * 4096) into ++ block
put_block i into block new size room put =
    ap (take ((i + 1) * 4096)) put
    ∙ take_at (take (i * 4096) into ++ block) (drop (i * 4096 + length block) into) ((i + 1) * 4096)
    (omega (arith, length-append (take (i * 4096) into) block, length-take-le (i * 4096) into (omega arith), size))

pub read_more : (b i : ℕ) (known now : Option Image) (into block new : List ℕ) → now ≡ known
    → IfSome known (λ image. take (i * 4096) into ≡ bytes_at image b i) → IfSome now (λ image. slice_get image (b + i) ≡ Some block)
    → length block ≡ 4096 → i * 4096 + 4096 ≤ length into → new ≡ take (i * 4096) into ++ block ++ drop (i * 4096 + length block) into
    → IfSome known (λ image. take ((i + 1) * 4096) new ≡ bytes_at image b (i + 1))
read_more b i None now into block new same so_far there size room put = tt
read_more b i (Some image) now into block new same so_far there size room put =
    let found : slice_get image (b + i) ≡ Some block = subst (λ (k : Option Image). IfSome k (λ image. slice_get image (b + i) ≡ Some block)) same there in
    put_block i into block new size room put ∙ ap (λ l. l ++ block) so_far ∙ sym (bytes_last image b i block found)
