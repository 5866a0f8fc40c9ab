-- What a device with a fuse shows, from what the inner one shows.
use Rattle.std.proofs.Common.{◌≡◌, ℕ, ◌<◌, ◌≤◌, ◌-◌, ◌^◌, min, Bool, true, false, if◌then◌else◌, Option, None, Some, IfSome, Result, Ok, Err, OnOk, OnErr, refl, replicate, subst, arith}
use Rattle.std.specs.Prelude.{IfNone}
use Rattle.bd_device.specs.Blocks.{Image, HasBlocks, ChangesOnly}
use Rattle.bd_device.specs.Moments.{Elapses, IsOnly}
use Rattle.bd_device.specs.Fuse.{with_refused, unless_detached, up_to}
use Rattle.bd_device.proofs.Images.{ChangesOnly-none, IsBlock-zero}

-- what follows from what holds at Ok holds at Ok
pub OnOk-then : {T E P Q : Type 0} (r : Result T E) → OnOk r P → (P → Q) → OnOk r Q
OnOk-then (Ok x) p f = f p
OnOk-then (Err e) p f = tt

-- so it is at an error where nothing was asked for
pub OnErr-IfNone-then : {T E A P Q : Type 0} (r : Result T E) (o : Option A) → OnErr r (IfNone o P) → (P → Q) → OnErr r (IfNone o Q)
OnErr-IfNone-then (Ok x) o p f = tt
OnErr-IfNone-then (Err e) None p f = f p
OnErr-IfNone-then (Err e) (Some a) p f = tt

-- after a barrier that was passed on
pub settled-up_to : (n refused blocks : ℕ) (detached : Bool) (left : ℕ → Image → Type 0) (contents : Option Image)
    → n ≤ 2 ^ 64 - 1 → refused ≡ 0 → (0 < blocks → IsOnly contents (left n)) → 0 < (if detached then 0 else blocks)
    → IsOnly (unless_detached detached contents) (up_to n left (with_refused n refused))
settled-up_to n refused blocks true left contents fits none only lt = absurd (omega arith)
settled-up_to n refused blocks false left contents fits none only lt = λ c was.
    let now : min (with_refused n refused) n ≡ n = omega (arith, fits, none) in
    only lt c (subst (λ k. left k c) now was)

-- calls that were passed on
pub Elapses-up_to : (n m refused refused' : ℕ) (old new : ℕ → Image → Type 0) (I : Image → Type 0)
    → m ≤ 2 ^ 64 - 1 → refused ≡ 0 → refused' ≡ 0 → Elapses n m old new I
    → Elapses (with_refused n refused) (with_refused m refused') (up_to n old) (up_to m new) I
Elapses-up_to n m refused refused' old new I fits none none' time = record {
  later = omega (arith, fits, none, none', time.later);
  keeps = λ t c le was.
      let same : min t n ≡ min t m = omega (arith, le, fits, none, time.later) in
      subst (λ k. new k c) same (time.keeps (min t n) c (omega arith) was);
  adds = λ t c le left.
      let same : min t m ≡ min t n = omega (arith, le, fits, none, time.later) in
      time.adds (min t n) c (omega arith) (subst (λ k. new k c) same left);
}

-- contents that stay, of whole blocks, are ones in which at most one block changed
pub ChangesOnly-same : (count b : ℕ) (contents : Option Image) → b < count → IfSome contents (HasBlocks count) → ChangesOnly b contents contents
ChangesOnly-same count b None lt shape = (replicate 4096 0, IsBlock-zero, refl)
ChangesOnly-same count b (Some image) lt shape = ChangesOnly-none image b (omega (arith, lt, shape.count_is)) shape.whole

-- so it is with a write that was refused
pub ChangesOnly-refused : (count b : ℕ) (detached : Bool) (contents : Option Image) → b < (if detached then 0 else count) → IfSome contents (HasBlocks count)
    → ChangesOnly b (unless_detached detached contents) (unless_detached detached contents)
ChangesOnly-refused count b true contents lt shape = absurd (omega arith)
ChangesOnly-refused count b false contents lt shape = ChangesOnly-same count b contents lt shape

-- and its blocks are whole
pub shape-refused : (count b : ℕ) (detached : Bool) (contents : Option Image) → b < (if detached then 0 else count) → IfSome contents (HasBlocks count)
    → IfSome (unless_detached detached contents) (HasBlocks (if detached then 0 else count))
shape-refused count b true contents lt shape = absurd (omega arith)
shape-refused count b false contents lt shape = shape

-- what holds anyway holds where nothing is asked for
pub IfNone-always : {A P : Type 0} (o : Option A) → P → IfNone o P
IfNone-always None p = p
IfNone-always (Some a) p = tt

-- what follows from what holds at Ok where nothing was asked for
pub OnOk-IfNone-then : {T E A P Q : Type 0} (r : Result T E) (o : Option A) → OnOk r (IfNone o P) → (P → Q) → OnOk r (IfNone o Q)
OnOk-IfNone-then (Ok x) None p f = f p
OnOk-IfNone-then (Ok x) (Some a) p f = tt
OnOk-IfNone-then (Err e) o p f = tt

-- the images that a crash of the inner device may leave now are those of this one
pub HasBlocks-up_to : (n refused blocks : ℕ) (detached : Bool) (left : ℕ → Image → Type 0)
    → n ≤ 2 ^ 64 - 1 → (0 < blocks → (c : Image) → left n c → HasBlocks blocks c) → 0 < (if detached then 0 else blocks)
    → (c : Image) → up_to n left (with_refused n refused) c → HasBlocks (if detached then 0 else blocks) c
HasBlocks-up_to n refused blocks true left fits shape lt c now = absurd (omega arith)
HasBlocks-up_to n refused blocks false left fits shape lt c now =
    let last : min (with_refused n refused) n ≡ n = omega (arith, fits) in
    shape lt c (subst (λ k. left k c) last now)
