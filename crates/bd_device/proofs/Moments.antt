-- How what a crash may leave goes on over several calls.
use Rattle.std.proofs.Common.{◌≡◌, ◌↔◌, ℕ, ◌≤◌, inl, inr, ⊎_elim, arith}
use Rattle.bd_device.specs.Blocks.{Image}
use Rattle.bd_device.specs.Moments.{Elapses, TornAt}

-- one call more, inside which a crash leaves what has P
pub goes_on : {a b c : ℕ} {first mid last : ℕ → Image → Type 0} (P I : Image → Type 0)
    → Elapses a b first mid P → Elapses b c mid last I → ((image : Image) → I image → P image) → Elapses a c first last P
goes_on P I so_far time here = record {
  later = omega (arith, so_far.later, time.later);
  keeps = λ t image le left. time.keeps t image (omega (arith, so_far.later, le)) (so_far.keeps t image le left);
  adds = λ t image le left. ⊎_elim (so_far.adds t image le) (λ now. inr (here image now)) (time.adds t image (omega (arith, so_far.later, le)) left);
}

-- calls inside which a crash leaves less
pub within : {before after : ℕ} {old new : ℕ → Image → Type 0} (I P : Image → Type 0)
    → Elapses before after old new I → ((image : Image) → I image → P image) → Elapses before after old new P
within I P time here = record {
  later = time.later;
  keeps = time.keeps;
  adds = λ t image le left. ⊎_elim (λ was. inl was) (λ now. inr (here image now)) (time.adds t image le left);
}

-- what has Q since an earlier call and inside the later ones has it since that call
pub stays : {before after : ℕ} {old new : ℕ → Image → Type 0} (I Q : Image → Type 0) (t : ℕ)
    → Elapses before after old new I → t ≤ before → ((image : Image) → old t image → Q image) → ((image : Image) → I image → Q image)
    → (image : Image) → new t image → Q image
stays I Q t time le was here image left = ⊎_elim (was image) (here image) (time.adds t image le left)

-- what has Q before the calls and inside them has it after them
pub after : {before now : ℕ} {old new : ℕ → Image → Type 0} (I Q : Image → Type 0)
    → Elapses before now old new I → ((t u : ℕ) (image : Image) → t ≤ u → new u image → new t image)
    → ((image : Image) → old before image → Q image) → ((image : Image) → I image → Q image)
    → (image : Image) → new now image → Q image
after {before} {now} I Q time earlier was here image left =
    stays I Q before time (omega arith) was here image (earlier before now image time.later left)

-- what is left since an earlier moment or torn before it, where just one image was left, is that one torn
pub torn_one : {b : ℕ} {left : Image → Type 0} (only : Image) → ((image : Image) → left image → image ≡ only) → (image : Image)
    → TornAt b left image → TornAt b (λ d. d ≡ only) image
torn_one only settled image torn = (torn.0, settled torn.0 torn.1, torn.2, torn.3, torn.4)

-- so a run goes on by the name of what is attached after it
pub by_name : {before after : ℕ} {old new named : ℕ → Image → Type 0} (I : Image → Type 0)
    → Elapses before after old new I → ((t : ℕ) (image : Image) → named t image ↔ new t image) → Elapses before after old named I
by_name I time same = record {
  later = time.later;
  keeps = λ t image le was. (same t image).1 (time.keeps t image le was);
  adds = λ t image le left. time.adds t image le ((same t image).0 left);
}
