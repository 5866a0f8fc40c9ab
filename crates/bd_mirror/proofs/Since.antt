-- How what a crash may leave of a mirror's halves goes on over its calls.
use Rattle.std.proofs.Common.{◌≡◌, ℕ, ◌+◌, ◌-◌, ◌^◌, ◌⊎◌, min, List, ◌∷◌, length, take, Result, Ok, Err, OnOk, refl, sym, ap, subst, ◌∙◌, arith, inl, inr, ⊎_elim, true, false}
use Rattle.std.specs.Prelude.{IfOk}
use Rattle.std.proofs.lemmas.Bool.{false≢true, cases_lt}
use Rattle.bd_io.specs.Cause.{next_count, IsCounted}
use Rattle.bd_device.specs.Blocks.{Image}
use Rattle.bd_device.specs.Device.{left_now, Goes}
use Rattle.bd_device.specs.Moments.{Nothing}
use Rattle.bd_device.specs.declared.counts.Counts.{Counts}
use Rattle.bd_device.specs.declared.device.Device.{Ghosts}
use Rattle.bd_mirror.specs.declared.halves.Halves.{Halves}
use Rattle.bd_mirror.specs.declared.halves.Attached.{Attached}
use Rattle.bd_mirror.specs.declared.halves.Attached.TheVariants.{Nothing as Unattached, Alone, Member, Pair, Apart}
use Rattle.bd_mirror.specs.Contents.{PicksHave, IsPicked}
use Rattle.bd_mirror.specs.Halves.{has_marks, with_halves, is_two, blocks_in}
use Rattle.bd_mirror.specs.Since.{IsLeftOf}
use Rattle.bd_mirror.specs.Writing.{IsWithin, TornBy, IsLeftBy}
use Rattle.bd_mirror.specs.declared.writing.WritingCall.{WritingCall}
use Rattle.bd_mirror.proofs.Leaves.{torn_take}

-- ---- the count of calls

-- a call more is a moment more
pub moments_on : {T : Type 0} (n n1 : ℕ) (m : T) (ms ms1 : List T) → ms1 ≡ m ∷ ms → n1 ≡ next_count n → n ≡ min (length ms) (2 ^ 64 - 1) → n1 ≡ min (length ms1) (2 ^ 64 - 1)
moments_on n n1 m ms ms1 more counted kept = subst (λ (l : List _). n1 ≡ min (length l) (2 ^ 64 - 1)) (sym more) (omega (arith, kept, counted))

-- counts that stayed until they counted
pub counted_from : {T E : Type 0} {r : Result T E} {n1 : ℕ} (was now : Counts) → now ≡ was → IsCounted now.calls n1 r → IsCounted was.calls n1 r
counted_from {r = r} {n1 = n1} was now same counted = subst (λ (k : Counts). IsCounted k.calls n1 r) same counted

-- after a call that was Ok there are as many moments as calls
pub all_moments : {T U E : Type 0} (r : Result U E) (n n1 : ℕ) (m : T) (ms ms1 : List T) → ms1 ≡ m ∷ ms → IsCounted n n1 r → OnOk r (n ≡ min (length ms) (2 ^ 64 - 1) → n1 ≡ length ms1)
all_moments (Err e) n n1 m ms ms1 more counted = tt
all_moments (Ok x) n n1 m ms ms1 more counted = λ kept.
    subst (λ (l : List _). n1 ≡ length l) (sym more)
    (⊎_elim (λ lt. omega (arith, counted.counted, kept, lt)) (λ full. absurd (false≢true (counted.last full))) (cases_lt (n + 1) (2 ^ 64)))

-- what holds of a result that is Ok
pub if_ok_at : {T E : Type 0} {r : Result T E} {x : T} (P : T → Type 0) → r ≡ Ok x → IfOk r P → P x
if_ok_at P is holds = subst (λ r. IfOk r P) is holds

-- what holds at Ok of two things
pub both_ok : {T E P Q R : Type 0} (r : Result T E) → OnOk r P → OnOk r Q → (P → Q → R) → OnOk r R
both_ok (Ok x) p q f = f p q
both_ok (Err e) p q f = tt

-- ---- what is left of both halves

-- where more is left of each half, more is left of both
pub left_more : (at : Attached) (na nb : ℕ) (la lb la' lb' : Image → Type 0) → ((x : Image) → la x → la' x) → ((y : Image) → lb y → lb' y)
    → (c : Image) → IsLeftOf at na nb la lb c → IsLeftOf at na nb la' lb' c
left_more Unattached na nb la lb la' lb' more_a more_b c left = left
left_more Alone na nb la lb la' lb' more_a more_b c left = more_a c left
left_more Member na nb la lb la' lb' more_a more_b c left = (left.0, more_a left.0 left.1, left.2)
left_more (Pair h) na nb la lb la' lb' more_a more_b c left = (left.0, left.1, more_a left.0 left.2, more_b left.1 left.3, left.4)
left_more (Apart h) na nb la lb la' lb' more_a more_b c left = left

-- inside a call that each half in use gets
pub left_inside : (call : WritingCall) (at : Attached) (na nb : ℕ) (la lb la' lb' : Image → Type 0) → IsWithin call (blocks_in at na nb)
    → (is_two at ≡ false → (x : Image) → la' x → la x ⊎ TornBy call la x)
    → (has_marks at ≡ true → (x y : Image) → la' x → lb' y
    → PicksHave (min na nb - 1) (na - 1) (nb - 1) (IsLeftBy call (IsPicked (min na nb - 1) (na - 1) (nb - 1) la lb)) x y)
    → (c : Image) → IsLeftOf at na nb la' lb' c → IsLeftOf at na nb la lb c ⊎ TornBy call (IsLeftOf at na nb la lb) c
left_inside call Unattached na nb la lb la' lb' lt one two c left = absurd left
left_inside call (Apart h) na nb la lb la' lb' lt one two c left = absurd left
left_inside call Alone na nb la lb la' lb' lt one two c left = one refl c left
left_inside call Member na nb la lb la' lb' lt one two c left = ⊎_elim
    (λ was. inl (left.0, was, left.2))
    (λ torn. inr (subst (TornBy call (λ i. (base : Image) × la base × (i ≡ take (na - 1) base))) (sym left.2) (torn_take call (na - 1) la left.0 lt torn)))
    (one refl left.0 left.1)
left_inside call (Pair h) na nb la lb la' lb' lt one two c left =
    let Q : Image → Type 0 = IsLeftBy call (IsPicked (min na nb - 1) (na - 1) (nb - 1) la lb) in
    ⊎_elim (λ e. subst Q (sym e) (two refl left.0 left.1 left.2 left.3).0) (λ e. subst Q (sym e) (two refl left.0 left.1 left.2 left.3).1) left.4

-- which halves are in use is no matter
same_use : (at : Attached) (h : Halves) (na nb : ℕ) → IsLeftOf (with_halves h at) na nb ≡ IsLeftOf at na nb
same_use Unattached h na nb = refl
same_use Alone h na nb = refl
same_use Member h na nb = refl
same_use (Pair old) h na nb = refl
same_use (Apart old) h na nb = refl

same_left : (at at1 : Attached) (h : Halves) (na nb na1 nb1 : ℕ) → at1 ≡ with_halves h at → na1 ≡ na → nb1 ≡ nb → IsLeftOf at1 na1 nb1 ≡ IsLeftOf at na nb
same_left at at1 h na nb na1 nb1 et ea eb =
    ap (λ t. IsLeftOf t na1 nb1) et ∙ ap (λ n. IsLeftOf (with_halves h at) n nb1) ea ∙ ap (λ n. IsLeftOf (with_halves h at) na n) eb ∙ same_use at h na nb

use_blocks : (at : Attached) (h : Halves) (na nb : ℕ) → blocks_in (with_halves h at) na nb ≡ blocks_in at na nb
use_blocks Unattached h na nb = refl
use_blocks Alone h na nb = refl
use_blocks Member h na nb = refl
use_blocks (Pair old) h na nb = refl
use_blocks (Apart old) h na nb = refl

pub same_blocks : (at at1 : Attached) (h : Halves) (na nb na1 nb1 : ℕ) → at1 ≡ with_halves h at → na1 ≡ na → nb1 ≡ nb → blocks_in at1 na1 nb1 ≡ blocks_in at na nb
same_blocks at at1 h na nb na1 nb1 et ea eb =
    ap (λ t. blocks_in t na1 nb1) et ∙ ap (λ n. blocks_in (with_halves h at) n nb1) ea ∙ ap (λ n. blocks_in (with_halves h at) na n) eb ∙ use_blocks at h na nb

-- ---- what is left inside a call

-- inside calls of the halves that write nothing
pub left_read : {A B : Type 0} (ga : Ghosts A) (gb : Ghosts B) (at : Attached) (na nb : ℕ) (a a1 : A) (b b1 : B) → Goes ga a a1 Nothing → Goes gb b b1 Nothing
    → (c : Image) → IsLeftOf at na nb (ga.left_since a1 (ga.call_count a)) (gb.left_since b1 (gb.call_count b)) c → IsLeftOf at na nb (left_now ga a) (left_now gb b) c ⊎ Nothing c
left_read ga gb at na nb a a1 b b1 time_a time_b c left =
    inl (left_more at na nb (ga.left_since a1 (ga.call_count a)) (gb.left_since b1 (gb.call_count b)) (left_now ga a) (left_now gb b)
    (λ x lx. ⊎_elim (λ old. old) (λ none. absurd none) (time_a.adds (ga.call_count a) x (omega arith) lx))
    (λ y ly. ⊎_elim (λ old. old) (λ none. absurd none) (time_b.adds (gb.call_count b) y (omega arith) ly)) c left)
