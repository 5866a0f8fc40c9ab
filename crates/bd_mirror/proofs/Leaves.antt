-- What a crash may leave of two halves inside a call that each half in use gets.
use Rattle.std.proofs.Common.{◌≡◌, ℕ, ◌+◌, ◌-◌, ◌<◌, ◌≤◌, ◌⊎◌, min, Option, IfSome, Bool, true, false, if◌then◌else◌, Result, Ok, Err, OnOk, refl, sym, ap, subst, ◌∙◌, arith, inl, inr, ⊎_elim, take}
use Rattle.std.specs.Prelude.{◌&&◌, ◌==◌, not, is_ok, slice_index}
use Rattle.std.proofs.lemmas.Bool.{false≢true}
use Rattle.std.proofs.lemmas.List.{take-set-le}
use Rattle.std.proofs.Math.Seq.{take-set-lt}
use Rattle.bd_device.specs.Blocks.{Image}
use Rattle.bd_device.specs.Changes.{IsInRange}
use Rattle.bd_device.specs.Moments.{Elapses, TornAt, IsOnly}
use Rattle.bd_mirror.specs.declared.halves.Halves.TheVariants.{Both, First, Second, Neither}
use Rattle.bd_mirror.specs.declared.halves.Attached.{Attached}
use Rattle.bd_mirror.specs.declared.halves.Attached.TheVariants.{Nothing, Alone, Member, Pair, Apart}
use Rattle.bd_mirror.specs.Contents.{is_open_at, pick, IsMarked, HaveMark, AreLeftMarked, PicksHave, IsPicked}
use Rattle.bd_mirror.specs.Halves.{has_marks, is_two, halves_of, with_halves, blocks_in}
use Rattle.bd_mirror.specs.Writing.{IsWithin, TornBy, IsLeftBy}
use Rattle.bd_mirror.specs.declared.writing.WritingCall.{WritingCall}
use Rattle.bd_mirror.specs.declared.writing.WritingCall.TheVariants.{Write, Run, Barrier}
use Rattle.bd_mirror.proofs.Copies.{only_has}
use Rattle.bd_mirror.proofs.Rows.{same_take}
use Rattle.bd_mirror.proofs.Marks.{open_after, within_more, pick_closed, pick_second, both_is, first_is, second_is}

-- ---- images

-- of more images more may be torn
pub torn_more : (call : WritingCall) (P Q : Image → Type 0) → ((image : Image) → P image → Q image) → (image : Image) → TornBy call P image → TornBy call Q image
torn_more (Write b from) P Q more image torn = (torn.0, more torn.0 torn.1, torn.2, torn.3, torn.4)
torn_more (Run first from n) P Q more image torn = (torn.0, more torn.0 torn.1, torn.2)
torn_more Barrier P Q more image none = absurd none

-- a torn image was one
torn_base : (call : WritingCall) (before : Image → Type 0) (image : Image) → TornBy call before image → (base : Image) × before base × TornBy call (λ i. i ≡ base) image
torn_base (Write b from) before image torn = (torn.0, torn.1, (torn.0, refl, torn.2, torn.3, torn.4))
torn_base (Run first from n) before image torn = (torn.0, torn.1, (torn.0, refl, torn.2))
torn_base Barrier before image none = absurd none

-- the first blocks of a torn image are those of one, torn
pub torn_take : (call : WritingCall) (size : ℕ) (before : Image → Type 0) (image : Image) → IsWithin call size
    → TornBy call before image → TornBy call (λ i. (base : Image) × before base × (i ≡ take size base)) (take size image)
torn_take (Write b from) size before image lt torn =
    (take size torn.0, (torn.0, torn.1, refl), torn.2, torn.3, ap (take size) torn.4 ∙ take-set-lt size torn.0 b torn.2 lt)
torn_take (Run first from n) size before image lt torn =
    (take size torn.0, (torn.0, torn.1, refl), same_take (IsInRange first (first + n)) size torn.0 image torn.2)
torn_take Barrier size before image lt none = absurd none

-- its mark is that of one
torn_mark : (call : WritingCall) (mark : ℕ) (before : Image → Type 0) (image : Image) → IsWithin call mark
    → TornBy call before image → (base : Image) × before base × (is_open_at mark image ≡ is_open_at mark base)
torn_mark (Write b from) mark before image lt torn =
    (torn.0, torn.1, ap (is_open_at mark) torn.4 ∙ open_after (Write b from) mark (λ _. torn.2) torn.0 lt)
torn_mark (Run first from n) mark before image lt torn =
    (torn.0, torn.1, ap (λ block. slice_index block 0 == 1) (torn.2.others mark (λ is. omega (arith, lt, is.1))))
torn_mark Barrier mark before image lt none = absurd none

-- the image, or with the blocks that the call writes torn
abbrev Since : WritingCall → Image → Image → Type 0
Since call base image = IsLeftBy call (λ i. i ≡ base) image

-- the first blocks of one of these images, or with the blocks that the call writes torn
abbrev pub IsSince : WritingCall → ℕ → (Image → Type 0) → Image → Type 0
IsSince call size before image = (base : Image) × before base × Since call (take size base) (take size image)

-- what is since one of these images may be left by the call
since_left : (call : WritingCall) (before : Image → Type 0) (base image : Image) → before base → Since call base image → IsLeftBy call before image
since_left call before base image was (inl same) = inl (subst before (sym same) was)
since_left call before base image was (inr torn) = inr (torn_more call (λ i. i ≡ base) before (λ i same. subst before (sym same) was) image torn)

-- of what was left or torn by the call
since_torn : (call : WritingCall) (size : ℕ) (before : Image → Type 0) (image : Image) → IsWithin call size
    → before image ⊎ TornBy call before image → IsSince call size before image
since_torn call size before image lt (inl was) = (image, was, inl refl)
since_torn call size before image lt (inr torn) =
    let base = torn_base call before image torn in (
      base.0,
      base.1,
      inr (torn_more call (λ i. (b : Image) × (b ≡ base.0) × (i ≡ take size b)) (λ i. i ≡ take size base.0) (λ i one. one.2 ∙ ap (take size) one.1) (take size image)
          (torn_take call size (λ i. i ≡ base.0) image lt base.2)),
    )

-- its mark is as it was
mark_torn : (call : WritingCall) (mark : ℕ) (opens : Bool) (before : Image → Type 0) (image : Image) → IsWithin call mark
    → HaveMark mark opens before → before image ⊎ TornBy call before image → is_open_at mark image ≡ opens
mark_torn call mark opens before image lt have (inl was) = have image was
mark_torn call mark opens before image lt have (inr torn) =
    let base = torn_mark call mark before image lt torn in base.2 ∙ have base.0 base.1

-- ---- one half

-- a half that got the call
pub since_call : {n m : ℕ} {old new : ℕ → Image → Type 0} (call : WritingCall) (size : ℕ) → IsWithin call size
    → Elapses n m old new (TornBy call (old n)) → (image : Image) → new n image → IsSince call size (old n) image
since_call {n} {old = old} call size lt time image left = since_torn call size (old n) image lt (time.adds n image (omega arith) left)

-- and then had its mark written
pub since_mark : {n m k : ℕ} {old mid new : ℕ → Image → Type 0} (call : WritingCall) (size mark : ℕ) → IsWithin call size → size ≤ mark
    → Elapses n m old mid (TornBy call (old n)) → Elapses m k mid new (TornAt mark (mid m))
    → ((t u : ℕ) (image : Image) → t ≤ u → mid u image → mid t image)
    → (image : Image) → new n image → IsSince call size (old n) image
since_mark {n} {m} {old = old} call size mark lt le time marking earlier image left = ⊎_elim
    (λ was. since_call call size lt time image was)
    (λ torn.
    let base = since_call call size lt time torn.0 (earlier n m torn.0 time.later torn.1) in
    let same : take size image ≡ take size torn.0 = ap (take size) torn.4 ∙ take-set-le size torn.0 mark torn.2 le in
    (base.0, base.1, subst (λ (i : Image). Since call (take size base.0) i) (sym same) base.2))
    (marking.adds n image time.later left)

-- the mark of one that got the call alone
pub mark_call : {n m : ℕ} {old new : ℕ → Image → Type 0} (call : WritingCall) (mark : ℕ) (opens : Bool) → IsWithin call mark
    → Elapses n m old new (TornBy call (old n)) → HaveMark mark opens (old n) → HaveMark mark opens (new n)
mark_call {n} {old = old} call mark opens lt time have image left = mark_torn call mark opens (old n) image lt have (time.adds n image (omega arith) left)

-- also of what a crash may leave after it
pub mark_now : {n m : ℕ} {old new : ℕ → Image → Type 0} (call : WritingCall) (mark : ℕ) (opens : Bool) → IsWithin call mark
    → Elapses n m old new (TornBy call (old n)) → ((t u : ℕ) (image : Image) → t ≤ u → new u image → new t image)
    → HaveMark mark opens (old n) → HaveMark mark opens (new m)
mark_now {n} {m} call mark opens lt time earlier have image left = mark_call call mark opens lt time have image (earlier n m image time.later left)

-- ---- two halves

-- a pick is one of the two
pick_is : (size ma mb : ℕ) (P : Image → Type 0) (x y : Image) → P (take size x) → P (take size y) → P (pick size ma mb x y)
pick_is size ma mb P x y px py =
    elim (is_open_at mb y && not (is_open_at ma x)) as (λ o. P (if o then take size y else take size x)) [ true ↦ py | false ↦ px ]

-- both got the call
pub both_leave : (call : WritingCall) (size ma mb : ℕ) (la lb : Image → Type 0) (x y : Image) → HaveMark ma false la → HaveMark mb false lb
    → IsSince call size la x → IsSince call size lb y → PicksHave size ma mb (IsLeftBy call (IsPicked size ma mb la lb)) x y
both_leave call size ma mb la lb x y closed_a closed_b from_x from_y =
    let L : Image → Type 0 = IsPicked size ma mb la lb in
    let fore : L (take size from_x.0) = (from_x.0, from_y.0, from_x.1, from_y.1, inl (sym (pick_closed size ma mb from_x.0 from_y.0 (closed_b from_y.0 from_y.1)))) in
    let back : L (take size from_y.0) = (from_x.0, from_y.0, from_x.1, from_y.1, inr (sym (pick_closed size mb ma from_y.0 from_x.0 (closed_a from_x.0 from_x.1)))) in
    let first : IsLeftBy call L (take size x) = since_left call L (take size from_x.0) (take size x) fore from_x.2 in
    let second : IsLeftBy call L (take size y) = since_left call L (take size from_y.0) (take size y) back from_y.2 in
    (pick_is size ma mb (IsLeftBy call L) x y first second, pick_is size mb ma (IsLeftBy call L) y x second first)

-- the first one alone got it, whose mark is open
pub first_leaves : (call : WritingCall) (size ma mb : ℕ) (la lb : Image → Type 0) (x y : Image) → HaveMark ma true la → HaveMark mb false lb
    → IsSince call size la x → is_open_at ma x ≡ true → lb y → PicksHave size ma mb (IsLeftBy call (IsPicked size ma mb la lb)) x y
first_leaves call size ma mb la lb x y open_a closed_b from_x open_x was_y =
    let L : Image → Type 0 = IsPicked size ma mb la lb in
    let fore : L (take size from_x.0) = (from_x.0, y, from_x.1, was_y, inl (sym (pick_closed size ma mb from_x.0 y (closed_b y was_y)))) in
    let first : IsLeftBy call L (take size x) = since_left call L (take size from_x.0) (take size x) fore from_x.2 in (
      subst (IsLeftBy call L) (sym (pick_closed size ma mb x y (closed_b y was_y))) first,
      subst (IsLeftBy call L) (sym (pick_second size mb ma y x (closed_b y was_y) open_x)) first,
    )

-- or the second one
pub second_leaves : (call : WritingCall) (size ma mb : ℕ) (la lb : Image → Type 0) (x y : Image) → HaveMark ma false la → HaveMark mb true lb
    → la x → IsSince call size lb y → is_open_at mb y ≡ true → PicksHave size ma mb (IsLeftBy call (IsPicked size ma mb la lb)) x y
second_leaves call size ma mb la lb x y closed_a open_b was_x from_y open_y =
    let L : Image → Type 0 = IsPicked size ma mb la lb in
    let back : L (take size from_y.0) = (x, from_y.0, was_x, from_y.1, inr (sym (pick_closed size mb ma from_y.0 x (closed_a x was_x)))) in
    let second : IsLeftBy call L (take size y) = since_left call L (take size from_y.0) (take size y) back from_y.2 in (
      subst (IsLeftBy call L) (sym (pick_second size ma mb x y (closed_a x was_x) open_y)) second,
      subst (IsLeftBy call L) (sym (pick_closed size mb ma y x (closed_a x was_x))) second,
    )

-- neither got it
pub neither_leaves : (call : WritingCall) (size ma mb : ℕ) (la lb : Image → Type 0) (x y : Image) → la x → lb y
    → PicksHave size ma mb (IsLeftBy call (IsPicked size ma mb la lb)) x y
neither_leaves call size ma mb la lb x y was_x was_y = (inl (x, y, was_x, was_y, inl refl), inl (x, y, was_x, was_y, inr refl))

-- ---- over the values that calls leave

-- the block that a call writes stands before the marks
pub within_pair : (call : WritingCall) (at : Attached) (na nb : ℕ) → has_marks at ≡ true → IsWithin call (blocks_in at na nb) → IsWithin call (min na nb - 1)
within_pair call Nothing na nb has lt = absurd (false≢true has)
within_pair call Alone na nb has lt = absurd (false≢true has)
within_pair call Member na nb has lt = absurd (false≢true has)
within_pair call (Pair h) na nb has lt = lt
within_pair call (Apart h) na nb has lt = absurd (false≢true has)

pub within_first : (call : WritingCall) (at : Attached) (na nb : ℕ) → has_marks at ≡ true → IsWithin call (blocks_in at na nb) → IsWithin call (na - 1)
within_first call at na nb has lt = within_more call (min na nb - 1) (na - 1) (omega arith) (within_pair call at na nb has lt)

pub within_second : (call : WritingCall) (at : Attached) (na nb : ℕ) → has_marks at ≡ true → IsWithin call (blocks_in at na nb) → IsWithin call (nb - 1)
within_second call at na nb has lt = within_more call (min na nb - 1) (nb - 1) (omega arith) (within_pair call at na nb has lt)

-- two halves with marks in use have them closed
pub both_closed : (at : Attached) (na nb : ℕ) (la lb : Image → Type 0) → halves_of at ≡ Both → has_marks at ≡ true → AreLeftMarked at na nb la lb
    → HaveMark (na - 1) false la × HaveMark (nb - 1) false lb
both_closed (Pair Both) na nb la lb is has keeps = keeps
both_closed (Pair First) na nb la lb is has keeps = absurd (both_is is)
both_closed (Pair Second) na nb la lb is has keeps = absurd (both_is is)
both_closed (Pair Neither) na nb la lb is has keeps = absurd (both_is is)
both_closed Nothing na nb la lb is has keeps = absurd (false≢true has)
both_closed Alone na nb la lb is has keeps = absurd (false≢true has)
both_closed Member na nb la lb is has keeps = absurd (false≢true has)
both_closed (Apart h) na nb la lb is has keeps = absurd (false≢true has)

-- where one half is attached, it is the first one
pub one_alone : (at : Attached) → is_two at ≡ false → halves_of at ≡ Second → ⊥
one_alone Nothing one is = second_is is
one_alone Alone one is = second_is is
one_alone Member one is = second_is is
one_alone (Pair h) one is = false≢true (sym one)
one_alone (Apart h) one is = false≢true (sym one)

pub one_both : (at : Attached) → is_two at ≡ false → halves_of at ≡ Both → ⊥
one_both Nothing one is = both_is is
one_both Alone one is = both_is is
one_both Member one is = both_is is
one_both (Pair h) one is = false≢true (sym one)
one_both (Apart h) one is = false≢true (sym one)

-- both halves in use got the call
pub inside_both : (call : WritingCall) (at : Attached) (na nb : ℕ) (la lb : Image → Type 0) (x y : Image) → halves_of at ≡ Both → has_marks at ≡ true → AreLeftMarked at na nb la lb
    → IsSince call (min na nb - 1) la x → IsSince call (min na nb - 1) lb y
    → PicksHave (min na nb - 1) (na - 1) (nb - 1) (IsLeftBy call (IsPicked (min na nb - 1) (na - 1) (nb - 1) la lb)) x y
inside_both call at na nb la lb x y is has keeps from_x from_y =
    let closed = both_closed at na nb la lb is has keeps in
    both_leave call (min na nb - 1) (na - 1) (nb - 1) la lb x y closed.0 closed.1 from_x from_y

-- the first half alone
pub inside_first : (call : WritingCall) (at : Attached) (na nb : ℕ) (la lb : Image → Type 0) (x y : Image) → halves_of at ≡ First → has_marks at ≡ true → AreLeftMarked at na nb la lb
    → IsSince call (min na nb - 1) la x → (HaveMark (na - 1) true la → is_open_at (na - 1) x ≡ true) → lb y
    → PicksHave (min na nb - 1) (na - 1) (nb - 1) (IsLeftBy call (IsPicked (min na nb - 1) (na - 1) (nb - 1) la lb)) x y
inside_first call (Pair First) na nb la lb x y is has keeps from_x open_x was_y =
    first_leaves call (min na nb - 1) (na - 1) (nb - 1) la lb x y keeps.0 keeps.1 from_x (open_x keeps.0) was_y
inside_first call (Pair Both) na nb la lb x y is has keeps from_x open_x was_y = absurd (first_is is)
inside_first call (Pair Second) na nb la lb x y is has keeps from_x open_x was_y = absurd (first_is is)
inside_first call (Pair Neither) na nb la lb x y is has keeps from_x open_x was_y = absurd (first_is is)
inside_first call Nothing na nb la lb x y is has keeps from_x open_x was_y = absurd (false≢true has)
inside_first call Alone na nb la lb x y is has keeps from_x open_x was_y = absurd (false≢true has)
inside_first call Member na nb la lb x y is has keeps from_x open_x was_y = absurd (false≢true has)
inside_first call (Apart h) na nb la lb x y is has keeps from_x open_x was_y = absurd (false≢true has)

-- the second half alone
pub inside_second : (call : WritingCall) (at : Attached) (na nb : ℕ) (la lb : Image → Type 0) (x y : Image) → halves_of at ≡ Second → has_marks at ≡ true → AreLeftMarked at na nb la lb
    → la x → IsSince call (min na nb - 1) lb y → (HaveMark (nb - 1) true lb → is_open_at (nb - 1) y ≡ true)
    → PicksHave (min na nb - 1) (na - 1) (nb - 1) (IsLeftBy call (IsPicked (min na nb - 1) (na - 1) (nb - 1) la lb)) x y
inside_second call (Pair Second) na nb la lb x y is has keeps was_x from_y open_y =
    second_leaves call (min na nb - 1) (na - 1) (nb - 1) la lb x y keeps.0 keeps.1 was_x from_y (open_y keeps.1)
inside_second call (Pair Both) na nb la lb x y is has keeps was_x from_y open_y = absurd (second_is is)
inside_second call (Pair First) na nb la lb x y is has keeps was_x from_y open_y = absurd (second_is is)
inside_second call (Pair Neither) na nb la lb x y is has keeps was_x from_y open_y = absurd (second_is is)
inside_second call Nothing na nb la lb x y is has keeps was_x from_y open_y = absurd (false≢true has)
inside_second call Alone na nb la lb x y is has keeps was_x from_y open_y = absurd (false≢true has)
inside_second call Member na nb la lb x y is has keeps was_x from_y open_y = absurd (false≢true has)
inside_second call (Apart h) na nb la lb x y is has keeps was_x from_y open_y = absurd (false≢true has)

-- ---- the marks after a call

left_counts : (at : Attached) (na nb na' nb' : ℕ) (la lb : Image → Type 0) → na' ≡ na → nb' ≡ nb → AreLeftMarked at na nb la lb → AreLeftMarked at na' nb' la lb
left_counts at na nb na' nb' la lb ca cb keeps =
    subst (λ n. AreLeftMarked at n nb' la lb) (sym ca) (subst (λ n. AreLeftMarked at na n la lb) (sym cb) keeps)

-- both halves stay in use
pub marks_both : (at : Attached) (na nb na' nb' : ℕ) (la lb : Image → Type 0) → halves_of at ≡ Both → na' ≡ na → nb' ≡ nb
    → (has_marks at ≡ true → HaveMark (na - 1) false la) → (has_marks at ≡ true → HaveMark (nb - 1) false lb) → AreLeftMarked at na' nb' la lb
marks_both (Pair Both) na nb na' nb' la lb is ca cb ha hb = left_counts (Pair Both) na nb na' nb' la lb ca cb (ha refl, hb refl)
marks_both (Pair First) na nb na' nb' la lb is ca cb ha hb = absurd (both_is is)
marks_both (Pair Second) na nb na' nb' la lb is ca cb ha hb = absurd (both_is is)
marks_both (Pair Neither) na nb na' nb' la lb is ca cb ha hb = tt
marks_both Nothing na nb na' nb' la lb is ca cb ha hb = tt
marks_both Alone na nb na' nb' la lb is ca cb ha hb = tt
marks_both Member na nb na' nb' la lb is ca cb ha hb = tt
marks_both (Apart h) na nb na' nb' la lb is ca cb ha hb = tt

-- a broken mirror says nothing
marks_neither : (at : Attached) (na nb : ℕ) (la lb : Image → Type 0) → AreLeftMarked (with_halves Neither at) na nb la lb
marks_neither Nothing na nb la lb = tt
marks_neither Alone na nb la lb = tt
marks_neither Member na nb la lb = tt
marks_neither (Pair h) na nb la lb = tt
marks_neither (Apart h) na nb la lb = tt

marks_one : (at : Attached) (na nb : ℕ) (a b a' : Option Image) (la lb : Image → Type 0) → halves_of at ≡ Both → IsMarked at na nb a b
    → (has_marks at ≡ true → 0 < na → IfSome a' (λ image. is_open_at (na - 1) image ≡ true)) → (has_marks at ≡ true → 0 < na → IsOnly a' la)
    → (has_marks at ≡ true → HaveMark (nb - 1) false lb) → AreLeftMarked (with_halves First at) na nb la lb
marks_one (Pair h) na nb a b a' la lb is marked opened only hb =
    (only_has (λ image. is_open_at (na - 1) image ≡ true) a' (only refl marked.first_room) (opened refl marked.first_room), hb refl)
marks_one Nothing na nb a b a' la lb is marked opened only hb = tt
marks_one Alone na nb a b a' la lb is marked opened only hb = tt
marks_one Member na nb a b a' la lb is marked opened only hb = tt
marks_one (Apart h) na nb a b a' la lb is marked opened only hb = tt

-- the first one went on
pub marks_first : {T E : Type 0} (r : Result T E) (at at' : Attached) (na nb na1 na' nb' : ℕ) (a b a' : Option Image) (la lb : Image → Type 0) → halves_of at ≡ Both → IsMarked at na nb a b
    → at' ≡ with_halves (if is_ok r then First else Neither) at → na1 ≡ na → na' ≡ na1 → nb' ≡ nb
    → OnOk r (has_marks at ≡ true → 0 < na1 → IfSome a' (λ image. is_open_at (na1 - 1) image ≡ true)) → OnOk r (has_marks at ≡ true → 0 < na1 → IsOnly a' la)
    → (has_marks at ≡ true → HaveMark (nb - 1) false lb) → AreLeftMarked at' na' nb' la lb
marks_first (Err e) at at' na nb na1 na' nb' a b a' la lb is marked eat c1 ca cb opened only hb =
    subst (λ t. AreLeftMarked t na' nb' la lb) (sym eat) (marks_neither at na' nb' la lb)
marks_first (Ok x) at at' na nb na1 na' nb' a b a' la lb is marked eat c1 ca cb opened only hb =
    subst (λ t. AreLeftMarked t na' nb' la lb) (sym eat) (left_counts (with_halves First at) na nb na' nb' la lb (ca ∙ c1) cb
    (marks_one at na nb a b a' la lb is marked (subst (λ n. has_marks at ≡ true → 0 < n → IfSome a' (λ image. is_open_at (n - 1) image ≡ true)) c1 opened)
    (subst (λ n. has_marks at ≡ true → 0 < n → IsOnly a' la) c1 only) hb))

marks_other : (at : Attached) (na nb : ℕ) (a b b' : Option Image) (la lb : Image → Type 0) → halves_of at ≡ Both → IsMarked at na nb a b
    → (has_marks at ≡ true → 0 < nb → IfSome b' (λ image. is_open_at (nb - 1) image ≡ true)) → (has_marks at ≡ true → 0 < nb → IsOnly b' lb)
    → (has_marks at ≡ true → HaveMark (na - 1) false la) → AreLeftMarked (with_halves Second at) na nb la lb
marks_other (Pair h) na nb a b b' la lb is marked opened only ha =
    (ha refl, only_has (λ image. is_open_at (nb - 1) image ≡ true) b' (only refl marked.second_room) (opened refl marked.second_room))
marks_other Nothing na nb a b b' la lb is marked opened only ha = tt
marks_other Alone na nb a b b' la lb is marked opened only ha = tt
marks_other Member na nb a b b' la lb is marked opened only ha = tt
marks_other (Apart h) na nb a b b' la lb is marked opened only ha = tt

-- the second one went on
pub marks_second : {T E : Type 0} (r : Result T E) (at at' : Attached) (na nb nb1 na' nb' : ℕ) (a b b' : Option Image) (la lb : Image → Type 0) → halves_of at ≡ Both → IsMarked at na nb a b
    → at' ≡ with_halves (if is_ok r then Second else Neither) at → nb1 ≡ nb → nb' ≡ nb1 → na' ≡ na
    → OnOk r (has_marks at ≡ true → 0 < nb1 → IfSome b' (λ image. is_open_at (nb1 - 1) image ≡ true)) → OnOk r (has_marks at ≡ true → 0 < nb1 → IsOnly b' lb)
    → (has_marks at ≡ true → HaveMark (na - 1) false la) → AreLeftMarked at' na' nb' la lb
marks_second (Err e) at at' na nb nb1 na' nb' a b b' la lb is marked eat c1 cb ca opened only ha =
    subst (λ t. AreLeftMarked t na' nb' la lb) (sym eat) (marks_neither at na' nb' la lb)
marks_second (Ok x) at at' na nb nb1 na' nb' a b b' la lb is marked eat c1 cb ca opened only ha =
    subst (λ t. AreLeftMarked t na' nb' la lb) (sym eat) (left_counts (with_halves Second at) na nb na' nb' la lb ca (cb ∙ c1)
    (marks_other at na nb a b b' la lb is marked (subst (λ n. has_marks at ≡ true → 0 < n → IfSome b' (λ image. is_open_at (n - 1) image ≡ true)) c1 opened)
    (subst (λ n. has_marks at ≡ true → 0 < n → IsOnly b' lb) c1 only) ha))

-- the first one alone got the call
pub marks_first_alone : (call : WritingCall) (at : Attached) (na nb na' : ℕ) (la la' lb : Image → Type 0) → halves_of at ≡ First → IsWithin call (blocks_in at na nb) → na' ≡ na
    → (IsWithin call (na - 1) → HaveMark (na - 1) true la → HaveMark (na - 1) true la') → AreLeftMarked at na nb la lb → AreLeftMarked at na' nb la' lb
marks_first_alone call (Pair First) na nb na' la la' lb is lt ca stays keeps =
    left_counts (Pair First) na nb na' nb la' lb ca refl (stays (within_first call (Pair First) na nb refl lt) keeps.0, keeps.1)
marks_first_alone call (Pair Both) na nb na' la la' lb is lt ca stays keeps = absurd (first_is is)
marks_first_alone call (Pair Second) na nb na' la la' lb is lt ca stays keeps = absurd (first_is is)
marks_first_alone call (Pair Neither) na nb na' la la' lb is lt ca stays keeps = tt
marks_first_alone call Nothing na nb na' la la' lb is lt ca stays keeps = tt
marks_first_alone call Alone na nb na' la la' lb is lt ca stays keeps = tt
marks_first_alone call Member na nb na' la la' lb is lt ca stays keeps = tt
marks_first_alone call (Apart h) na nb na' la la' lb is lt ca stays keeps = tt

-- the second one alone got it
pub marks_second_alone : (call : WritingCall) (at : Attached) (na nb nb' : ℕ) (la lb lb' : Image → Type 0) → halves_of at ≡ Second → IsWithin call (blocks_in at na nb) → nb' ≡ nb
    → (IsWithin call (nb - 1) → HaveMark (nb - 1) true lb → HaveMark (nb - 1) true lb') → AreLeftMarked at na nb la lb → AreLeftMarked at na nb' la lb'
marks_second_alone call (Pair Second) na nb nb' la lb lb' is lt cb stays keeps =
    left_counts (Pair Second) na nb na nb' la lb' refl cb (keeps.0, stays (within_second call (Pair Second) na nb refl lt) keeps.1)
marks_second_alone call (Pair Both) na nb nb' la lb lb' is lt cb stays keeps = absurd (second_is is)
marks_second_alone call (Pair First) na nb nb' la lb lb' is lt cb stays keeps = absurd (second_is is)
marks_second_alone call (Pair Neither) na nb nb' la lb lb' is lt cb stays keeps = tt
marks_second_alone call Nothing na nb nb' la lb lb' is lt cb stays keeps = tt
marks_second_alone call Alone na nb nb' la lb lb' is lt cb stays keeps = tt
marks_second_alone call Member na nb nb' la lb lb' is lt cb stays keeps = tt
marks_second_alone call (Apart h) na nb nb' la lb lb' is lt cb stays keeps = tt
