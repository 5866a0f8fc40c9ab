-- Two halves, one of which was made a copy of the other: their marks, and what they show.
use Rattle.std.proofs.Common.{◌≡◌, ℕ, ◌+◌, ◌-◌, ◌<◌, ◌≤◌, ⊎_elim, [], min, take, Option, None, Some, IfSome, Bool, true, false, if◌then◌else◌, refl, sym, ap, subst, ◌∙◌, arith}
use Rattle.std.specs.Prelude.{◌&&◌, not}
use Rattle.std.proofs.lemmas.Bool.{false≢true, cases_lt}
use Rattle.std.proofs.lemmas.Option.{same_Some}
use Rattle.bd_device.specs.Blocks.{Image}
use Rattle.bd_device.specs.Changes.{StaysBut, IsInRange}
use Rattle.bd_device.specs.Moments.{IsOnly}
use Rattle.bd_mirror.specs.declared.halves.Halves.{Halves}
use Rattle.bd_mirror.specs.declared.halves.Halves.TheVariants.{Both, First, Second, Neither}
use Rattle.bd_mirror.specs.declared.halves.Attached.{Attached}
use Rattle.bd_mirror.specs.declared.halves.Attached.TheVariants.{Nothing, Alone, Member, Pair, Apart}
use Rattle.bd_mirror.specs.Halves.{IsInUse, halves_of, uses_first, uses_second, blocks_in}
use Rattle.bd_mirror.specs.Contents.{is_open_at, pick, picked, shown_by, IsCopy, PicksAre, LeavesShown, AreMarked, IsMarked, HaveMark, AreLeftMarked}
use Rattle.bd_mirror.proofs.Copies.{only_has}
use Rattle.bd_mirror.proofs.Marks.{take_but_mark, pick_closed, pick_second}

-- of halves with so many blocks what holds at the mark holds at their last blocks
pub at_mark : (P : ℕ → ℕ → ℕ → Type 0) (mark na nb : ℕ) → na ≡ mark + 1 → nb ≡ mark + 1 → P mark mark mark → P (min na nb - 1) (na - 1) (nb - 1)
at_mark P mark na nb ea eb p =
    let size : min na nb - 1 ≡ mark = omega (arith, ea, eb) in
    let ma : na - 1 ≡ mark = omega (arith, ea) in
    let mb : nb - 1 ≡ mark = omega (arith, eb) in
    subst (λ n. P n (na - 1) (nb - 1)) (sym size) (subst (λ n. P mark n (nb - 1)) (sym ma) (subst (λ n. P mark mark n) (sym mb) p))

pub joined_marked : (h : Halves) (mark na nb : ℕ) (a b : Option Image) → na ≡ mark + 1 → nb ≡ mark + 1
    → AreMarked h mark mark mark a b → IsMarked (Pair h) na nb a b
joined_marked h mark na nb a b ea eb marked = record {
  first_room = omega (arith, ea);
  second_room = omega (arith, eb);
  marked = at_mark (λ n ma mb. AreMarked h n ma mb a b) mark na nb ea eb marked;
}

pub joined_shown : (h : Halves) (mark na nb na' nb' : ℕ) (a b a' b' : Option Image) → na ≡ mark + 1 → nb ≡ mark + 1 → na' ≡ na → nb' ≡ nb
    → picked mark mark mark a' b' ≡ picked mark mark mark a b → shown_by (Pair h) na' nb' a' b' ≡ shown_by (Pair h) na nb a b
joined_shown h mark na nb na' nb' a b a' b' ea eb ca cb e =
    at_mark (λ n ma mb. picked n ma mb a' b' ≡ picked (min na nb - 1) (na - 1) (nb - 1) a b) mark na' nb' (ca ∙ ea) (cb ∙ eb)
    (at_mark (λ n ma mb. picked mark mark mark a' b' ≡ picked n ma mb a b) mark na nb ea eb e)

pub joined_left : (h : Halves) (mark na nb : ℕ) (a b : Option Image) (la lb : Image → Type 0) → na ≡ mark + 1 → nb ≡ mark + 1
    → IfSome (picked mark mark mark a b) (PicksAre mark mark mark la lb) → LeavesShown (Pair h) na nb a b la lb
joined_left h mark na nb a b la lb ea eb left =
    at_mark (λ n ma mb. IfSome (picked n ma mb a b) (PicksAre n ma mb la lb)) mark na nb ea eb left

-- ---- what was picked before

-- the first one, unless the second one's mark alone is open
pub pick_source : (mark : ℕ) (a b : Image) (oa ob : Bool) → is_open_at mark a ≡ oa → is_open_at mark b ≡ ob → (ob && not oa) ≡ false
    → pick mark mark mark a b ≡ take mark a
pick_source mark a b oa ob ea eb other =
    let e : (is_open_at mark b && not (is_open_at mark a)) ≡ false =
    ap (λ o. o && not (is_open_at mark a)) eb ∙ ap (λ o. ob && not o) ea ∙ other in
    ap (λ o. if o then take mark b else take mark a) e

-- ---- the first half is the source

pub marked_both : (mark : ℕ) (a a' b' : Option Image) → StaysBut (λ i. i ≡ mark) a a' → IfSome a' (λ i. is_open_at mark i ≡ false)
    → IfSome b' (λ i. is_open_at mark i ≡ false) → IsCopy mark a b' → AreMarked Both mark mark mark a' b'
marked_both mark a None b' same ca cb copied = tt
marked_both mark a (Some a') None same ca cb copied = tt
marked_both mark None (Some a') (Some b') same ca cb copied = absurd same
marked_both mark (Some a) (Some a') (Some b') same ca cb copied =
    (ca, cb, take_but_mark mark mark a a' (omega arith) same ∙ sym copied)

pub marked_first : (mark : ℕ) (a b : Option Image) → IfSome a (λ i. is_open_at mark i ≡ true) → IfSome b (λ i. is_open_at mark i ≡ false)
    → AreMarked First mark mark mark a b
marked_first mark None b oa cb = tt
marked_first mark (Some a) None oa cb = tt
marked_first mark (Some a) (Some b) oa cb = (oa, cb)

pub shown_first : (mark : ℕ) (oa ob : Bool) (a b a' b' : Option Image) → IfSome a (λ i. is_open_at mark i ≡ oa) → IfSome b (λ i. is_open_at mark i ≡ ob)
    → (ob && not oa) ≡ false → StaysBut (λ i. i ≡ mark) a a' → StaysBut (IsInRange 0 (mark + 1)) b b' → IfSome b' (λ i. is_open_at mark i ≡ false)
    → picked mark mark mark a' b' ≡ picked mark mark mark a b
shown_first mark oa ob None b None b' ea eb other sa sb cb = refl
shown_first mark oa ob None b (Some a') b' ea eb other sa sb cb = absurd sa
shown_first mark oa ob (Some a) b None b' ea eb other sa sb cb = absurd sa
shown_first mark oa ob (Some a) None (Some a') None ea eb other sa sb cb = refl
shown_first mark oa ob (Some a) None (Some a') (Some b') ea eb other sa sb cb = absurd sb
shown_first mark oa ob (Some a) (Some b) (Some a') None ea eb other sa sb cb = absurd sb
shown_first mark oa ob (Some a) (Some b) (Some a') (Some b') ea eb other sa sb cb =
    ap Some (pick_closed mark mark mark a' b' cb ∙ take_but_mark mark mark a a' (omega arith) sa ∙ sym (pick_source mark a b oa ob ea eb other))

-- ---- the second half is the source

pub marked_both_back : (mark : ℕ) (b a' b' : Option Image) → StaysBut (λ i. i ≡ mark) b b' → IfSome a' (λ i. is_open_at mark i ≡ false)
    → IfSome b' (λ i. is_open_at mark i ≡ false) → IsCopy mark b a' → AreMarked Both mark mark mark a' b'
marked_both_back mark b None b' same ca cb copied = tt
marked_both_back mark b (Some a') None same ca cb copied = tt
marked_both_back mark None (Some a') (Some b') same ca cb copied = absurd same
marked_both_back mark (Some b) (Some a') (Some b') same ca cb copied =
    (ca, cb, copied ∙ sym (take_but_mark mark mark b b' (omega arith) same))

pub marked_second : (mark : ℕ) (a b : Option Image) → IfSome a (λ i. is_open_at mark i ≡ false) → IfSome b (λ i. is_open_at mark i ≡ true)
    → AreMarked Second mark mark mark a b
marked_second mark None b ca ob = tt
marked_second mark (Some a) None ca ob = tt
marked_second mark (Some a) (Some b) ca ob = (ca, ob)

-- the copy took all
pub shown_copied : (mark : ℕ) (a b a' b' : Option Image) → IfSome a (λ i. is_open_at mark i ≡ false) → IfSome b (λ i. is_open_at mark i ≡ true)
    → StaysBut (IsInRange 0 (mark + 1)) a a' → StaysBut (λ i. i ≡ mark) b b' → IfSome b' (λ i. is_open_at mark i ≡ false) → IsCopy mark b a'
    → picked mark mark mark a' b' ≡ picked mark mark mark a b
shown_copied mark None b None b' ea eb sa sb cb copied = refl
shown_copied mark None b (Some a') b' ea eb sa sb cb copied = absurd sa
shown_copied mark (Some a) b None b' ea eb sa sb cb copied = absurd sa
shown_copied mark (Some a) None (Some a') None ea eb sa sb cb copied = refl
shown_copied mark (Some a) None (Some a') (Some b') ea eb sa sb cb copied = absurd sb
shown_copied mark (Some a) (Some b) (Some a') None ea eb sa sb cb copied = absurd sb
shown_copied mark (Some a) (Some b) (Some a') (Some b') ea eb sa sb cb copied =
    ap Some (pick_closed mark mark mark a' b' cb ∙ copied ∙ sym (pick_second mark mark mark a b ea eb))

-- it didn't
pub shown_second : (mark : ℕ) (a b a' b' : Option Image) → IfSome a (λ i. is_open_at mark i ≡ false) → IfSome b (λ i. is_open_at mark i ≡ true)
    → StaysBut (IsInRange 0 (mark + 1)) a a' → StaysBut (λ i. i ≡ mark) b b' → IfSome a' (λ i. is_open_at mark i ≡ false)
    → IfSome b' (λ i. is_open_at mark i ≡ true) → picked mark mark mark a' b' ≡ picked mark mark mark a b
shown_second mark None b None b' ea eb sa sb ca ob = refl
shown_second mark None b (Some a') b' ea eb sa sb ca ob = absurd sa
shown_second mark (Some a) b None b' ea eb sa sb ca ob = absurd sa
shown_second mark (Some a) None (Some a') None ea eb sa sb ca ob = refl
shown_second mark (Some a) None (Some a') (Some b') ea eb sa sb ca ob = absurd sb
shown_second mark (Some a) (Some b) (Some a') None ea eb sa sb ca ob = absurd sb
shown_second mark (Some a) (Some b) (Some a') (Some b') ea eb sa sb ca ob =
    ap Some (pick_second mark mark mark a' b' ca ob ∙ take_but_mark mark mark b b' (omega arith) sb ∙ sym (pick_second mark mark mark a b ea eb))

-- ---- what a crash may leave then

-- of each half what it holds
pub left_both : (size ma mb : ℕ) (a b : Option Image) (la lb : Image → Type 0) → AreMarked Both size ma mb a b → IsOnly a la → IsOnly b lb
    → IfSome (picked size ma mb a b) (PicksAre size ma mb la lb)
left_both size ma mb None b la lb marked only_a only_b = tt
left_both size ma mb (Some a) None la lb marked only_a only_b = tt
left_both size ma mb (Some a) (Some b) la lb marked only_a only_b = λ x y lx ly.
    let ex : a ≡ x = same_Some a x (only_a x lx) in
    let ey : b ≡ y = same_Some b y (only_b y ly) in
    let back : pick size mb ma b a ≡ pick size ma mb a b =
    pick_closed size mb ma b a marked.0 ∙ sym marked.2 ∙ sym (pick_closed size ma mb a b marked.1) in (
      ap (λ (i : Image). pick size ma mb i y) (sym ex) ∙ ap (λ (i : Image). pick size ma mb a i) (sym ey),
      ap (λ (i : Image). pick size mb ma i x) (sym ey) ∙ ap (λ (i : Image). pick size mb ma b i) (sym ex) ∙ back,
    )

-- of the first one what it holds, and of the second one what has a closed mark
pub left_first : (size ma mb : ℕ) (a b : Option Image) (la lb : Image → Type 0) → AreMarked First size ma mb a b → IsOnly a la
    → HaveMark mb false lb → IfSome (picked size ma mb a b) (PicksAre size ma mb la lb)
left_first size ma mb None b la lb marked only_a closed = tt
left_first size ma mb (Some a) None la lb marked only_a closed = tt
left_first size ma mb (Some a) (Some b) la lb marked only_a closed = λ x y lx ly.
    let ex : a ≡ x = same_Some a x (only_a x lx) in
    let shown : take size a ≡ pick size ma mb a b = sym (pick_closed size ma mb a b marked.1) in (
      ap (λ (i : Image). pick size ma mb i y) (sym ex) ∙ pick_closed size ma mb a y (closed y ly) ∙ shown,
      ap (λ (i : Image). pick size mb ma y i) (sym ex) ∙ pick_second size mb ma y a (closed y ly) marked.0 ∙ shown,
    )

-- and the other way round
pub left_second : (size ma mb : ℕ) (a b : Option Image) (la lb : Image → Type 0) → AreMarked Second size ma mb a b
    → HaveMark ma false la → IsOnly b lb → IfSome (picked size ma mb a b) (PicksAre size ma mb la lb)
left_second size ma mb None b la lb marked closed only_b = tt
left_second size ma mb (Some a) None la lb marked closed only_b = tt
left_second size ma mb (Some a) (Some b) la lb marked closed only_b = λ x y lx ly.
    let ey : b ≡ y = same_Some b y (only_b y ly) in
    let shown : take size b ≡ pick size ma mb a b = sym (pick_second size ma mb a b marked.0 marked.1) in (
      ap (λ (i : Image). pick size ma mb x i) (sym ey) ∙ pick_second size ma mb x b (closed x lx) marked.1 ∙ shown,
      ap (λ (i : Image). pick size mb ma i x) (sym ey) ∙ pick_closed size mb ma b x (closed x lx) ∙ shown,
    )

-- a mirror without blocks shows none
pick_none : (size ma mb : ℕ) (a b : Image) → size ≡ 0 → pick size ma mb a b ≡ []
pick_none size ma mb a b none =
    let no : (image : Image) → take size image ≡ [] = λ image. subst (λ n. take n image ≡ []) (sym none) refl in
    elim (is_open_at mb b && not (is_open_at ma a)) as (λ o. (if o then take size b else take size a) ≡ []) [ true ↦ no b | false ↦ no a ]

left_none : (size ma mb : ℕ) (a b : Option Image) (la lb : Image → Type 0) → size ≡ 0 → IfSome (picked size ma mb a b) (PicksAre size ma mb la lb)
left_none size ma mb None b la lb none = tt
left_none size ma mb (Some a) None la lb none = tt
left_none size ma mb (Some a) (Some b) la lb none = λ x y _ _.
    let shown : [] ≡ pick size ma mb a b = sym (pick_none size ma mb a b none) in
    (pick_none size ma mb x y none ∙ shown, pick_none size mb ma y x none ∙ shown)

-- so it is of halves in use that are settled
pub left_settled : (at : Attached) (na nb : ℕ) (a b : Option Image) (la lb : Image → Type 0) → IsInUse (halves_of at) → IsMarked at na nb a b → AreLeftMarked at na nb la lb
    → (uses_first (halves_of at) ≡ true → 0 < blocks_in at na nb → IsOnly a la) → (uses_second (halves_of at) ≡ true → 0 < blocks_in at na nb → IsOnly b lb)
    → LeavesShown at na nb a b la lb
left_settled Nothing na nb a b la lb works marked keeps only_a only_b = tt
left_settled Alone na nb a b la lb works marked keeps only_a only_b = tt
left_settled Member na nb a b la lb works marked keeps only_a only_b = tt
left_settled (Apart h) na nb a b la lb works marked keeps only_a only_b = tt
left_settled (Pair Neither) na nb a b la lb works marked keeps only_a only_b = absurd works
left_settled (Pair Both) na nb a b la lb works marked keeps only_a only_b = ⊎_elim
    (λ (some : 0 < min na nb - 1). left_both (min na nb - 1) (na - 1) (nb - 1) a b la lb marked.marked (only_a refl some) (only_b refl some))
    (λ (none : min na nb - 1 ≤ 0). left_none (min na nb - 1) (na - 1) (nb - 1) a b la lb (omega (arith, none)))
    (cases_lt 0 (min na nb - 1))
left_settled (Pair First) na nb a b la lb works marked keeps only_a only_b = ⊎_elim
    (λ (some : 0 < min na nb - 1). left_first (min na nb - 1) (na - 1) (nb - 1) a b la lb marked.marked (only_a refl some) keeps.1)
    (λ (none : min na nb - 1 ≤ 0). left_none (min na nb - 1) (na - 1) (nb - 1) a b la lb (omega (arith, none)))
    (cases_lt 0 (min na nb - 1))
left_settled (Pair Second) na nb a b la lb works marked keeps only_a only_b = ⊎_elim
    (λ (some : 0 < min na nb - 1). left_second (min na nb - 1) (na - 1) (nb - 1) a b la lb marked.marked keeps.0 (only_b refl some))
    (λ (none : min na nb - 1 ≤ 0). left_none (min na nb - 1) (na - 1) (nb - 1) a b la lb (omega (arith, none)))
    (cases_lt 0 (min na nb - 1))

-- ---- over the values that calls leave

-- what stays of what reads still give
from_here : (changed : ℕ → Type 0) (old now new : Option Image) → now ≡ old → StaysBut changed now new → StaysBut changed old new
from_here changed old now new same stays = subst (λ (o : Option Image). StaysBut changed o new) same stays

with_mark : (mark : ℕ) (o o' : Bool) (known : Option Image) → o ≡ o' → IfSome known (λ i. is_open_at mark i ≡ o) → IfSome known (λ i. is_open_at mark i ≡ o')
with_mark mark o o' known e is = subst (λ b. IfSome known (λ i. is_open_at mark i ≡ b)) e is

-- what a half has whose mark alone is open
pub alone_open : (o other : Bool) → (o && not other) ≡ true → o ≡ true
alone_open true other e = refl
alone_open false other e = absurd (false≢true e)

pub alone_closed : (o other : Bool) → (o && not other) ≡ true → other ≡ false
alone_closed true true e = absurd (false≢true e)
alone_closed true false e = refl
alone_closed false other e = absurd (false≢true e)

-- then that of the other one isn't
pub not_other : (o other : Bool) → (o && not other) ≡ true → (other && not o) ≡ false
not_other true true e = absurd (false≢true e)
not_other true false e = refl
not_other false other e = absurd (false≢true e)

-- what two halves then are, what they show, and what a crash may leave of them
pub record AreJoined (h : Halves) (na nb na' nb' : ℕ) (a b a' b' : Option Image) (la lb : Image → Type 0) : Type 0 where
  pub marked : IsMarked (Pair h) na' nb' a' b'
  pub shown : shown_by (Pair h) na' nb' a' b' ≡ shown_by (Pair h) na nb a b
  pub left : LeavesShown (Pair h) na' nb' a' b' la lb
  pub kept : AreLeftMarked (Pair h) na' nb' la lb

-- of what has so many blocks
have_at : (mark n : ℕ) (opens : Bool) (left : Image → Type 0) → n ≡ mark + 1 → HaveMark mark opens left → HaveMark (n - 1) opens left
have_at mark n opens left e have =
    let is : n - 1 ≡ mark = omega (arith, e) in
    subst (λ k. HaveMark k opens left) (sym is) have

joined : (h : Halves) (mark na nb na' nb' : ℕ) (a b a' b' : Option Image) (la lb : Image → Type 0) → na ≡ mark + 1 → nb ≡ mark + 1 → na' ≡ na → nb' ≡ nb
    → AreMarked h mark mark mark a' b' → picked mark mark mark a' b' ≡ picked mark mark mark a b → IfSome (picked mark mark mark a' b') (PicksAre mark mark mark la lb)
    → AreLeftMarked (Pair h) na' nb' la lb → AreJoined h na nb na' nb' a b a' b' la lb
joined h mark na nb na' nb' a b a' b' la lb ea eb ca cb marked shown left kept = record {
  marked = joined_marked h mark na' nb' a' b' (ca ∙ ea) (cb ∙ eb) marked;
  shown = joined_shown h mark na nb na' nb' a b a' b' ea eb ca cb shown;
  left = joined_left h mark na' nb' a' b' la lb (ca ∙ ea) (cb ∙ eb) left;
  kept = kept;
}

-- the first half was copied
pub fore_took : (mark na nb na' nb' : ℕ) (a b a1 b1 a' b' : Option Image) (la lb : Image → Type 0) (oa ob o : Bool)
    → na ≡ mark + 1 → nb ≡ mark + 1 → na' ≡ na → nb' ≡ nb → a1 ≡ a → b1 ≡ b
    → IfSome a (λ i. is_open_at mark i ≡ oa) → IfSome b (λ i. is_open_at mark i ≡ ob) → (ob && not oa) ≡ false
    → StaysBut (λ i. i ≡ mark) a1 a' → StaysBut (IsInRange 0 (mark + 1)) b1 b' → o ≡ false → IfSome a' (λ i. is_open_at mark i ≡ o)
    → IfSome b' (λ i. is_open_at mark i ≡ false) → IsCopy mark a1 b' → IsOnly a' la → IsOnly b' lb
    → AreJoined Both na nb na' nb' a b a' b' la lb
fore_took mark na nb na' nb' a b a1 b1 a' b' la lb oa ob o ea eb ca cb sa sb ma mb other stays_a stays_b eo marked_a marked_b copied only_a only_b =
    let here_a : StaysBut (λ i. i ≡ mark) a a' = from_here (λ i. i ≡ mark) a a1 a' sa stays_a in
    let here_b : StaysBut (IsInRange 0 (mark + 1)) b b' = from_here (IsInRange 0 (mark + 1)) b b1 b' sb stays_b in
    let both : AreMarked Both mark mark mark a' b' =
    marked_both mark a a' b' here_a (with_mark mark o false a' eo marked_a) marked_b (subst (λ (i : Option Image). IsCopy mark i b') sa copied) in
    joined Both mark na nb na' nb' a b a' b' la lb ea eb ca cb both
    (shown_first mark oa ob a b a' b' ma mb other here_a here_b marked_b)
    (left_both mark mark mark a' b' la lb both only_a only_b)
    (have_at mark na' false la (ca ∙ ea) (only_has (λ i. is_open_at mark i ≡ false) a' only_a (with_mark mark o false a' eo marked_a)), have_at mark nb' false lb (cb ∙ eb) (only_has (λ i. is_open_at mark i ≡ false) b' only_b marked_b))

-- or the copy didn't take it
pub fore_lost : (mark na nb na' nb' : ℕ) (a b a1 b1 a' b' : Option Image) (la lb : Image → Type 0) (oa ob o : Bool)
    → na ≡ mark + 1 → nb ≡ mark + 1 → na' ≡ na → nb' ≡ nb → a1 ≡ a → b1 ≡ b
    → IfSome a (λ i. is_open_at mark i ≡ oa) → IfSome b (λ i. is_open_at mark i ≡ ob) → (ob && not oa) ≡ false
    → StaysBut (λ i. i ≡ mark) a1 a' → StaysBut (IsInRange 0 (mark + 1)) b1 b' → o ≡ true → IfSome a' (λ i. is_open_at mark i ≡ o)
    → IfSome b' (λ i. is_open_at mark i ≡ false) → IsOnly a' la → ((c : Image) → lb c → is_open_at mark c ≡ false)
    → AreJoined First na nb na' nb' a b a' b' la lb
fore_lost mark na nb na' nb' a b a1 b1 a' b' la lb oa ob o ea eb ca cb sa sb ma mb other stays_a stays_b eo marked_a marked_b only_a closed_b =
    let here_a : StaysBut (λ i. i ≡ mark) a a' = from_here (λ i. i ≡ mark) a a1 a' sa stays_a in
    let here_b : StaysBut (IsInRange 0 (mark + 1)) b b' = from_here (IsInRange 0 (mark + 1)) b b1 b' sb stays_b in
    let one : AreMarked First mark mark mark a' b' = marked_first mark a' b' (with_mark mark o true a' eo marked_a) marked_b in
    joined First mark na nb na' nb' a b a' b' la lb ea eb ca cb one
    (shown_first mark oa ob a b a' b' ma mb other here_a here_b marked_b)
    (left_first mark mark mark a' b' la lb one only_a closed_b)
    (have_at mark na' true la (ca ∙ ea) (only_has (λ i. is_open_at mark i ≡ true) a' only_a (with_mark mark o true a' eo marked_a)), have_at mark nb' false lb (cb ∙ eb) closed_b)

-- the second half was copied
pub back_took : (mark na nb na' nb' : ℕ) (a b a1 b1 a' b' : Option Image) (la lb : Image → Type 0) (oa ob o : Bool)
    → na ≡ mark + 1 → nb ≡ mark + 1 → na' ≡ na → nb' ≡ nb → a1 ≡ a → b1 ≡ b
    → IfSome a (λ i. is_open_at mark i ≡ oa) → IfSome b (λ i. is_open_at mark i ≡ ob) → oa ≡ false → ob ≡ true
    → StaysBut (IsInRange 0 (mark + 1)) a1 a' → StaysBut (λ i. i ≡ mark) b1 b' → IfSome a' (λ i. is_open_at mark i ≡ false)
    → o ≡ false → IfSome b' (λ i. is_open_at mark i ≡ o) → IsCopy mark b1 a' → IsOnly a' la → IsOnly b' lb
    → AreJoined Both na nb na' nb' a b a' b' la lb
back_took mark na nb na' nb' a b a1 b1 a' b' la lb oa ob o ea eb ca cb sa sb ma mb closed opens stays_a stays_b marked_a eo marked_b copied only_a only_b =
    let here_a : StaysBut (IsInRange 0 (mark + 1)) a a' = from_here (IsInRange 0 (mark + 1)) a a1 a' sa stays_a in
    let here_b : StaysBut (λ i. i ≡ mark) b b' = from_here (λ i. i ≡ mark) b b1 b' sb stays_b in
    let shut = with_mark mark o false b' eo marked_b in
    let copy : IsCopy mark b a' = subst (λ (i : Option Image). IsCopy mark i a') sb copied in
    let both : AreMarked Both mark mark mark a' b' = marked_both_back mark b a' b' here_b marked_a shut copy in
    joined Both mark na nb na' nb' a b a' b' la lb ea eb ca cb both
    (shown_copied mark a b a' b' (with_mark mark oa false a closed ma) (with_mark mark ob true b opens mb) here_a here_b shut copy)
    (left_both mark mark mark a' b' la lb both only_a only_b)
    (have_at mark na' false la (ca ∙ ea) (only_has (λ i. is_open_at mark i ≡ false) a' only_a marked_a), have_at mark nb' false lb (cb ∙ eb) (only_has (λ i. is_open_at mark i ≡ false) b' only_b shut))

-- or the copy didn't take it
pub back_lost : (mark na nb na' nb' : ℕ) (a b a1 b1 a' b' : Option Image) (la lb : Image → Type 0) (oa ob o : Bool)
    → na ≡ mark + 1 → nb ≡ mark + 1 → na' ≡ na → nb' ≡ nb → a1 ≡ a → b1 ≡ b
    → IfSome a (λ i. is_open_at mark i ≡ oa) → IfSome b (λ i. is_open_at mark i ≡ ob) → oa ≡ false → ob ≡ true
    → StaysBut (IsInRange 0 (mark + 1)) a1 a' → StaysBut (λ i. i ≡ mark) b1 b' → IfSome a' (λ i. is_open_at mark i ≡ false)
    → o ≡ true → IfSome b' (λ i. is_open_at mark i ≡ o) → ((c : Image) → la c → is_open_at mark c ≡ false) → IsOnly b' lb
    → AreJoined Second na nb na' nb' a b a' b' la lb
back_lost mark na nb na' nb' a b a1 b1 a' b' la lb oa ob o ea eb ca cb sa sb ma mb closed opens stays_a stays_b marked_a eo marked_b closed_a only_b =
    let here_a : StaysBut (IsInRange 0 (mark + 1)) a a' = from_here (IsInRange 0 (mark + 1)) a a1 a' sa stays_a in
    let here_b : StaysBut (λ i. i ≡ mark) b b' = from_here (λ i. i ≡ mark) b b1 b' sb stays_b in
    let wide = with_mark mark o true b' eo marked_b in
    let one : AreMarked Second mark mark mark a' b' = marked_second mark a' b' marked_a wide in
    joined Second mark na nb na' nb' a b a' b' la lb ea eb ca cb one
    (shown_second mark a b a' b' (with_mark mark oa false a closed ma) (with_mark mark ob true b opens mb) here_a here_b marked_a wide)
    (left_second mark mark mark a' b' la lb one closed_a only_b)
    (have_at mark na' false la (ca ∙ ea) closed_a, have_at mark nb' true lb (cb ∙ eb) (only_has (λ i. is_open_at mark i ≡ true) b' only_b wide))
