-- Marks of images, the pick by them, and how writes change it.
use Rattle.std.proofs.Common.{◌≡◌, ℕ, ◌+◌, ◌-◌, ◌<◌, ◌≤◌, min, List, [], Option, None, Some, Bool, true, false, if◌then◌else◌, Result, Ok, Err, OnOk, OnErr, refl, sym, ap, subst, ◌∙◌, arith, take}
use Rattle.std.specs.Prelude.{⊤, IfSome, is_ok, is_err, ◌||◌, slice_index, ◌==◌, ◌&&◌, not}
use Rattle.std.proofs.lemmas.List.{get_or-set_other, set-get_or}
use Rattle.std.proofs.Math.Seq.{take-set-lt}
use Rattle.bd_device.specs.Blocks.{Image}
use Rattle.bd_device.specs.Changes.{SameBut, StaysBut, IsInRange, bytes_at}
use Rattle.bd_device.specs.Commits.{block_at}
use Rattle.bd_device.proofs.Changes.{same_before, same_wider, stays_same}
use Rattle.bd_mirror.specs.declared.halves.Halves.{Halves}
use Rattle.bd_mirror.specs.declared.halves.Halves.TheVariants.{Both, First, Second, Neither}
use Rattle.bd_mirror.specs.declared.halves.Attached.{Attached}
use Rattle.bd_mirror.specs.declared.halves.Attached.TheVariants.{Nothing, Alone, Member, Pair, Apart}
use Rattle.bd_mirror.specs.Halves.{has_marks, halves_of, with_halves, uses_first, uses_second, blocks_in}
use Rattle.bd_mirror.specs.Contents.{is_open_at, pick, shown_by, AreMarked, IsMarked}
use Rattle.bd_mirror.specs.Writing.{IsWithin, image_after, contents_after}
use Rattle.bd_mirror.proofs.Rows.{row_same, row_take, row_changed, row_within}
use Rattle.bd_mirror.specs.declared.writing.WritingCall.{WritingCall}
use Rattle.bd_mirror.specs.declared.writing.WritingCall.TheVariants.{Write, Run, Barrier}

-- what holds at Ok holds of a result that is Ok
pub at_ok : {T E P : Type 0} {r : Result T E} {x : T} → r ≡ Ok x → OnOk r P → P
at_ok {P = P} e p = subst (λ r. OnOk r P) e p

-- and at an error
pub at_err : {T E P : Type 0} {r : Result T E} {x : E} → r ≡ Err x → OnErr r P → P
at_err {P = P} e p = subst (λ r. OnErr r P) e p

-- false isn't true
abbrev IsTruth : Bool → Type 0
IsTruth true = ⊤
IsTruth false = ⊥

is_true : true ≡ false → ⊥
is_true e = subst IsTruth e tt

-- these are both halves, the first alone, the second alone
abbrev pub IsThis : Halves → Halves → Type 0
IsThis Both Both = ⊤
IsThis Both _ = ⊥
IsThis First First = ⊤
IsThis First _ = ⊥
IsThis Second Second = ⊤
IsThis Second _ = ⊥
IsThis Neither _ = ⊤

pub both_is : {h : Halves} → h ≡ Both → IsThis Both h
both_is e = subst (IsThis Both) (sym e) tt

pub first_is : {h : Halves} → h ≡ First → IsThis First h
first_is e = subst (IsThis First) (sym e) tt

pub second_is : {h : Halves} → h ≡ Second → IsThis Second h
second_is e = subst (IsThis Second) (sym e) tt

-- ---- images

-- a call that writes no mark leaves it
pub open_after : (call : WritingCall) (mark : ℕ) (bytes : ℕ → List ℕ) (image : Image) → IsWithin call mark
    → is_open_at mark (image_after call bytes image) ≡ is_open_at mark image
open_after (Write b from) mark bytes image lt =
    ap (λ block. slice_index block 0 == 1) (get_or-set_other image b mark (bytes b) [] (λ e. omega (arith, lt, e)))
open_after (Run first from n) mark bytes image lt =
    ap (λ block. slice_index block 0 == 1) ((row_same first n bytes image).others mark (λ is. omega (arith, lt, is.1)))
open_after Barrier mark bytes image lt = refl

-- of the first blocks it writes what it writes of all
pub take_after : (call : WritingCall) (size : ℕ) (bytes : ℕ → List ℕ) (image : Image) → IsWithin call size
    → take size (image_after call bytes image) ≡ image_after call bytes (take size image)
take_after (Write b from) size bytes image lt = take-set-lt size image b (bytes b) lt
take_after (Run first from n) size bytes image lt = row_take first n size bytes image lt
take_after Barrier size bytes image lt = refl

-- what it writes of some blocks it writes of more
pub within_more : (call : WritingCall) (count more : ℕ) → count ≤ more → IsWithin call count → IsWithin call more
within_more (Write b from) count more le lt = omega (arith, le, lt)
within_more (Run first from n) count more le lt = omega (arith, le, lt)
within_more Barrier count more le lt = tt

-- where only the mark may have changed, the blocks before it are the same
pub take_but_mark : (size mark : ℕ) (old new : Image) → size ≤ mark → SameBut (λ i. i ≡ mark) old new → take size new ≡ take size old
take_but_mark size mark old new le same =
    same_before size (mark + 1) old new (same_wider (λ i. i ≡ mark) (IsInRange size (mark + 1)) (λ i e. (omega (arith, le, e), omega (arith, e))) same)

pub pick_closed : (size ma mb : ℕ) (a b : Image) → is_open_at mb b ≡ false → pick size ma mb a b ≡ take size a
pick_closed size ma mb a b e = ap (λ o. if o && not (is_open_at ma a) then take size b else take size a) e

pub pick_open : (size ma mb : ℕ) (a b : Image) → is_open_at ma a ≡ true → pick size ma mb a b ≡ take size a
pick_open size ma mb a b e =
    ap (λ o. if is_open_at mb b && not o then take size b else take size a) e
    ∙ elim (is_open_at mb b) as (λ o. (if o && false then take size b else take size a) ≡ take size a) [ true ↦ refl | false ↦ refl ]

pub pick_second : (size ma mb : ℕ) (a b : Image) → is_open_at ma a ≡ false → is_open_at mb b ≡ true → pick size ma mb a b ≡ take size b
pick_second size ma mb a b ea eb =
    ap (λ o. if o && not (is_open_at ma a) then take size b else take size a) eb
    ∙ ap (λ o. if not o then take size b else take size a) ea

-- a call of both halves is one of their pick
pick_after : (call : WritingCall) (size ma mb : ℕ) (bytes : ℕ → List ℕ) (a b : Image) → IsWithin call size → size ≤ ma → size ≤ mb
    → pick size ma mb (image_after call bytes a) (image_after call bytes b) ≡ image_after call bytes (pick size ma mb a b)
pick_after call size ma mb bytes a b lt la lb =
    let ea : is_open_at ma (image_after call bytes a) ≡ is_open_at ma a = open_after call ma bytes a (within_more call size ma la lt) in
    let eb : is_open_at mb (image_after call bytes b) ≡ is_open_at mb b = open_after call mb bytes b (within_more call size mb lb lt) in
    ap (λ o. if o && not (is_open_at ma (image_after call bytes a)) then take size (image_after call bytes b) else take size (image_after call bytes a)) eb
    ∙ ap (λ o. if is_open_at mb b && not o then take size (image_after call bytes b) else take size (image_after call bytes a)) ea
    ∙ ap (λ (x : Image). if is_open_at mb b && not (is_open_at ma a) then x else take size (image_after call bytes a)) (take_after call size bytes b lt)
    ∙ ap (λ (x : Image). if is_open_at mb b && not (is_open_at ma a) then image_after call bytes (take size b) else x) (take_after call size bytes a lt)
    ∙ elim (is_open_at mb b && not (is_open_at ma a)) as (λ o. (if o then image_after call bytes (take size b) else image_after call bytes (take size a)) ≡ image_after call bytes (if o then take size b else take size a)) [ true ↦ refl | false ↦ refl ]

-- ---- what is known of the halves

wrote_each : (call : WritingCall) (at : Attached) (na nb : ℕ) (bytes : ℕ → List ℕ) (a b : Option Image) → IsWithin call (blocks_in at na nb)
    → shown_by at na nb (contents_after call bytes a) (contents_after call bytes b) ≡ contents_after call bytes (shown_by at na nb a b)
wrote_each call Nothing na nb bytes a b lt = refl
wrote_each call Alone na nb bytes a b lt = refl
wrote_each call Member na nb bytes None b lt = refl
wrote_each call Member na nb bytes (Some a) b lt = ap Some (take_after call (na - 1) bytes a lt)
wrote_each call (Pair h) na nb bytes None b lt = refl
wrote_each call (Pair h) na nb bytes (Some a) None lt = refl
wrote_each call (Pair h) na nb bytes (Some a) (Some b) lt =
    ap Some (pick_after call (min na nb - 1) (na - 1) (nb - 1) bytes a b lt (omega arith) (omega arith))
wrote_each call (Apart h) na nb bytes a b lt = refl

-- both halves did it
pub both_did : (call : WritingCall) (at : Attached) (na nb na' nb' : ℕ) (bytes : ℕ → List ℕ) (a b a' b' : Option Image) → IsWithin call (blocks_in at na nb)
    → na' ≡ na → nb' ≡ nb → a' ≡ contents_after call bytes a → b' ≡ contents_after call bytes b
    → shown_by at na' nb' a' b' ≡ contents_after call bytes (shown_by at na nb a b)
both_did call at na nb na' nb' bytes a b a' b' lt ca cb ea eb =
    ap (λ n. shown_by at n nb' a' b') ca ∙ ap (λ n. shown_by at na n a' b') cb
    ∙ ap (λ o. shown_by at na nb o b') ea ∙ ap (λ o. shown_by at na nb (contents_after call bytes a) o) eb
    ∙ wrote_each call at na nb bytes a b lt

-- the first alone, whose mark is open
did_one : (call : WritingCall) (at : Attached) (na nb : ℕ) (bytes : ℕ → List ℕ) (a b : Option Image) → halves_of at ≡ First → IsMarked at na nb a b
    → IsWithin call (blocks_in at na nb) → shown_by at na nb (contents_after call bytes a) b ≡ contents_after call bytes (shown_by at na nb a b)
did_one call Nothing na nb bytes a b is marked lt = refl
did_one call Alone na nb bytes a b is marked lt = refl
did_one call Member na nb bytes None b is marked lt = refl
did_one call Member na nb bytes (Some a) b is marked lt = ap Some (take_after call (na - 1) bytes a lt)
did_one call (Pair First) na nb bytes None b is marked lt = refl
did_one call (Pair First) na nb bytes (Some a) None is marked lt = refl
did_one call (Pair First) na nb bytes (Some a) (Some b) is marked lt =
    let n : ℕ = min na nb - 1 in
    ap Some (pick_closed n (na - 1) (nb - 1) (image_after call bytes a) b marked.marked.1 ∙ take_after call n bytes a lt
    ∙ ap (λ (x : Image). image_after call bytes x) (sym (pick_closed n (na - 1) (nb - 1) a b marked.marked.1)))
did_one call (Pair Both) na nb bytes a b is marked lt = absurd (first_is is)
did_one call (Pair Second) na nb bytes a b is marked lt = absurd (first_is is)
did_one call (Pair Neither) na nb bytes a b is marked lt = absurd (first_is is)
did_one call (Apart h) na nb bytes a b is marked lt = refl

pub first_did : (call : WritingCall) (at : Attached) (na nb na' : ℕ) (bytes : ℕ → List ℕ) (a b a' : Option Image) → halves_of at ≡ First → IsMarked at na nb a b
    → IsWithin call (blocks_in at na nb) → na' ≡ na → a' ≡ contents_after call bytes a → shown_by at na' nb a' b ≡ contents_after call bytes (shown_by at na nb a b)
first_did call at na nb na' bytes a b a' is marked lt ca ea =
    ap (λ n. shown_by at n nb a' b) ca ∙ ap (λ o. shown_by at na nb o b) ea ∙ did_one call at na nb bytes a b is marked lt

-- the second alone, whose mark is open
did_other : (call : WritingCall) (at : Attached) (na nb : ℕ) (bytes : ℕ → List ℕ) (a b : Option Image) → halves_of at ≡ Second → IsMarked at na nb a b
    → IsWithin call (blocks_in at na nb) → shown_by at na nb a (contents_after call bytes b) ≡ contents_after call bytes (shown_by at na nb a b)
did_other call Nothing na nb bytes a b is marked lt = refl
did_other call Alone na nb bytes a b is marked lt = absurd (second_is is)
did_other call Member na nb bytes a b is marked lt = absurd (second_is is)
did_other call (Pair Second) na nb bytes None b is marked lt = refl
did_other call (Pair Second) na nb bytes (Some a) None is marked lt = refl
did_other call (Pair Second) na nb bytes (Some a) (Some b) is marked lt =
    let n : ℕ = min na nb - 1 in
    let still : is_open_at (nb - 1) (image_after call bytes b) ≡ true = open_after call (nb - 1) bytes b (within_more call n (nb - 1) (omega arith) lt) ∙ marked.marked.1 in
    ap Some (pick_second n (na - 1) (nb - 1) a (image_after call bytes b) marked.marked.0 still ∙ take_after call n bytes b lt
    ∙ ap (λ (x : Image). image_after call bytes x) (sym (pick_second n (na - 1) (nb - 1) a b marked.marked.0 marked.marked.1)))
did_other call (Pair Both) na nb bytes a b is marked lt = absurd (second_is is)
did_other call (Pair First) na nb bytes a b is marked lt = absurd (second_is is)
did_other call (Pair Neither) na nb bytes a b is marked lt = absurd (second_is is)
did_other call (Apart h) na nb bytes a b is marked lt = refl

pub second_did : (call : WritingCall) (at : Attached) (na nb nb' : ℕ) (bytes : ℕ → List ℕ) (a b b' : Option Image) → halves_of at ≡ Second → IsMarked at na nb a b
    → IsWithin call (blocks_in at na nb) → nb' ≡ nb → b' ≡ contents_after call bytes b → shown_by at na nb' a b' ≡ contents_after call bytes (shown_by at na nb a b)
second_did call at na nb nb' bytes a b b' is marked lt cb eb =
    ap (λ n. shown_by at na n a b') cb ∙ ap (λ o. shown_by at na nb a o) eb ∙ did_other call at na nb bytes a b is marked lt

-- what follows from what holds at an error holds at an error
pub OnErr-then : {T E P Q : Type 0} (r : Result T E) → OnErr r P → (P → Q) → OnErr r Q
OnErr-then (Ok x) p f = tt
OnErr-then (Err e) p f = f p

-- ---- rows of blocks that are read

-- what stands in a row of a half that is shown
row_shown : (size first n : ℕ) (bytes : List ℕ) (image shown : Image) → first + n ≤ size → shown ≡ take size image → bytes ≡ bytes_at image first n → bytes ≡ bytes_at shown first n
row_shown size first n bytes image shown le is read = read ∙ sym (ap (λ (l : Image). bytes_at l first n) is ∙ row_within size first n image le)

-- what the first half has in a row the mirror shows, where that half is in use
pub first_row : (at : Attached) (na nb first n : ℕ) (bytes : List ℕ) (a b : Option Image) → uses_first (halves_of at) ≡ true → IsMarked at na nb a b → first + n ≤ blocks_in at na nb
    → IfSome a (λ image. bytes ≡ bytes_at image first n) → IfSome (shown_by at na nb a b) (λ image. bytes ≡ bytes_at image first n)
first_row Nothing na nb first n bytes a b is marked le read = tt
first_row Alone na nb first n bytes a b is marked le read = read
first_row Member na nb first n bytes None b is marked le read = tt
first_row Member na nb first n bytes (Some a) b is marked le read = row_shown (na - 1) first n bytes a (take (na - 1) a) le refl read
first_row (Pair h) na nb first n bytes None b is marked le read = tt
first_row (Pair h) na nb first n bytes (Some a) None is marked le read = tt
first_row (Pair Both) na nb first n bytes (Some a) (Some b) is marked le read =
    let size : ℕ = min na nb - 1 in
    row_shown size first n bytes a (pick size (na - 1) (nb - 1) a b) le (pick_closed size (na - 1) (nb - 1) a b marked.marked.1) read
first_row (Pair First) na nb first n bytes (Some a) (Some b) is marked le read =
    let size : ℕ = min na nb - 1 in
    row_shown size first n bytes a (pick size (na - 1) (nb - 1) a b) le (pick_closed size (na - 1) (nb - 1) a b marked.marked.1) read
first_row (Pair Second) na nb first n bytes (Some a) (Some b) is marked le read = absurd (is_true (sym is))
first_row (Pair Neither) na nb first n bytes (Some a) (Some b) is marked le read = absurd (is_true (sym is))
first_row (Apart h) na nb first n bytes a b is marked le read = tt

-- so it is of the second half
pub second_row : (at : Attached) (na nb first n : ℕ) (bytes : List ℕ) (a b : Option Image) → uses_second (halves_of at) ≡ true → IsMarked at na nb a b → first + n ≤ blocks_in at na nb
    → IfSome b (λ image. bytes ≡ bytes_at image first n) → IfSome (shown_by at na nb a b) (λ image. bytes ≡ bytes_at image first n)
second_row Nothing na nb first n bytes a b is marked le read = tt
second_row Alone na nb first n bytes a b is marked le read = absurd (is_true (sym is))
second_row Member na nb first n bytes a b is marked le read = absurd (is_true (sym is))
second_row (Pair h) na nb first n bytes None b is marked le read = tt
second_row (Pair h) na nb first n bytes (Some a) None is marked le read = tt
second_row (Pair Both) na nb first n bytes (Some a) (Some b) is marked le read =
    let size : ℕ = min na nb - 1 in
    row_shown size first n bytes b (pick size (na - 1) (nb - 1) a b) le (pick_closed size (na - 1) (nb - 1) a b marked.marked.1 ∙ marked.marked.2) read
second_row (Pair Second) na nb first n bytes (Some a) (Some b) is marked le read =
    let size : ℕ = min na nb - 1 in
    row_shown size first n bytes b (pick size (na - 1) (nb - 1) a b) le (pick_second size (na - 1) (nb - 1) a b marked.marked.0 marked.marked.1) read
second_row (Pair First) na nb first n bytes (Some a) (Some b) is marked le read = absurd (is_true (sym is))
second_row (Pair Neither) na nb first n bytes (Some a) (Some b) is marked le read = absurd (is_true (sym is))
second_row (Apart h) na nb first n bytes a b is marked le read = tt

-- ---- one of two halves failed

-- the first one goes on, though its mark may be torn
kept_one : (call : WritingCall) (at : Attached) (h : Halves) (na nb : ℕ) (x y : ℕ → List ℕ) (a b a' : Option Image) → halves_of at ≡ Both → IsMarked at na nb a b
    → IsWithin call (blocks_in at na nb) → StaysBut (λ k. k ≡ na - 1) (contents_after call x a) a'
    → shown_by (with_halves h at) na nb a' (contents_after call y b) ≡ contents_after call x (shown_by at na nb a b)
kept_one call Nothing h na nb x y a b a' is marked lt same = refl
kept_one call Alone h na nb x y a b a' is marked lt same = absurd (both_is is)
kept_one call Member h na nb x y a b a' is marked lt same = absurd (both_is is)
kept_one call (Apart h') h na nb x y a b a' is marked lt same = refl
kept_one call (Pair Both) h na nb x y None b None is marked lt same = refl
kept_one call (Pair Both) h na nb x y None b (Some a') is marked lt same = absurd same
kept_one call (Pair Both) h na nb x y (Some a) None None is marked lt same = absurd same
kept_one call (Pair Both) h na nb x y (Some a) None (Some a') is marked lt same = refl
kept_one call (Pair Both) h na nb x y (Some a) (Some b) None is marked lt same = absurd same
kept_one call (Pair Both) h na nb x y (Some a) (Some b) (Some a') is marked lt same =
    let n : ℕ = min na nb - 1 in
    let closed : is_open_at (nb - 1) (image_after call y b) ≡ false = open_after call (nb - 1) y b (within_more call n (nb - 1) (omega arith) lt) ∙ marked.marked.1 in
    ap Some (pick_closed n (na - 1) (nb - 1) a' (image_after call y b) closed
    ∙ take_but_mark n (na - 1) (image_after call x a) a' (omega arith) same ∙ take_after call n x a lt
    ∙ ap (λ (l : Image). image_after call x l) (sym (pick_closed n (na - 1) (nb - 1) a b marked.marked.1)))
kept_one call (Pair First) h na nb x y a b a' is marked lt same = absurd (both_is is)
kept_one call (Pair Second) h na nb x y a b a' is marked lt same = absurd (both_is is)
kept_one call (Pair Neither) h na nb x y a b a' is marked lt same = absurd (both_is is)

-- the second one goes on with an open mark
kept_other : (call : WritingCall) (at : Attached) (h : Halves) (na nb : ℕ) (x y : ℕ → List ℕ) (a b b' : Option Image) → halves_of at ≡ Both → IsMarked at na nb a b
    → IsWithin call (blocks_in at na nb) → StaysBut (λ k. k ≡ nb - 1) (contents_after call x b) b'
    → (has_marks at ≡ true → 0 < nb → IfSome b' (λ image. is_open_at (nb - 1) image ≡ true))
    → shown_by (with_halves h at) na nb (contents_after call y a) b' ≡ contents_after call x (shown_by at na nb a b)
kept_other call Nothing h na nb x y a b b' is marked lt same opens = refl
kept_other call Alone h na nb x y a b b' is marked lt same opens = absurd (both_is is)
kept_other call Member h na nb x y a b b' is marked lt same opens = absurd (both_is is)
kept_other call (Apart h') h na nb x y a b b' is marked lt same opens = refl
kept_other call (Pair Both) h na nb x y None b b' is marked lt same opens = refl
kept_other call (Pair Both) h na nb x y (Some a) None None is marked lt same opens = refl
kept_other call (Pair Both) h na nb x y (Some a) None (Some b') is marked lt same opens = absurd same
kept_other call (Pair Both) h na nb x y (Some a) (Some b) None is marked lt same opens = absurd same
kept_other call (Pair Both) h na nb x y (Some a) (Some b) (Some b') is marked lt same opens =
    let n : ℕ = min na nb - 1 in
    let closed : is_open_at (na - 1) (image_after call y a) ≡ false = open_after call (na - 1) y a (within_more call n (na - 1) (omega arith) lt) ∙ marked.marked.0 in
    ap Some (pick_second n (na - 1) (nb - 1) (image_after call y a) b' closed (opens refl marked.second_room)
    ∙ take_but_mark n (nb - 1) (image_after call x b) b' (omega arith) same ∙ take_after call n x b lt
    ∙ ap (λ (l : Image). image_after call x l) (sym (pick_closed n (na - 1) (nb - 1) a b marked.marked.1 ∙ marked.marked.2)))
kept_other call (Pair First) h na nb x y a b b' is marked lt same opens = absurd (both_is is)
kept_other call (Pair Second) h na nb x y a b b' is marked lt same opens = absurd (both_is is)
kept_other call (Pair Neither) h na nb x y a b b' is marked lt same opens = absurd (both_is is)

-- or it fails too, and its mark may be torn
lost_cases : (call : WritingCall) (h : Halves) (na nb : ℕ) (x y : ℕ → List ℕ) (a b b' : Image) (o : Bool) → is_open_at (nb - 1) b' ≡ o → IsMarked (Pair Both) na nb (Some a) (Some b)
    → IsWithin call (blocks_in (Pair Both) na nb) → SameBut (λ k. k ≡ nb - 1) (image_after call x b) b'
    → (bytes : ℕ → List ℕ) × (shown_by (Pair h) na nb (Some (image_after call y a)) (Some b') ≡ contents_after call bytes (shown_by (Pair Both) na nb (Some a) (Some b)))
lost_cases call h na nb x y a b b' true opens marked lt same =
    (x, kept_other call (Pair Both) h na nb x y (Some a) (Some b) (Some b') refl marked lt same (λ _ _. opens))
lost_cases call h na nb x y a b b' false closed marked lt same =
    let n : ℕ = min na nb - 1 in (
      y,
      ap Some (pick_closed n (na - 1) (nb - 1) (image_after call y a) b' closed ∙ take_after call n y a lt
          ∙ ap (λ (l : Image). image_after call y l) (sym (pick_closed n (na - 1) (nb - 1) a b marked.marked.1))),
    )

lost_other : (call : WritingCall) (at : Attached) (h : Halves) (na nb : ℕ) (x y : ℕ → List ℕ) (a b b' : Option Image) → halves_of at ≡ Both → IsMarked at na nb a b
    → IsWithin call (blocks_in at na nb) → StaysBut (λ k. k ≡ nb - 1) (contents_after call x b) b'
    → (bytes : ℕ → List ℕ) × (shown_by (with_halves h at) na nb (contents_after call y a) b' ≡ contents_after call bytes (shown_by at na nb a b))
lost_other call Nothing h na nb x y a b b' is marked lt same = (y, refl)
lost_other call Alone h na nb x y a b b' is marked lt same = absurd (both_is is)
lost_other call Member h na nb x y a b b' is marked lt same = absurd (both_is is)
lost_other call (Apart h') h na nb x y a b b' is marked lt same = (y, refl)
lost_other call (Pair Both) h na nb x y None b b' is marked lt same = (y, refl)
lost_other call (Pair Both) h na nb x y (Some a) None None is marked lt same = (y, refl)
lost_other call (Pair Both) h na nb x y (Some a) None (Some b') is marked lt same = absurd same
lost_other call (Pair Both) h na nb x y (Some a) (Some b) None is marked lt same = absurd same
lost_other call (Pair Both) h na nb x y (Some a) (Some b) (Some b') is marked lt same =
    lost_cases call h na nb x y a b b' (is_open_at (nb - 1) b') refl marked lt same
lost_other call (Pair First) h na nb x y a b b' is marked lt same = absurd (both_is is)
lost_other call (Pair Second) h na nb x y a b b' is marked lt same = absurd (both_is is)
lost_other call (Pair Neither) h na nb x y a b b' is marked lt same = absurd (both_is is)

-- ---- over the values that calls leave

pub OnOk-always : {T E P : Type 0} (r : Result T E) → P → OnOk r P
OnOk-always (Ok x) p = p
OnOk-always (Err e) p = tt

-- the first one went on
pub kept_first : (call : WritingCall) (at at' : Attached) (h : Halves) (na nb na1 na' nb' : ℕ) (x y : ℕ → List ℕ) (a b a1 a' b' : Option Image) → halves_of at ≡ Both → IsMarked at na nb a b
    → IsWithin call (blocks_in at na nb) → at' ≡ with_halves h at → na1 ≡ na → na' ≡ na1 → nb' ≡ nb → a1 ≡ contents_after call x a → b' ≡ contents_after call y b
    → StaysBut (λ k. k ≡ na1 - 1) a1 a' → shown_by at' na' nb' a' b' ≡ contents_after call x (shown_by at na nb a b)
kept_first call at at' h na nb na1 na' nb' x y a b a1 a' b' is marked lt eat c1 ca cb ea eb same =
    let there : StaysBut (λ k. k ≡ na1 - 1) (contents_after call x a) a' = subst (λ (o : Option Image). StaysBut (λ k. k ≡ na1 - 1) o a') ea same in
    ap (λ t. shown_by t na' nb' a' b') eat ∙ ap (λ n. shown_by (with_halves h at) n nb' a' b') (ca ∙ c1)
    ∙ ap (λ n. shown_by (with_halves h at) na n a' b') cb ∙ ap (λ o. shown_by (with_halves h at) na nb a' o) eb
    ∙ kept_one call at h na nb x y a b a' is marked lt (subst (λ n. StaysBut (λ k. k ≡ n - 1) (contents_after call x a) a') c1 there)

-- what it then shows, told of halves as they were
second_now : (call : WritingCall) (at at' : Attached) (h : Halves) (na nb na' nb' : ℕ) (y : ℕ → List ℕ) (a a' b' : Option Image) → at' ≡ with_halves h at → na' ≡ na → nb' ≡ nb
    → a' ≡ contents_after call y a → shown_by at' na' nb' a' b' ≡ shown_by (with_halves h at) na nb (contents_after call y a) b'
second_now call at at' h na nb na' nb' y a a' b' eat ca cb ea =
    ap (λ t. shown_by t na' nb' a' b') eat ∙ ap (λ n. shown_by (with_halves h at) na' n a' b') cb
    ∙ ap (λ n. shown_by (with_halves h at) n nb a' b') ca ∙ ap (λ o. shown_by (with_halves h at) na nb o b') ea

-- the second one went on
pub kept_second : (call : WritingCall) (at at' : Attached) (h : Halves) (na nb nb1 na' nb' : ℕ) (x y : ℕ → List ℕ) (a b b1 a' b' : Option Image) → halves_of at ≡ Both → IsMarked at na nb a b
    → IsWithin call (blocks_in at na nb) → at' ≡ with_halves h at → nb1 ≡ nb → nb' ≡ nb1 → na' ≡ na → b1 ≡ contents_after call x b → a' ≡ contents_after call y a
    → StaysBut (λ k. k ≡ nb1 - 1) b1 b' → (has_marks at ≡ true → 0 < nb1 → IfSome b' (λ image. is_open_at (nb1 - 1) image ≡ true))
    → shown_by at' na' nb' a' b' ≡ contents_after call x (shown_by at na nb a b)
kept_second call at at' h na nb nb1 na' nb' x y a b b1 a' b' is marked lt eat c1 cb ca eb ea same opens =
    let there : StaysBut (λ k. k ≡ nb1 - 1) (contents_after call x b) b' = subst (λ (o : Option Image). StaysBut (λ k. k ≡ nb1 - 1) o b') eb same in
    second_now call at at' h na nb na' nb' y a a' b' eat ca (cb ∙ c1) ea
    ∙ kept_other call at h na nb x y a b b' is marked lt (subst (λ n. StaysBut (λ k. k ≡ n - 1) (contents_after call x b) b') c1 there)
    (subst (λ n. has_marks at ≡ true → 0 < n → IfSome b' (λ image. is_open_at (n - 1) image ≡ true)) c1 opens)

-- it failed too
pub lost_second : (call : WritingCall) (at at' : Attached) (h : Halves) (na nb nb1 na' nb' : ℕ) (x y : ℕ → List ℕ) (a b b1 a' b' : Option Image) → halves_of at ≡ Both → IsMarked at na nb a b
    → IsWithin call (blocks_in at na nb) → at' ≡ with_halves h at → nb1 ≡ nb → nb' ≡ nb1 → na' ≡ na → b1 ≡ contents_after call x b → a' ≡ contents_after call y a
    → StaysBut (λ k. k ≡ nb1 - 1) b1 b'
    → (bytes : ℕ → List ℕ) × (shown_by at' na' nb' a' b' ≡ contents_after call bytes (shown_by at na nb a b))
lost_second call at at' h na nb nb1 na' nb' x y a b b1 a' b' is marked lt eat c1 cb ca eb ea same =
    let there : StaysBut (λ k. k ≡ nb1 - 1) (contents_after call x b) b' = subst (λ (o : Option Image). StaysBut (λ k. k ≡ nb1 - 1) o b') eb same in
    let lost = lost_other call at h na nb x y a b b' is marked lt (subst (λ n. StaysBut (λ k. k ≡ n - 1) (contents_after call x b) b') c1 there) in
    (lost.0, second_now call at at' h na nb na' nb' y a a' b' eat ca (cb ∙ c1) ea ∙ lost.1)

-- after a call of both they are marked as before
marked_each : (call : WritingCall) (at : Attached) (na nb : ℕ) (x : ℕ → List ℕ) (a b : Option Image) → halves_of at ≡ Both → IsWithin call (blocks_in at na nb) → IsMarked at na nb a b
    → IsMarked at na nb (contents_after call x a) (contents_after call x b)
marked_each call Nothing na nb x a b is lt marked = tt
marked_each call Alone na nb x a b is lt marked = tt
marked_each call Member na nb x a b is lt marked = tt
marked_each call (Apart h) na nb x a b is lt marked = tt
marked_each call (Pair First) na nb x a b is lt marked = absurd (both_is is)
marked_each call (Pair Second) na nb x a b is lt marked = absurd (both_is is)
marked_each call (Pair Neither) na nb x a b is lt marked = absurd (both_is is)
marked_each call (Pair Both) na nb x None b is lt marked = record { first_room = marked.first_room; second_room = marked.second_room; marked = tt }
marked_each call (Pair Both) na nb x (Some a) None is lt marked = record { first_room = marked.first_room; second_room = marked.second_room; marked = tt }
marked_each call (Pair Both) na nb x (Some a) (Some b) is lt marked =
    let n : ℕ = min na nb - 1 in
    record {
      first_room = marked.first_room;
      second_room = marked.second_room;
      marked = (
        open_after call (na - 1) x a (within_more call n (na - 1) (omega arith) lt) ∙ marked.marked.0,
        open_after call (nb - 1) x b (within_more call n (nb - 1) (omega arith) lt) ∙ marked.marked.1,
        take_after call n x a lt ∙ ap (λ (l : Image). image_after call x l) marked.marked.2 ∙ sym (take_after call n x b lt),
      );
    }

pub marked_both : (call : WritingCall) (at : Attached) (na nb na' nb' : ℕ) (x : ℕ → List ℕ) (a b a' b' : Option Image) → halves_of at ≡ Both → IsWithin call (blocks_in at na nb)
    → na' ≡ na → nb' ≡ nb → a' ≡ contents_after call x a → b' ≡ contents_after call x b → IsMarked at na nb a b → IsMarked at na' nb' a' b'
marked_both call at na nb na' nb' x a b a' b' is lt ca cb ea eb marked =
    subst (λ n. IsMarked at n nb' a' b') (sym ca) (subst (λ n. IsMarked at na n a' b') (sym cb)
    (subst (λ (o : Option Image). IsMarked at na nb o b') (sym ea) (subst (λ (o : Option Image). IsMarked at na nb (contents_after call x a) o) (sym eb)
    (marked_each call at na nb x a b is lt marked))))

-- after a call of the first one alone
first_marked : (call : WritingCall) (at : Attached) (na nb : ℕ) (x : ℕ → List ℕ) (a b : Option Image) → halves_of at ≡ First → IsWithin call (blocks_in at na nb) → IsMarked at na nb a b
    → IsMarked at na nb (contents_after call x a) b
first_marked call Nothing na nb x a b is lt marked = tt
first_marked call Alone na nb x a b is lt marked = tt
first_marked call Member na nb x a b is lt marked = tt
first_marked call (Apart h) na nb x a b is lt marked = tt
first_marked call (Pair Both) na nb x a b is lt marked = absurd (first_is is)
first_marked call (Pair Second) na nb x a b is lt marked = absurd (first_is is)
first_marked call (Pair Neither) na nb x a b is lt marked = absurd (first_is is)
first_marked call (Pair First) na nb x None b is lt marked = record { first_room = marked.first_room; second_room = marked.second_room; marked = tt }
first_marked call (Pair First) na nb x (Some a) None is lt marked = record { first_room = marked.first_room; second_room = marked.second_room; marked = tt }
first_marked call (Pair First) na nb x (Some a) (Some b) is lt marked =
    record {
      first_room = marked.first_room;
      second_room = marked.second_room;
      marked = (open_after call (na - 1) x a (within_more call (min na nb - 1) (na - 1) (omega arith) lt) ∙ marked.marked.0, marked.marked.1);
    }

pub marked_first : (call : WritingCall) (at : Attached) (na nb na' : ℕ) (a b a' : Option Image) → halves_of at ≡ First → IsWithin call (blocks_in at na nb) → na' ≡ na
    → ((x : ℕ → List ℕ) × (a' ≡ contents_after call x a)) → IsMarked at na nb a b → IsMarked at na' nb a' b
marked_first call at na nb na' a b a' is lt ca did marked =
    subst (λ n. IsMarked at n nb a' b) (sym ca) (subst (λ (o : Option Image). IsMarked at na nb o b) (sym did.1) (first_marked call at na nb did.0 a b is lt marked))

-- or of the second one alone
second_marked : (call : WritingCall) (at : Attached) (na nb : ℕ) (x : ℕ → List ℕ) (a b : Option Image) → halves_of at ≡ Second → IsWithin call (blocks_in at na nb) → IsMarked at na nb a b
    → IsMarked at na nb a (contents_after call x b)
second_marked call Nothing na nb x a b is lt marked = tt
second_marked call Alone na nb x a b is lt marked = tt
second_marked call Member na nb x a b is lt marked = tt
second_marked call (Apart h) na nb x a b is lt marked = tt
second_marked call (Pair Both) na nb x a b is lt marked = absurd (second_is is)
second_marked call (Pair First) na nb x a b is lt marked = absurd (second_is is)
second_marked call (Pair Neither) na nb x a b is lt marked = absurd (second_is is)
second_marked call (Pair Second) na nb x None b is lt marked = record { first_room = marked.first_room; second_room = marked.second_room; marked = tt }
second_marked call (Pair Second) na nb x (Some a) None is lt marked = record { first_room = marked.first_room; second_room = marked.second_room; marked = tt }
second_marked call (Pair Second) na nb x (Some a) (Some b) is lt marked =
    record {
      first_room = marked.first_room;
      second_room = marked.second_room;
      marked = (marked.marked.0, open_after call (nb - 1) x b (within_more call (min na nb - 1) (nb - 1) (omega arith) lt) ∙ marked.marked.1);
    }

pub marked_second : (call : WritingCall) (at : Attached) (na nb nb' : ℕ) (a b b' : Option Image) → halves_of at ≡ Second → IsWithin call (blocks_in at na nb) → nb' ≡ nb
    → ((x : ℕ → List ℕ) × (b' ≡ contents_after call x b)) → IsMarked at na nb a b → IsMarked at na nb' a b'
marked_second call at na nb nb' a b b' is lt cb did marked =
    subst (λ n. IsMarked at na n a b') (sym cb) (subst (λ (o : Option Image). IsMarked at na nb a o) (sym did.1) (second_marked call at na nb did.0 a b is lt marked))

-- a broken one needs no marks
no_marks : (size ma mb : ℕ) (a b : Option Image) → AreMarked Neither size ma mb a b
no_marks size ma mb None b = tt
no_marks size ma mb (Some a) None = tt
no_marks size ma mb (Some a) (Some b) = tt

marked_neither : (at : Attached) (na nb : ℕ) (a b a' b' : Option Image) → IsMarked at na nb a b → IsMarked (with_halves Neither at) na nb a' b'
marked_neither Nothing na nb a b a' b' marked = tt
marked_neither Alone na nb a b a' b' marked = tt
marked_neither Member na nb a b a' b' marked = tt
marked_neither (Apart h) na nb a b a' b' marked = tt
marked_neither (Pair h) na nb a b a' b' marked =
    record { first_room = marked.first_room; second_room = marked.second_room; marked = no_marks (min na nb - 1) (na - 1) (nb - 1) a' b' }

-- where the second one failed the first one goes on, with its mark open
one_marked : (call : WritingCall) (at : Attached) (na nb : ℕ) (x y : ℕ → List ℕ) (a b a' : Option Image) → halves_of at ≡ Both → IsMarked at na nb a b → IsWithin call (blocks_in at na nb)
    → StaysBut (λ k. k ≡ na - 1) (contents_after call x a) a' → (has_marks at ≡ true → 0 < na → IfSome a' (λ image. is_open_at (na - 1) image ≡ true))
    → IsMarked (with_halves First at) na nb a' (contents_after call y b)
one_marked call Nothing na nb x y a b a' is marked lt same opens = tt
one_marked call Alone na nb x y a b a' is marked lt same opens = tt
one_marked call Member na nb x y a b a' is marked lt same opens = tt
one_marked call (Apart h) na nb x y a b a' is marked lt same opens = tt
one_marked call (Pair First) na nb x y a b a' is marked lt same opens = absurd (both_is is)
one_marked call (Pair Second) na nb x y a b a' is marked lt same opens = absurd (both_is is)
one_marked call (Pair Neither) na nb x y a b a' is marked lt same opens = absurd (both_is is)
one_marked call (Pair Both) na nb x y a b None is marked lt same opens = record { first_room = marked.first_room; second_room = marked.second_room; marked = tt }
one_marked call (Pair Both) na nb x y None b (Some a') is marked lt same opens = absurd same
one_marked call (Pair Both) na nb x y (Some a) None (Some a') is marked lt same opens = record { first_room = marked.first_room; second_room = marked.second_room; marked = tt }
one_marked call (Pair Both) na nb x y (Some a) (Some b) (Some a') is marked lt same opens =
    record {
      first_room = marked.first_room;
      second_room = marked.second_room;
      marked = (opens refl marked.first_room, open_after call (nb - 1) y b (within_more call (min na nb - 1) (nb - 1) (omega arith) lt) ∙ marked.marked.1);
    }

pub marked_on_first : {T E : Type 0} (r : Result T E) (call : WritingCall) (at at' : Attached) (na nb na1 na' nb' : ℕ) (x y : ℕ → List ℕ) (a b a1 a' b' : Option Image) → halves_of at ≡ Both → IsMarked at na nb a b
    → IsWithin call (blocks_in at na nb) → at' ≡ with_halves (if is_ok r then First else Neither) at → na1 ≡ na → na' ≡ na1 → nb' ≡ nb → a1 ≡ contents_after call x a → b' ≡ contents_after call y b
    → StaysBut (λ k. k ≡ na1 - 1) a1 a' → OnOk r (has_marks at ≡ true → 0 < na1 → IfSome a' (λ image. is_open_at (na1 - 1) image ≡ true)) → IsMarked at' na' nb' a' b'
marked_on_first (Err e) call at at' na nb na1 na' nb' x y a b a1 a' b' is marked lt eat c1 ca cb ea eb same opens =
    subst (λ t. IsMarked t na' nb' a' b') (sym eat) (subst (λ n. IsMarked (with_halves Neither at) n nb' a' b') (sym (ca ∙ c1))
    (subst (λ n. IsMarked (with_halves Neither at) na n a' b') (sym cb) (marked_neither at na nb a b a' b' marked)))
marked_on_first (Ok v) call at at' na nb na1 na' nb' x y a b a1 a' b' is marked lt eat c1 ca cb ea eb same opens =
    let there : StaysBut (λ k. k ≡ na1 - 1) (contents_after call x a) a' = subst (λ (o : Option Image). StaysBut (λ k. k ≡ na1 - 1) o a') ea same in
    subst (λ t. IsMarked t na' nb' a' b') (sym eat) (subst (λ n. IsMarked (with_halves First at) n nb' a' b') (sym (ca ∙ c1))
    (subst (λ n. IsMarked (with_halves First at) na n a' b') (sym cb) (subst (λ (o : Option Image). IsMarked (with_halves First at) na nb a' o) (sym eb)
    (one_marked call at na nb x y a b a' is marked lt (subst (λ n. StaysBut (λ k. k ≡ n - 1) (contents_after call x a) a') c1 there)
    (subst (λ n. has_marks at ≡ true → 0 < n → IfSome a' (λ image. is_open_at (n - 1) image ≡ true)) c1 opens)))))

-- and where the first one failed the second one
other_marked : (call : WritingCall) (at : Attached) (na nb : ℕ) (x y : ℕ → List ℕ) (a b b' : Option Image) → halves_of at ≡ Both → IsMarked at na nb a b → IsWithin call (blocks_in at na nb)
    → StaysBut (λ k. k ≡ nb - 1) (contents_after call x b) b' → (has_marks at ≡ true → 0 < nb → IfSome b' (λ image. is_open_at (nb - 1) image ≡ true))
    → IsMarked (with_halves Second at) na nb (contents_after call y a) b'
other_marked call Nothing na nb x y a b b' is marked lt same opens = tt
other_marked call Alone na nb x y a b b' is marked lt same opens = tt
other_marked call Member na nb x y a b b' is marked lt same opens = tt
other_marked call (Apart h) na nb x y a b b' is marked lt same opens = tt
other_marked call (Pair First) na nb x y a b b' is marked lt same opens = absurd (both_is is)
other_marked call (Pair Second) na nb x y a b b' is marked lt same opens = absurd (both_is is)
other_marked call (Pair Neither) na nb x y a b b' is marked lt same opens = absurd (both_is is)
other_marked call (Pair Both) na nb x y None b b' is marked lt same opens = record { first_room = marked.first_room; second_room = marked.second_room; marked = tt }
other_marked call (Pair Both) na nb x y (Some a) b None is marked lt same opens = record { first_room = marked.first_room; second_room = marked.second_room; marked = tt }
other_marked call (Pair Both) na nb x y (Some a) None (Some b') is marked lt same opens = absurd same
other_marked call (Pair Both) na nb x y (Some a) (Some b) (Some b') is marked lt same opens =
    record {
      first_room = marked.first_room;
      second_room = marked.second_room;
      marked = (open_after call (na - 1) y a (within_more call (min na nb - 1) (na - 1) (omega arith) lt) ∙ marked.marked.0, opens refl marked.second_room);
    }

pub marked_on_second : {T E : Type 0} (r : Result T E) (call : WritingCall) (at at' : Attached) (na nb nb1 na' nb' : ℕ) (x y : ℕ → List ℕ) (a b b1 a' b' : Option Image) → halves_of at ≡ Both → IsMarked at na nb a b
    → IsWithin call (blocks_in at na nb) → at' ≡ with_halves (if is_ok r then Second else Neither) at → nb1 ≡ nb → nb' ≡ nb1 → na' ≡ na → b1 ≡ contents_after call x b → a' ≡ contents_after call y a
    → StaysBut (λ k. k ≡ nb1 - 1) b1 b' → OnOk r (has_marks at ≡ true → 0 < nb1 → IfSome b' (λ image. is_open_at (nb1 - 1) image ≡ true)) → IsMarked at' na' nb' a' b'
marked_on_second (Err e) call at at' na nb nb1 na' nb' x y a b b1 a' b' is marked lt eat c1 cb ca eb ea same opens =
    subst (λ t. IsMarked t na' nb' a' b') (sym eat) (subst (λ n. IsMarked (with_halves Neither at) n nb' a' b') (sym ca)
    (subst (λ n. IsMarked (with_halves Neither at) na n a' b') (sym (cb ∙ c1)) (marked_neither at na nb a b a' b' marked)))
marked_on_second (Ok v) call at at' na nb nb1 na' nb' x y a b b1 a' b' is marked lt eat c1 cb ca eb ea same opens =
    let there : StaysBut (λ k. k ≡ nb1 - 1) (contents_after call x b) b' = subst (λ (o : Option Image). StaysBut (λ k. k ≡ nb1 - 1) o b') eb same in
    subst (λ t. IsMarked t na' nb' a' b') (sym eat) (subst (λ n. IsMarked (with_halves Second at) n nb' a' b') (sym ca)
    (subst (λ n. IsMarked (with_halves Second at) na n a' b') (sym (cb ∙ c1)) (subst (λ (o : Option Image). IsMarked (with_halves Second at) na nb o b') (sym ea)
    (other_marked call at na nb x y a b b' is marked lt (subst (λ n. StaysBut (λ k. k ≡ n - 1) (contents_after call x b) b') c1 there)
    (subst (λ n. has_marks at ≡ true → 0 < n → IfSome b' (λ image. is_open_at (n - 1) image ≡ true)) c1 opens)))))

-- a barrier changes nothing
pub after_barrier : (bytes : ℕ → List ℕ) (known : Option Image) → contents_after Barrier bytes known ≡ known
after_barrier bytes None = refl
after_barrier bytes (Some image) = refl

-- no call leaves each block with the bytes that it has
pub nothing_did : (call : WritingCall) (known : Option Image) → (bytes : ℕ → List ℕ) × (known ≡ contents_after call bytes known)
nothing_did Barrier known = (λ _. [], sym (after_barrier (λ _. []) known))
nothing_did (Write b from) None = (λ _. [], refl)
nothing_did (Write b from) (Some image) = (block_at image, ap Some (sym (set-get_or image b [])))
nothing_did (Run first from n) known = row_changed first n known known (stays_same (IsInRange first (first + n)) known)

-- ---- results

-- what follows from what holds at Ok, and from what holds at an error
pub either_way : {T E P Q S : Type 0} (r : Result T E) → OnOk r P → OnErr r Q → (P → S) → (Q → S) → S
either_way (Ok x) p q f h = f p
either_way (Err e) p q f h = h q

-- what follows from what holds where a call of the halves is Ok holds where it is counted as one
pub settled_ok : {T E U F P Q R : Type 0} (halves : Result T E) (counted : Result U F) (done full : Bool) → done ≡ is_ok halves → is_err counted ≡ (not done || full)
    → OnOk halves P → OnOk halves Q → (P → Q → R) → OnOk counted R
settled_ok halves (Err e) done full did fails p q f = tt
settled_ok (Ok x) (Ok y) done full did fails p q f = f p q
settled_ok (Err e) (Ok y) done full did fails p q f =
    absurd (is_true (sym (fails ∙ ap (λ o. not o || full) did)))
