-- What a mirror tells the layers above of its contents.
use Rattle.std.proofs.Common.{◌≡◌, ◌≢◌, ℕ, ◌-◌, ◌<◌, ◌≤◌, min, List, [], length, take, All, Bool, true, false, if◌then◌else◌, Option, None, Some, IfSome, Result, Ok, Err, OnOk, OnErr, refl, sym, ap, subst, ◌∙◌, arith, ⊎_elim}
use Rattle.std.specs.Prelude.{◌&&◌, ◌==◌, nat_lt, not, is_some}
use Rattle.std.proofs.lemmas.Bool.{false≢true, and_parts, and_from}
use Rattle.std.proofs.lemmas.Bool.Decides.{nat_tests}
use Rattle.std.proofs.lemmas.List.{length-take-le}
use Rattle.std.proofs.lemmas.List.Elements.{All-take}
use Rattle.bd_device.specs.Blocks.{Image, IsBlock, HasBlocks}
use Rattle.bd_mirror.specs.Contents.{is_open_at, pick, picked_together, shown_by}
use Rattle.bd_mirror.specs.Halves.{halves_of, with_halves, blocks_in, has_marks, is_two}
use Rattle.bd_mirror.specs.Laws.{form_of}
use Rattle.bd_mirror.specs.Names.{HasPlus, second_name, IsNamed}
use Rattle.bd_mirror.specs.Past.{attached_for}
use Rattle.bd_mirror.specs.Shown.{image_of, size_of, shown_both}
use Rattle.bd_device.specs.Changes.{StaysBut}
use Rattle.bd_mirror.specs.Writing.{contents_after}
use Rattle.bd_mirror.specs.declared.writing.WritingCall.{WritingCall}
use Rattle.bd_mirror.specs.declared.halves.Halves.{Halves}
use Rattle.bd_mirror.specs.declared.halves.Halves.TheVariants.{Both}
use Rattle.bd_mirror.specs.declared.halves.Attached.{Attached}
use Rattle.bd_mirror.specs.declared.halves.Attached.TheVariants.{Nothing, Alone, Member, Pair, Apart}

-- ---- what is known

pub both_known : (p q : Option Image) → (is_some p && is_some q) ≡ true → (x y : Image) × (p ≡ Some x) × (q ≡ Some y)
both_known None q told = absurd (false≢true told)
both_known (Some x) None told = absurd (false≢true told)
both_known (Some x) (Some y) told = (x, y, refl, refl)

pub known_both : (at : Attached) (p q : Option Image) → is_some (shown_both at p q) ≡ (is_some p && is_some q)
known_both at None None = refl
known_both at None (Some y) = refl
known_both at (Some x) None = refl
known_both at (Some x) (Some y) = refl

pub untold : (at : Attached) (p q : Option Image) → (is_some p && is_some q) ≡ false → shown_both at p q ≡ None
untold at None None off = refl
untold at None (Some y) off = refl
untold at (Some x) None off = refl
untold at (Some x) (Some y) off = absurd (false≢true (sym off))

pub told_is : (at : Attached) (p q : Option Image) (x y : Image) → p ≡ Some x → q ≡ Some y → shown_both at p q ≡ Some (image_of at x y)
told_is at p q x y e f = ap (λ o. shown_both at o q) e ∙ ap (λ o. shown_both at (Some x) o) f

-- of both what holds where they are known
pub of_known : (P : Image → Type 0) (at : Attached) (p q : Option Image) → ((x y : Image) → p ≡ Some x → q ≡ Some y → P (image_of at x y)) → IfSome (shown_both at p q) P
of_known P at None None f = tt
of_known P at None (Some y) f = tt
of_known P at (Some x) None f = tt
of_known P at (Some x) (Some y) f = f x y refl refl

-- a half that was written is known as it was
some_after : (call : WritingCall) (bytes : ℕ → List ℕ) (old : Option Image) → is_some (contents_after call bytes old) ≡ is_some old
some_after call bytes None = refl
some_after call bytes (Some image) = refl

pub known_after : {T E : Type 0} (r : Result T E) (call : WritingCall) (bytes : ℕ → List ℕ) (old new : Option Image) → OnOk r (new ≡ contents_after call bytes old)
    → OnErr r ((x : ℕ → List ℕ) × (new ≡ contents_after call x old)) → is_some new ≡ is_some old
known_after (Ok x) call bytes old new done others = ap is_some done ∙ some_after call bytes old
known_after (Err e) call bytes old new done others = ap is_some others.1 ∙ some_after call others.0 old

pub known_stays : (changed : ℕ → Type 0) (old new : Option Image) → StaysBut changed old new → is_some new ≡ is_some old
known_stays changed None None same = refl
known_stays changed None (Some new) same = absurd same
known_stays changed (Some old) None same = absurd same
known_stays changed (Some old) (Some new) same = refl

pub told_by : (a a' b b' : Option Image) → is_some a' ≡ is_some a → is_some b' ≡ is_some b → (is_some a' && is_some b') ≡ (is_some a && is_some b)
told_by a a' b b' ea eb = ap (λ t. t && is_some b') ea ∙ ap (λ t. is_some a && t) eb

-- ---- shapes

pub take_blocks : (n k : ℕ) (x : Image) → HasBlocks n x → k ≤ n → HasBlocks k (take k x)
take_blocks n k x shape le = record {
  count_is = length-take-le k x (omega (arith, shape.count_is, le));
  whole = All-take IsBlock k x shape.whole;
}

one_of : (P : Image → Type 0) (t : Bool) (u v : Image) → P u → P v → P (if t then u else v)
one_of P true u v pu pv = pu
one_of P false u v pu pv = pv

pub pick_blocks : (n k ma mb : ℕ) (x y : Image) → HasBlocks n x → HasBlocks n y → k ≤ n → HasBlocks k (pick k ma mb x y)
pick_blocks n k ma mb x y sx sy le =
    one_of (HasBlocks k) (is_open_at mb y && not (is_open_at ma x)) (take k y) (take k x) (take_blocks n k y sy le) (take_blocks n k x sx le)

-- both have as many, and any
pub as_many : (m n : ℕ) → (m == n && nat_lt 0 m) ≡ true → (m ≡ n) × (0 < m)
as_many m n both =
    let parts = and_parts (m == n) (nat_lt 0 m) both in
    (let e : m ≡ n = grind (arith, nat_tests, parts) in e, let lt : 0 < m = grind (arith, nat_tests, parts) in lt)

pub are_many : (m n : ℕ) → m ≡ n → 0 < m → (m == n && nat_lt 0 m) ≡ true
are_many m n e lt = and_from (m == n) (nat_lt 0 m) (let a : (m == n) ≡ true = grind (arith, nat_tests, e) in a) (let b : nat_lt 0 m ≡ true = grind (arith, nat_tests, lt) in b)

together_by : (x y : Image) (t : Bool) → All IsBlock x → All IsBlock y → (t ≡ true → length x ≡ length y)
    → HasBlocks (if t then length x - 1 else 0) (if t then pick (length x - 1) (length x - 1) (length x - 1) x y else [])
together_by x y true wx wy same =
    pick_blocks (length x) (length x - 1) (length x - 1) (length x - 1) x y (record { count_is = refl; whole = wx }) (record { count_is = sym (same refl); whole = wy }) (omega arith)
together_by x y false wx wy same = take_blocks (length x) 0 x (record { count_is = refl; whole = wx }) (omega arith)

-- the image of images with whole blocks has whole blocks
pub image_blocks : (at : Attached) (na nb : ℕ) (x y : Image) → HasBlocks na x → HasBlocks nb y → HasBlocks (size_of at na nb) (image_of at x y)
image_blocks Nothing na nb x y sx sy = take_blocks na 0 x sx (omega arith)
image_blocks Alone na nb x y sx sy = sx
image_blocks Member na nb x y sx sy =
    subst (λ k. HasBlocks (k - 1) (take (length x - 1) x)) sx.count_is (take_blocks na (length x - 1) x sx (omega (arith, sx.count_is)))
image_blocks (Pair h) na nb x y sx sy =
    subst (λ (k : ℕ). HasBlocks (size_of (Pair h) k nb) (picked_together x y)) sx.count_is
    (subst (λ (k : ℕ). HasBlocks (size_of (Pair h) (length x) k) (picked_together x y)) sy.count_is
    (together_by x y (length x == length y && nat_lt 0 (length x)) sx.whole sy.whole (λ t. (as_many (length x) (length y) t).0)))
image_blocks (Apart h) na nb x y sx sy = take_blocks na 0 x sx (omega arith)

-- ---- what is attached by a name

-- the blocks of what is attached are those of its name
size_pair : (na nb : ℕ) (t : Bool) → (na == nb && nat_lt 0 na) ≡ t → na ≡ nb → (if t then na - 1 else 0) ≡ min na nb - 1
size_pair na nb true is e = omega (arith, e)
size_pair na nb false is e = omega (arith, e, let none : na ≡ 0 = grind (arith, nat_tests, is, e) in none)

size_apart : (na nb : ℕ) (t : Bool) → (na == nb && nat_lt 0 na) ≡ t → (0 < na → na ≡ nb → ⊥) → (if t then na - 1 else 0) ≡ 0
size_apart na nb false is apart = refl
size_apart na nb true is apart = let both = as_many na nb is in absurd (apart both.1 both.0)

size_two : (at : Attached) (na nb : ℕ) → is_two at ≡ true → (is_two at ≡ true → 0 < na → na ≡ nb → has_marks at ≡ true) → (has_marks at ≡ true → na ≡ nb)
    → size_of (Pair Both) na nb ≡ blocks_in at na nb
size_two Nothing na nb two marks equal = absurd (false≢true two)
size_two Alone na nb two marks equal = absurd (false≢true two)
size_two Member na nb two marks equal = absurd (false≢true two)
size_two (Pair h) na nb two marks equal = size_pair na nb (na == nb && nat_lt 0 na) refl (equal refl)
size_two (Apart h) na nb two marks equal = size_apart na nb (na == nb && nat_lt 0 na) refl (λ some same. false≢true (marks refl some same))

pub size_named : (name : List ℕ) (at : Attached) (na nb : ℕ) → IsNamed name at na nb → size_of (attached_for name) na nb ≡ blocks_in at na nb
size_named name at na nb named = ⊎_elim
    (λ (one : (¬ HasPlus name) × (attached_for name ≡ Alone)). ap (λ t. size_of t na nb) one.1 ∙ sym (ap (λ t. blocks_in t na nb) (named.alone one.0)))
    (λ more. ⊎_elim
    (λ (one : HasPlus name × (second_name name ≡ []) × (attached_for name ≡ Member)). ap (λ t. size_of t na nb) one.2 ∙ sym (ap (λ t. blocks_in t na nb) (named.member one.0 one.1)))
    (λ (two : HasPlus name × (second_name name ≢ []) × (attached_for name ≡ Pair Both)).
    ap (λ t. size_of t na nb) two.2 ∙ size_two at na nb (named.two two.0 two.1) named.marks named.equal)
    more)
    (form_of name)

-- what is attached, where it has blocks, is what its name says
two_pair : (at : Attached) (na nb : ℕ) → is_two at ≡ true → 0 < blocks_in at na nb → at ≡ Pair (halves_of at)
two_pair Nothing na nb two some = absurd (false≢true two)
two_pair Alone na nb two some = absurd (false≢true two)
two_pair Member na nb two some = absurd (false≢true two)
two_pair (Pair h) na nb two some = refl
two_pair (Apart h) na nb two some = absurd (omega (arith, some))

pub named_is : (name : List ℕ) (at : Attached) (na nb : ℕ) → IsNamed name at na nb → 0 < blocks_in at na nb → at ≡ with_halves (halves_of at) (attached_for name)
named_is name at na nb named some = ⊎_elim
    (λ (one : (¬ HasPlus name) × (attached_for name ≡ Alone)). named.alone one.0 ∙ sym (ap (with_halves (halves_of at)) one.1))
    (λ more. ⊎_elim
    (λ (one : HasPlus name × (second_name name ≡ []) × (attached_for name ≡ Member)). named.member one.0 one.1 ∙ sym (ap (with_halves (halves_of at)) one.2))
    (λ (two : HasPlus name × (second_name name ≢ []) × (attached_for name ≡ Pair Both)).
    two_pair at na nb (named.two two.0 two.1) some ∙ sym (ap (with_halves (halves_of at)) two.2))
    more)
    (form_of name)

-- so the image of what its halves hold is what it shows
image_shown : (kind at : Attached) (h : Halves) (na nb : ℕ) (x y : Image) → at ≡ with_halves h kind → 0 < blocks_in at na nb → (has_marks at ≡ true → na ≡ nb) → length x ≡ na → length y ≡ nb
    → shown_both kind (Some x) (Some y) ≡ shown_by at na nb (Some x) (Some y)
image_shown Nothing at h na nb x y is some equal lx ly = absurd (omega (arith, subst (λ t. 0 < blocks_in t na nb) is some))
image_shown Alone at h na nb x y is some equal lx ly = sym (ap (λ t. shown_by t na nb (Some x) (Some y)) is)
image_shown Member at h na nb x y is some equal lx ly = ap (λ k. Some (take (k - 1) x)) lx ∙ sym (ap (λ t. shown_by t na nb (Some x) (Some y)) is)
image_shown (Pair old) at h na nb x y is some equal lx ly =
    let same : na ≡ nb = equal (ap has_marks is) in
    let room : 0 < min na nb - 1 = subst (λ t. 0 < blocks_in t na nb) is some in
    let test : (length x == length y && nat_lt 0 (length x)) ≡ true = are_many (length x) (length y) (lx ∙ same ∙ sym ly) (omega (arith, lx, room)) in
    ap (λ t. Some (if t then pick (length x - 1) (length x - 1) (length x - 1) x y else [])) test
    ∙ ap (λ k. Some (pick (k - 1) (k - 1) (k - 1) x y)) lx
    ∙ ap (λ k. Some (pick k (na - 1) (na - 1) x y)) (let e : na - 1 ≡ min na nb - 1 = omega (arith, same) in e)
    ∙ ap (λ k. Some (pick (min na nb - 1) (na - 1) (k - 1) x y)) same
    ∙ sym (ap (λ t. shown_by t na nb (Some x) (Some y)) is)
image_shown (Apart old) at h na nb x y is some equal lx ly = absurd (omega (arith, subst (λ t. 0 < blocks_in t na nb) is some))

pub named_shown : (name : List ℕ) (at : Attached) (na nb : ℕ) (x y : Image) → IsNamed name at na nb → 0 < blocks_in at na nb → length x ≡ na → length y ≡ nb
    → shown_both (attached_for name) (Some x) (Some y) ≡ shown_by at na nb (Some x) (Some y)
named_shown name at na nb x y named some lx ly =
    image_shown (attached_for name) at (halves_of at) na nb x y (named_is name at na nb named some) some named.equal lx ly

-- which halves are in use is no matter to what is named
pub named_on : (name : List ℕ) (at : Attached) (h : Halves) (na nb : ℕ) → IsNamed name at na nb → IsNamed name (with_halves h at) na nb
named_on name Nothing h na nb named = named
named_on name Alone h na nb named = named
named_on name Member h na nb named = named
named_on name (Pair old) h na nb named = record {
  alone = λ none. absurd (let e : Pair old ≡ Alone = named.alone none in cc);
  member = λ plus empty. absurd (let e : Pair old ≡ Member = named.member plus empty in cc);
  two = λ _ _. refl;
  marks = λ _ _ _. refl;
  equal = λ has. named.equal has;
}
named_on name (Apart old) h na nb named = record {
  alone = λ none. absurd (let e : Apart old ≡ Alone = named.alone none in cc);
  member = λ plus empty. absurd (let e : Apart old ≡ Member = named.member plus empty in cc);
  two = λ _ _. refl;
  marks = λ two some same. named.marks two some same;
  equal = λ has. named.equal has;
}
