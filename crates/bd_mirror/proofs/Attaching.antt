-- What a name says is attached, and what is shown then.
use Rattle.std.proofs.Common.{◌≡◌, ◌≢◌, ℕ, ◌-◌, ◌<◌, List, [], ◌∷◌, length, take, Option, None, Some, IfSome, Result, Ok, Err, Bool, true, false, refl, sym, ap, subst, ◌∙◌, arith, Bor}
use Rattle.std.specs.Prelude.{IfOk, IfNone, ◌==◌}
use Rattle.std.specs.Option.{option_map}
use Rattle.std.specs.List.{position_or_len}
use Rattle.std.specs.Str.Pattern.{FindsChar, SplitsAtFirstByte}
use Rattle.std.proofs.lemmas.Bool.{false≢true}
use Rattle.std.proofs.lemmas.Bool.Decides.{nat_tests}
use Rattle.std.proofs.lemmas.List.{take_all}
use Rattle.bd_device.specs.Blocks.{Image}
use Rattle.bd_device.specs.Changes.{StaysBut}
use Rattle.bd_mirror.specs.declared.halves.Attached.{Attached}
use Rattle.bd_mirror.specs.declared.halves.Attached.TheVariants.{Alone, Member}
use Rattle.bd_mirror.specs.Contents.{is_open_at, shown_by}
use Rattle.bd_mirror.specs.Halves.{has_marks, is_two, is_too_many, blocks_in}
use Rattle.bd_mirror.specs.Names.{HasPlus, first_name, second_name, IsNamed}
use Rattle.bd_mirror.proofs.Marks.{take_but_mark}

-- ---- names

-- a name without a `+` isn't cut
pub split_none : (F : List ℕ → Option (ℕ × ℕ) → Type 0) (name : List ℕ) (r : Option (Bor (List ℕ) × Bor (List ℕ)))
    → SplitsAtFirstByte F (Some 43) name r → ((w : List ℕ) (o : Option (ℕ × ℕ)) → F w o → FindsChar 43 w o) → r ≡ None
    → position_or_len (λ byte. byte == 43) name ≡ length name
split_none F name None byte law is = byte (omega arith) law
split_none F name (Some x) byte law is = cc

-- and else at the first one
pub split_some : (F : List ℕ → Option (ℕ × ℕ) → Type 0) (name : List ℕ) (r : Option (Bor (List ℕ) × Bor (List ℕ))) (x : Bor (List ℕ) × Bor (List ℕ))
    → SplitsAtFirstByte F (Some 43) name r → ((w : List ℕ) (o : Option (ℕ × ℕ)) → F w o → FindsChar 43 w o) → r ≡ Some x
    → (x.0.now ≡ first_name name) × (x.1.now ≡ second_name name) × HasPlus name
split_some F name r x byte law is =
    subst (λ (o : Option (Bor (List ℕ) × Bor (List ℕ))). SplitsAtFirstByte F (Some 43) name o) is byte (omega arith) law

pub named_alone : (name : List ℕ) (na nb : ℕ) → position_or_len (λ byte. byte == 43) name ≡ length name → IsNamed name Alone na nb
named_alone name na nb none = record {
  alone = λ _. refl;
  member = λ plus _. absurd (omega (arith, plus, none));
  two = λ plus _. absurd (omega (arith, plus, none));
  marks = λ two _ _. absurd (false≢true two);
  equal = λ marks. absurd (false≢true marks);
}

pub named_member : (name : List ℕ) (na nb : ℕ) → HasPlus name → second_name name ≡ [] → IsNamed name Member na nb
named_member name na nb plus empty = record {
  alone = λ none. absurd (none plus);
  member = λ _ _. refl;
  two = λ _ more. absurd (more empty);
  marks = λ two _ _. absurd (false≢true two);
  equal = λ marks. absurd (false≢true marks);
}

pub named_two : {E : Type 0} (r : Result Attached E) (name : List ℕ) (na nb : ℕ) → HasPlus name → second_name name ≢ []
    → IfOk r (λ at. is_two at ≡ true) → IfOk r (λ at. 0 < na → na ≡ nb → has_marks at ≡ true)
    → IfOk r (λ at. has_marks at ≡ true → na ≡ nb) → IfOk r (λ at. IsNamed name at na nb)
named_two (Err e) name na nb plus more two marks equal = tt
named_two (Ok at) name na nb plus more two marks equal = record {
  alone = λ none. absurd (none plus);
  member = λ _ empty. absurd (more empty);
  two = λ _ _. two;
  marks = λ _ some same. marks some same;
  equal = equal;
}

-- all of a name without a `+` is that of the first half
pub first_alone : (name : List ℕ) → position_or_len (λ byte. byte == 43) name ≡ length name → first_name name ≡ name
first_alone name none = take_all (position_or_len (λ byte. byte == 43) name) name (omega (arith, none))

-- ---- what is shown

-- what was asked for of a half is asked for of the mirror
pub none_of : {P Q : Type 0} (f : ℕ → ℕ) (size create : Option ℕ) → size ≡ option_map f create → IfNone size P → (P → Q) → IfNone create Q
none_of f size (Some n) e p then = tt
none_of {P} f size None e p then = then (subst (λ o. IfNone o P) e p)

-- of two halves
pub pair_shown : {E : Type 0} (r : Result Attached E) (size : Option ℕ) (shown : Attached → Option Image) (na nb na' nb' : ℕ) (a b a1 b1 a0 b0 : Option Image)
    → na' ≡ na → nb' ≡ nb → a ≡ a1 → b ≡ b1 → IfNone size (a1 ≡ a0) → IfNone size (b1 ≡ b0)
    → IfOk r (λ at. shown at ≡ shown_by at na nb a b) → IfOk r (λ at. IfNone size (shown at ≡ shown_by at na' nb' a0 b0))
pair_shown (Err e) size shown na nb na' nb' a b a1 b1 a0 b0 ca cb ea eb fa fb is = tt
pair_shown (Ok at) (Some n) shown na nb na' nb' a b a1 b1 a0 b0 ca cb ea eb fa fb is = tt
pair_shown (Ok at) None shown na nb na' nb' a b a1 b1 a0 b0 ca cb ea eb fa fb is =
    is ∙ ap (λ n. shown_by at n nb a b) (sym ca) ∙ ap (λ n. shown_by at na' n a b) (sym cb)
    ∙ ap (λ (i : Option Image). shown_by at na' nb' i b) (ea ∙ fa) ∙ ap (λ (i : Option Image). shown_by at na' nb' a0 i) (eb ∙ fb)

pub pair_names : {E : Type 0} (r : Result Attached E) (f : ℕ → ℕ) (size create : Option ℕ) (shown : Attached → Option Image) (na nb : ℕ) (showA showB : List ℕ → Option Image)
    (first second first' second' : List ℕ) → size ≡ option_map f create → first ≡ first' → second ≡ second'
    → IfOk r (λ at. IfNone size (shown at ≡ shown_by at na nb (showA first) (showB second)))
    → IfOk r (λ at. IfNone create (shown at ≡ shown_by at na nb (showA first') (showB second')))
pair_names (Err e) f size create shown na nb showA showB first second first' second' more ef es is = tt
pair_names (Ok at) f size create shown na nb showA showB first second first' second' more ef es is =
    none_of f size create more is (λ e. e ∙ ap (λ n. shown_by at na nb (showA n) (showB second)) ef ∙ ap (λ n. shown_by at na nb (showA first') (showB n)) es)

-- of one that has a mark
member_take : (n : ℕ) (old new : Option Image) → StaysBut (λ i. i ≡ n - 1) old new → option_map (take (n - 1)) new ≡ option_map (take (n - 1)) old
member_take n None None same = refl
member_take n None (Some new) same = absurd same
member_take n (Some old) None same = absurd same
member_take n (Some old) (Some new) same = ap Some (take_but_mark (n - 1) (n - 1) old new (omega arith) same)

pub member_names : (f : ℕ → ℕ) (size create : Option ℕ) (n : ℕ) (new : Option Image) (show : List ℕ → Option Image) (first first' : List ℕ)
    → size ≡ option_map f create → first ≡ first' → IfNone size (StaysBut (λ i. i ≡ n - 1) (show first) new)
    → IfNone create (option_map (take (n - 1)) new ≡ option_map (take (n - 1)) (show first'))
member_names f size create n new show first first' more ef same =
    none_of f size create more same (λ stays. member_take n (show first) new stays ∙ ap (λ m. option_map (take (n - 1)) (show m)) ef)

-- whose mark was opened
pub member_stays : (size : Option ℕ) (n n' : ℕ) (shows known now new : Option Image) → n' ≡ n → now ≡ known → IfNone size (known ≡ shows)
    → StaysBut (λ i. i ≡ n - 1) now new → IfNone size (StaysBut (λ i. i ≡ n' - 1) shows new)
member_stays (Some k) n n' shows known now new count kept is same = tt
member_stays None n n' shows known now new count kept is same =
    subst (λ m. StaysBut (λ i. i ≡ m - 1) shows new) (sym count) (subst (λ (o : Option Image). StaysBut (λ i. i ≡ n - 1) o new) (kept ∙ is) same)

pub member_opened : (n n' : ℕ) (new : Option Image) → n' ≡ n → (0 < n → IfSome new (λ image. is_open_at (n - 1) image ≡ true))
    → 0 < n' → IfSome new (λ image. is_open_at (n' - 1) image ≡ true)
member_opened n n' new count opened some =
    subst (λ m. IfSome new (λ image. is_open_at (m - 1) image ≡ true)) (sym count) (opened (omega (arith, some, count)))

-- so many blocks stayed
pub marks_now : {E : Type 0} (r : Result Attached E) (na nb na' nb' : ℕ) → na' ≡ na → nb' ≡ nb
    → IfOk r (λ at. 0 < na → na ≡ nb → has_marks at ≡ true) → IfOk r (λ at. 0 < na' → na' ≡ nb' → has_marks at ≡ true)
marks_now (Err e) na nb na' nb' ca cb marks = tt
marks_now (Ok at) na nb na' nb' ca cb marks = λ some same. marks (omega (arith, some, ca)) (sym ca ∙ same ∙ cb)

-- what has no bytes
nil_of : (xs : List ℕ) → length xs ≡ 0 → xs ≡ []
nil_of [] e = refl
nil_of (x ∷ xs) e = absurd (omega (arith, e))

pub empty_is : (r : Bool) (xs : List ℕ) → r ≡ (length xs == 0) → r ≡ true → xs ≡ []
empty_is r xs tested e = let is : (length xs == 0) ≡ true = sym tested ∙ e in nil_of xs (grind (arith, nat_tests))

pub some_is : (r : Bool) (xs : List ℕ) → r ≡ (length xs == 0) → r ≡ false → xs ≢ []
some_is r xs tested e empty = false≢true (sym e ∙ tested ∙ ap (λ (l : List ℕ). length l == 0) empty)

-- two halves are no member
pub two_no_member : {E : Type 0} (P : Type 0) (r : Result Attached E) → IfOk r (λ at. is_two at ≡ true) → IfOk r (λ at. at ≡ Member → P)
two_no_member P (Err e) two = tt
two_no_member P (Ok at) two = λ e. absurd (false≢true (sym (ap is_two e) ∙ two))

pub alone_no_member : {P : Type 0} → Alone ≡ Member → P
alone_no_member e = absurd (omega (arith, ap (λ t. blocks_in t 1 0) e))

-- of one half alone
pub alone_names : (create : Option ℕ) (known : Option Image) (show : List ℕ → Option Image) (name name' : List ℕ) → name' ≡ name
    → IfNone create (known ≡ show name) → IfNone create (known ≡ show name')
alone_names (Some n) known show name name' same e = tt
alone_names None known show name name' same e = e ∙ ap show (sym same)

-- so many blocks were asked for that it wasn't attached
pub not_too_many : (P : Type 0) (create : Option ℕ) → true ≡ is_too_many create → IfNone create P
not_too_many P None e = absurd (false≢true (sym e))
not_too_many P (Some n) e = tt

pub equal_now : {E : Type 0} (r : Result Attached E) (na nb na' nb' : ℕ) → na' ≡ na → nb' ≡ nb
    → IfOk r (λ at. has_marks at ≡ true → na ≡ nb) → IfOk r (λ at. has_marks at ≡ true → na' ≡ nb')
equal_now (Err e) na nb na' nb' ca cb equal = tt
equal_now (Ok at) na nb na' nb' ca cb equal = λ marks. ca ∙ equal marks ∙ sym cb
