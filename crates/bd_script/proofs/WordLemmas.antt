-- Words of a line, and numbers and bytes in them.
use Rattle.std.specs.Prelude.{◌≡◌, ◌⊎◌, ℕ, suc, ◌+◌, ◌-◌, ◌*◌, ◌/◌, ◌^◌, ◌<◌, ◌≤◌, Bool, true, false, not, ◌&&◌, List, [], ◌∷◌, length, take, drop, fold, nat_le, cond, refl, Result, Ok, Err}
use Rattle.std.specs.List.{list_all, AllByRecursion}
use Rattle.std.specs.Char.{is_ascii_digit}
use Rattle.std.specs.declared.option.Option.TheVariants.{None, Some}
use Rattle.std.proofs.Common.{sym, ◌∙◌, ap, subst, arith, get_or, inl, inr}
use Rattle.std.proofs.lemmas.Bool.{lt-leb, le-leb, leb-true, and_parts, and_left, and_right, and_from, eq-eqb, ne_eqb}
use Rattle.std.proofs.lemmas.List.{take_all, take_more, take-append-drop}
use Rattle.std.proofs.lemmas.List.Folds.{list_all_at}
use Rattle.std.proofs.lemmas.Grind.{fold-append}
use Rattle.hex.specs.Hex.{decode_of, IsBytes}
use Rattle.hex.specs.declared.error.FromHexError.{FromHexError}
use Rattle.hex.proofs.HexLemmas.{decode_of-ok}
use Rattle.bd_limits.specs.Limits.{write_limit, mode_limit}
use Rattle.bd_command.specs.Command.{IsWritten}
use Rattle.bd_script.specs.Lines.{is_empty, digits_value, has_leading_zero, is_number, number_of, is_octal, are_octal, mode_of, hex_of, hex_result}

-- ---- numbers

-- the value of one digit more
abbrev pub digit_more : ℕ → ℕ → ℕ
digit_more n d = 10 * n + (d - 48)

digits-grow : (n : ℕ) (word : List ℕ) → n ≤ fold digit_more n word
digits-grow n [] = omega arith
digits-grow n (d ∷ word) = let e : 10 * n + (d - 48) ≤ fold digit_more (10 * n + (d - 48)) word = digits-grow (10 * n + (d - 48)) word in omega (arith, e)

number_of-false : (word : List ℕ) → is_number word ≡ false → number_of word ≡ None
number_of-false word h = rw h refl

pub number_of-true : (word : List ℕ) → is_number word ≡ true → number_of word ≡ Some (digits_value word)
number_of-true word h = rw h refl

pub number_of-empty : (word : List ℕ) → length word ≡ 0 → number_of word ≡ None
number_of-empty [] h = refl
number_of-empty (d ∷ word) h = absurd (omega arith)

leading_zero : (word : List ℕ) → 1 < length word → get_or word 0 0 ≡ 48 → has_leading_zero word ≡ true
leading_zero [] l h = absurd (omega arith)
leading_zero (d ∷ []) l h = absurd (omega arith)
leading_zero (d ∷ e ∷ word) l h = eq-eqb d 48 h

no_leading_zero : (word : List ℕ) → (1 < length word → get_or word 0 0 ≡ 48 → ⊥) → has_leading_zero word ≡ false
no_leading_zero [] h = refl
no_leading_zero (d ∷ []) h = refl
no_leading_zero (d ∷ e ∷ word) h = ne_eqb d 48 (h (omega arith))

pub number_of-zero : (word : List ℕ) → 1 < length word → get_or word 0 0 ≡ 48 → number_of word ≡ None
number_of-zero word l h = number_of-false word (and_right _ _ (and_right _ _ (and_left _ _ (ap not (leading_zero word l h)))))

pub number_of-other : (word : List ℕ) (i : ℕ) → i < length word → is_ascii_digit (get_or word i 0) ≡ false → number_of word ≡ None
number_of-other word i l h = number_of-false word (and_right _ _ (and_left _ _ (list_all_at is_ascii_digit word i 0 l h)))

pub number_of-large : (word : List ℕ) (i : ℕ) → 4294967295 < fold digit_more 0 (take i word) → number_of word ≡ None
number_of-large word i h =
    let whole : digits_value word ≡ fold digit_more (fold digit_more 0 (take i word)) (drop i word) =
    ap (fold digit_more 0) (sym (take-append-drop i word)) ∙ fold-append digit_more 0 (take i word) (drop i word) in
    let more : fold digit_more 0 (take i word) ≤ fold digit_more (fold digit_more 0 (take i word)) (drop i word) = digits-grow (fold digit_more 0 (take i word)) (drop i word) in
    number_of-false word (
    and_right (not (is_empty word)) _ (
    and_right (list_all is_ascii_digit word) _ (
    and_right (not (has_leading_zero word)) (nat_le (digits_value word) 4294967295) (lt-leb (digits_value word) 4294967295 (omega (arith, whole, more))))))

pub digits_next : (word : List ℕ) (i n : ℕ) → i < length word → n ≡ fold digit_more 0 (take i word) → fold digit_more 0 (take (i + 1) word) ≡ 10 * n + (get_or word i 0 - 48)
digits_next word i n l h =
    ap (fold digit_more 0) (take_more word i 0 l) ∙ fold-append digit_more 0 (take i word) (get_or word i 0 ∷ [])
    ∙ ap (λ x. 10 * x + (get_or word i 0 - 48)) (sym h)

not_empty : (word : List ℕ) → (length word ≡ 0 → ⊥) → not (is_empty word) ≡ true
not_empty [] h = absurd (h refl)
not_empty (d ∷ word) h = refl

pub number_of-good : (word : List ℕ) (i n : ℕ) → (length word ≡ 0 → ⊥) → (1 < length word → get_or word 0 0 ≡ 48 → ⊥) → length word ≤ i → list_all is_ascii_digit (take i word) ≡ true → n ≡ fold digit_more 0 (take i word) → n ≤ 4294967295 → Some n ≡ number_of word
number_of-good word i n some lead whole digits value small =
    let all : take i word ≡ word = take_all i word whole in
    let same : n ≡ digits_value word = value ∙ ap (fold digit_more 0) all in
    ap Some same ∙ sym (number_of-true word (
    and_from _ _ (not_empty word some) (
    and_from _ _ (ap (list_all is_ascii_digit) (sym all) ∙ digits) (
    and_from _ _ (ap not (no_leading_zero word lead)) (le-leb (digits_value word) 4294967295 (omega (arith, same)))))))

number_below : (t : Bool) (v n : ℕ) → (t ≡ true → v ≤ 4294967295) → cond t (Some v) None ≡ Some n → n < 2 ^ 32
number_below true v n h e = let same : v ≡ n = cc in let small : v ≤ 4294967295 = h refl in omega arith
number_below false v n h e = cc

pub number_of-below : (word : List ℕ) (n : ℕ) → number_of word ≡ Some n → n < 2 ^ 32
number_of-below word n e = number_below (is_number word) (digits_value word) n small e
  where
    small : is_number word ≡ true → digits_value word ≤ 4294967295
    small h =
        let one = and_parts (not (is_empty word)) _ h in
        let two = and_parts (list_all is_ascii_digit word) _ one.1 in
        let three = and_parts (not (has_leading_zero word)) (nat_le (digits_value word) 4294967295) two.1 in
        leb-true (digits_value word) 4294967295 three.1

-- ---- modes

-- a word of another length is no mode
pub mode_of-other : (word : List ℕ) → (length word ≡ 4 → ⊥) → mode_of word ≡ None
mode_of-other [] h = refl
mode_of-other (a ∷ []) h = refl
mode_of-other (a ∷ b ∷ []) h = refl
mode_of-other (a ∷ b ∷ c ∷ []) h = refl
mode_of-other (a ∷ b ∷ c ∷ d ∷ []) h = absurd (h (omega arith))
mode_of-other (a ∷ b ∷ c ∷ d ∷ e ∷ word) h = refl

-- what four bytes come to
abbrev pub four_value : ℕ → ℕ → ℕ → ℕ → ℕ
four_value a b c d = 512 * (a - 48) + 64 * (b - 48) + 8 * (c - 48) + (d - 48)

pub mode_of-four : (word : List ℕ) (x : ℕ) → length word ≡ 4
    → mode_of word ≡ cond (are_octal (get_or word 0 x) (get_or word 1 x) (get_or word 2 x) (get_or word 3 x)) (Some (four_value (get_or word 0 x) (get_or word 1 x) (get_or word 2 x) (get_or word 3 x))) None
mode_of-four [] x h = absurd (omega arith)
mode_of-four (a ∷ []) x h = absurd (omega arith)
mode_of-four (a ∷ b ∷ []) x h = absurd (omega arith)
mode_of-four (a ∷ b ∷ c ∷ []) x h = absurd (omega arith)
mode_of-four (a ∷ b ∷ c ∷ d ∷ []) x h = refl
mode_of-four (a ∷ b ∷ c ∷ d ∷ e ∷ word) x h = absurd (omega arith)

-- four octal digits come to a mode
octal_range : (b : ℕ) → is_octal b ≡ true → b ≤ 55
octal_range b h = leb-true b 55 (and_parts (nat_le 48 b) (nat_le b 55) h).1

small_at : (t : Bool) (a b c d n : ℕ) → (t ≡ true → four_value a b c d ≤ mode_limit) → cond t (Some (four_value a b c d)) None ≡ Some n → n ≤ mode_limit
small_at true a b c d n h e = let same : four_value a b c d ≡ n = cc in omega (arith, h refl, same)
small_at false a b c d n h e = cc

four_small : (a b c d : ℕ) → are_octal a b c d ≡ true → four_value a b c d ≤ mode_limit
four_small a b c d h =
    let one = and_parts (is_octal a) (is_octal b && (is_octal c && is_octal d)) h in
    let two = and_parts (is_octal b) (is_octal c && is_octal d) one.1 in
    let three = and_parts (is_octal c) (is_octal d) two.1 in
    omega (arith, octal_range a one.0, octal_range b two.0, octal_range c three.0, octal_range d three.1)

pub mode_of-small : (word : List ℕ) (n : ℕ) → mode_of word ≡ Some n → n ≤ mode_limit
mode_of-small [] n e = cc
mode_of-small (a ∷ []) n e = cc
mode_of-small (a ∷ b ∷ []) n e = cc
mode_of-small (a ∷ b ∷ c ∷ []) n e = cc
mode_of-small (a ∷ b ∷ c ∷ d ∷ []) n e = small_at (are_octal a b c d) a b c d n (four_small a b c d) e
mode_of-small (a ∷ b ∷ c ∷ d ∷ f ∷ word) n e = cc

-- ---- bytes

hex_size : (bytes : List ℕ) → (length bytes ≡ 0) ⊎ (write_limit < length bytes) → hex_result (Ok bytes) ≡ None
hex_size bytes (inl none) = rw (and_left (nat_le 1 (length bytes)) (nat_le (length bytes) write_limit) (lt-leb 1 (length bytes) (omega arith))) refl
hex_size bytes (inr many) = rw (and_right (nat_le 1 (length bytes)) (nat_le (length bytes) write_limit) (lt-leb (length bytes) write_limit many)) refl

hex_cases : (word : List ℕ) (r : Result (List ℕ) FromHexError) → decode_of word ≡ r → (length word / 2 ≡ 0) ⊎ (write_limit < length word / 2) → hex_result r ≡ None
hex_cases word (Err e) h size = refl
hex_cases word (Ok bytes) h (inl none) = hex_size bytes (inl (omega (arith, (decode_of-ok word bytes h).2)))
hex_cases word (Ok bytes) h (inr many) = hex_size bytes (inr (omega (arith, (decode_of-ok word bytes h).2)))

pub hex_of-size : (word : List ℕ) → (length word / 2 ≡ 0) ⊎ (write_limit < length word / 2) → hex_of word ≡ None
hex_of-size word size = hex_cases word (decode_of word) refl size

all_bytes : (bytes : List ℕ) → IsBytes bytes → AllByRecursion (λ b. b < 256) bytes
all_bytes [] h = tt
all_bytes (b ∷ bytes) h = (h 0, all_bytes bytes (λ i. h (suc i)))

written_at : (t : Bool) (bs bytes : List ℕ) → (nat_le 1 (length bs) && nat_le (length bs) write_limit) ≡ t → IsBytes bs → cond t (Some bs) None ≡ Some bytes → IsWritten bytes
written_at true bs bytes size h e =
    let parts = and_parts (nat_le 1 (length bs)) (nat_le (length bs) write_limit) size in
    let same : bs ≡ bytes = cc in
    let P : List ℕ → Type 0 = IsWritten in
    subst P same (leb-true 1 (length bs) parts.0, leb-true (length bs) write_limit parts.1, all_bytes bs h)
written_at false bs bytes size h e = cc

written_size : (bs bytes : List ℕ) → IsBytes bs → hex_result (Ok bs) ≡ Some bytes → IsWritten bytes
written_size bs bytes h e = written_at (nat_le 1 (length bs) && nat_le (length bs) write_limit) bs bytes refl h e

written_cases : (word : List ℕ) (r : Result (List ℕ) FromHexError) (bytes : List ℕ) → decode_of word ≡ r → hex_result r ≡ Some bytes → IsWritten bytes
written_cases word (Err e) bytes h some = cc
written_cases word (Ok bs) bytes h some = written_size bs bytes (decode_of-ok word bs h).3 some

pub IsWritten-hex_of : (word bytes : List ℕ) → hex_of word ≡ Some bytes → IsWritten bytes
IsWritten-hex_of word bytes h = written_cases word (decode_of word) bytes refl h
