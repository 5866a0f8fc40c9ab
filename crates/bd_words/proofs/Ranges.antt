-- The range of a number's argument, and the number that is read there.
use Rattle.std.proofs.Common.{◌≡◌, ◌∙◌, ◌<◌, ◌≤◌, ◌^◌, ℕ, Bool, true, false, ◌||◌, ◌==◌, not, cond, List, [], ◌∷◌, refl, ap, ap₂, subst, arith, drop, Option, Some, None}
use Rattle.std.specs.Prelude.{Result, Ok, Err, pos, negsuc, int_lt, is_some, nat_le, unwrap_or}
use Rattle.std.specs.Int.{int_max, int_min}
use Rattle.std.specs.Str.Parse.{IsNumeral, ParsesUnsigned, digits_value, starts_with_minus, without_leading_plus, without_leading_sign}
use Rattle.std.proofs.lemmas.Bool.{false≢true, and_parts, leb-true, ne_eqb}
use Rattle.std.proofs.lemmas.Int.{ints}
use Rattle.std.proofs.lemmas.Str.Parse.{digit_from_value}
use Rattle.clap.specs.Words.{signed_between, without_minus}
use Rattle.clap.specs.Matches.{ReadsOne}
use Rattle.clap.specs.declared.builder.value_parser.ValueParser.TheVariants.{Signed}
use Rattle.bd_words.specs.Words.{are_digits, is_number, number_in}
use Rattle.bd_words.proofs.NumberWords.{numeral}

-- ---- the range

max_is : (n : ℕ) → int_max (pos 0) (pos n) ≡ pos n
max_is n = go (int_lt (pos n) (pos 0)) refl
  where
    go : (t : Bool) → int_lt (pos n) (pos 0) ≡ t → cond t (pos 0) (pos n) ≡ pos n
    go true e =
        let zero : 0 ≡ n = omega (arith, ints) in
        ap pos zero
    go false e = refl

min_is : (n : ℕ) → n ≤ 4294967295 → int_min (pos 4294967295) (pos n) ≡ pos n
min_is n small = go (int_lt (pos n) (pos 4294967295)) refl
  where
    go : (t : Bool) → int_lt (pos n) (pos 4294967295) ≡ t → cond t (pos n) (pos 4294967295) ≡ pos n
    go true e = refl
    go false e =
        let same : 4294967295 ≡ n = omega (arith, ints) in
        ap pos same

fits : (least most : ℕ) → least ≤ 4294967295 → signed_between (pos least) (pos most) ≡ Signed (pos least) (pos most)
fits least most low = go (int_lt (pos 9223372036854775807) (pos least)) (int_lt (pos most) (negsuc 9223372036854775807)) refl refl
  where
    go : (t u : Bool) → int_lt (pos 9223372036854775807) (pos least) ≡ t → int_lt (pos most) (negsuc 9223372036854775807) ≡ u
        → cond (t || u) (Signed (pos 1) (pos 0)) (Signed (pos least) (pos most)) ≡ Signed (pos least) (pos most)
    go true u e f =
        let bad : 9223372036854775807 < least = omega (arith, ints) in
        absurd (omega arith)
    go false true e f =
        let bad : most < 0 = omega (arith, ints) in
        absurd (omega arith)
    go false false e f = refl

-- the range of 32 bits that is narrowed to this one
pub narrowed : (least most : ℕ) → least ≤ 4294967295 → most ≤ 4294967295
    → signed_between (int_max (pos 0) (pos least)) (int_min (pos 4294967295) (pos most)) ≡ Signed (pos least) (pos most)
narrowed least most low high = ap₂ signed_between (max_is least) (min_is most high) ∙ fits least most low

-- ---- the number

number_is : (least most n : ℕ) (text : List ℕ) → number_in least most text ≡ Some n
    → (is_number least most text ≡ true) × (digits_value 10 (without_leading_sign text) ≡ n)
number_is least most n text is = go (is_number least most text) refl is
  where
    go : (t : Bool) → is_number least most text ≡ t → cond t (Some (digits_value 10 (without_leading_sign text))) None ≡ Some n
        → (is_number least most text ≡ true) × (digits_value 10 (without_leading_sign text) ≡ n)
    go true e is = (e, ap (λ o. unwrap_or o 0) is)
    go false e is = absurd (false≢true (ap is_some is))

pub number_bounds : (least most n : ℕ) (text : List ℕ) → number_in least most text ≡ Some n → (least ≤ n) × (n ≤ most)
number_bounds least most n text is =
    let number = number_is least most n text is in
    let v = digits_value 10 (without_leading_sign text) in
    let p = and_parts (are_digits (without_leading_sign text)) _ number.0 in
    let q = and_parts (not (starts_with_minus text) || v == 0) _ p.1 in
    let r = and_parts (nat_le least v) (nat_le v most) q.1 in
    let low : least ≤ v = leb-true _ _ r.0 in
    let high : v ≤ most = leb-true _ _ r.1 in
    (omega (arith, number.1), omega (arith, number.1))

minus_left : (t : List ℕ) → without_minus t ≡ cond (starts_with_minus t) (drop 1 t) t
minus_left [] = refl
minus_left (x ∷ xs) = go (x == 45)
  where
    go : (b : Bool) → unwrap_or (cond b (Some xs) None) (x ∷ xs) ≡ cond b xs (x ∷ xs)
    go true = refl
    go false = refl

no_plus : (ds : List ℕ) → IsNumeral 10 ds → without_leading_plus ds ≡ ds
no_plus [] h = refl
no_plus (d ∷ ds) h =
    let plus : (d == 43) ≡ false = ne_eqb _ _ (λ e. omega (arith, digit_from_value d h.1.0)) in
    ap (λ (b : Bool). drop (cond b 1 0) (d ∷ ds)) plus

-- where `clap` has a number's word without a minus, the number is read
pub number_reads : (E : Type 0) (G : List ℕ → Result ℕ E → Type 0) (least most n : ℕ) (text : List ℕ) (r : Option ℕ)
    → most ≤ 4294967295 → ((u : List ℕ) (x : Result ℕ E) → G u x → ParsesUnsigned 32 10 u x)
    → number_in least most text ≡ Some n → ReadsOne G (without_minus text) r → r ≡ Some n
number_reads E G least most n text r small only is read =
    go (starts_with_minus text) refl r (subst (λ (u : List ℕ). ReadsOne G u r) (minus_left text) read)
  where
    number : (is_number least most text ≡ true) × (digits_value 10 (without_leading_sign text) ≡ n)
    number = number_is least most n text is

    bounds : (least ≤ n) × (n ≤ most)
    bounds = number_bounds least most n text is

    digits : IsNumeral 10 (without_leading_sign text)
    digits = numeral _ (and_parts (are_digits (without_leading_sign text)) _ number.0).0

    go : (b : Bool) → starts_with_minus text ≡ b → (o : Option ℕ) → ReadsOne G (cond (starts_with_minus text) (drop 1 text) text) o → o ≡ Some n
    go true minus (Some v) h =
        let numeral : IsNumeral 10 (drop 1 text) = rw minus at digits in
        let value : digits_value 10 (drop 1 text) ≡ n = rw minus at number.1 in
        let parsed = only (drop 1 text) (Ok v) (rw minus at h) in
        ap Some (parsed.1 ∙ ap (digits_value 10) (no_plus (drop 1 text) numeral) ∙ value)
    go true minus None h =
        let numeral : IsNumeral 10 (drop 1 text) = rw minus at digits in
        let value : digits_value 10 (drop 1 text) ≡ n = rw minus at number.1 in
        let same = no_plus (drop 1 text) numeral in
        let small : digits_value 10 (drop 1 text) < 2 ^ 32 = omega (arith, value, bounds.1) in
        absurd (only (drop 1 text) (Err h.0) (rw minus at h.1) (rw same numeral, rw same small))
    go false minus (Some v) h =
        let value : digits_value 10 (without_leading_plus text) ≡ n = rw minus at number.1 in
        let parsed = only text (Ok v) (rw minus at h) in
        ap Some (parsed.1 ∙ value)
    go false minus None h =
        let numeral : IsNumeral 10 (without_leading_plus text) = rw minus at digits in
        let value : digits_value 10 (without_leading_plus text) ≡ n = rw minus at number.1 in
        let small : digits_value 10 (without_leading_plus text) < 2 ^ 32 = omega (arith, value, bounds.1) in
        absurd (only text (Err h.0) (rw minus at h.1) (numeral, small))
