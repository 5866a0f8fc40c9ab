-- Which words `clap` takes as numbers, and what they come to.
use Rattle.std.proofs.Common.{◌≡◌, ◌∙◌, ◌<◌, ◌≤◌, ◌^◌, ℕ, zero, suc, Bool, true, false, not, ◌||◌, ◌==◌, cond, List, [], ◌∷◌, refl, sym, inl, inr, arith}
use Rattle.std.specs.Prelude.{nat_le, pos, neg_ℤ, ◌≤ℤ◌, FitsSigned}
use Rattle.std.specs.Int.{w64}
use Rattle.std.specs.Str.{all_ascii_digits}
use Rattle.std.specs.Str.Parse.{IsNumeral, digits_value, starts_with_minus, without_leading_sign}
use Rattle.std.proofs.lemmas.Bool.{false≢true, cases_Bool, and_parts, and_from, eqb-true, leb-true, le-leb}
use Rattle.std.proofs.lemmas.Int.{ints}
use Rattle.std.proofs.lemmas.Str.Parse.{IsNumeralModel, numerals_by_value, tells_all_ascii_digits}
use Rattle.clap.specs.ValueTests.{accepts}
use Rattle.clap.proofs.ValueTestLemmas.{accepts-Accepts, Accepts-accepts}
use Rattle.clap.specs.declared.builder.value_parser.ValueParser.TheVariants.{Signed}
use Rattle.bd_words.specs.Words.{are_digits, is_number}

own : IsNumeralModel (λ ds. all_ascii_digits ds ≡ true) (digits_value 10)
own = numerals_by_value _ tells_all_ascii_digits

-- at least one digit is a numeral
pub numeral : (ds : List ℕ) → are_digits ds ≡ true → IsNumeral 10 ds
numeral [] h = absurd (false≢true h)
numeral (d ∷ ds) h = (omega arith, own.to (d ∷ ds) h)

pub digits : (ds : List ℕ) → IsNumeral 10 ds → are_digits ds ≡ true
digits [] h = absurd (omega (arith, h.0))
digits (d ∷ ds) h = own.from (d ∷ ds) h.1

-- a minus stands before zeros alone
signed_to : (least most n : ℕ) (m : Bool) → (not m || n == 0) ≡ true → least ≤ n → n ≤ most
    → (pos least ≤ℤ cond m (neg_ℤ (pos n)) (pos n)) × (cond m (neg_ℤ (pos n)) (pos n) ≤ℤ pos most)
signed_to least most n true z low high =
    let none : n ≡ 0 = eqb-true n 0 z in
    (omega (arith, ints), omega (arith, ints))
signed_to least most n false z low high = (omega (arith, ints), omega (arith, ints))

signed_from : (least most n : ℕ) (m : Bool) → pos least ≤ℤ cond m (neg_ℤ (pos n)) (pos n) → cond m (neg_ℤ (pos n)) (pos n) ≤ℤ pos most
    → ((not m || n == 0) ≡ true) × (least ≤ n) × (n ≤ most)
signed_from least most n true low high =
    let none : n ≡ 0 = omega (arith, ints) in
    (rw none refl, omega (arith, ints), omega (arith, ints))
signed_from least most n false low high = (refl, omega (arith, ints), omega (arith, ints))

fits : (n : ℕ) (m : Bool) → n < 2 ^ 63 → FitsSigned w64 (cond m (neg_ℤ (pos n)) (pos n))
fits n false small = record { sfits = small }
fits zero true small = record { sfits = small }
fits (suc k) true small = record { sfits = omega arith }

module _ (least most : ℕ) (word : List ℕ) (small : most < 2 ^ 63) where
  abbrev ds : List ℕ
  ds = without_leading_sign word

  abbrev n : ℕ
  n = digits_value 10 (without_leading_sign word)

  taken : is_number least most word ≡ true → accepts false (Signed (pos least) (pos most)) word ≡ true
  taken t =
      let p = and_parts (are_digits ds) _ t in
      let q = and_parts (not (starts_with_minus word) || n == 0) _ p.1 in
      let r = and_parts (nat_le least n) (nat_le n most) q.1 in
      let low : least ≤ n = leb-true _ _ r.0 in
      let high : n ≤ most = leb-true _ _ r.1 in
      let within = signed_to least most n (starts_with_minus word) q.0 low high in
      Accepts-accepts false (Signed (pos least) (pos most)) word (numeral ds p.0, fits n (starts_with_minus word) (omega arith), within.0, within.1)

  given : accepts false (Signed (pos least) (pos most)) word ≡ true → is_number least most word ≡ true
  given a =
      let h = accepts-Accepts false (Signed (pos least) (pos most)) word a in
      let within = signed_from least most n (starts_with_minus word) h.2 h.3 in
      and_from (are_digits ds) _ (digits ds h.0)
      (and_from (not (starts_with_minus word) || n == 0) _ within.0 (and_from (nat_le least n) (nat_le n most) (le-leb _ _ within.1) (le-leb _ _ within.2)))

  -- `clap` takes just these words
  pub number_same : accepts false (Signed (pos least) (pos most)) word ≡ is_number least most word
  number_same = elim (cases_Bool (is_number least most word)) [
    | inl is ↦ taken is ∙ sym is
    | inr isnt ↦ elim (cases_Bool (accepts false (Signed (pos least) (pos most)) word)) [
      | inl a ↦ absurd (false≢true (sym isnt ∙ given a))
      | inr r ↦ r ∙ sym isnt
    ]
  ]
