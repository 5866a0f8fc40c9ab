-- One bit of a list of words.
use Rattle.std.proofs.Common.{◌≡◌, ◌≢◌, ℕ, ◌+◌, ◌-◌, ◌*◌, ◌/◌, ◌%◌, ◌^◌, ◌<◌, ◌≤◌, List, [], ◌∷◌, ◌++◌, length, get_or, set, true, false, eqb, sym, ap, ◌∙◌, arith, inl, inr, get_or-set_same, get_or-set_other, length-append, ltb}
use Rattle.std.specs.Int.{bit_at, trailing_zeros, w64}
use Rattle.std.proofs.lemmas.Bool.{cases_eq, cases_lt, lt-ltb, le-ltb}
use Rattle.std.proofs.lemmas.List.{get_or_past, get_or_append_left, get_or-append_right, get_or-replicate, length-replicate}
use Rattle.std.proofs.lemmas.Nat.Bits.{bit_at-zero, bit_at_ones, bit_at_ones_above, bit_at-trailing_zeros}
use Rattle.std.specs.Prelude.{replicate}
use Rattle.bd_slots.specs.Words.{has_bit, IsNoneBelow, IsFirstSet}

-- a bit of the word that was changed
pub has_bit-same : (words : List ℕ) (bit word : ℕ) → bit / 64 < length words → has_bit (set words (bit / 64) word) bit ≡ eqb (bit_at word (bit % 64)) 1
has_bit-same words bit word h = ap (λ w. eqb (bit_at w (bit % 64)) 1) (get_or-set_same words (bit / 64) word 0 h)

-- the other bits
pub has_bit-other : (words : List ℕ) (bit word other : ℕ) → bit / 64 < length words → other ≢ bit
    → ((i : ℕ) → i < 64 → i ≢ bit % 64 → bit_at word i ≡ bit_at (get_or words (bit / 64) 0) i)
    → has_bit (set words (bit / 64) word) other ≡ has_bit words other
has_bit-other words bit word other h ne kept =
    elim (cases_eq (other / 64) (bit / 64)) [
      | inl e ↦
          let apart : other % 64 ≢ bit % 64 = λ r. ne (omega (arith, e, r)) in
          let now : get_or (set words (bit / 64) word) (other / 64) 0 ≡ word = ap (λ i. get_or (set words (bit / 64) word) i 0) e ∙ get_or-set_same words (bit / 64) word 0 h in
          let before : get_or words (other / 64) 0 ≡ get_or words (bit / 64) 0 = ap (λ i. get_or words i 0) e in
          ap (λ w. eqb (bit_at w (other % 64)) 1) now
          ∙ ap (λ b. eqb b 1) (kept (other % 64) (omega arith) apart ∙ ap (λ w. bit_at w (other % 64)) (sym before))
      | inr e ↦ ap (λ w. eqb (bit_at w (other % 64)) 1) (get_or-set_other words (bit / 64) (other / 64) word 0 e)
    ]

-- no bit stands after the words
pub has_bit-past : (words : List ℕ) (bit : ℕ) → 64 * length words ≤ bit → has_bit words bit ≡ false
has_bit-past words bit h =
    ap (λ w. eqb (bit_at w (bit % 64)) 1) (get_or_past words (bit / 64) 0 (omega arith)) ∙ ap (λ b. eqb b 1) (bit_at-zero (bit % 64))

-- words of ones and one with the rest
abbrev pub ones : ℕ → ℕ → List ℕ
ones whole rest = replicate whole (2 ^ 64 - 1) ++ (2 ^ rest - 1) ∷ []

-- which word it is
word-ones : (whole rest at : ℕ) → at < whole → get_or (ones whole rest) at 0 ≡ 2 ^ 64 - 1
word-ones whole rest at h =
    get_or_append_left (replicate whole (2 ^ 64 - 1)) ((2 ^ rest - 1) ∷ []) 0 at (omega (arith, length-replicate {A = ℕ} whole (2 ^ 64 - 1)))
    ∙ get_or-replicate whole at (2 ^ 64 - 1) 0 h

word-rest : (whole rest at : ℕ) → at ≡ whole → get_or (ones whole rest) at 0 ≡ 2 ^ rest - 1
word-rest whole rest at e =
    get_or-append_right (replicate whole (2 ^ 64 - 1)) ((2 ^ rest - 1) ∷ []) whole at 0 (length-replicate whole (2 ^ 64 - 1)) (omega arith)
    ∙ ap (λ i. get_or ((2 ^ rest - 1) ∷ []) i 0) (first at whole e)
  where
    first : (at whole : ℕ) → at ≡ whole → at - whole ≡ 0
    first at whole e = omega arith

-- what a bit of a known word says
of_word : (words : List ℕ) (bit word b : ℕ) → get_or words (bit / 64) 0 ≡ word → bit_at word (bit % 64) ≡ b → has_bit words bit ≡ eqb b 1
of_word words bit word b e h = ap (λ w. eqb (bit_at w (bit % 64)) 1) e ∙ ap (λ v. eqb v 1) h

-- their bits are set below the count
pub has_bit-ones : (whole rest bit : ℕ) → rest < 64 → bit < 64 * whole + rest → has_bit (ones whole rest) bit ≡ true
has_bit-ones whole rest bit hr h =
    elim (cases_lt (bit / 64) whole) [
      | inl lt ↦ of_word (ones whole rest) bit (2 ^ 64 - 1) 1 (word-ones whole rest (bit / 64) lt) (bit_at_ones 64 (bit % 64) (omega arith))
      | inr le ↦ of_word (ones whole rest) bit (2 ^ rest - 1) 1 (word-rest whole rest (bit / 64) (omega arith)) (bit_at_ones rest (bit % 64) (omega arith))
    ]

-- and not from there on
pub has_bit-ones_past : (whole rest bit : ℕ) → rest < 64 → 64 * whole + rest ≤ bit → has_bit (ones whole rest) bit ≡ false
has_bit-ones_past whole rest bit hr h =
    elim (cases_eq (bit / 64) whole) [
      | inl e ↦ of_word (ones whole rest) bit (2 ^ rest - 1) 0 (word-rest whole rest (bit / 64) e) (bit_at_ones_above rest (bit % 64) (omega arith))
      | inr ne ↦ has_bit-past (ones whole rest) bit (omega (arith, length-append (replicate whole (2 ^ 64 - 1)) ((2 ^ rest - 1) ∷ []), length-replicate {A = ℕ} whole (2 ^ 64 - 1)))
    ]

-- both at once
pub has_bit-ones_below : (words : List ℕ) (count : ℕ) → words ≡ ones (count / 64) (count % 64) → (bit : ℕ) → has_bit words bit ≡ ltb bit count
has_bit-ones_below words count e bit =
    elim (cases_lt bit count) [
      | inl lt ↦ ap (λ w. has_bit w bit) e ∙ has_bit-ones (count / 64) (count % 64) bit (omega arith) (omega arith) ∙ sym (lt-ltb bit count lt)
      | inr le ↦ ap (λ w. has_bit w bit) e ∙ has_bit-ones_past (count / 64) (count % 64) bit (omega arith) (omega arith) ∙ sym (le-ltb bit count le)
    ]

-- the lowest bit of a word that isn't 0 is the first one that is set, where none is before the word
pub IsFirstSet-lowest : (words : List ℕ) (at word : ℕ) → get_or words at 0 ≡ word → 0 < word → word < 2 ^ 64 → IsNoneBelow words (64 * at) → IsFirstSet words (64 * at + trailing_zeros w64 word)
IsFirstSet-lowest words at word e pos fits before =
    let lowest = bit_at-trailing_zeros w64 word pos fits in
    let bit = 64 * at + trailing_zeros w64 word in
    let at' : bit / 64 ≡ at = omega (arith, lowest.0) in
    let low : bit % 64 ≡ trailing_zeros w64 word = omega (arith, lowest.0) in (
      of_word words bit word 1 (ap (λ i. get_or words i 0) at' ∙ e) (ap (bit_at word) low ∙ lowest.1),
      λ other lt. elim (cases_lt other (64 * at)) [
        | inl lower ↦ before other lower
        | inr le ↦
            let same : other / 64 ≡ at = omega (arith, lowest.0, lt, le) in
            of_word words other word 0 (ap (λ i. get_or words i 0) same ∙ e) (lowest.2 (other % 64) (omega (arith, lowest.0, lt, le)))
      ],
    )
