-- How a client's line is cut and read.
use Rattle.std.proofs.Common.{◌≡◌, ℕ, ◌+◌, ◌-◌, ◌<◌, ◌≤◌, ◌^◌, suc, Bool, true, false, cond, List, [], ◌∷◌, length, take, drop, get_or, nat_eq, not, refl, sym, ap, subst, ◌∙◌, arith, Bor}
use Rattle.std.specs.Prelude.{nat_lt}
use Rattle.std.specs.List.{position, position_or_len}
use Rattle.std.specs.declared.option.Option.TheVariants.{None, Some}
use Rattle.std.specs.declared.result.Result.TheVariants.{Ok}
use Rattle.std.proofs.lemmas.List.{take_all, take_rest, drop_all}
use borrow.Author.Tests.{ltb-false}
use Rattle.bd_command.specs.Command.{IsWritten}
use Rattle.bd_script.specs.Lines.{number_of, hex_of}
use Rattle.bd_script.specs.Reading.{texts}
use Rattle.bd_script.proofs.WordLemmas.{number_of-below, IsWritten-hex_of}
use Rattle.bd_sessions.specs.declared.turn.Turn.TheVariants.{Write}
use Rattle.bd_sessions.specs.Turns.{first_word, after_word, turn_with_number, turn_with_bytes, turn_of_write}

-- ---- the first space

abbrev space : ℕ → Bool
space b = nat_eq b 32

word_before : (text : List ℕ) → take (position_or_len space text) text ≡ first_word text
word_before [] = refl
word_before (b ∷ bs) = by (space b) (word_before bs)
  where
    by : (t : Bool) → take (position_or_len space bs) bs ≡ first_word bs → take (cond (not t) (1 + position_or_len space bs) 0) (b ∷ bs) ≡ cond t [] (b ∷ first_word bs)
    by true h = refl
    by false h =
        let one : 1 + position_or_len space bs ≡ suc (position_or_len space bs) = omega arith in
        ap (λ n. take n (b ∷ bs)) one ∙ ap (λ l. b ∷ l) h

word_after : (text : List ℕ) → drop (position_or_len space text + 1) text ≡ after_word text
word_after [] = drop_all (position_or_len space [] + 1) [] (omega arith)
word_after (b ∷ bs) = by (space b) (word_after bs)
  where
    by : (t : Bool) → drop (position_or_len space bs + 1) bs ≡ after_word bs → drop (cond (not t) (1 + position_or_len space bs) 0 + 1) (b ∷ bs) ≡ cond t bs (after_word bs)
    by true h = refl
    by false h =
        let one : (1 + position_or_len space bs) + 1 ≡ suc (position_or_len space bs + 1) = omega arith in
        ap (λ n. drop n (b ∷ bs)) one ∙ h

-- where a first space was found
place_found : (text : List ℕ) (end : ℕ) → Some end ≡ position space text → position_or_len space text ≡ end
place_found text end h = by (nat_lt (position_or_len space text) (length text)) h
  where
    by : (t : Bool) → Some end ≡ cond t (Some (position_or_len space text)) None → position_or_len space text ≡ end
    by true h = cc
    by false h = cc

-- where none was
place_none : (text : List ℕ) → None ≡ position space text → length text ≤ position_or_len space text
place_none text h = ltb-false (position_or_len space text) (length text) (by (nat_lt (position_or_len space text) (length text)) h)
  where
    by : (t : Bool) → None ≡ cond t (Some (position_or_len space text)) None → t ≡ false
    by true h = cc
    by false h = refl

pub first_word-found : (text : List ℕ) (end : ℕ) → Some end ≡ position (λ b. nat_eq b 32) text → take end text ≡ first_word text
first_word-found text end h = ap (λ n. take n text) (sym (place_found text end h)) ∙ word_before text

pub after_word-found : (text : List ℕ) (end : ℕ) → Some end ≡ position (λ b. nat_eq b 32) text → take (length text - (end + 1)) (drop (end + 1) text) ≡ after_word text
after_word-found text end h = take_rest text (end + 1) ∙ ap (λ n. drop (n + 1) text) (sym (place_found text end h)) ∙ word_after text

pub first_word-none : (text : List ℕ) → None ≡ position (λ b. nat_eq b 32) text → text ≡ first_word text
first_word-none text h = sym (take_all (position_or_len space text) text (place_none text h)) ∙ word_before text

pub after_word-none : (text : List ℕ) → None ≡ position (λ b. nat_eq b 32) text → [] ≡ after_word text
after_word-none text h =
    let far : length text ≤ position_or_len space text = place_none text h in
    sym (drop_all (position_or_len space text + 1) text (omega arith)) ∙ word_after text

-- ---- what is written

pub write_turn : (words : List (Bor (List ℕ))) (d : Bor (List ℕ)) (h n : ℕ) (text bytes : List ℕ) → length words ≡ 3
    → Some h ≡ number_of (get_or words 0 d).now → Some n ≡ number_of (get_or words 1 d).now → hex_of (get_or words 2 d).now ≡ Some text → bytes ≡ text
    → (turn_of_write (texts words) ≡ Ok (Write h n bytes)) × (n < 2 ^ 32) × IsWritten bytes
write_turn [] d h n text bytes size is_handle is_number is_hex same = absurd (omega arith)
write_turn (p ∷ []) d h n text bytes size is_handle is_number is_hex same = absurd (omega arith)
write_turn (p ∷ off ∷ []) d h n text bytes size is_handle is_number is_hex same = absurd (omega arith)
write_turn (p ∷ off ∷ hex ∷ []) d h n text bytes size is_handle is_number is_hex same = (
  ap (λ o. turn_with_number o (λ k. turn_with_number (number_of off.now) (λ m. turn_with_bytes (hex_of hex.now) (λ b. Ok (Write k m b))))) (sym is_handle)
      ∙ ap (λ o. turn_with_number o (λ m. turn_with_bytes (hex_of hex.now) (λ b. Ok (Write h m b)))) (sym is_number)
      ∙ ap (λ o. turn_with_bytes o (λ b. Ok (Write h n b))) is_hex
      ∙ ap (λ b. Ok (Write h n b)) (sym same),
  number_of-below off.now n (sym is_number),
  subst IsWritten (sym same) (IsWritten-hex_of hex.now text is_hex),
)
write_turn (p ∷ off ∷ hex ∷ more ∷ words) d h n text bytes size is_handle is_number is_hex same = absurd (omega arith)
