-- What a line says is told by its first bytes.
use Rattle.std.proofs.Common.{◌≡◌, ℕ, suc, ◌<◌, Bool, true, false, cond, List, [], ◌∷◌, length, take, nat_eq, refl, sym, ap, ◌∙◌, arith}
use Rattle.std.specs.Prelude.{nat_le}
use Rattle.std.specs.declared.option.Option.TheVariants.{None}
use Rattle.std.specs.declared.result.Result.TheVariants.{Err}
use Rattle.std.proofs.lemmas.Bool.{lt-leb, leb-true, leb-false}
use Rattle.std.proofs.lemmas.List.{take_all, length-take-le}
use Rattle.bd_limits.specs.Limits.{line_limit}
use Rattle.bd_command.specs.declared.refusal.Refusal.TheVariants.{BadLine}
use Rattle.bd_script.specs.Lines.{held_limit, held}
use Rattle.bd_script.proofs.CutLines.{line_of-held}
use Rattle.bd_sessions.specs.Turns.{first_word, after_word, client_number, client_of, turn_in, turn_of, plain}
use Rattle.bd_sessions.specs.Spoken.{Mode, Single, Tagged, tagged, spoken}

-- a word of three bytes or more is no client's number, so the first three bytes of a line tell it
client_of-take : (n : ℕ) (line : List ℕ) → client_of (take (suc (suc (suc n))) line) ≡ client_of line
client_of-take n [] = refl
client_of-take n (a ∷ []) = refl
client_of-take n (a ∷ b ∷ []) = refl
client_of-take n (a ∷ b ∷ c ∷ line) = by (nat_eq a 32) (nat_eq b 32) (nat_eq c 32)
  where
    by : (x y z : Bool) → client_number (cond x [] (a ∷ cond y [] (b ∷ cond z [] (c ∷ first_word (take n line)))))
        ≡ client_number (cond x [] (a ∷ cond y [] (b ∷ cond z [] (c ∷ first_word line))))
    by true y z = refl
    by false true z = refl
    by false false true = refl
    by false false false = refl

client_of-held : (line : List ℕ) → client_of (held line) ≡ client_of line
client_of-held line = client_of-take 8190 line

-- a line of more than `line_limit` bytes is a bad one
turn_of-too_long : (line : List ℕ) → line_limit < length line → turn_of line ≡ Err BadLine
unfolding turn_of
turn_of-too_long line h = ap (λ s. cond s (turn_in (after_word line)) (Err BadLine)) (lt-leb (length line) line_limit h)

turn_of-held : (line : List ℕ) → turn_of (held line) ≡ turn_of line
turn_of-held line = by (nat_le (length line) held_limit) refl
  where
    by : (t : Bool) → nat_le (length line) held_limit ≡ t → turn_of (held line) ≡ turn_of line
    by true e = ap turn_of (take_all held_limit line (leb-true (length line) held_limit e))
    by false e =
        let long : held_limit < length line = leb-false (length line) held_limit e in
        let is : length (held line) ≡ held_limit = length-take-le held_limit line (omega arith) in
        turn_of-too_long (held line) (omega arith) ∙ sym (turn_of-too_long line (omega arith))

-- what the held part of a line says
pub spoken-held : (mode : Mode) (line : List ℕ) → spoken mode (held line) ≡ spoken mode line
spoken-held Single line = ap (λ m. record { client = None; turn = plain m }) (line_of-held line)
spoken-held Tagged line = ap (λ c. tagged c (turn_of (held line))) (client_of-held line) ∙ ap (tagged (client_of line)) (turn_of-held line)
