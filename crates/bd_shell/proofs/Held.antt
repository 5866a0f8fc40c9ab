-- What is held of a line that grows.
use Rattle.std.proofs.Common.{◌≡◌, ℕ, ◌+◌, ◌-◌, ◌≤◌, Bool, true, false, List, [], ◌∷◌, ◌++◌, length, take, nat_eq, refl, sym, ap, ◌∙◌, append_assoc, arith}
use Rattle.std.specs.Prelude.{map, min}
use Rattle.std.proofs.lemmas.Bool.{eqb-true}
use Rattle.std.proofs.lemmas.List.{append-nil, take_all, take_min, nil_from_length}
use Rattle.std.proofs.lemmas.List.Elements.{All-append, All-cons, All-nil, All-take}
use Rattle.std.proofs.Math.Seq.{take-append-add}
use Rattle.bd_script.specs.Lines.{HasNoNewline, held, held_limit, open_line, whole_lines}
use Rattle.bd_script.proofs.CutLines.{held-append, no_newline-open_line, open_line-newline, open_line-none, whole_lines-more, whole_lines-newline, whole_lines-none}
use Rattle.bd_sessions.specs.Spoken.{Mode, spoken}
use Rattle.bd_sessions.proofs.LongLines.{spoken-held}

pub held_none : (line bytes : List ℕ) → length line ≤ held_limit → length bytes ≡ 0 → line ≡ held (line ++ bytes)
held_none line bytes short none =
    sym (ap (λ l. held (line ++ l)) (nil_from_length bytes none) ∙ ap held (append-nil line) ∙ take_all held_limit line short)

pub held_more : (line bytes : List ℕ) (n : ℕ) → length line ≤ held_limit → n ≡ min (length bytes) (held_limit - length line)
    → line ++ take n bytes ≡ held (line ++ bytes)
held_more line bytes n short is =
    let room : ℕ = held_limit - length line in
    let swapped : n ≡ min room (length bytes) = omega (arith, is) in
    let long : length line + room ≡ held_limit = omega arith in
    let front : take n bytes ≡ take room bytes = ap (λ k. take k bytes) swapped ∙ take_min room bytes in
    ap (λ l. line ++ l) front ∙ sym (take-append-add line bytes room) ∙ ap (λ k. take k (line ++ bytes)) long

-- ---- lines that are held alike

-- bytes without a newline, a newline, and more: a line is complete
whole_lines-after : (line more : List ℕ) (b : ℕ) → HasNoNewline line → nat_eq b 10 ≡ true → whole_lines (line ++ b ∷ more) ≡ line ∷ whole_lines more
whole_lines-after line more b plain newline =
    ap (λ n. whole_lines (line ++ n ∷ more)) (eqb-true b 10 newline) ∙ ap whole_lines (sym (append_assoc line (10 ∷ []) more))
    ∙ whole_lines-more (line ++ 10 ∷ []) more
    ∙ ap (λ l. whole_lines (line ++ 10 ∷ []) ++ whole_lines (l ++ more)) (open_line-newline line)
    ∙ ap (λ l. l ++ whole_lines more) (whole_lines-newline line ∙ ap (λ l. l ++ open_line line ∷ []) (whole_lines-none line plain) ∙ ap (λ l. l ∷ []) (open_line-none line plain))

-- two beginnings of a line that are held alike: after more bytes so are the whole lines
held_alike : (more first second : List ℕ) → HasNoNewline first → HasNoNewline second → held first ≡ held second
    → map held (whole_lines (first ++ more)) ≡ map held (whole_lines (second ++ more))
held_alike [] first second plain other same = ap (map held) (none first plain ∙ sym (none second other))
  where
    none : (line : List ℕ) → HasNoNewline line → whole_lines (line ++ []) ≡ []
    none line h = ap whole_lines (append-nil line) ∙ whole_lines-none line h
held_alike (b ∷ more) first second plain other same =
    by (nat_eq b 10) refl (λ e. held_alike more (first ++ b ∷ []) (second ++ b ∷ []) (longer first plain e) (longer second other e)
    (sym (held-append first (b ∷ [])) ∙ ap (λ l. held (l ++ b ∷ [])) same ∙ held-append second (b ∷ [])))
  where
    longer : (line : List ℕ) → HasNoNewline line → nat_eq b 10 ≡ false → HasNoNewline (line ++ b ∷ [])
    longer line h e = All-append (λ k. nat_eq k 10 ≡ false) line (b ∷ []) h (All-cons (λ k. nat_eq k 10 ≡ false) b [] e (All-nil (λ k. nat_eq k 10 ≡ false)))

    by : (t : Bool) → nat_eq b 10 ≡ t
        → (nat_eq b 10 ≡ false → map held (whole_lines ((first ++ b ∷ []) ++ more)) ≡ map held (whole_lines ((second ++ b ∷ []) ++ more)))
        → map held (whole_lines (first ++ b ∷ more)) ≡ map held (whole_lines (second ++ b ∷ more))
    by true e goes_on =
        ap (map held) (whole_lines-after first more b plain e) ∙ ap (λ l. l ∷ map held (whole_lines more)) same
        ∙ sym (ap (map held) (whole_lines-after second more b other e))
    by false e goes_on =
        ap (λ l. map held (whole_lines l)) (sym (append_assoc first (b ∷ []) more)) ∙ goes_on e
        ∙ ap (λ l. map held (whole_lines l)) (append_assoc second (b ∷ []) more)

held_twice : (line : List ℕ) → held (held line) ≡ held line
held_twice line = ap held (sym (append-nil (held line))) ∙ held-append line [] ∙ ap held (append-nil line)

-- ---- what held lines say

-- a line says what it says with its front held
pub spoken-front : (mode : Mode) (xs x : List ℕ) → spoken mode (held xs ++ x) ≡ spoken mode (xs ++ x)
spoken-front mode xs x = sym (spoken-held mode (held xs ++ x)) ∙ ap (spoken mode) (held-append xs x) ∙ spoken-held mode (xs ++ x)

each_held : (mode : Mode) (lines : List (List ℕ)) → map (spoken mode) (map held lines) ≡ map (spoken mode) lines
each_held mode [] = refl
each_held mode (line ∷ lines) = ap (λ l. l ∷ map (spoken mode) (map held lines)) (spoken-held mode line) ∙ ap (λ ls. spoken mode line ∷ ls) (each_held mode lines)

-- a held beginning of a line goes on as the line does
pub spoken-goes_on : (mode : Mode) (bytes piece : List ℕ)
    → map (spoken mode) (whole_lines (held (open_line bytes) ++ piece)) ≡ map (spoken mode) (whole_lines (open_line bytes ++ piece))
spoken-goes_on mode bytes piece =
    let plain = no_newline-open_line bytes in
    sym (each_held mode (whole_lines (held (open_line bytes) ++ piece)))
    ∙ ap (map (spoken mode)) (held_alike piece (held (open_line bytes)) (open_line bytes) (All-take (λ k. nat_eq k 10 ≡ false) held_limit (open_line bytes) plain) plain (held_twice (open_line bytes)))
    ∙ each_held mode (whole_lines (open_line bytes ++ piece))
