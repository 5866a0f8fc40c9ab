-- How the lines of a script grow with its bytes.
use Rattle.std.proofs.Common.{◌≡◌, ℕ, ◌+◌, ◌<◌, ◌≤◌, Bool, true, false, cond, List, [], ◌∷◌, ◌++◌, length, refl, sym, ap, subst, ◌∙◌, append_assoc, length-append, nat_eq, arith, eqb-true, leb-true, leb-false}
use Rattle.std.specs.List.{onto_first}
use Rattle.std.specs.Prelude.{map, nat_le}
use Rattle.std.proofs.lemmas.List.{append-nil, map-append, take_all, length-take, length-take-le, take-append-le}
use Rattle.std.proofs.lemmas.List.Elements.{All-take, All-append, All-nil, All-cons}
use Rattle.std.proofs.lemmas.Bool.{lt-leb}
use Rattle.std.proofs.lemmas.List.Splits.{slice_split_none}
use Rattle.std.specs.declared.result.Result.TheVariants.{Err}
use Rattle.bd_limits.specs.Limits.{line_limit}
use Rattle.bd_command.specs.declared.refusal.Refusal.TheVariants.{BadLine}
use Rattle.bd_script.specs.Lines.{HasNoNewline, words_of, line_of_parts, line_of, held_limit, held, pieces, all_but_last, last_piece, whole_lines, open_line, lines_of, is_empty}

-- a byte after the last of some pieces
abbrev pub onto_last : List (List ℕ) → ℕ → List (List ℕ)
onto_last [] b = (b ∷ []) ∷ []
onto_last (x ∷ []) b = (x ++ b ∷ []) ∷ []
onto_last (x ∷ y ∷ more) b = x ∷ onto_last (y ∷ more) b

-- a newline begins an empty piece, and another byte stands after the last one
abbrev pub piece_more : Bool → List (List ℕ) → ℕ → List (List ℕ)
piece_more true ps b = ps ++ [] ∷ []
piece_more false ps b = onto_last ps b

onto_first-append : (x : ℕ) (p : List ℕ) (ps : List (List ℕ)) → onto_first x ((p ∷ ps) ++ [] ∷ []) ≡ onto_first x (p ∷ ps) ++ [] ∷ []
onto_first-append x p ps = refl

onto_first-onto_last : (x b : ℕ) (p : List ℕ) (ps : List (List ℕ)) → onto_first x (onto_last (p ∷ ps) b) ≡ onto_last (onto_first x (p ∷ ps)) b
onto_first-onto_last x b p [] = refl
onto_first-onto_last x b p (q ∷ ps) = refl

-- there is always a piece
pub some_pieces : (bs : List ℕ) → (p : List ℕ) × (ps : List (List ℕ)) × (pieces bs ≡ p ∷ ps)
some_pieces [] = ([], [], refl)
some_pieces (b ∷ bs) = by (nat_eq b 10) refl (some_pieces bs)
  where
    by : (t : Bool) → nat_eq b 10 ≡ t → ((p : List ℕ) × (ps : List (List ℕ)) × (pieces bs ≡ p ∷ ps)) → (p : List ℕ) × (ps : List (List ℕ)) × (pieces (b ∷ bs) ≡ p ∷ ps)
    by true e h = ([], pieces bs, ap (λ t. cond t ([] ∷ pieces bs) (onto_first b (pieces bs))) e)
    by false e h = (b ∷ h.0, h.1, ap (λ t. cond t ([] ∷ pieces bs) (onto_first b (pieces bs))) e ∙ ap (onto_first b) h.2)

-- the pieces with one byte more
pub pieces-append : (xs : List ℕ) (b : ℕ) → pieces (xs ++ b ∷ []) ≡ piece_more (nat_eq b 10) (pieces xs) b
pieces-append [] b = by (nat_eq b 10)
  where
    by : (t : Bool) → cond t ([] ∷ [] ∷ []) ((b ∷ []) ∷ []) ≡ piece_more t ([] ∷ []) b
    by true = refl
    by false = refl
pieces-append (x ∷ xs) b =
    let h = some_pieces xs in
    ap (λ ps. cond (nat_eq x 10) ([] ∷ ps) (onto_first x ps)) (pieces-append xs b)
    ∙ rw h.2 (by (nat_eq x 10) (nat_eq b 10) h.0 h.1)
  where
    by : (t s : Bool) (p : List ℕ) (ps : List (List ℕ)) → cond t ([] ∷ piece_more s (p ∷ ps) b) (onto_first x (piece_more s (p ∷ ps) b)) ≡ piece_more s (cond t ([] ∷ p ∷ ps) (onto_first x (p ∷ ps))) b
    by true true p ps = refl
    by true false p ps = refl
    by false true p ps = onto_first-append x p ps
    by false false p ps = onto_first-onto_last x b p ps

all_but_last-append : (p : List ℕ) (ps : List (List ℕ)) → all_but_last ((p ∷ ps) ++ [] ∷ []) ≡ all_but_last (p ∷ ps) ++ last_piece (p ∷ ps) ∷ []
all_but_last-append p [] = refl
all_but_last-append p (q ∷ ps) = ap (λ r. p ∷ r) (all_but_last-append q ps)

last_piece-append : (p : List ℕ) (ps : List (List ℕ)) → last_piece ((p ∷ ps) ++ [] ∷ []) ≡ []
last_piece-append p [] = refl
last_piece-append p (q ∷ ps) = last_piece-append q ps

all_but_last-onto_last : (p : List ℕ) (ps : List (List ℕ)) (b : ℕ) → all_but_last (onto_last (p ∷ ps) b) ≡ all_but_last (p ∷ ps)
all_but_last-onto_last p [] b = refl
all_but_last-onto_last p (q ∷ []) b = refl
all_but_last-onto_last p (q ∷ r ∷ ps) b = ap (λ s. p ∷ s) (all_but_last-onto_last q (r ∷ ps) b)

last_piece-onto_last : (p : List ℕ) (ps : List (List ℕ)) (b : ℕ) → last_piece (onto_last (p ∷ ps) b) ≡ last_piece (p ∷ ps) ++ b ∷ []
last_piece-onto_last p [] b = refl
last_piece-onto_last p (q ∷ []) b = refl
last_piece-onto_last p (q ∷ r ∷ ps) b = last_piece-onto_last q (r ∷ ps) b

-- ---- one byte more

pub whole_lines-newline : (xs : List ℕ) → whole_lines (xs ++ 10 ∷ []) ≡ whole_lines xs ++ open_line xs ∷ []
whole_lines-newline xs =
    let h = some_pieces xs in
    rw (pieces-append xs 10, h.2) (all_but_last-append h.0 h.1)

pub open_line-newline : (xs : List ℕ) → open_line (xs ++ 10 ∷ []) ≡ []
open_line-newline xs =
    let h = some_pieces xs in
    rw (pieces-append xs 10, h.2) (last_piece-append h.0 h.1)

more_piece : (b : ℕ) → nat_eq b 10 ≡ false → (ps : List (List ℕ)) → piece_more (nat_eq b 10) ps b ≡ onto_last ps b
more_piece b e ps = ap (λ t. piece_more t ps b) e

pub whole_lines-byte : (xs : List ℕ) (b : ℕ) → nat_eq b 10 ≡ false → whole_lines (xs ++ b ∷ []) ≡ whole_lines xs
whole_lines-byte xs b e =
    let h = some_pieces xs in
    ap all_but_last (pieces-append xs b ∙ more_piece b e (pieces xs))
    ∙ rw h.2 (all_but_last-onto_last h.0 h.1 b)

pub open_line-byte : (xs : List ℕ) (b : ℕ) → nat_eq b 10 ≡ false → open_line (xs ++ b ∷ []) ≡ open_line xs ++ b ∷ []
open_line-byte xs b e =
    let h = some_pieces xs in
    ap last_piece (pieces-append xs b ∙ more_piece b e (pieces xs))
    ∙ rw h.2 (last_piece-onto_last h.0 h.1 b)

-- ---- more bytes

-- what holds of no byte, and goes on from some bytes to one more, holds of all
by_bytes : (P : List ℕ → Type 0) → P [] → ((xs : List ℕ) (b : ℕ) → P xs → P (xs ++ b ∷ [])) → (ys : List ℕ) → P ys
by_bytes P none more ys = from [] ys none
  where
    from : (xs ys : List ℕ) → P xs → P (xs ++ ys)
    from xs [] h = subst P (sym (append-nil xs)) h
    from xs (y ∷ ys) h = subst P (append_assoc xs (y ∷ []) ys) (from (xs ++ y ∷ []) ys (more xs y h))

pub no_newline-open_line : (xs : List ℕ) → HasNoNewline (open_line xs)
no_newline-open_line xs = by_bytes (λ ys. HasNoNewline (open_line ys)) (All-nil (λ k. nat_eq k 10 ≡ false)) (λ ys b h. more ys b h (nat_eq b 10) refl) xs
  where
    more : (ys : List ℕ) (b : ℕ) → HasNoNewline (open_line ys) → (t : Bool) → nat_eq b 10 ≡ t → HasNoNewline (open_line (ys ++ b ∷ []))
    more ys b h true e = subst (λ n. HasNoNewline (open_line (ys ++ n ∷ []))) (sym (eqb-true b 10 e)) (subst HasNoNewline (sym (open_line-newline ys)) (All-nil (λ k. nat_eq k 10 ≡ false)))
    more ys b h false e = subst HasNoNewline (sym (open_line-byte ys b e)) (All-append (λ k. nat_eq k 10 ≡ false) (open_line ys) (b ∷ []) h (All-cons (λ k. nat_eq k 10 ≡ false) b [] e (All-nil (λ k. nat_eq k 10 ≡ false))))

one_piece : (xs : List ℕ) → HasNoNewline xs → pieces xs ≡ xs ∷ []
one_piece xs h = slice_split_none (λ b. nat_eq b 10) xs h

pub whole_lines-none : (xs : List ℕ) → HasNoNewline xs → whole_lines xs ≡ []
whole_lines-none xs h = ap all_but_last (one_piece xs h)

pub open_line-none : (xs : List ℕ) → HasNoNewline xs → open_line xs ≡ xs
open_line-none xs h = ap last_piece (one_piece xs h)

-- two scripts that begin alike, as far as their lines are concerned, go on alike
record GoesOn (xs ys zs : List ℕ) : Type 0 where
  whole : whole_lines (xs ++ zs) ≡ whole_lines xs ++ whole_lines (ys ++ zs)
  rest : open_line (xs ++ zs) ≡ open_line (ys ++ zs)

goes_on : (xs : List ℕ) (zs : List ℕ) → GoesOn xs (open_line xs) zs
goes_on xs zs = by_bytes (GoesOn xs (open_line xs)) none (λ ys b h. more ys b h (nat_eq b 10) refl) zs
  where
    none : GoesOn xs (open_line xs) []
    none = record {
      whole = ap whole_lines (append-nil xs) ∙ sym (append-nil (whole_lines xs)) ∙ ap (λ l. whole_lines xs ++ l) (sym (ap whole_lines (append-nil (open_line xs)) ∙ whole_lines-none (open_line xs) (no_newline-open_line xs)));
      rest = ap open_line (append-nil xs) ∙ sym (ap open_line (append-nil (open_line xs)) ∙ open_line-none (open_line xs) (no_newline-open_line xs));
    }

    newline : (ys : List ℕ) → GoesOn xs (open_line xs) ys → GoesOn xs (open_line xs) (ys ++ 10 ∷ [])
    newline ys h = record {
      whole = ap whole_lines (sym (append_assoc xs ys (10 ∷ []))) ∙ whole_lines-newline (xs ++ ys)
          ∙ ap (λ l. l ++ open_line (xs ++ ys) ∷ []) h.whole ∙ ap (λ l. (whole_lines xs ++ whole_lines (open_line xs ++ ys)) ++ l ∷ []) h.rest
          ∙ append_assoc (whole_lines xs) (whole_lines (open_line xs ++ ys)) (open_line (open_line xs ++ ys) ∷ [])
          ∙ ap (λ l. whole_lines xs ++ l) (sym (ap whole_lines (sym (append_assoc (open_line xs) ys (10 ∷ []))) ∙ whole_lines-newline (open_line xs ++ ys)));
      rest = ap open_line (sym (append_assoc xs ys (10 ∷ []))) ∙ open_line-newline (xs ++ ys)
          ∙ sym (ap open_line (sym (append_assoc (open_line xs) ys (10 ∷ []))) ∙ open_line-newline (open_line xs ++ ys));
    }

    byte : (ys : List ℕ) (b : ℕ) → nat_eq b 10 ≡ false → GoesOn xs (open_line xs) ys → GoesOn xs (open_line xs) (ys ++ b ∷ [])
    byte ys b e h = record {
      whole = ap whole_lines (sym (append_assoc xs ys (b ∷ []))) ∙ whole_lines-byte (xs ++ ys) b e ∙ h.whole
          ∙ ap (λ l. whole_lines xs ++ l) (sym (ap whole_lines (sym (append_assoc (open_line xs) ys (b ∷ []))) ∙ whole_lines-byte (open_line xs ++ ys) b e));
      rest = ap open_line (sym (append_assoc xs ys (b ∷ []))) ∙ open_line-byte (xs ++ ys) b e ∙ ap (λ l. l ++ b ∷ []) h.rest
          ∙ sym (ap open_line (sym (append_assoc (open_line xs) ys (b ∷ []))) ∙ open_line-byte (open_line xs ++ ys) b e);
    }

    more : (ys : List ℕ) (b : ℕ) → GoesOn xs (open_line xs) ys → (t : Bool) → nat_eq b 10 ≡ t → GoesOn xs (open_line xs) (ys ++ b ∷ [])
    more ys b h true e = subst (λ n. GoesOn xs (open_line xs) (ys ++ n ∷ [])) (sym (eqb-true b 10 e)) (newline ys h)
    more ys b h false e = byte ys b e h

-- the lines of more bytes: what stood open goes on
pub whole_lines-more : (xs ys : List ℕ) → whole_lines (xs ++ ys) ≡ whole_lines xs ++ whole_lines (open_line xs ++ ys)
whole_lines-more xs ys = (goes_on xs ys).whole

pub open_line-more : (xs ys : List ℕ) → open_line (xs ++ ys) ≡ open_line (open_line xs ++ ys)
open_line-more xs ys = (goes_on xs ys).rest

-- ---- held lines

-- a line of more than `line_limit` bytes is a bad one
pub line_of-too_long : (line : List ℕ) → line_limit < length line → line_of line ≡ Err BadLine
unfolding line_of
line_of-too_long line h = ap (λ s. cond s (line_of_parts (words_of line)) (Err BadLine)) (lt-leb (length line) line_limit h)

-- a line means what its held front means
pub line_of-held : (line : List ℕ) → line_of (held line) ≡ line_of line
line_of-held line = by (nat_le (length line) held_limit) refl
  where
    by : (t : Bool) → nat_le (length line) held_limit ≡ t → line_of (held line) ≡ line_of line
    by true e = ap line_of (take_all held_limit line (leb-true (length line) held_limit e))
    by false e =
        let long : held_limit < length line = leb-false (length line) held_limit e in
        let is : length (held line) ≡ held_limit = length-take-le held_limit line (omega arith) in
        line_of-too_long (held line) (omega arith) ∙ sym (line_of-too_long line (omega arith))

-- two beginnings of a line that are held alike: after more bytes the whole lines mean the same, and what stands open is held alike
pub record GoAlike (xs ys zs : List ℕ) : Type 0 where
  pub meanings : map line_of (whole_lines (xs ++ zs)) ≡ map line_of (whole_lines (ys ++ zs))
  pub rest : held (open_line (xs ++ zs)) ≡ held (open_line (ys ++ zs))

pub held-append : (xs : List ℕ) (zs : List ℕ) → held (held xs ++ zs) ≡ held (xs ++ zs)
held-append xs zs = by (nat_le (length xs) held_limit) refl
  where
    by : (t : Bool) → nat_le (length xs) held_limit ≡ t → held (held xs ++ zs) ≡ held (xs ++ zs)
    by true e = ap (λ l. held (l ++ zs)) (take_all held_limit xs (leb-true (length xs) held_limit e))
    by false e =
        let long : held_limit < length xs = leb-false (length xs) held_limit e in
        let is : length (held xs) ≡ held_limit = length-take-le held_limit xs (omega arith) in
        take-append-le held_limit (held xs) zs (omega arith) ∙ take_all held_limit (held xs) (omega arith)
        ∙ sym (take-append-le held_limit xs zs (omega arith))

alike_newline : (xs ys zs : List ℕ) → GoAlike xs ys zs → GoAlike xs ys (zs ++ 10 ∷ [])
alike_newline xs ys zs h = record {
  meanings = side xs ∙ ap (λ l. l ++ line_of (open_line (xs ++ zs)) ∷ []) h.meanings
      ∙ ap (λ l. map line_of (whole_lines (ys ++ zs)) ++ l ∷ []) (sym (line_of-held (open_line (xs ++ zs))) ∙ ap line_of h.rest ∙ line_of-held (open_line (ys ++ zs)))
      ∙ sym (side ys);
  rest = ap held (ap open_line (sym (append_assoc xs zs (10 ∷ []))) ∙ open_line-newline (xs ++ zs) ∙ sym (ap open_line (sym (append_assoc ys zs (10 ∷ []))) ∙ open_line-newline (ys ++ zs)));
}
  where
    side : (ws : List ℕ) → map line_of (whole_lines (ws ++ (zs ++ 10 ∷ []))) ≡ map line_of (whole_lines (ws ++ zs)) ++ line_of (open_line (ws ++ zs)) ∷ []
    side ws = ap (map line_of) (ap whole_lines (sym (append_assoc ws zs (10 ∷ []))) ∙ whole_lines-newline (ws ++ zs)) ∙ map-append line_of (whole_lines (ws ++ zs)) (open_line (ws ++ zs) ∷ [])

alike_byte : (xs ys zs : List ℕ) (b : ℕ) → nat_eq b 10 ≡ false → GoAlike xs ys zs → GoAlike xs ys (zs ++ b ∷ [])
alike_byte xs ys zs b e h = record {
  meanings = ap (map line_of) (side xs) ∙ h.meanings ∙ sym (ap (map line_of) (side ys));
  rest = ap held (stands xs) ∙ sym (held-append (open_line (xs ++ zs)) (b ∷ [])) ∙ ap (λ l. held (l ++ b ∷ [])) h.rest ∙ held-append (open_line (ys ++ zs)) (b ∷ []) ∙ sym (ap held (stands ys));
}
  where
    side : (ws : List ℕ) → whole_lines (ws ++ (zs ++ b ∷ [])) ≡ whole_lines (ws ++ zs)
    side ws = ap whole_lines (sym (append_assoc ws zs (b ∷ []))) ∙ whole_lines-byte (ws ++ zs) b e

    stands : (ws : List ℕ) → open_line (ws ++ (zs ++ b ∷ [])) ≡ open_line (ws ++ zs) ++ b ∷ []
    stands ws = ap open_line (sym (append_assoc ws zs (b ∷ []))) ∙ open_line-byte (ws ++ zs) b e

-- a held beginning of a line goes on as the line does
pub held_goes_on : (xs zs : List ℕ) → GoAlike (held (open_line xs)) (open_line xs) zs
held_goes_on xs zs = by_bytes (GoAlike (held (open_line xs)) (open_line xs)) none (λ ys b h. more ys b h (nat_eq b 10) refl) zs
  where
    none : GoAlike (held (open_line xs)) (open_line xs) []
    none =
        let plain = no_newline-open_line xs in
        let cut = All-take (λ k. nat_eq k 10 ≡ false) held_limit (open_line xs) plain in
        record {
          meanings = ap (map line_of) (ap whole_lines (append-nil (held (open_line xs))) ∙ whole_lines-none (held (open_line xs)) cut ∙ sym (ap whole_lines (append-nil (open_line xs)) ∙ whole_lines-none (open_line xs) plain));
          rest = ap held (ap open_line (append-nil (held (open_line xs))) ∙ open_line-none (held (open_line xs)) cut) ∙ ap held (sym (append-nil (held (open_line xs)))) ∙ held-append (open_line xs) [] ∙ ap held (append-nil (open_line xs)) ∙ ap held (sym (ap open_line (append-nil (open_line xs)) ∙ open_line-none (open_line xs) plain));
        }

    more : (ys : List ℕ) (b : ℕ) → GoAlike (held (open_line xs)) (open_line xs) ys → (t : Bool) → nat_eq b 10 ≡ t → GoAlike (held (open_line xs)) (open_line xs) (ys ++ b ∷ [])
    more ys b h true e = subst (λ n. GoAlike (held (open_line xs)) (open_line xs) (ys ++ n ∷ [])) (sym (eqb-true b 10 e)) (alike_newline (held (open_line xs)) (open_line xs) ys h)
    more ys b h false e = alike_byte (held (open_line xs)) (open_line xs) ys b e h

-- a short line is held whole
pub held_short : (xs : List ℕ) → length xs ≤ held_limit → held xs ≡ xs
held_short xs h = take_all held_limit xs h

-- after what is held already, nothing more is
pub held_full : (xs ys : List ℕ) → length xs ≡ held_limit → held (xs ++ ys) ≡ xs
held_full xs ys e = take-append-le held_limit xs ys (omega arith) ∙ take_all held_limit xs (omega arith)

-- what stands open, as far as it is held
pub record IsHeld (line : List ℕ) : Type 0 where
  pub plain : HasNoNewline line
  pub short : length line ≤ held_limit

pub held_is_held : (bytes : List ℕ) → IsHeld (held (open_line bytes))
held_is_held bytes = record {
  plain = All-take (λ k. nat_eq k 10 ≡ false) held_limit (open_line bytes) (no_newline-open_line bytes);
  short = omega (arith, length-take held_limit (open_line bytes));
}

-- ---- how many lines there are

-- the whole lines and the bytes of the open one are no more than the bytes
cut_few : (xs : List ℕ) → length (whole_lines xs) + length (open_line xs) ≤ length xs
cut_few xs = by_bytes (λ ys. length (whole_lines ys) + length (open_line ys) ≤ length ys) (omega arith) (λ ys b h. more ys b h (nat_eq b 10) refl) xs
  where
    more : (ys : List ℕ) (b : ℕ) → length (whole_lines ys) + length (open_line ys) ≤ length ys → (t : Bool) → nat_eq b 10 ≡ t
        → length (whole_lines (ys ++ b ∷ [])) + length (open_line (ys ++ b ∷ [])) ≤ length (ys ++ b ∷ [])
    more ys b h true e = subst (λ n. length (whole_lines (ys ++ n ∷ [])) + length (open_line (ys ++ n ∷ [])) ≤ length (ys ++ n ∷ [])) (sym (eqb-true b 10 e))
        (omega (arith, h, ap length (whole_lines-newline ys), length-append (whole_lines ys) (open_line ys ∷ []), ap length (open_line-newline ys), length-append ys (10 ∷ [])))
    more ys b h false e = omega (arith, h, ap length (whole_lines-byte ys b e), ap length (open_line-byte ys b e), length-append (open_line ys) (b ∷ []), length-append ys (b ∷ []))

pub lines_of-few : (xs : List ℕ) → length (lines_of xs) ≤ length xs
lines_of-few xs = with_last (open_line xs) (cut_few xs)
  where
    with_last : (l : List ℕ) → length (whole_lines xs) + length l ≤ length xs → length (whole_lines xs ++ cond (is_empty l) [] (l ∷ [])) ≤ length xs
    with_last [] h = omega (arith, h, length-append (whole_lines xs) [])
    with_last (b ∷ bs) h = omega (arith, h, length-append (whole_lines xs) ((b ∷ bs) ∷ []))
