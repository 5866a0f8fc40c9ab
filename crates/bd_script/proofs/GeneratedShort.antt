-- The lines of a generated load are short.
use Rattle.std.proofs.Common.{◌≡◌, ℕ, ◌-◌, ◌*◌, ◌<◌, ◌≤◌, Bool, true, false, cond, ◌++◌, length, refl, length-append, arith}
use Rattle.std.specs.Prelude.{codes, nat_lt, replicate}
use Rattle.std.specs.Fmt.{decimal}
use Rattle.std.proofs.lemmas.Fmt.{length-decimal-le}
use Rattle.std.proofs.lemmas.List.{length-replicate}
use borrow.Author.Tests.{ltb-true}
use Rattle.hex.proofs.HexLemmas.{length-encode_with}
use Rattle.bd_script.specs.declared.generated.DrawnLine.{DrawnLine}
use Rattle.bd_script.specs.declared.generated.Kind.{Kind}
use Rattle.bd_script.specs.declared.generated.Kind.TheVariants.{CreateFile, WriteFile, TruncateFile, RemoveFile, CloneFile, CloneDir, RemoveClone, ReadFile}
use Rattle.bd_script.specs.Generated.{drawn_line, generated_line, line_from, line_text, state_after, text_of_kind}

decimal_short : (n : ℕ) → n < 4096 → length (decimal n) ≤ 4
decimal_short n h = length-decimal-le 4 n (omega arith) (omega arith) (omega arith)

-- the numbers of a drawn line
record AreSmall (l : DrawnLine) : Type 0 where
  dir : l.dir < 4096
  file : l.file < 4096
  place : l.place < 4096
  byte : l.byte < 4096

small : (x : ℕ) → AreSmall (line_from x)
small x = record { dir = omega arith; file = omega arith; place = omega arith; byte = omega arith }

text_short : (k : Kind) (l : DrawnLine) → AreSmall l → length (text_of_kind k l) ≤ 120
text_short CreateFile l h = simp length-append (omega (arith, decimal_short l.dir h.dir, decimal_short l.file h.file, decimal_short l.place h.place, decimal_short l.byte h.byte))
text_short WriteFile l h =
    simp length-append (omega (
      arith,
      decimal_short l.dir h.dir,
      decimal_short l.file h.file,
      decimal_short l.place h.place,
      decimal_short l.byte h.byte,
      length-encode_with (codes "0123456789abcdef") (replicate 32 l.byte),
      length-replicate 32 l.byte,
    ))
text_short TruncateFile l h = simp length-append (omega (arith, decimal_short l.dir h.dir, decimal_short l.file h.file, decimal_short l.place h.place, decimal_short l.byte h.byte))
text_short RemoveFile l h = simp length-append (omega (arith, decimal_short l.dir h.dir, decimal_short l.file h.file, decimal_short l.place h.place, decimal_short l.byte h.byte))
text_short CloneFile l h = simp length-append (omega (arith, decimal_short l.dir h.dir, decimal_short l.file h.file, decimal_short l.place h.place, decimal_short l.byte h.byte))
text_short CloneDir l h = simp length-append (omega (arith, decimal_short l.dir h.dir, decimal_short l.file h.file, decimal_short l.place h.place, decimal_short l.byte h.byte))
text_short RemoveClone l h = simp length-append (omega (arith, decimal_short l.dir h.dir, decimal_short l.file h.file, decimal_short l.place h.place, decimal_short l.byte h.byte))
text_short ReadFile l h = simp length-append (omega (arith, decimal_short l.dir h.dir, decimal_short l.file h.file, decimal_short l.place h.place, decimal_short l.byte h.byte))

drawn_short : (seed n : ℕ) → length (line_text (drawn_line seed n)) ≤ 120
unfolding line_text
drawn_short seed n = text_short (drawn_line seed n).kind (drawn_line seed n) (small (state_after seed (5 * n)))

pub line_short : (seed i : ℕ) → length (generated_line seed i) ≤ 120
unfolding generated_line
line_short seed i = by (nat_lt i 8) refl
  where
    by : (t : Bool) → nat_lt i 8 ≡ t → length (cond t (codes "mkdir /d" ++ decimal i) (line_text (drawn_line seed (i - 8)))) ≤ 120
    by true e = omega (arith, length-append (codes "mkdir /d") (decimal i), decimal_short i (omega (arith, ltb-true i 8 e)))
    by false e = drawn_short seed (i - 8)
