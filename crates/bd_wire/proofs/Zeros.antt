-- Zeros, of which one after the other was looked at.
use Rattle.std.proofs.Common.{◌≡◌, ◌↔◌, ℕ, ◌<◌, ◌≤◌, ◌+◌, Bool, true, ◌&&◌, eqb, IsTrue, List, ◌∷◌, length, drop, get_or, refl, sym, ap, subst, ◌∙◌}
use Rattle.std.proofs.lemmas.Bool.{and_parts, and_from, eqb-true, eq-eqb}
use Rattle.std.proofs.lemmas.List.{drop_more, drop_all}
use Rattle.bd_wire.specs.Text.{AreZeros}

-- a byte in front
zeros_first : (b : ℕ) (rest : List ℕ) → AreZeros (b ∷ rest) → (b ≡ 0) × AreZeros rest
zeros_first b rest e = (ap (λ (l : List ℕ). get_or l 0 0) e, ap (λ (l : List ℕ). drop 1 l) e)

zeros_more : (b : ℕ) (rest : List ℕ) → b ≡ 0 → AreZeros rest → AreZeros (b ∷ rest)
zeros_more b rest first e = ap (λ (k : ℕ). k ∷ rest) first ∙ ap (λ (l : List ℕ). 0 ∷ l) e

-- all are zeros just where those that were looked at are, and those that are left
abbrev pub AreZerosBut : List ℕ → ℕ → Bool → Type 0
AreZerosBut bytes i seen = (seen ≡ true → AreZeros (drop i bytes) → AreZeros bytes) × (AreZeros bytes → (seen ≡ true) × AreZeros (drop i bytes))

-- one more was looked at
pub zeros_but : (bytes : List ℕ) (i : ℕ) (seen : Bool) → i < length bytes → AreZerosBut bytes i seen → AreZerosBut bytes (i + 1) (seen && eqb (get_or bytes i 0) 0)
zeros_but bytes i seen within was =
    let b : ℕ = get_or bytes i 0 in
    let rest : List ℕ = drop (i + 1) bytes in
    let left : drop i bytes ≡ b ∷ rest = drop_more bytes i 0 within in (
      λ on more.
          let both = and_parts seen (eqb b 0) on in
          was.0 both.0 (subst AreZeros (sym left) (zeros_more b rest (eqb-true b 0 both.1) more)),
      λ all.
          let before = was.1 all in
          let first = zeros_first b rest (subst AreZeros left before.1) in (
            and_from seen (eqb b 0) before.0 (eq-eqb b 0 first.0),
            first.1,
          ),
    )

-- all were looked at
pub zeros_all : (bytes : List ℕ) (i : ℕ) (seen : Bool) → length bytes ≤ i → AreZerosBut bytes i seen → IsTrue seen ↔ AreZeros bytes
zeros_all bytes i seen done was = (
  λ on. was.0 on (subst AreZeros (sym (drop_all i bytes done)) refl),
  λ all. (was.1 all).0,
)
