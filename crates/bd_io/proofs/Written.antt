-- What was written in several pieces.
use Rattle.std.proofs.Common.{◌≡◌, ℕ, List, [], ◌++◌, Option, None, Some, take, drop, refl, sym, ap, ◌∙◌, append_assoc, append-nil, take-append-drop}
use Rattle.std.specs.Io.KnownBytes.{append_known}
use Rattle.bd_io.specs.Written.{WroteAllBut}

pub append_known-twice : (known : Option (List ℕ)) (xs ys : List ℕ) → append_known (append_known known xs) ys ≡ append_known known (xs ++ ys)
append_known-twice None xs ys = refl
append_known-twice (Some k) xs ys = ap Some (append_assoc k xs ys)

-- nothing is written yet
pub WroteAllBut-none : (bytes : List ℕ) (old : Option (List ℕ)) → WroteAllBut bytes bytes old old
WroteAllBut-none bytes None = ([], refl, refl)
WroteAllBut-none bytes (Some k) = ([], refl, ap Some (sym (append-nil k)))

-- the next n bytes are written too
pub WroteAllBut-more : (rest rest' bytes : List ℕ) (old mid new : Option (List ℕ)) (n : ℕ) → rest' ≡ drop n rest
    → WroteAllBut rest bytes old mid → new ≡ append_known mid (take n rest) → WroteAllBut rest' bytes old new
WroteAllBut-more rest rest' bytes old mid new n r w e = (
  w.0 ++ take n rest,
  w.1 ∙ ap (λ l. w.0 ++ l) (sym (take-append-drop n rest) ∙ ap (λ l. take n rest ++ l) (sym r)) ∙ sym (append_assoc w.0 (take n rest) rest'),
  e ∙ ap (λ k. append_known k (take n rest)) w.2 ∙ append_known-twice old w.0 (take n rest),
)

-- nothing is left to write
pub WroteAllBut-all : (bytes : List ℕ) (old new : Option (List ℕ)) → WroteAllBut [] bytes old new → new ≡ append_known old bytes
WroteAllBut-all bytes old new w = w.2 ∙ ap (append_known old) (sym (w.1 ∙ append-nil w.0))
