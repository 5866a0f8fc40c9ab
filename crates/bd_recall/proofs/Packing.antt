-- The bytes of two parts in a place of fixed size.
use Rattle.std.proofs.Common.{◌≡◌, ℕ, ◌+◌, List, ◌∷◌, ◌++◌, length, take, ap, sym, ◌∙◌, arith}
use Rattle.std.proofs.lemmas.List.{take_at, append_assoc, length-append}

-- where the first part and then the second one were put in, the first bytes are theirs
pub put_both : (x : ℕ) (f b p q : List ℕ) → take (1 + length f + length b) (take (1 + length f) (x ∷ (f ++ p)) ++ (b ++ q)) ≡ x ∷ (f ++ b)
put_both x f b p q =
    ap (λ (l : List ℕ). take (1 + length f + length b) (l ++ (b ++ q))) (take_at (x ∷ f) p (1 + length f) (omega arith))
    ∙ ap (take (1 + length f + length b)) (sym (append_assoc (x ∷ f) b q))
    ∙ take_at (x ∷ (f ++ b)) q (1 + length f + length b) (omega (arith, length-append f b))
