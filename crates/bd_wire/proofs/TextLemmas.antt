-- Bytes after their length: how long they are, and that none begins another.
use Rattle.std.proofs.Common.{◌≡◌, ℕ, ◌+◌, List, [], ◌∷◌, ◌++◌, length, refl, sym, ◌∙◌, append_assoc, length-append, arith}
use Rattle.std.specs.Int.{w16}
use Rattle.bd_wire.specs.Numbers.{be}
use Rattle.bd_wire.specs.Encoding.{IsPrefixFree}
use Rattle.bd_wire.specs.Text.{text16, FitsText16}
use Rattle.bd_wire.proofs.NumberLemmas.{length-be, IsPrefixFree-be}

-- the length takes two bytes
pub length-text16 : (bytes : List ℕ) → length (text16 bytes) ≡ 2 + length bytes
unfolding text16
length-text16 bytes = omega (arith, length-append (be w16 (length bytes)) bytes, length-be w16 (length bytes))

-- lists of one length that begin the same bytes are one
same_fronts : (a b x y : List ℕ) → length a ≡ length b → a ++ x ≡ b ++ y → (a ≡ b) × (x ≡ y)
same_fronts [] [] x y l e = (refl, e)
same_fronts [] (b ∷ bs) x y l e = absurd (omega arith)
same_fronts (a ∷ cs) [] x y l e = absurd (omega arith)
same_fronts (a ∷ cs) (b ∷ bs) x y l e =
    let first : a ≡ b = cc in
    let after : cs ++ x ≡ bs ++ y = cc in
    let rest = same_fronts cs bs x y (omega arith) after in
    let more : cs ≡ bs = rest.0 in
    (cc, rest.1)

-- text16s are prefix-free
pub IsPrefixFree-text16 : IsPrefixFree FitsText16 text16
unfolding text16
IsPrefixFree-text16 a b x y ha hb e =
    let lengths = IsPrefixFree-be w16 (length a) (length b) (a ++ x) (b ++ y) ha hb
    (sym (append_assoc (be w16 (length a)) a x) ∙ e ∙ append_assoc (be w16 (length b)) b y) in
    same_fronts a b x y lengths.0 lengths.1
