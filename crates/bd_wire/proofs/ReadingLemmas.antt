-- Reads one after the other.
use Rattle.std.proofs.Common.{ℕ, List, ◌++◌, sym, ap, ◌∙◌, append_assoc, arith, length-append}
use Rattle.bd_wire.specs.Reading.{Unread, Reads}

-- two reads one after the other are one
pub Reads-append : (a b c : Unread) (xs ys : List ℕ) → Reads a b xs → Reads b c ys → Reads a c (xs ++ ys)
Reads-append a b c xs ys p q =
    record { front = p.front ∙ ap (λ r. xs ++ r) q.front ∙ sym (append_assoc xs ys c.left); place = omega (arith, p.place, q.place, length-append xs ys) }
