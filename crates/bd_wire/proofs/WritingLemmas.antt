-- Writes one after the other, and what they leave in the array.
use Rattle.std.proofs.Common.{◌≡◌, ℕ, List, ◌++◌, length, take, drop, sym, ap, ◌∙◌, append_assoc, append-nil, length-append, arith}
use Rattle.std.proofs.lemmas.List.{take-append-drop, drop-drop, drop_all, length-drop, length-replicate}
use Rattle.bd_wire.specs.Text.{zeros}
use Rattle.bd_wire.specs.Writing.{written, room, Puts}
use Rattle.bd_wire.specs.declared.writer.Out.{Out}
use Rattle.bd_wire.proofs.NumberLemmas.{length-be}
use Rattle.bd_wire.proofs.TextLemmas.{length-text16}

-- the array has what was written, and after it the room
pub array_is : (out : Out) → out.bytes.now ≡ written out ++ room out
array_is out = sym (take-append-drop out.at out.bytes.now)

-- two writes one after the other are one
pub Puts-append : (a b c : Out) (xs ys : List ℕ) → Puts a b xs → Puts b c ys → Puts a c (xs ++ ys)
Puts-append a b c xs ys p q =
    record {
      written = q.written ∙ ap (λ w. w ++ ys) p.written ∙ append_assoc (written a) xs ys;
      room = q.room ∙ ap (drop (length ys)) p.room ∙ drop-drop (length ys) (length xs) (room a) ∙ ap (λ n. drop n (room a)) (sym (length-append xs ys));
      array = q.array ∙ p.array;
    }

-- where zeros were put to the end, the array has them after what was written before
pub array_zeroed : (old new : Out) → Puts old new (zeros (length (room old))) → new.bytes.now ≡ written old ++ zeros (length (room old))
array_zeroed old new p =
    let count = length (room old) in
    array_is new
    ∙ ap (λ after. written new ++ after) (p.room ∙ drop_all (length (zeros count)) (room old) (omega (arith, length-replicate {A = ℕ} count 0)))
    ∙ append-nil (written new) ∙ p.written

-- what a codec's goals need: how long the encodings are, and what the array has in the end
pub ruleset writing = (length-be, length-text16, length-drop, length-append, array_is)
