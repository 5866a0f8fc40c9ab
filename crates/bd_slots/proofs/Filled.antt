-- Arrays that are written from end to end.
use Rattle.std.proofs.Common.{◌≡◌, List, ℕ, [], ◌++◌, length, ap, ◌∙◌, arith, append-nil}
use Rattle.std.proofs.lemmas.List.{drop_all}
use Rattle.bd_wire.specs.Writing.{written, room, Puts}
use Rattle.bd_wire.specs.declared.writer.Out.{Out}
use Rattle.bd_wire.proofs.WritingLemmas.{array_is}

-- bytes that fill the array are what it has
pub filled_array : (old new : Out) (bytes : List ℕ) → Puts old new bytes → written old ≡ [] → length (room old) ≡ length bytes → new.bytes.now ≡ bytes
filled_array old new bytes puts none space =
    let after : room new ≡ [] = puts.room ∙ drop_all (length bytes) (room old) (omega (arith, space)) in
    array_is new ∙ ap (λ l. written new ++ l) after ∙ append-nil (written new) ∙ puts.written ∙ ap (λ w. w ++ bytes) none
