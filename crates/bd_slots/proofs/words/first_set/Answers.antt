use Rattle.std.proofs.Common.{arith, get_or, refl}
use Rattle.bd_slots.proofs.BitLemmas.{IsFirstSet-lowest}
use Rattle.bd_slots.proofs.words.first_set.Goals as goal

pub returns-then-word-ne0 : goal.returns-then-word-ne0
returns-then-word-ne0 c =
    record { found = IsFirstSet-lowest c.args.words.now c.loop-at.at (get_or c.args.words.now c.loop-at.at 0) refl (omega (arith, c.if-word-ne0.true)) (omega (arith, c.type_inv.words c.loop-at.at)) c.loop-at.invariant }
