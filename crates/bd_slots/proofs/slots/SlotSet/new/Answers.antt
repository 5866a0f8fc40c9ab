use Rattle.std.proofs.Common.{arith}
use Rattle.bd_slots.proofs.FlagLemmas.{AreCounted-all}
use Rattle.bd_slots.proofs.slots.SlotSet.new.Goals as goal

pub invariant_of-result : goal.invariant_of-result
invariant_of-result c = ((AreCounted-all c.in_ok-words.words.items c.args.count c.in_ok-words.ensures.length c.in_ok-words.ensures.bits).0, λ bit lt. absurd (omega (arith, lt)))

pub returns : goal.returns
returns c = (AreCounted-all c.in_ok-words.words.items c.args.count c.in_ok-words.ensures.length c.in_ok-words.ensures.bits).1
