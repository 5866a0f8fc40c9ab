use Rattle.std.proofs.Common.{refl, arith}
use Rattle.bd_leaf.proofs.Splitting.{middle_done}
use Rattle.bd_leaf.proofs.halves.middle.Goals as goal

pub returns-after-loop-place : goal.returns-after-loop-place
returns-after-loop-place c =
    middle_done c.args.entries.now c.loop-place.place c.loop-place.before _ c.total-half.result c.requires.entries.each c.total-half.ensures refl c.loop-place.invariant.some c.loop-place.invariant.within c.loop-place.invariant.counts c.loop-place.invariant.few
    (λ more. let last = c.loop-place-test.false in absurd (omega arith))
