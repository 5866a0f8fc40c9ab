use Rattle.std.proofs.Common.{ℕ, subst, sym, arith, length, ◌≤◌, ◌+◌}
use Rattle.bd_inner.proofs.FreedMessages.{IsStartTo, start_here, start_stays, start_end}
use Rattle.bd_inner.proofs.clipping.start_of.Goals as goal
use Rattle.bd_inner.proofs.clipping.start_of.Goals.{then-covers, else-covers}

pub loop-place-preserved : goal.loop-place-preserved
loop-place-preserved c =
    elim c.if-covers.branch [
      | then-covers w ↦
          subst (λ (n : ℕ). IsStartTo c.args.parts.now (c.loop-place.place + 1) n) (sym w.start-is)
          (start_here c.args.parts.now c.loop-place.place c.loop-place.start c.index-parts-place.result c.covers.result c.loop-place-test.true c.index-parts-place.is c.covers.ensures w.if-covers.true)
      | else-covers w ↦
          subst (λ (n : ℕ). IsStartTo c.args.parts.now (c.loop-place.place + 1) n) (sym w.start-is)
          (start_stays c.args.parts.now c.loop-place.place c.loop-place.start c.index-parts-place.result c.covers.result c.index-parts-place.is c.covers.ensures w.if-covers.false c.loop-place.invariant)
    ]

pub returns : goal.returns
returns c =
    start_end c.args.parts.now c.loop-place.place c.loop-place.start
    (let a : c.loop-place.place ≤ length c.args.parts.now = c.loop-place.auto.place-end in let b : length c.args.parts.now ≤ c.loop-place.place = c.loop-place-test.false in omega arith)
    c.loop-place.invariant
