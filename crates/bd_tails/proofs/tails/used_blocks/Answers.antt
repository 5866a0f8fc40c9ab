use Rattle.std.proofs.Common.{◌-◌, inl, inr, refl, sym, ◌∙◌, true≢false, arith}
use Rattle.bd_tails.proofs.Known.{look_back, looked}
use Rattle.bd_tails.proofs.tails.used_blocks.Goals as goal

pub loop-zeros-preserved : goal.loop-zeros-preserved
loop-zeros-preserved c =
    look_back c.args.bytes.now c.loop-zeros.zeros c.loop-zeros-test.true (c.is_zero.ensures.0 c.if-not-is_zero.false) c.loop-zeros.invariant

pub returns : goal.returns
returns c = looked c.args.bytes.now 0 c.told-bytes (omega arith) (λ j low lt. c.loop-zeros.invariant j (omega (arith, c.loop-zeros-test.false)) lt) (inl refl)

pub returns-then-not-is_zero : goal.returns-then-not-is_zero
returns-then-not-is_zero c =
    let used = 16 - c.loop-zeros.zeros in
    looked c.args.bytes.now used c.told-bytes (omega arith) c.loop-zeros.invariant
    (inr (λ zero. true≢false (sym (c.is_zero.ensures.1 zero) ∙ c.if-not-is_zero.true)))
