use Rattle.std.proofs.Common.{arith, sym, subst, None}
use Rattle.bd_keys.specs.Keys.{IsLift}
use Rattle.bd_keys.proofs.Lifts.{lift-open}
use Rattle.bd_keys.proofs.prefix.lift.Goals as goal

pub returns-in-None : goal.returns-in-None
returns-in-None c = rw c.in-None.is (subst (IsLift c.args.lo.now None) (sym c.tops_len.ensures.value) (lift-open c.args.lo.now (λ i. omega (arith, c.type_inv.lo i))))
