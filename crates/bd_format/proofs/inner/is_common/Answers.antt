use Rattle.std.proofs.Common.{arith}
use Rattle.std.specs.Option.{option_copied}
use Rattle.std.proofs.lemmas.Bool.{leb-true, le-leb}
use Rattle.bd_format.proofs.Lifting.{lift-common, lift-within}
use Rattle.bd_format.proofs.inner.is_common.Goals as goal

pub returns : goal.returns
returns c = (
  λ test.
      let less = leb-true c.args.count c.lift.result test in
      (omega (arith, less, c.lift.ensures.within), lift-common c.args.key.now (option_copied c.args.hi) c.lift.result c.args.count c.lift.ensures less),
  λ h. le-leb c.args.count c.lift.result (lift-within c.args.key.now (option_copied c.args.hi) c.lift.result c.args.count c.lift.ensures h.0 h.1),
)
