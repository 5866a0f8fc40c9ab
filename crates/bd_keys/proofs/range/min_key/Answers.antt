use Rattle.bd_keys.proofs.Order.{below-min}
use Rattle.bd_keys.proofs.range.min_key.Goals as goal

pub returns : goal.returns
returns c key = below-min (λ r. r.now) c.args.a c.args.b c.min.result key c.min.ensures
