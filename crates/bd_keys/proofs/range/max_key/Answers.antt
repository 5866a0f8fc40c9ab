use Rattle.bd_keys.proofs.Order.{at_least-max}
use Rattle.bd_keys.proofs.range.max_key.Goals as goal

pub returns : goal.returns
returns c key = at_least-max (λ r. r.now) c.args.a c.args.b c.max.result key c.max.ensures
