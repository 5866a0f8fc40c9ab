use Rattle.bd_keys.specs.Keys.{key_cmp}
use Rattle.bd_keys.proofs.Order.{below-min}
use Rattle.bd_query.proofs.EndLemmas.{one_of_two}
use Rattle.bd_query.proofs.ends.lesser_key.Goals as goal

pub returns-clause-below : goal.returns-clause-below
returns-clause-below c k = below-min (λ r. r) c.args.a c.args.b c.min.result k c.min.ensures

pub returns-clause-one : goal.returns-clause-one
returns-clause-one c = one_of_two key_cmp c.args.a c.args.b c.min.result c.min.ensures
