use Rattle.bd_inner.proofs.Exchanged.{exchanged_shape, meaning_before, meaning_inside, meaning_outside, meaning_without}
use Rattle.bd_inner.proofs.laws.exchanged_edges.Goals as goal

pub returns-clause-loose : goal.returns-clause-loose
returns-clause-loose c = exchanged_shape

pub returns-clause-before : goal.returns-clause-before
returns-clause-before c = meaning_before

pub returns-clause-inside : goal.returns-clause-inside
returns-clause-inside c = meaning_inside

pub returns-clause-outside : goal.returns-clause-outside
returns-clause-outside c = meaning_outside

pub returns-clause-without : goal.returns-clause-without
returns-clause-without c = meaning_without
