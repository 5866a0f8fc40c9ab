use Rattle.std.proofs.Common.{ℕ, subst}
use Rattle.bd_query.specs.Stretches.{NoneFrom}
use Rattle.bd_query.proofs.NewestLemmas.{none_of_both, newest_is}
use Rattle.bd_query.proofs.stretch.newest_touching.Goals as goal

pub returns-clause-newest : goal.returns-clause-newest
returns-clause-newest c =
    newest_is c.args.buffer.now c.args.seen c.args.key.now c.newest_touching-place.result c.in_ok-end-2.end c.newest_touching-place.ensures
    (subst (λ (j : ℕ). NoneFrom c.args.buffer.now j c.args.key.now c.in_ok-end-2.end) c.after-from.ensures
    (none_of_both c.args.buffer.now c.after-from.result c.args.key.now c.in_ok-end.end c.in_ok-end-2.end c.in_ok-end.ensures.none c.in_ok-end-2.ensures.within c.in_ok-end-2.ensures.none))

pub returns-clause-within : goal.returns-clause-within
returns-clause-within c = λ k below. c.in_ok-end.ensures.within k (c.in_ok-end-2.ensures.within k below)
