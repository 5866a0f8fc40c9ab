use Rattle.bd_pager.specs.Places.{spots_in}
use Rattle.bd_pager.proofs.CountingLemmas.{listed_tallied, err_anyway}
use Rattle.bd_pager.proofs.pushing.put_kept.Goals as goal

pub returns-in_err-reserve-clause-err_tallied : goal.returns-in_err-reserve-clause-err_tallied
returns-in_err-reserve-clause-err_tallied c =
    err_anyway c.from_residual-in_err-reserve.result (λ next was. listed_tallied c.args.usage.now c.list_all.new.usage next (spots_in c.args.spots.now) (spots_in c.reserve.new.self) c.list_all.ensures.more c.reserve.ensures.entries.2 was)

pub returns-clause-tallied : goal.returns-clause-tallied
returns-clause-tallied c = λ next below was.
    c.put_all.ensures.tallied next below
    (listed_tallied c.args.usage.now c.list_all.new.usage next (spots_in c.args.spots.now) (spots_in c.reserve.new.self) c.list_all.ensures.more c.reserve.ensures.entries.2 was)
