use Rattle.std.proofs.Common.{List, refl, subst}
use Rattle.std.specs.List.{AllByRecursion}
use Rattle.bd_pager.specs.declared.stepping.Put.{Put}
use Rattle.bd_pager.specs.Counting.{IsListed}
use Rattle.bd_pager.specs.Places.{spots_in}
use Rattle.bd_pager.proofs.CountingLemmas.{listed_tallied, err_anyway}
use Rattle.bd_pager.proofs.committing.carry_out.Goals as goal

pub returns-in_err-list_all-clause-err_tallied : goal.returns-in_err-list_all-clause-err_tallied
returns-in_err-list_all-clause-err_tallied c =
    err_anyway c.from_residual.result (λ next was. listed_tallied c.args.usage.now c.list_all.new.usage next (spots_in c.args.spots.now) (spots_in c.args.spots.now) c.list_all.ensures.more (λ id. refl) was)

pub returns-in_err-reserve-clause-err_tallied : goal.returns-in_err-reserve-clause-err_tallied
returns-in_err-reserve-clause-err_tallied c =
    err_anyway c.from_residual-in_err-reserve.result (λ next was. listed_tallied c.args.usage.now c.list_all.new.usage next (spots_in c.args.spots.now) (spots_in c.reserve.new.self) c.list_all.ensures.more c.reserve.ensures.entries.2 was)

pub carry-requires-clause-listed : goal.carry-requires-clause-listed
carry-requires-clause-listed c =
    subst (λ (puts : List Put). AllByRecursion (λ (put : Put). IsListed c.list_all.new.usage.listed put.id) puts) c.as_slice.ensures.value c.in_ok-list_all.ensures.listed

pub returns-clause-tallied : goal.returns-clause-tallied
returns-clause-tallied c = λ next below gone was.
    c.carry.ensures.tallied next below gone
    (listed_tallied c.args.usage.now c.list_all.new.usage next (spots_in c.args.spots.now) (spots_in c.reserve.new.self) c.list_all.ensures.more c.reserve.ensures.entries.2 was)
