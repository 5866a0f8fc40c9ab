use Rattle.std.proofs.Common.{sym, ap, ◌∙◌, nat_eq}
use Rattle.std.specs.Map.{set_value}
use Rattle.std.proofs.lemmas.Map.Steps.{set_value_same}
use Rattle.std.proofs.lemmas.Result.{on_err_weaker, on_ok_weaker}
use Rattle.bd_pager.specs.declared.place.Spot.{Spot}
use Rattle.bd_pager.specs.Places.{spots_in, copy_in}
use Rattle.bd_pager.proofs.ChangingLemmas.{changed_one, some_there}
use Rattle.bd_pager.proofs.changing.append_at.Goals as goal

pub returns-clause-ok : goal.returns-clause-ok
returns-clause-ok c = λ n copy.
    let spots = spots_in c.args.spots.now in
    let last = c.append_to_spot.new.spot in
    let there = sym c.in-Some.ensures.value in
    let updates = (c.get_mut.follows.holds last).3 (some_there (spots c.args.id) c.in-Some.spot.now there) in
    on_ok_weaker c.append_to_spot.result (λ changed. changed_one c.args.spare.now c.args.id _ spots (spots_in (c.get_mut.follows.lender last)) c.in-Some.spot.now last there updates.1 changed updates.2)
    (c.append_to_spot.ensures.ok n (ap copy_in (sym there) ∙ copy))

pub returns-clause-err : goal.returns-clause-err
returns-clause-err c =
    let entries = c.args.spots.now.entries in
    let last = c.append_to_spot.new.spot in
    on_err_weaker c.append_to_spot.result (λ same.
    (c.get_mut.follows.holds last).0 ∙ ap (λ (s : Spot). set_value (nat_eq c.args.id) entries s) same ∙ set_value_same (nat_eq c.args.id) entries c.in-Some.spot.now (sym c.in-Some.ensures.value))
    c.append_to_spot.ensures.err
