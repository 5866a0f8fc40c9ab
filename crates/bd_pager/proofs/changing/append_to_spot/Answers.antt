use Rattle.std.proofs.Common.{◌≡◌, Some, OnOk, refl, subst}
use Rattle.std.proofs.lemmas.Result.{on_ok_weaker}
use Rattle.bd_node.specs.Nodes.{appended}
use Rattle.bd_pager.specs.declared.place.Place.{Place}
use Rattle.bd_pager.specs.Places.{copy_at}
use Rattle.bd_pager.specs.Changing.{IsChangedPlace}
use Rattle.bd_pager.proofs.changing.append_to_spot.Goals as goal

pub returns-clause-ok : goal.returns-clause-ok
returns-clause-ok c = λ n there.
    let r = c.appended-place.result in
    let h = subst (λ (p : Place). copy_at p ≡ Some n → OnOk r.1 (IsChangedPlace c.args.spare.now (appended n c.args.list) p r.0)) c.replace-place.ensures.value (c.appended-place.ensures.ok n) in
    on_ok_weaker r.1 (λ place. record { refs = refl; level = refl; place = place }) (h there)
