use Rattle.std.proofs.Common.{nat_eq, Bool, List, ℕ, refl, ap, subst, sym, ◌∙◌}
use Rattle.std.specs.Map.{lookup}
use Rattle.bd_node.specs.Nodes.{appended}
use Rattle.bd_pager.specs.Changing.{IsChangedAt}
use Rattle.bd_pager.specs.declared.place.Spot.{Spot}
use Rattle.bd_pager.specs.declared.usage.Tally.{Tally}
use Rattle.bd_pager.specs.declared.usage.Usage.{Usage}
use Rattle.bd_pager.specs.declared.usage.TheConstants.{IN_MEMORY}
use Rattle.bd_pager.specs.Counting.{IsTallied, recounted, tally_of}
use Rattle.bd_pager.specs.Places.{spots_in, copy_in}
use Rattle.bd_pager.proofs.AppendedLemmas.{root_copy}
use Rattle.bd_pager.proofs.CountingLemmas.{changed_tallied, listed_tallied}
use Rattle.bd_pager.proofs.changing.append_counted.Goals as goal

pub returns-in_err-list-clause-tallied : goal.returns-in_err-list-clause-tallied
returns-in_err-list-clause-tallied c = λ next low was.
    let spots = spots_in c.args.spots.now in
    listed_tallied c.args.usage.now c.list.new.self next spots spots c.list.ensures.more (λ i. refl) was

pub returns-in_err-append_at-clause-tallied : goal.returns-in_err-append_at-clause-tallied
returns-in_err-append_at-clause-tallied c = λ next low was.
    listed_tallied c.args.usage.now c.list.new.self next (spots_in c.args.spots.now) (spots_in c.append_at.new.spots) c.list.ensures.more
    (λ i. ap (λ (es : List (ℕ × Spot)). lookup (nat_eq i) es) c.in_err-append_at.ensures.err) was

pub returns-clause-tallied : goal.returns-clause-tallied
returns-clause-tallied c = λ next low was.
    let u = c.args.usage.now in
    let v = c.list.new.self in
    let spots = spots_in c.args.spots.now in
    let new = spots_in c.append_at.new.spots in
    let more = c.list.ensures.more in
    let same = ap (λ (x : Usage). x.spare) more.same in
    let copy = root_copy (copy_in (spots c.args.id)) c.requires.copy in
    let changed = subst (λ (l : List Bool). IsChangedAt l c.args.id (appended copy.0 c.args.list) spots new) same (c.in_ok-append_at.ensures.ok copy.0 copy.1) in
    let tally = c.tally_of-was.ensures ∙ ap (tally_of v.spare) c.get.ensures.value ∙ ap (λ (l : List Bool). tally_of l (spots c.args.id)) same in
    subst (λ (x : Usage). IsTallied next new x) (sym (c.recount.ensures ∙ ap (λ (t : Tally). recounted t IN_MEMORY v) tally))
    (changed_tallied u v next c.args.id (appended copy.0 c.args.list) spots new more c.in_ok-list.ensures.listed changed low was)
