use Rattle.std.proofs.Common.{◌≡◌, Bool, List, Some, nat_eq, refl, sym, ap, subst, ◌∙◌}
use Rattle.std.specs.Prelude.{IsSome, Option}
use Rattle.std.specs.HashMap.{get}
use Rattle.std.specs.List.{AllByRecursion}
use Rattle.bd_node.specs.Nodes.{appended}
use Rattle.bd_node.proofs.Lookup.{each_weaker}
use Rattle.bd_pager.specs.declared.place.Spot.{Spot}
use Rattle.bd_pager.specs.declared.stepping.Put.{Put}
use Rattle.bd_pager.specs.declared.usage.Usage.{Usage}
use Rattle.bd_pager.specs.Changing.{IsChangedAt}
use Rattle.bd_pager.specs.Counting.{AreUnused, IsListed}
use Rattle.bd_pager.specs.Places.{Spots, spots_in, copy_in}
use Rattle.bd_pager.specs.Stepping.{put_at, with_put, with_count}
use Rattle.bd_pager.proofs.AppendedLemmas.{root_copy}
use Rattle.bd_pager.proofs.CountingLemmas.{listed_tallied, err_anyway, changed_unused}
use Rattle.bd_pager.proofs.CarryLemmas.{counted_tallied, changed_from, unused_as, spare_as}
use Rattle.bd_pager.proofs.extending.extend_spots.Goals as goal

pub returns-in_err-list_all-clause-err_tallied : goal.returns-in_err-list_all-clause-err_tallied
returns-in_err-list_all-clause-err_tallied c =
    err_anyway c.from_residual.result (λ next low was.
    listed_tallied c.args.usage.now c.list_all.new.usage next (spots_in c.args.spots.now) (spots_in c.args.spots.now) c.list_all.ensures.more (λ id. refl) was)

pub returns-in_err-reserve-clause-err_tallied : goal.returns-in_err-reserve-clause-err_tallied
returns-in_err-reserve-clause-err_tallied c =
    err_anyway c.from_residual-in_err-reserve.result (λ next low was.
    listed_tallied c.args.usage.now c.list_all.new.usage next (spots_in c.args.spots.now) (spots_in c.reserve.new.self) c.list_all.ensures.more c.reserve.ensures.entries.2 was)

pub returns-in_err-append_counted-clause-err_tallied : goal.returns-in_err-append_counted-clause-err_tallied
returns-in_err-append_counted-clause-err_tallied c =
    err_anyway c.from_residual-in_err-append_counted.result (λ next low was.
    c.append_counted.ensures.tallied next low
    (listed_tallied c.args.usage.now c.list_all.new.usage next (spots_in c.args.spots.now) (spots_in c.reserve.new.self) c.list_all.ensures.more c.reserve.ensures.entries.2 was))

pub put_all-requires-clause-unused : goal.put_all-requires-clause-unused
put_all-requires-clause-unused c =
    let spots : Spots = spots_in c.args.spots.now in
    let mid : Spots = spots_in c.reserve.new.self in
    let copy = root_copy (copy_in (mid c.args.root)) (subst (λ (o : Option Spot). IsSome (copy_in o)) (sym (c.reserve.ensures.entries.2 c.args.root)) c.requires.copy) in
    let used : Usage = c.list_all.new.usage in
    let was : AreUnused used.spare used.free mid = unused_as c.args.usage.now used spots mid c.list_all.ensures.more c.reserve.ensures.entries.2 c.requires.unused in
    let now = changed_unused used.spare used.free c.args.root (appended copy.0 c.args.list) mid (spots_in c.append_counted.new.spots) (c.in_ok-append_counted.ensures.ok copy.0 copy.1) was in
    subst (λ (s : List Bool). AreUnused s c.append_counted.new.usage.free (spots_in c.append_counted.new.spots)) (sym c.append_counted.ensures.spare)
    (subst (λ (f : List Bool). AreUnused used.spare f (spots_in c.append_counted.new.spots)) (sym c.append_counted.ensures.free) now)

pub put_all-requires-clause-listed : goal.put_all-requires-clause-listed
put_all-requires-clause-listed c =
    each_weaker (λ (put : Put). IsListed c.list_all.new.usage.listed put.id) (λ (put : Put). IsListed c.append_counted.new.usage.listed put.id) (λ put listed. c.append_counted.ensures.listed put.id listed)
    c.args.addition.puts.items
    (subst (λ (puts : List Put). AllByRecursion (λ (put : Put). IsListed c.list_all.new.usage.listed put.id) puts) c.as_slice.ensures.value c.in_ok-list_all.ensures.listed)

pub returns-clause-ok : goal.returns-clause-ok
returns-clause-ok c = λ n copy.
    let spots : Spots = spots_in c.args.spots.now in
    let mid : Spots = spots_in c.reserve.new.self in
    let grown : Spots = spots_in c.append_counted.new.spots in
    let copy_mid : copy_in (mid c.args.root) ≡ Some n = ap copy_in (c.reserve.ensures.entries.2 c.args.root) ∙ copy in
    let spare_is = spare_as c.args.usage.now c.list_all.new.usage c.list_all.ensures.more in
    record {
      mid = grown;
      changed = changed_from c.args.usage.now.spare c.args.root (appended n c.args.list) spots mid grown c.reserve.ensures.entries.2
          (subst (λ (s : List Bool). IsChangedAt s c.args.root (appended n c.args.list) mid grown) spare_is (c.in_ok-append_counted.ensures.ok n copy_mid));
      each = λ id. c.set_counts.ensures id
          ∙ ap (λ (o : Option Spot). with_count (get nat_eq c.args.addition.counts id) o)
          (c.put_all.ensures.spots id ∙ ap (λ (s : List Bool). with_put s (put_at c.args.addition.puts.items id) (grown id)) (c.append_counted.ensures.spare ∙ spare_is));
    }

pub returns-clause-tallied : goal.returns-clause-tallied
returns-clause-tallied c = λ next low below was.
    let grown = c.append_counted.ensures.tallied next low
    (listed_tallied c.args.usage.now c.list_all.new.usage next (spots_in c.args.spots.now) (spots_in c.reserve.new.self) c.list_all.ensures.more c.reserve.ensures.entries.2 was) in
    counted_tallied (spots_in c.put_all.new.spots) (spots_in c.set_counts.new.spots) (λ id. get nat_eq c.args.addition.counts id) c.set_counts.ensures c.put_all.new.usage next (c.put_all.ensures.tallied next below grown)
