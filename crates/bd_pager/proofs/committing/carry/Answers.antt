use Rattle.std.proofs.Common.{ℕ, ◌<◌, ◌≤◌, List, nat_eq, sym, subst}
use Rattle.std.specs.HashMap.{get}
use Rattle.bd_counts.specs.Naming.{times_among}
use Rattle.bd_pager.specs.Places.{Spots, spots_in}
use Rattle.bd_pager.proofs.CarryLemmas.{moved_both, moved_unused, moved_tallied, counted_unused, counted_tallied}
use Rattle.bd_pager.proofs.committing.carry.Goals as goal

pub put_all-requires-clause-unused : goal.put_all-requires-clause-unused
put_all-requires-clause-unused c =
    let plan = c.args.plan in
    let spots : Spots = spots_in c.args.spots.now in
    let new : Spots = spots_in c.keep_new.new.spots in
    moved_unused spots new c.args.old plan.root plan.new_root.copy
    (moved_both spots (spots_in c.give_up_old.new.spots) new c.args.old plan.root plan.new_root.copy c.give_up_old.ensures.spots c.keep_new.ensures.spots)
    c.args.usage.now c.requires.unused

pub drop_all-requires : goal.drop_all-requires
drop_all-requires c =
    counted_unused (spots_in c.put_all.new.spots) (spots_in c.set_counts.new.spots) (λ id. get nat_eq c.args.plan.recount.counts id) c.set_counts.ensures c.put_all.new.usage c.put_all.ensures.unused

pub returns-clause-tallied : goal.returns-clause-tallied
returns-clause-tallied c = λ next below gone was.
    let plan = c.args.plan in
    let spots : Spots = spots_in c.args.spots.now in
    let new : Spots = spots_in c.keep_new.new.spots in
    let moved = moved_tallied spots new c.args.old plan.root plan.new_root.copy
    (moved_both spots (spots_in c.give_up_old.new.spots) new c.args.old plan.root plan.new_root.copy c.give_up_old.ensures.spots c.keep_new.ensures.spots)
    c.args.usage.now next was in
    let counted = counted_tallied (spots_in c.put_all.new.spots) (spots_in c.set_counts.new.spots) (λ id. get nat_eq plan.recount.counts id) c.set_counts.ensures c.put_all.new.usage next (c.put_all.ensures.tallied next below moved) in
    c.drop_all.ensures.tallied next (subst (λ (ids : List ℕ). (id : ℕ) → 1 ≤ times_among ids id → id < next) (sym c.as_slice.ensures.value) gone) counted
