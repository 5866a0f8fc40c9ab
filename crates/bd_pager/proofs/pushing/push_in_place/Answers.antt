use Rattle.std.proofs.lemmas.Result.{IfOk-weaker, on_err_weaker}
use Rattle.bd_pager.specs.Places.{spots_in}
use Rattle.bd_pager.specs.Pushing.{vacant}
use Rattle.bd_pager.proofs.PushedLemmas.{taken_shape, taken_gain, taken_second, put_same, put_pushed}
use Rattle.bd_pager.proofs.pushing.push_in_place.Goals as goal

pub push_places-result-requires-clause-above : goal.push_places-result-requires-clause-above
push_places-result-requires-clause-above c =
    taken_shape (spots_in c.args.spots.now) c.args.push.parent c.take-above.result c.requires.parent c.take-above.ensures.place c.requires.placed

pub push_places-result-requires-clause-below : goal.push_places-result-requires-clause-below
push_places-result-requires-clause-below c =
    let spots = spots_in c.args.spots.now in
    let push = c.args.push in
    taken_shape spots push.child c.take-below.result c.requires.child
    (taken_second spots (spots_in c.take-above.new.spots) push.parent push.child vacant c.take-below.result c.requires.apart c.take-above.ensures.spots c.take-below.ensures.place) c.requires.placed

pub push_places-result-requires-clause-gain : goal.push_places-result-requires-clause-gain
push_places-result-requires-clause-gain c =
    let spots = spots_in c.args.spots.now in
    let push = c.args.push in
    taken_gain spots push.child c.take-below.result push.gain c.requires.child
    (taken_second spots (spots_in c.take-above.new.spots) push.parent push.child vacant c.take-below.result c.requires.apart c.take-above.ensures.spots c.take-below.ensures.place) c.requires.placed c.requires.gain

pub returns-clause-ok : goal.returns-clause-ok
returns-clause-ok c =
    let spots = spots_in c.args.spots.now in
    let push = c.args.push in
    let first = spots_in c.take-above.new.spots in
    let new = c.push_places-result.new in
    IfOk-weaker c.push_places-result.result _ _ (λ left made.
    put_pushed push spots first (spots_in c.take-below.new.spots) (spots_in c.put_back.new.spots) (spots_in c.put_back-2.new.spots) vacant c.take-above.result c.take-below.result new.above new.below
    c.requires.apart c.take-above.ensures.spots c.take-below.ensures.spots c.put_back.ensures c.put_back-2.ensures c.requires.parent c.requires.child c.take-above.ensures.place
    (taken_second spots first push.parent push.child vacant c.take-below.result c.requires.apart c.take-above.ensures.spots c.take-below.ensures.place) left made)
    c.push_places-result.ensures.ok

pub returns-clause-err : goal.returns-clause-err
returns-clause-err c =
    let spots = spots_in c.args.spots.now in
    let push = c.args.push in
    let first = spots_in c.take-above.new.spots in
    let new = c.push_places-result.new in
    on_err_weaker c.push_places-result.result (λ same.
    put_same push spots first (spots_in c.take-below.new.spots) (spots_in c.put_back.new.spots) (spots_in c.put_back-2.new.spots) vacant c.take-above.result c.take-below.result new.above new.below
    c.requires.apart c.take-above.ensures.spots c.take-below.ensures.spots c.put_back.ensures c.put_back-2.ensures c.requires.parent c.requires.child c.take-above.ensures.place
    (taken_second spots first push.parent push.child vacant c.take-below.result c.requires.apart c.take-above.ensures.spots c.take-below.ensures.place) same)
    c.push_places-result.ensures.err
