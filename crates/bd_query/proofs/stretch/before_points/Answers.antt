use Rattle.std.proofs.Common.{◌<◌, length, refl, sym, subst, ◌≡◌, Some, List}
use Rattle.std.specs.Prelude.{slice_get}
use Rattle.std.proofs.lemmas.Option.{slice_get_read}
use Rattle.bd_message.specs.declared.message.Message.{Message}
use Rattle.bd_node.proofs.Indexing.{point_within}
use Rattle.bd_query.proofs.NewestLemmas.{points_before, points_none}
use Rattle.bd_query.proofs.stretch.before_points.Goals as goal

pub returns-in_ok-narrowed-in-Some-clause-none : goal.returns-in_ok-narrowed-in-Some-clause-none
returns-in_ok-narrowed-in-Some-clause-none c =
    let there : slice_get c.args.buffer.now c.in-Some.place ≡ Some c.index-list-place.result =
    subst (λ (list : List Message). slice_get list c.in-Some.place ≡ Some c.index-list-place.result) c.as_slice-list.ensures
    (slice_get_read c.as_slice-list.result.now (length c.as_slice-list.result.now) c.in-Some.place c.index-list-place.result refl
    (subst (λ (list : List Message). c.in-Some.place < length list) (sym c.as_slice-list.ensures) (point_within c.args.buffer.now c.in-Some.place c.in-Some.ensures.1)) c.index-list-place.is) in
    points_before c.args.buffer.now c.args.from c.in-Some.place c.index-list-place.result c.args.key.now c.in_ok-narrowed-in-Some.field-0 c.requires.none c.in-Some.ensures there c.in_ok-narrowed-in-Some.ensures.untouched

pub returns-in-None-clause-none : goal.returns-in-None-clause-none
returns-in-None-clause-none c = points_none c.args.buffer.now c.args.from c.args.key.now c.args.end c.requires.none c.in-None.ensures
