use Rattle.std.proofs.Common.{◌≡◌, ◌<◌, List, length, refl, sym, subst, Some}
use Rattle.std.specs.Prelude.{slice_get}
use Rattle.std.proofs.lemmas.Option.{slice_get_read}
use Rattle.bd_message.specs.declared.message.Message.{Message}
use Rattle.bd_node.proofs.Indexing.{range_within}
use Rattle.bd_query.proofs.NewestLemmas.{passed_more}
use Rattle.bd_query.proofs.stretch.before_ranges.Goals as goal

pub loop-place-preserved : goal.loop-place-preserved
loop-place-preserved c =
    let there : slice_get c.args.buffer.now c.in-Some.place ≡ Some c.index-list-place.result =
    subst (λ (list : List Message). slice_get list c.in-Some.place ≡ Some c.index-list-place.result) c.as_slice-list.ensures
    (slice_get_read c.as_slice-list.result.now (length c.as_slice-list.result.now) c.in-Some.place c.index-list-place.result refl
    (subst (λ (list : List Message). c.in-Some.place < length list) (sym c.as_slice-list.ensures) (range_within c.args.buffer.now c.in-Some.place c.in-Some.ensures.1)) c.index-list-place.is) in
    record {
      passed = passed_more c.args.buffer.now c.args.from c.loop-place.at c.in-Some.place c.index-list-place.result c.args.key.now c.loop-place.end c.in_ok-end.end c.loop-place.invariant.passed c.in-Some.ensures there c.in_ok-end.ensures.within c.in_ok-end.ensures.untouched;
      end = c.in_ok-end.ensures.end;
      bound = λ k below. c.loop-place.invariant.bound k (c.in_ok-end.ensures.within k below);
    }
