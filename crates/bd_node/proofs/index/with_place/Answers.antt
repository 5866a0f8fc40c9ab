use Rattle.std.proofs.Common.{◌≡◌, ℕ, true, not, List, length, refl, sym, ap, subst, ◌∙◌}
use Rattle.std.proofs.lemmas.Option.{slice_get_read}
use Rattle.bd_node.specs.Index.{IsPosition, is_point_in, is_range_in, key_in, is_point_at, is_range_at, key_at}
use Rattle.bd_node.specs.Stems.{IsUpTo, stem_in, stem_at}
use Rattle.bd_node.proofs.Indexing.{with_point, with_range}
use Rattle.bd_node.proofs.ByStem.{with_stem, without_stem}
use Rattle.bd_node.proofs.index.with_place.Goals as goal
use Rattle.bd_node.proofs.index.with_place.Goals.{then-is_point+in_ok-insert, else-is_point+in_ok-push+in_ok-insert-2}

pub returns-clause-index : goal.returns-clause-index
returns-clause-index c =
    let there = slice_get_read c.args.items.now (length c.args.items.now) c.args.place c.index-items-place.result refl c.requires.within c.index-items-place.is in
    elim c.if-is_point.branch [
      | then-is_point+in_ok-insert w ↦ (
          let key : key_at c.args.items.now c.args.place ≡ w.own_key.result.now = ap key_in there ∙ sym w.own_key.ensures in
          let pos = subst (λ (l : List ℕ). IsPosition c.args.items.now w.as_slice.result.now (l, c.args.place) w.position-at.result) (sym key) w.position-at.ensures in
          let at = subst (λ (ps : List ℕ). IsPosition c.args.items.now ps (key_at c.args.items.now c.args.place, c.args.place) w.position-at.result) w.as_slice.ensures.value pos in
          let is : is_point_at c.args.items.now c.args.place ≡ true = ap is_point_in there ∙ sym c.is_point.ensures ∙ w.if-is_point.true in
          rw (w.points-is, w.ranges-is) (rw w.in_ok-insert.ensures.items
          (with_point c.args.items.now c.args.index.points.items c.args.index.ranges.items c.args.place w.position-at.result c.requires.index c.requires.within is at)))
      | else-is_point+in_ok-push+in_ok-insert-2 w ↦ (
          let is : is_range_at c.args.items.now c.args.place ≡ true = ap is_range_in there ∙ ap not (sym c.is_point.ensures ∙ w.if-is_point.false) in
          rw (w.points-is, w.ranges-is) (rw w.in_ok-push.ensures.items
          (with_range c.args.items.now c.args.index.points.items c.args.index.ranges.items c.args.place c.requires.index c.requires.within is)))
    ]

pub returns-clause-stems : goal.returns-clause-stems
returns-clause-stems c =
    let there = slice_get_read c.args.items.now (length c.args.items.now) c.args.place c.index-items-place.result refl c.requires.within c.index-items-place.is in
    elim c.if-is_point.branch [
      | then-is_point+in_ok-insert w ↦ (
          let is : is_point_at c.args.items.now c.args.place ≡ true = ap is_point_in there ∙ sym c.is_point.ensures ∙ w.if-is_point.true in
          rw w.stems-is (without_stem c.args.items.now c.args.index.stems.items c.args.place c.requires.stems c.requires.within is))
      | else-is_point+in_ok-push+in_ok-insert-2 w ↦ (
          let is : is_range_at c.args.items.now c.args.place ≡ true = ap is_range_in there ∙ ap not (sym c.is_point.ensures ∙ w.if-is_point.false) in
          let own : stem_at c.args.items.now c.args.place ≡ w.stem.result.now = ap stem_in there ∙ sym w.stem.ensures in
          let up = subst (λ (l : List ℕ). IsUpTo c.args.items.now w.as_slice-else-is_point.result.now l w.up_to-at.result) (sym own) w.up_to-at.ensures in
          let at = subst (λ (ps : List ℕ). IsUpTo c.args.items.now ps (stem_at c.args.items.now c.args.place) w.up_to-at.result) w.as_slice-else-is_point.ensures.value up in
          rw w.stems-is (rw w.in_ok-insert-2.ensures.items
          (with_stem c.args.items.now c.args.index.stems.items c.args.place w.up_to-at.result c.requires.stems c.requires.within is at)))
    ]
