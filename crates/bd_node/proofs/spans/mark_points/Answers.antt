use Rattle.std.proofs.Common.{List, ℕ, ◌<◌, ◌≤◌, length, get_or, sym, subst, arith}
use Rattle.std.specs.Option.{option_copied}
use Rattle.bd_node.specs.Index.{IsIndex}
use Rattle.bd_node.specs.Spans.{AreMarked}
use Rattle.bd_node.proofs.Marking.{points_first, points_more, points_all}
use Rattle.bd_node.proofs.spans.mark_points.Goals as goal

pub index_mut-requires : goal.index_mut-requires
index_mut-requires c =
    let ix : IsIndex c.args.items.now (length c.args.items.now) c.as_slice-points.result.now c.args.index.now.ranges.items = subst (λ (p : List ℕ). IsIndex c.args.items.now (length c.args.items.now) p c.args.index.now.ranges.items) (sym c.as_slice-points.ensures.value) c.requires.index in
    let most : c.count_before-at-end.result ≤ length c.as_slice-points.result.now = c.count_before-at-end.ensures.within in
    let low : get_or c.as_slice-points.result.now c.loop-at.at 0 < length c.args.items.now = ix.below c.loop-at.at (omega (arith, c.loop-at-test.true)) in
    omega (arith, c.loop-at.invariant.long, c.loop-at.mask.ok)

pub loop-at-init : goal.loop-at-init
loop-at-init c =
    let ix : IsIndex c.args.items.now (length c.args.items.now) c.as_slice-points.result.now c.args.index.now.ranges.items = subst (λ (p : List ℕ). IsIndex c.args.items.now (length c.args.items.now) p c.args.index.now.ranges.items) (sym c.as_slice-points.ensures.value) c.requires.index in
    points_first c.args.mask.now.items c.args.items.now c.args.lo.now (option_copied c.args.hi) c.as_slice-points.result.now c.args.index.now.ranges.items c.count_before-first.result ix c.count_before-first.ensures c.requires.none

pub loop-at-preserved : goal.loop-at-preserved
loop-at-preserved c =
    let ix : IsIndex c.args.items.now (length c.args.items.now) c.as_slice-points.result.now c.args.index.now.ranges.items = subst (λ (p : List ℕ). IsIndex c.args.items.now (length c.args.items.now) p c.args.index.now.ranges.items) (sym c.as_slice-points.ensures.value) c.requires.index in
    points_more c.loop-at.mask.items c.args.items.now c.args.lo.now (option_copied c.args.hi) c.as_slice-points.result.now c.args.index.now.ranges.items c.count_before-first.result c.loop-at.at c.count_before-at-end.result ix
    c.count_before-first.ensures c.count_before-at-end.ensures c.loop-at.invariant c.loop-at.auto.at c.loop-at-test.true

pub returns : goal.returns
returns c =
    let ix : IsIndex c.args.items.now (length c.args.items.now) c.as_slice-points.result.now c.args.index.now.ranges.items = subst (λ (p : List ℕ). IsIndex c.args.items.now (length c.args.items.now) p c.args.index.now.ranges.items) (sym c.as_slice-points.ensures.value) c.requires.index in
    subst (λ (p : List ℕ). AreMarked c.loop-at.mask.items c.args.items.now c.args.lo.now (option_copied c.args.hi) p (length p)) c.as_slice-points.ensures.value
    (points_all c.loop-at.mask.items c.args.items.now c.args.lo.now (option_copied c.args.hi) c.as_slice-points.result.now c.args.index.now.ranges.items c.loop-at.at c.count_before-at-end.result ix
    c.count_before-at-end.ensures c.loop-at.invariant c.loop-at-test.false)
