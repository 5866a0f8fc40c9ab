use Rattle.std.proofs.Common.{ℕ, ◌≤◌, List, length, sym, subst, arith}
use Rattle.bd_node.specs.Index.{IsIndex}
use Rattle.bd_node.proofs.Indexing.{next_point_some, next_point_none}
use Rattle.bd_node.proofs.index.next_point.Goals as goal

pub returns-then-points-at : goal.returns-then-points-at
returns-then-points-at c =
    let points : List ℕ = c.as_slice-points.result.now in
    let ix : IsIndex c.args.items.now (length c.args.items.now) c.as_slice-points.result.now c.args.index.now.ranges.items = subst (λ (p : List ℕ). IsIndex c.args.items.now (length c.args.items.now) p c.args.index.now.ranges.items) (sym c.as_slice-points.ensures.value) c.requires in
    next_point_some c.args.items.now c.as_slice-points.result.now c.args.index.now.ranges.items c.args.key.now c.args.from c.loop-at.at ix c.loop-at-test.true c.if-points-at.true (c.position-at.ensures.after c.loop-at.at c.loop-at.auto.at c.loop-at-test.true) c.loop-at.invariant

pub returns : goal.returns
returns c =
    let points : List ℕ = c.as_slice-points.result.now in
    let ix : IsIndex c.args.items.now (length c.args.items.now) c.as_slice-points.result.now c.args.index.now.ranges.items = subst (λ (p : List ℕ). IsIndex c.args.items.now (length c.args.items.now) p c.args.index.now.ranges.items) (sym c.as_slice-points.ensures.value) c.requires in
    let past : length c.as_slice-points.result.now ≤ c.loop-at.at = c.loop-at-test.false in
    next_point_none c.args.items.now c.as_slice-points.result.now c.args.index.now.ranges.items c.args.key.now c.args.from ix (λ q within least. c.loop-at.invariant q (omega arith) least)
