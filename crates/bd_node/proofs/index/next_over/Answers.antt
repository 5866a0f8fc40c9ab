use Rattle.std.proofs.Common.{◌≡◌, ℕ, ◌<◌, ◌≤◌, ◌+◌, true, false, List, length, get_or, sym, subst, arith, inl, inr}
use Rattle.std.proofs.lemmas.Bool.{cases_lt}
use Rattle.bd_node.specs.Index.{IsIndex, touches_at}
use Rattle.bd_node.proofs.Indexing.{next_over_some, over_none, read_touches}
use Rattle.bd_node.proofs.index.next_over.Goals as goal

pub returns-then-touches : goal.returns-then-touches
returns-then-touches c =
    let ix : IsIndex c.args.items.now (length c.args.items.now) c.args.index.now.points.items c.as_slice-ranges.result.now = subst (λ (r : List ℕ). IsIndex c.args.items.now (length c.args.items.now) c.args.index.now.points.items r) (sym c.as_slice-ranges.ensures.value) c.requires.index in
    let fits : c.count_below-first.result ≤ length c.as_slice-ranges.result.now = c.count_below-first.ensures.within in
    let inside : c.loop-at.at < length c.as_slice-ranges.result.now = omega (arith, c.min.ensures, c.loop-at-test.true, fits) in
    next_over_some c.args.items.now c.args.index.now.points.items c.as_slice-ranges.result.now c.args.key.now c.args.from c.count_below-first.result c.loop-at.at ix c.count_below-first.ensures c.loop-at.auto.at inside
    (read_touches c.args.items.now (get_or c.as_slice-ranges.result.now c.loop-at.at 0) c.index-items-ranges.result c.args.key.now c.touches.result true (ix.under c.loop-at.at inside) c.index-items-ranges.is c.touches.ensures c.if-touches.true) c.loop-at.invariant

pub loop-at-preserved : goal.loop-at-preserved
loop-at-preserved c =
    let ix : IsIndex c.args.items.now (length c.args.items.now) c.args.index.now.points.items c.as_slice-ranges.result.now = subst (λ (r : List ℕ). IsIndex c.args.items.now (length c.args.items.now) c.args.index.now.points.items r) (sym c.as_slice-ranges.ensures.value) c.requires.index in
    let fits : c.count_below-first.result ≤ length c.as_slice-ranges.result.now = c.count_below-first.ensures.within in
    let inside : c.loop-at.at < length c.as_slice-ranges.result.now = omega (arith, c.min.ensures, c.loop-at-test.true, fits) in
    λ q within least. elim (cases_lt q c.loop-at.at) [
      | inl less ↦ c.loop-at.invariant q less least
      | inr le ↦ (let e : c.loop-at.at ≡ q = omega arith in
          subst (λ (j : ℕ). touches_at c.args.items.now (get_or c.as_slice-ranges.result.now j 0) c.args.key.now ≡ false) e
          (read_touches c.args.items.now (get_or c.as_slice-ranges.result.now c.loop-at.at 0) c.index-items-ranges.result c.args.key.now c.touches.result false (ix.under c.loop-at.at inside) c.index-items-ranges.is c.touches.ensures c.if-touches.false))
    ]

pub returns-else-end-ranges : goal.returns-else-end-ranges
returns-else-end-ranges c =
    let ix : IsIndex c.args.items.now (length c.args.items.now) c.args.index.now.points.items c.as_slice-ranges.result.now = subst (λ (r : List ℕ). IsIndex c.args.items.now (length c.args.items.now) c.args.index.now.points.items r) (sym c.as_slice-ranges.ensures.value) c.requires.index in
    let past : c.count_below-first.result + c.min.result ≤ c.loop-at.at = c.loop-at-test.false in
    let last : length c.as_slice-ranges.result.now ≤ c.count_below-first.result + c.min.result = c.if-end-ranges.false in
    over_none c.args.items.now c.args.index.now.points.items c.as_slice-ranges.result.now c.args.key.now c.args.from ix (λ q within least. c.loop-at.invariant q (omega arith) least)

pub loop-at-init : goal.loop-at-init
loop-at-init c = λ q less least. (let l : get_or c.as_slice-ranges.result.now q 0 < c.args.from = c.count_below-first.ensures.below q less in absurd (omega arith))
