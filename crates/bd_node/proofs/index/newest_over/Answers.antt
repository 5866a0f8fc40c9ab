use Rattle.std.proofs.Common.{◌≡◌, ℕ, ◌+◌, ◌-◌, ◌<◌, ◌≤◌, true, false, List, length, get_or, sym, subst, arith, inl, inr}
use Rattle.std.proofs.lemmas.Bool.{cases_lt}
use Rattle.bd_node.specs.Index.{IsIndex, touches_at}
use Rattle.bd_node.proofs.Indexing.{newest_over_some, newest_over_none, read_touches}
use Rattle.bd_node.proofs.index.newest_over.Goals as goal

pub returns-then-touches : goal.returns-then-touches
returns-then-touches c =
    let ix : IsIndex c.args.items.now (length c.args.items.now) c.args.index.now.points.items c.as_slice-ranges.result.now = subst (λ (r : List ℕ). IsIndex c.args.items.now (length c.args.items.now) c.args.index.now.points.items r) (sym c.as_slice-ranges.ensures.value) c.requires.index in
    let first_fits : c.count_below-first.result ≤ length c.as_slice-ranges.result.now = c.count_below-first.ensures.within in
    let some : length c.as_slice-ranges.result.now - c.min.result < c.loop-at.at = c.loop-at-test.true in
    let least : c.count_below-first.result < c.loop-at.at = omega (arith, c.min.ensures, some, first_fits) in
    let fits : c.loop-at.at ≤ length c.as_slice-ranges.result.now = c.loop-at.invariant.within in
    let back : c.loop-at.at ≡ c.loop-at.at - 1 + 1 = omega arith in
    newest_over_some c.args.items.now c.args.index.now.points.items c.as_slice-ranges.result.now c.args.key.now c.args.from c.count_below-first.result (c.loop-at.at - 1) ix c.count_below-first.ensures (omega arith) (omega arith)
    (read_touches c.args.items.now (get_or c.as_slice-ranges.result.now (c.loop-at.at - 1) 0) c.index-items-ranges.result c.args.key.now c.touches.result true (ix.under (c.loop-at.at - 1) (omega arith)) c.index-items-ranges.is c.touches.ensures c.if-touches.true)
    (λ q least within. c.loop-at.invariant.none q (omega arith) within)

pub loop-at-preserved : goal.loop-at-preserved
loop-at-preserved c =
    let ix : IsIndex c.args.items.now (length c.args.items.now) c.args.index.now.points.items c.as_slice-ranges.result.now = subst (λ (r : List ℕ). IsIndex c.args.items.now (length c.args.items.now) c.args.index.now.points.items r) (sym c.as_slice-ranges.ensures.value) c.requires.index in
    let some : length c.as_slice-ranges.result.now - c.min.result < c.loop-at.at = c.loop-at-test.true in
    let fits : c.loop-at.at ≤ length c.as_slice-ranges.result.now = c.loop-at.invariant.within in
    record {
      within = omega arith;
      none = λ q least within. elim (cases_lt (c.loop-at.at - 1) q) [
        | inl more ↦ c.loop-at.invariant.none q (omega arith) within
        | inr le ↦ (let e : c.loop-at.at - 1 ≡ q = omega arith in
            subst (λ (j : ℕ). touches_at c.args.items.now (get_or c.as_slice-ranges.result.now j 0) c.args.key.now ≡ false) e
            (read_touches c.args.items.now (get_or c.as_slice-ranges.result.now (c.loop-at.at - 1) 0) c.index-items-ranges.result c.args.key.now c.touches.result false (ix.under (c.loop-at.at - 1) (omega arith)) c.index-items-ranges.is c.touches.ensures c.if-touches.false))
      ];
    }

pub returns-else-first-end : goal.returns-else-first-end
returns-else-first-end c =
    let ix : IsIndex c.args.items.now (length c.args.items.now) c.args.index.now.points.items c.as_slice-ranges.result.now = subst (λ (r : List ℕ). IsIndex c.args.items.now (length c.args.items.now) c.args.index.now.points.items r) (sym c.as_slice-ranges.ensures.value) c.requires.index in
    let past : c.loop-at.at ≤ length c.as_slice-ranges.result.now - c.min.result = c.loop-at-test.false in
    let last : length c.as_slice-ranges.result.now - c.min.result ≤ c.count_below-first.result = c.if-first-end.false in
    newest_over_none c.args.items.now c.args.index.now.points.items c.as_slice-ranges.result.now c.args.key.now c.args.from c.count_below-first.result ix c.count_below-first.ensures (λ q least within. c.loop-at.invariant.none q (omega arith) within)
