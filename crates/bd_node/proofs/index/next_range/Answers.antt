use Rattle.std.proofs.Common.{ℕ, List, length, sym, subst}
use Rattle.bd_node.specs.Index.{IsIndex}
use Rattle.bd_node.proofs.Indexing.{next_range_some, next_range_none}
use Rattle.bd_node.proofs.index.next_range.Goals as goal

pub returns-then-at-ranges : goal.returns-then-at-ranges
returns-then-at-ranges c =
    let ix : IsIndex c.args.items.now (length c.args.items.now) c.args.index.now.points.items c.as_slice-ranges.result.now = subst (λ (r : List ℕ). IsIndex c.args.items.now (length c.args.items.now) c.args.index.now.points.items r) (sym c.as_slice-ranges.ensures.value) c.requires in
    next_range_some c.args.items.now c.args.index.now.points.items c.as_slice-ranges.result.now c.args.from c.count_below-at.result ix c.count_below-at.ensures c.if-at-ranges.true

pub returns-else-at-ranges : goal.returns-else-at-ranges
returns-else-at-ranges c =
    let ix : IsIndex c.args.items.now (length c.args.items.now) c.args.index.now.points.items c.as_slice-ranges.result.now = subst (λ (r : List ℕ). IsIndex c.args.items.now (length c.args.items.now) c.args.index.now.points.items r) (sym c.as_slice-ranges.ensures.value) c.requires in
    next_range_none c.args.items.now c.args.index.now.points.items c.as_slice-ranges.result.now c.args.from c.count_below-at.result ix c.count_below-at.ensures c.if-at-ranges.false
