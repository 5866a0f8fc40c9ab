use Rattle.std.proofs.Common.{ℕ, ◌≤◌, List, length, get_or, sym, subst, ◌∙◌, arith}
use Rattle.bd_node.specs.Index.{IsIndex}
use Rattle.bd_node.proofs.Indexing.{next_on_some, next_on_none, read_key, read_other}
use Rattle.bd_node.proofs.index.next_on.Goals as goal
use Rattle.bd_node.proofs.index.next_on.Goals.{else-at-points-via-then-at-points+else-eq, else-at-points-via-else-at-points}

pub returns-then-eq : goal.returns-then-eq
returns-then-eq c =
    let points : List ℕ = c.as_slice-points.result.now in
    let ix : IsIndex c.args.items.now (length c.args.items.now) c.as_slice-points.result.now c.args.index.now.ranges.items = subst (λ (p : List ℕ). IsIndex c.args.items.now (length c.args.items.now) p c.args.index.now.ranges.items) (sym c.as_slice-points.ensures.value) c.requires in
    next_on_some c.args.items.now c.as_slice-points.result.now c.args.index.now.ranges.items c.args.key.now c.args.from c.position-at.result ix c.position-at.ensures c.if-at-points.true
    (read_key c.args.items.now (get_or c.as_slice-points.result.now c.position-at.result 0) c.index-items-points.result c.own_key.result.now c.args.key.now (ix.below c.position-at.result c.if-at-points.true) c.index-items-points.is c.own_key.ensures (sym c.eq.ensures ∙ c.if-eq.true))

pub returns-else-at-points : goal.returns-else-at-points
returns-else-at-points c =
    let points : List ℕ = c.as_slice-points.result.now in
    let ix : IsIndex c.args.items.now (length c.args.items.now) c.as_slice-points.result.now c.args.index.now.ranges.items = subst (λ (p : List ℕ). IsIndex c.args.items.now (length c.args.items.now) p c.args.index.now.ranges.items) (sym c.as_slice-points.ensures.value) c.requires in
    next_on_none c.args.items.now c.as_slice-points.result.now c.args.index.now.ranges.items c.args.key.now c.args.from c.position-at.result ix c.position-at.ensures
    (λ within same. elim c.else-at-points.branch [
      | else-at-points-via-then-at-points+else-eq w ↦ read_other c.args.items.now (get_or c.as_slice-points.result.now c.position-at.result 0) w.index-items-points.result w.own_key.result.now c.args.key.now (ix.below c.position-at.result within) w.index-items-points.is w.own_key.ensures (sym w.eq.ensures ∙ w.if-eq.false) same
      | else-at-points-via-else-at-points w ↦ (let l : length c.as_slice-points.result.now ≤ c.position-at.result = w.if-at-points.false in absurd (omega arith))
    ])
