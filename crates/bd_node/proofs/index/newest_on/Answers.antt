use Rattle.std.proofs.Common.{◌≡◌, ℕ, ◌-◌, ◌<◌, ◌≤◌, List, length, get_or, sym, subst, ◌∙◌, arith}
use Rattle.bd_node.specs.Index.{IsIndex, key_at}
use Rattle.bd_node.proofs.Indexing.{newest_on_some, newest_on_none, read_key, read_other}
use Rattle.bd_node.proofs.index.newest_on.Goals as goal
use Rattle.bd_node.proofs.index.newest_on.Goals.{else-at-gt0-via-then-at-gt0+then-points-at+else-eq, else-at-gt0-via-then-at-gt0+else-points-at, else-at-gt0-via-else-at-gt0}

pub returns-then-eq : goal.returns-then-eq
returns-then-eq c =
    let points : List ℕ = c.as_slice-points.result.now in
    let ix : IsIndex c.args.items.now (length c.args.items.now) c.as_slice-points.result.now c.args.index.now.ranges.items = subst (λ (p : List ℕ). IsIndex c.args.items.now (length c.args.items.now) p c.args.index.now.ranges.items) (sym c.as_slice-points.ensures.value) c.requires in
    let some : 0 < c.position-at.result = c.if-at-gt0.true in
    let fits : c.position-at.result ≤ length c.as_slice-points.result.now = c.position-at.ensures.within in
    newest_on_some c.args.items.now c.as_slice-points.result.now c.args.index.now.ranges.items c.args.key.now c.args.from c.position-at.result (c.position-at.result - 1) ix c.position-at.ensures (omega arith) c.if-points-at.true
    (read_key c.args.items.now (get_or c.as_slice-points.result.now (c.position-at.result - 1) 0) c.index-items-points.result c.own_key.result.now c.args.key.now (ix.below (c.position-at.result - 1) (omega arith)) c.index-items-points.is c.own_key.ensures (sym c.eq.ensures ∙ c.if-eq.true))

pub returns-else-at-gt0 : goal.returns-else-at-gt0
returns-else-at-gt0 c =
    let points : List ℕ = c.as_slice-points.result.now in
    let ix : IsIndex c.args.items.now (length c.args.items.now) c.as_slice-points.result.now c.args.index.now.ranges.items = subst (λ (p : List ℕ). IsIndex c.args.items.now (length c.args.items.now) p c.args.index.now.ranges.items) (sym c.as_slice-points.ensures.value) c.requires in
    let fits : c.position-at.result ≤ length c.as_slice-points.result.now = c.position-at.ensures.within in
    newest_on_none c.args.items.now c.as_slice-points.result.now c.args.index.now.ranges.items c.args.key.now c.args.from c.position-at.result ix c.position-at.ensures
    (λ last is low same. let back : last ≡ c.position-at.result - 1 = omega arith in
    elim c.else-at-gt0.branch [
      | else-at-gt0-via-then-at-gt0+then-points-at+else-eq w ↦ read_other c.args.items.now (get_or c.as_slice-points.result.now (c.position-at.result - 1) 0) w.index-items-points.result w.own_key.result.now c.args.key.now (ix.below (c.position-at.result - 1) (omega arith)) w.index-items-points.is w.own_key.ensures (sym w.eq.ensures ∙ w.if-eq.false)
          (subst (λ (j : ℕ). key_at c.args.items.now (get_or c.as_slice-points.result.now j 0) ≡ c.args.key.now) back same)
      | else-at-gt0-via-then-at-gt0+else-points-at w ↦ (let l : get_or c.as_slice-points.result.now (c.position-at.result - 1) 0 < c.args.from = w.if-points-at.false in
          let m : c.args.from ≤ get_or c.as_slice-points.result.now (c.position-at.result - 1) 0 = subst (λ (j : ℕ). c.args.from ≤ get_or c.as_slice-points.result.now j 0) back low in absurd (omega arith))
      | else-at-gt0-via-else-at-gt0 w ↦ (let l : c.position-at.result ≤ 0 = w.if-at-gt0.false in absurd (omega arith))
    ])
