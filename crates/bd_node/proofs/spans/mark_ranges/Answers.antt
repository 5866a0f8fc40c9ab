use Rattle.std.proofs.Common.{◌+◌, List, ℕ, Bool, ◌<◌, length, get_or, sym, subst, ap, arith}
use Rattle.std.specs.Option.{option_copied}
use Rattle.bd_node.specs.Index.{IsIndex}
use Rattle.bd_node.proofs.Marking.{AreBothMarked, both_first, both_marked, both_passed, both_all}
use Rattle.bd_node.proofs.spans.mark_ranges.Goals as goal
use Rattle.bd_node.proofs.spans.mark_ranges.Goals.{then-can_touch, else-can_touch}

pub index_mut-requires : goal.index_mut-requires
index_mut-requires c =
    let ix : IsIndex c.args.items.now (length c.args.items.now) c.args.index.now.points.items c.as_slice-ranges.result.now = subst (λ (p : List ℕ). IsIndex c.args.items.now (length c.args.items.now) c.args.index.now.points.items p) (sym c.as_slice-ranges.ensures.value) c.requires.index in
    let low : get_or c.as_slice-ranges.result.now c.loop-at.at 0 < length c.args.items.now = ix.under c.loop-at.at c.loop-at-test.true in
    omega (arith, c.loop-at.invariant.points_done.long, c.loop-at.mask.ok)

pub loop-at-init : goal.loop-at-init
loop-at-init c = both_first c.args.mask.now.items c.args.items.now c.args.lo.now (option_copied c.args.hi) c.args.index.now.points.items c.as_slice-ranges.result.now c.requires.points

pub loop-at-preserved : goal.loop-at-preserved
loop-at-preserved c =
    let ix : IsIndex c.args.items.now (length c.args.items.now) c.args.index.now.points.items c.as_slice-ranges.result.now = subst (λ (p : List ℕ). IsIndex c.args.items.now (length c.args.items.now) c.args.index.now.points.items p) (sym c.as_slice-ranges.ensures.value) c.requires.index in
    let F : List Bool → Type 0 = λ (new : List Bool). AreBothMarked new c.args.items.now c.args.lo.now (option_copied c.args.hi) c.args.index.now.points.items c.as_slice-ranges.result.now (c.loop-at.at + 1) in
    elim c.if-can_touch.branch [
      | then-can_touch w ↦ subst F (sym (ap (λ v. v.items) w.mask-is))
          (both_marked c.loop-at.mask.items c.args.items.now c.args.lo.now (option_copied c.args.hi) c.args.index.now.points.items c.as_slice-ranges.result.now c.loop-at.at c.index-items-ranges.result c.loop-at.invariant
          (ix.under c.loop-at.at c.loop-at-test.true) c.index-items-ranges.is (c.can_touch.ensures.0 w.if-can_touch.true))
      | else-can_touch w ↦ subst F (sym (ap (λ v. v.items) w.mask-is))
          (both_passed c.loop-at.mask.items c.args.items.now c.args.lo.now (option_copied c.args.hi) c.args.index.now.points.items c.as_slice-ranges.result.now c.loop-at.at c.index-items-ranges.result c.loop-at.invariant
          c.index-items-ranges.is (λ can. (let t = c.can_touch.ensures.1 can in let f = w.if-can_touch.false in (cc))))
    ]

pub returns : goal.returns
returns c =
    let ix : IsIndex c.args.items.now (length c.args.items.now) c.args.index.now.points.items c.as_slice-ranges.result.now = subst (λ (p : List ℕ). IsIndex c.args.items.now (length c.args.items.now) c.args.index.now.points.items p) (sym c.as_slice-ranges.ensures.value) c.requires.index in
    both_all c.loop-at.mask.items c.args.items.now c.args.lo.now (option_copied c.args.hi) c.args.index.now.points.items c.as_slice-ranges.result.now c.loop-at.at ix c.loop-at.invariant c.loop-at-test.false
