use Rattle.std.proofs.Common.{List, ℕ, length, sym, subst, arith}
use Rattle.bd_node.specs.Index.{IsIndex}
use Rattle.bd_node.proofs.Owning.{owned_none, owned_more, owned_all}
use Rattle.bd_node.proofs.owners.owners.Goals as goal

pub loop-at-init : goal.loop-at-init
loop-at-init c = owned_none c.in_ok-owners.owners.items c.args.edges.now c.args.items.now c.as_slice-points.result.now (omega (arith, c.in_ok-owners.ensures.len, c.in_ok-owners.owners.ok)) c.requires.first

pub loop-at-preserved : goal.loop-at-preserved
loop-at-preserved c =
    owned_more c.loop-at.owners.items c.give.new.owners.items c.args.edges.now c.args.items.now c.as_slice-points.result.now c.loop-at.at c.loop-at.first c.count_before-last.result _
    c.loop-at.invariant c.end_of.ensures c.count_before-last.ensures c.give.ensures

pub returns : goal.returns
returns c =
    let ix : IsIndex c.args.items.now (length c.args.items.now) c.as_slice-points.result.now c.args.index.now.ranges.items = subst (λ (p : List ℕ). IsIndex c.args.items.now (length c.args.items.now) p c.args.index.now.ranges.items) (sym c.as_slice-points.ensures.value) c.requires.index in
    owned_all c.loop-at.owners.items c.args.edges.now c.args.items.now c.as_slice-points.result.now c.args.index.now.ranges.items c.loop-at.at c.loop-at.first ix c.loop-at.invariant c.loop-at-test.false
