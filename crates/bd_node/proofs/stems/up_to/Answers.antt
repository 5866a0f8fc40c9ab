use Rattle.std.proofs.Common.{◌+◌, ◌-◌, ◌/◌, ◌<◌, ℕ, get_or, refl, sym, ap, ◌∙◌, arith}
use Rattle.std.specs.Ordering.{is_lt}
use Rattle.bd_node.proofs.ByStem.{read_stem, stem_up, stem_down}
use Rattle.bd_node.proofs.stems.up_to.Goals as goal

pub loop-low-preserved-then-is_lt : goal.loop-low-preserved-then-is_lt
loop-low-preserved-then-is_lt c =
    let middle : ℕ = c.loop-low.low + (c.loop-low.high - c.loop-low.low) / 2 in
    let some : c.loop-low.low < c.loop-low.high = c.loop-low-test.true in
    let end = c.loop-low.invariant.end in
    let known = c.requires.known in
    let below = c.requires.below (c.loop-low.low + (c.loop-low.high - c.loop-low.low) / 2) (omega arith) in
    stem_down c.args.items.now c.args.count c.args.stems.now c.args.key.now c.stem.result.now c.loop-low.low c.loop-low.high (c.loop-low.low + (c.loop-low.high - c.loop-low.low) / 2) c.requires c.loop-low.invariant c.loop-low-test.true refl
    (read_stem c.args.items.now (get_or c.args.stems.now (c.loop-low.low + (c.loop-low.high - c.loop-low.low) / 2) 0) c.index-items-stems.result c.stem.result.now (omega arith) c.index-items-stems.is c.stem.ensures)
    (ap is_lt (sym c.cmp.ensures) ∙ sym c.is_lt.ensures ∙ c.if-is_lt.true)

pub loop-low-preserved : goal.loop-low-preserved
loop-low-preserved c =
    let some : c.loop-low.low < c.loop-low.high = c.loop-low-test.true in
    let end = c.loop-low.invariant.end in
    let known = c.requires.known in
    let below = c.requires.below (c.loop-low.low + (c.loop-low.high - c.loop-low.low) / 2) (omega arith) in
    stem_up c.args.items.now c.args.count c.args.stems.now c.args.key.now c.stem.result.now c.loop-low.low c.loop-low.high (c.loop-low.low + (c.loop-low.high - c.loop-low.low) / 2) c.requires c.loop-low.invariant c.loop-low-test.true refl
    (read_stem c.args.items.now (get_or c.args.stems.now (c.loop-low.low + (c.loop-low.high - c.loop-low.low) / 2) 0) c.index-items-stems.result c.stem.result.now (omega arith) c.index-items-stems.is c.stem.ensures)
    (ap is_lt (sym c.cmp.ensures) ∙ sym c.is_lt.ensures ∙ c.if-is_lt.false)
