use Rattle.std.proofs.Common.{◌+◌, ◌-◌, ◌/◌, ℕ, refl, sym, subst, ◌∙◌}
use Rattle.bd_node.proofs.Spots.{IsSpotHalving, spot_up, spot_down}
use Rattle.bd_node.proofs.index.halved.Goals as goal

pub loop-low-preserved-then-is_before : goal.loop-low-preserved-then-is_before
loop-low-preserved-then-is_before g c =
    subst (λ (n : ℕ). IsSpotHalving c.args.items.now c.args.points.now (c.args.key.now, c.args.place) (c.loop-low.low + (c.loop-low.high - c.loop-low.low) / 2 + 1) c.loop-low.high c.args.steps.now n) (sym c.is_before.ensures.step)
    (spot_up c.args.items.now c.args.points.now (c.args.key.now, c.args.place) c.loop-low.low c.loop-low.high (c.loop-low.low + (c.loop-low.high - c.loop-low.low) / 2) c.args.steps.now c.loop-low.steps c.requires.order c.loop-low.invariant c.loop-low-test.true refl
    (sym c.is_before.ensures.value ∙ c.if-is_before.true))

pub loop-low-preserved : goal.loop-low-preserved
loop-low-preserved g c =
    subst (λ (n : ℕ). IsSpotHalving c.args.items.now c.args.points.now (c.args.key.now, c.args.place) c.loop-low.low (c.loop-low.low + (c.loop-low.high - c.loop-low.low) / 2) c.args.steps.now n) (sym c.is_before.ensures.step)
    (spot_down c.args.items.now c.args.points.now (c.args.key.now, c.args.place) c.loop-low.low c.loop-low.high (c.loop-low.low + (c.loop-low.high - c.loop-low.low) / 2) c.args.steps.now c.loop-low.steps c.requires.order c.loop-low.invariant c.loop-low-test.true refl
    (sym c.is_before.ensures.value ∙ c.if-is_before.false))
