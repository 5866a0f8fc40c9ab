use Rattle.std.proofs.Common.{◌≡◌, ◌+◌, ◌^◌, ◌<◌, reverse}
use Rattle.bd_node.specs.declared.node.Step.{Step}
use Rattle.bd_flush.specs.Splitting.{over_step}
use Rattle.bd_flush.proofs.PushPlans.{over_full}
use Rattle.bd_flush.proofs.pushing.plan_over.Goals as goal

pub returns-in-None : goal.returns-in-None
returns-in-None c =
    over_full (λ v. v.items) c.args.root c.args.next (reverse c.args.above.now) c.args.parent c.args.child c.args.halves c.in_ok-others.field-0 c.in-Some.others c.in_ok-step.field-0
    (λ (s : Step). (s ≡ over_step c.args.root c.args.next c.args.child 1 c.args.halves c.in-Some.others.items) × (c.args.next + 1 < 2 ^ 64)) c.in-Some.is c.in_ok-others.ensures c.in-None.is c.in_ok-step.ensures
