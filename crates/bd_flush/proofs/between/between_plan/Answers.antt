use Rattle.std.proofs.Common.{◌≡◌, ◌+◌, ◌^◌, ◌<◌, ◌∷◌, ◌∙◌, ap, reverse}
use Rattle.bd_node.specs.Nodes.{level_of}
use Rattle.bd_node.specs.declared.node.Step.{Step}
use Rattle.bd_flush.specs.Splitting.{over_step}
use Rattle.bd_path.specs.Raising.{AreRaised}
use Rattle.bd_flush.proofs.PutBetween.{found_raised, found_stuck, between_ready, between_full}
use Rattle.bd_flush.proofs.between.between_plan.Goals as goal

pub returns-in_default : goal.returns-in_default
returns-in_default c =
    found_stuck (λ v. AreRaised (c.level-level.result + 1) (c.args.parent.now ∷ reverse c.args.above.now) c.new.result.items v.items) c.level-level.result (c.args.parent.now ∷ reverse c.args.above.now) c.args.child.now c.in_ok-risen.field-0 (c.level-level.ensures ∙ ap level_of c.deref.ensures) c.in_default.is c.in_ok-risen.ensures

pub returns-in-Some-2 : goal.returns-in-Some-2
returns-in-Some-2 c =
    between_ready c.args.root c.args.next c.level-level.result (c.args.parent.now ∷ reverse c.args.above.now) c.args.child.now c.args.halves c.new.result.items c.in-Some.risen.items c.in_ok-step.field-0 c.in-Some-2.step (c.level-level.ensures ∙ ap level_of c.deref.ensures) c.new.ensures.items (found_raised (λ v. v.items) (c.level-level.result + 1) (c.args.parent.now ∷ reverse c.args.above.now) c.new.result.items c.in_ok-risen.field-0 c.in-Some.risen c.in-Some.is c.in_ok-risen.ensures) c.in-Some-2.is c.in_ok-step.ensures

pub returns-in-None : goal.returns-in-None
returns-in-None c =
    between_full c.args.root c.args.next c.level-level.result (c.args.parent.now ∷ reverse c.args.above.now) c.args.child.now c.args.halves c.new.result.items c.in-Some.risen.items c.in_ok-step.field-0 (λ (s : Step). (s ≡ over_step c.args.root c.args.next c.args.child.now.id (c.level-level.result + 1) c.args.halves c.in-Some.risen.items) × (c.args.next + 1 < 2 ^ 64)) (c.level-level.ensures ∙ ap level_of c.deref.ensures) c.new.ensures.items (found_raised (λ v. v.items) (c.level-level.result + 1) (c.args.parent.now ∷ reverse c.args.above.now) c.new.result.items c.in_ok-risen.field-0 c.in-Some.risen c.in-Some.is c.in_ok-risen.ensures) c.in-None.is c.in_ok-step.ensures
