use Rattle.std.proofs.Common.{sym, subst}
use Rattle.bd_node.specs.declared.node.Step.{Step}
use Rattle.bd_node.specs.Steps.{IsStep, StayAbove}
use Rattle.bd_memnodes.specs.Maps.{nodes_in}
use Rattle.bd_memnodes.specs.Plans.{step_of}
use Rattle.bd_memnodes.specs.Stored.{table_in}
use Rattle.bd_memnodes.proofs.Same.{of_same, same_whole}
use Rattle.bd_memnodes.proofs.kept.Kept.commit.Goals as goal

pub returns-in_err-make_room-clause-whole : goal.returns-in_err-make_room-clause-whole
returns-in_err-make_room-clause-whole c = same_whole c.args.self.now c.make_room.new.self c.make_room.ensures.same c.requires.whole

pub carry_out-requires-clause-whole : goal.carry_out-requires-clause-whole
carry_out-requires-clause-whole c = same_whole c.args.self.now c.make_room.new.self c.make_room.ensures.same c.requires.whole

pub carry_out-requires-clause-step : goal.carry_out-requires-clause-step
carry_out-requires-clause-step c =
    of_same (λ n t. IsStep t (step_of c.in_ok-plan.plan)) c.args.self.now c.make_room.new.self c.make_room.ensures.same
    (subst (λ (s : Step). IsStep (table_in c.args.self.now) s) (sym c.in_ok-plan.ensures.plan.step_is) c.requires.step)

pub carry_out-requires-clause-above : goal.carry_out-requires-clause-above
carry_out-requires-clause-above c =
    of_same (λ n t. StayAbove n t (step_of c.in_ok-plan.plan)) c.args.self.now c.make_room.new.self c.make_room.ensures.same
    (subst (λ (s : Step). StayAbove (nodes_in c.args.self.now.nodes) (table_in c.args.self.now) s) (sym c.in_ok-plan.ensures.plan.step_is) c.requires.above)
