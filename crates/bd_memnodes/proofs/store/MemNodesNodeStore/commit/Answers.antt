use Rattle.std.proofs.Common.{false, Err}
use Rattle.bd_message.specs.KeyMaps.{HasMapCause}
use Rattle.bd_node.specs.Tables.{IsSound}
use Rattle.bd_node.specs.Steps.{IsStep, StayAbove, IsWornBy}
use Rattle.bd_memnodes.proofs.Views.{of_kept, to_kept}
use Rattle.bd_memnodes.proofs.store.MemNodesNodeStore.commit.Goals as goal

pub commit-requires-clause-step : goal.commit-requires-clause-step
commit-requires-clause-step c =
    to_kept (λ n t. IsStep t c.args.step) c.self.inside.kept c.self.inside.visits c.args.self.now c.self.view_is c.requires.step

pub commit-requires-clause-above : goal.commit-requires-clause-above
commit-requires-clause-above c =
    to_kept (λ n t. StayAbove n t c.args.step) c.self.inside.kept c.self.inside.visits c.args.self.now c.self.view_is
    (c.requires.in_place tt (of_kept IsSound c.self.inside.kept c.self.inside.visits c.args.self.now c.self.view_is c.self.invariant.sound)).above

pub returns-in-Err-clause-cause : goal.returns-in-Err-clause-cause
returns-in-Err-clause-cause c =
    of_kept (λ n t. HasMapCause {T = Unit {0}} 0 0 false (λ _. ⊥) (IsWornBy t c.args.step) (Err c.in-Err.fault)) c.self.inside.kept c.self.inside.visits c.args.self.now c.self.view_is
    c.in-Err.ensures.cause
