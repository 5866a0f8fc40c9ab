use Rattle.std.proofs.Common.{◌∙◌}
use Rattle.bd_node.specs.Steps.{IsWornBy}
use Rattle.bd_counts.specs.Counting.{IsWornByNames}
use Rattle.bd_message.proofs.Causes.{cause_weaker}
use Rattle.bd_counts.proofs.Worn.{worn_by_step}
use Rattle.bd_counts.proofs.raising.raised.Goals as goal

pub returns-clause-cause : goal.returns-clause-cause
returns-clause-cause g c =
    let t = g.S.Counted.table c.args.source.now in
    cause_weaker (g.S.Counted.fault_count c.args.source.now) (g.S.Counted.fault_count c.args.source.now) (g.S.Counted.last_failed c.args.source.now) (λ b. ⊥)
    (IsWornByNames t.count c.as_slice.result.now) (IsWornBy t c.args.step.now)
    (worn_by_step t c.args.step.now c.as_slice.result.now (c.as_slice.ensures.value ∙ c.in_ok-names.ensures)) c.raise.result c.raise.ensures.cause
