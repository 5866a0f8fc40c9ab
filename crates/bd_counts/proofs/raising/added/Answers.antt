use Rattle.std.proofs.Common.{ℕ, ◌+◌, ◌∙◌, ap, List}
use Rattle.bd_node.specs.Steps.{IsWornByAdding}
use Rattle.std.proofs.lemmas.Result.{IfOk-weaker}
use Rattle.bd_counts.specs.Naming.{times_among}
use Rattle.bd_counts.proofs.Names.{added_names_times}
use Rattle.bd_counts.specs.Counting.{IsWornByNames}
use Rattle.bd_message.proofs.Causes.{cause_weaker}
use Rattle.bd_counts.proofs.Worn.{worn_by_added}
use Rattle.bd_counts.proofs.raising.added.Goals as goal

pub returns-clause-cause : goal.returns-clause-cause
returns-clause-cause g c =
    let t = g.S.Counted.table c.args.source.now in
    cause_weaker (g.S.Counted.fault_count c.args.source.now) (g.S.Counted.fault_count c.args.source.now) (g.S.Counted.last_failed c.args.source.now) (λ b. ⊥)
    (IsWornByNames t.count c.as_slice.result.now) (IsWornByAdding t c.args.made.now c.args.list.now)
    (worn_by_added t c.args.made.now c.args.list.now c.as_slice.result.now (c.as_slice.ensures.value ∙ c.in_ok-names.ensures)) c.raise.result c.raise.ensures.cause

pub returns-clause-counts : goal.returns-clause-counts
returns-clause-counts g c =
    let t = g.S.Counted.table c.args.source.now in
    IfOk-weaker c.raise.result _ _
    (λ counts h k. h k ∙ ap (λ n. t.count k + n) (ap (λ (xs : List ℕ). times_among xs k) (c.as_slice.ensures.value ∙ c.in_ok-names.ensures) ∙ added_names_times c.args.made.now c.args.list.now k))
    c.raise.ensures.counts
