use Rattle.std.proofs.Common.{ℕ, false, ◌∙◌, List, Err}
use Rattle.bd_message.proofs.Causes.{cause_weaker, cause_passed}
use Rattle.bd_node.specs.Steps.{IsWornByAdding}
use Rattle.bd_counts.specs.Counting.{IsWornByNames}
use Rattle.bd_counts.proofs.Worn.{worn_by_added}
use Rattle.bd_memnodes.specs.Maps.{count_in}
use Rattle.bd_memnodes.specs.Stored.{table_in}
use Rattle.bd_memnodes.proofs.kept.Kept.addition.Goals as goal

pub returns-in-Err-clause-cause : goal.returns-in-Err-clause-cause
returns-in-Err-clause-cause c =
    let xs : List ℕ = c.as_slice.result.now in
    cause_passed {T = Unit {0}} 0 0 false (λ _. ⊥) (IsWornByAdding (table_in c.args.self.now) c.args.made c.args.list.now) c.in-Err.fault
    (cause_weaker {T = Unit {0}} 0 0 false (λ _. ⊥) (IsWornByNames (count_in c.args.self.now.counts) xs) (IsWornByAdding (table_in c.args.self.now) c.args.made c.args.list.now)
    (worn_by_added (table_in c.args.self.now) c.args.made c.args.list.now xs (c.as_slice.ensures.value ∙ c.in_ok-addition.ensures.names)) (Err c.in-Err.fault) c.in-Err.ensures.cause)
