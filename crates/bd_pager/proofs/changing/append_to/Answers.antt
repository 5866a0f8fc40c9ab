use Rattle.std.proofs.Common.{ap, ◌∙◌}
use Rattle.std.specs.Rc.{rc_with_value}
use Rattle.std.proofs.lemmas.Result.{on_err_weaker}
use Rattle.bd_node.specs.declared.node.Node.{Node}
use Rattle.bd_pager.proofs.changing.append_to.Goals as goal

pub returns-in-Some-clause-err : goal.returns-in-Some-clause-err
returns-in-Some-clause-err c =
    on_err_weaker c.append.result (λ same. ap (λ (n : Node). rc_with_value c.args.shared.now n) (same ∙ c.in-Some.ensures.value)) c.append.ensures.err
