use Rattle.std.proofs.Common.{ap, ◌∙◌}
use Rattle.std.specs.Rc.{rc_with_value}
use Rattle.std.proofs.lemmas.Result.{IfOk-weaker, on_err_weaker}
use Rattle.bd_node.specs.declared.node.Node.{Node}
use Rattle.bd_pager.proofs.PushedLemmas.{held_pushed}
use Rattle.bd_pager.proofs.pushing.push_nodes.Goals as goal

pub returns-in-Some-clause-ok : goal.returns-in-Some-clause-ok
returns-in-Some-clause-ok c =
    let new = c.push_between.new in
    IfOk-weaker c.push_between.result _ _ (λ left made. held_pushed c.args.push c.args.parent.now c.args.child.now new.child c.in-Some.node.now new.parent c.in-Some.ensures.value left made) c.push_between.ensures.ok

pub returns-in-Some-clause-err : goal.returns-in-Some-clause-err
returns-in-Some-clause-err c =
    on_err_weaker c.push_between.result (λ same. (ap (λ (n : Node). rc_with_value c.args.parent.now n) (same.0 ∙ c.in-Some.ensures.value), same.1)) c.push_between.ensures.err
