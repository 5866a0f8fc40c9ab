use Rattle.std.proofs.Common.{arith}
use Rattle.std.proofs.lemmas.Result.{IfOk-weaker}
use Rattle.bd_graft.specs.declared.packing.Stack.{Stack}
use Rattle.bd_graft.specs.Packing.IsLaidOn.{new}
use Rattle.bd_graft.proofs.packing.laid_on.Goals as goal

pub returns-then-size-stack : goal.returns-then-size-stack
returns-then-size-stack c =
    IfOk-weaker c.joined.result _ _ (λ (s : Stack) joined. new c.in_ok-stack.stack (omega (arith, c.if-size-stack.true, c.size.ensures)) c.in_ok-stack.ensures joined) c.joined.ensures
