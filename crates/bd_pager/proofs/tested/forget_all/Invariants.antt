use Rattle.std.proofs.Common.{ℕ, IsTrue}
use Rattle.bd_pager.specs.Testing.{is_tested}
use Rattle.bd_pager.proofs.tested.forget_all.Given as goal

-- what counts still did before
abbrev pub invariant-loop-id : goal.invariant-loop-id
invariant-loop-id l = (id : ℕ) → IsTrue (is_tested l.tested id) → IsTrue (is_tested l.fn.tested id)
