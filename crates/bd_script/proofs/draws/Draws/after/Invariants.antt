use Rattle.std.proofs.Common.{◌≡◌}
use Rattle.bd_script.specs.Generated.{state_after}
use Rattle.bd_script.proofs.draws.Draws.after.Given as goal

abbrev pub invariant-loop : goal.invariant-loop
invariant-loop l = l.draws.state ≡ state_after l.fn.self.state l.counter
