use Rattle.std.proofs.Common.{◌≡◌, map}
use Rattle.bd_memnodes.specs.Plans.{change_of}
use Rattle.bd_memnodes.proofs.plan.exchanges.Given as goal

abbrev pub invariant-loop-change : goal.invariant-loop-change
invariant-loop-change l = map change_of l.list.items ≡ l.yielded
