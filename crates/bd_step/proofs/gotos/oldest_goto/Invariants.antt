use Rattle.std.specs.Option.{option_copied}
use Rattle.bd_step.proofs.OldestGotos.{FreeBefore}
use Rattle.bd_step.proofs.gotos.oldest_goto.Given as goal

abbrev pub invariant-loop-index : goal.invariant-loop-index
invariant-loop-index g l = FreeBefore (g.S.NodeStore.table l.store).level l.top l.buffer l.edge (option_copied l.hi) l.index
