use Rattle.std.proofs.Common.{length, take, ◌++◌}
use Rattle.bd_table.specs.Tables.{AreFreeSlots, slots_of}
use Rattle.bd_pager.proofs.entries.hold_taken.Given as goal

abbrev pub invariant-loop-entry : goal.invariant-loop-entry
invariant-loop-entry l = AreFreeSlots (length l.fn.free) (l.at ++ slots_of (take l.entry-index l.entries)) l.free
