use Rattle.std.proofs.Common.{length, take}
use Rattle.bd_table.specs.Tables.{AreFreeSlots}
use Rattle.bd_pager.proofs.entries.hold_all.Given as goal

abbrev pub invariant-loop-slot : goal.invariant-loop-slot
invariant-loop-slot l = AreFreeSlots (length l.fn.free) (take l.slot-index l.taken) l.free
