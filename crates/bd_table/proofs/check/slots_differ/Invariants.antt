use Rattle.std.proofs.Common.{◌++◌, take}
use Rattle.bd_slots.specs.Layout.{AreSlots}
use Rattle.bd_table.specs.Tables.{AreFreeSlots, slots_of}
use Rattle.bd_table.proofs.check.slots_differ.Given as goal

abbrev pub invariant-loop-entry : goal.invariant-loop-entry
invariant-loop-entry l = record {
  free : AreFreeSlots l.slots (l.at ++ slots_of (take l.entry-index l.entries)) l.free;
  slots : AreSlots l.slots (l.at ++ slots_of (take l.entry-index l.entries));
}
