use Rattle.std.proofs.Common.{take}
use Rattle.bd_pager.specs.Entries.{AreSavedSpots}
use Rattle.bd_pager.specs.Places.{spots_in}
use Rattle.bd_pager.proofs.entries.saved_spots.Given as goal

abbrev pub invariant-loop-entry : goal.invariant-loop-entry
invariant-loop-entry l = AreSavedSpots (take l.entry-index l.entries) (spots_in l.spots)
