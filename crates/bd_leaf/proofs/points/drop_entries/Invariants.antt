use Rattle.std.proofs.Common.{◌≡◌, ◌++◌, take}
use Rattle.bd_leaf.specs.Points.{dels_of, messages_of}
use Rattle.bd_leaf.proofs.points.drop_entries.Given as goal

-- the points of the entries so far
abbrev pub invariant-loop-entry : goal.invariant-loop-entry
invariant-loop-entry l = messages_of l.points.items ≡ messages_of l.fn.points.items ++ dels_of (take l.entry-index l.entries)
