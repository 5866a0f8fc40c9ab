use Rattle.std.proofs.Common.{◌≡◌, drop}
use Rattle.bd_stream.specs.Exporting.{are_rising}
use Rattle.bd_stream.proofs.listing.are_rising.Given as goal

-- the names that are left rise above the last one where all rise
abbrev pub invariant-loop-listed : goal.invariant-loop-listed
invariant-loop-listed l = are_rising l.last (drop l.listed-index l.names) ≡ are_rising l.fn.after l.fn.names
