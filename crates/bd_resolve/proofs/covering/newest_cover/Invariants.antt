use Rattle.std.proofs.Common.{◌≤◌, length}
use Rattle.bd_resolve.specs.Following.{NoneCovers}
use Rattle.bd_resolve.proofs.covering.newest_cover.Given as goal

abbrev pub invariant-loop-place : goal.invariant-loop-place
invariant-loop-place l = record {
  within : l.place ≤ length l.buffer;
  none : NoneCovers l.buffer l.place l.prefix;
}

abbrev pub decreases-loop-place : goal.decreases-loop-place
decreases-loop-place l = l.place
