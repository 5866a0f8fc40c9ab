use Rattle.std.proofs.Common.{◌≡◌, ◌++◌, drop}
use Rattle.bd_inner.specs.Carving.{parted}
use Rattle.bd_inner.proofs.carving.parted.Given as goal

abbrev pub invariant-loop-place : goal.invariant-loop-place
invariant-loop-place l = l.list.items ++ parted l.seen l.key (drop l.place l.edges) ≡ parted l.seen l.key l.edges
