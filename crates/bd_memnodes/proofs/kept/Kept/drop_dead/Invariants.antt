use Rattle.std.proofs.Common.{◌+◌, ◌*◌, vec_len}
use Rattle.std.specs.HashMap.{hash_map_len}
use Rattle.bd_memnodes.proofs.Loops.{IsDropping}
use Rattle.bd_memnodes.proofs.kept.Kept.drop_dead.Given as goal

-- each round takes a node from those that wait, and one that comes to them leaves the others
abbrev pub decreases-loop-node : goal.decreases-loop-node
decreases-loop-node l = 2 * hash_map_len l.self.nodes + vec_len l.self.dead

abbrev pub invariant-loop-node : goal.invariant-loop-node
invariant-loop-node l = IsDropping l.fn.self l.self
