use Rattle.std.proofs.Common.{subst}
use Rattle.bd_node.specs.Tables.{IsSound}
use Rattle.bd_memnodes.specs.Seen.{Seen, nodes_of, table}
use Rattle.bd_memnodes.proofs.store.MemNodes.nodes_are_sound.Goals as goal

pub returns : goal.returns
returns c = subst (λ (s : Seen). IsSound (nodes_of s) (table s)) c.self.view_is c.self.invariant.sound
