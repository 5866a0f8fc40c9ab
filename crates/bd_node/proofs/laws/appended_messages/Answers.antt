use Rattle.bd_node.proofs.Appending.{node_at-appended, node_appended, append_sound, append-meaning}
use Rattle.bd_node.proofs.laws.appended_messages.Goals as goal

pub returns-clause-node : goal.returns-clause-node
returns-clause-node c = node_at-appended

pub returns-clause-may : goal.returns-clause-may
returns-clause-may c = node_appended

pub returns-clause-outcome : goal.returns-clause-outcome
returns-clause-outcome c = append_sound

pub returns-clause-tree : goal.returns-clause-tree
returns-clause-tree c = append-meaning
