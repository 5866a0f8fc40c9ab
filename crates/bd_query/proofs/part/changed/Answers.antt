use Rattle.std.proofs.Common.{inr}
use Rattle.bd_node.specs.Nodes.{message_names}
use Rattle.bd_query.proofs.part.changed.Goals as goal

pub returns-in_ok-clone-in-Put-clause-named : goal.returns-in_ok-clone-in-Put-clause-named
returns-in_ok-clone-in-Put-clause-named c = inr (c.known.ensures.named (message_names c.args.message.now))

pub returns-in-Del-clause-named : goal.returns-in-Del-clause-named
returns-in-Del-clause-named c = inr (c.known-in-Del.ensures.named (message_names c.args.message.now))
