use Rattle.bd_node.proofs.Stepping.{given_meaning, committed_meaning}
use Rattle.bd_node.proofs.laws.commits_give_what_the_step_says.Goals as goal

pub returns-clause-given : goal.returns-clause-given
returns-clause-given c = given_meaning

pub returns-clause-meaning : goal.returns-clause-meaning
returns-clause-meaning c = committed_meaning
