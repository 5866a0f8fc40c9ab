use Rattle.bd_node.proofs.Meanings.{at-meets, meets_agree, at-none}
use Rattle.bd_node.proofs.LawLemmas.{keys_meet, others_have_nothing}
use Rattle.bd_node.proofs.laws.nodes_have_one_meaning.Goals as goal

pub returns-clause-meets : goal.returns-clause-meets
returns-clause-meets c = at-meets

pub returns-clause-one : goal.returns-clause-one
returns-clause-one c = meets_agree

pub returns-clause-keys : goal.returns-clause-keys
returns-clause-keys c = keys_meet

pub returns-clause-others : goal.returns-clause-others
returns-clause-others c = others_have_nothing

pub returns-clause-nothing : goal.returns-clause-nothing
returns-clause-nothing c = at-none
