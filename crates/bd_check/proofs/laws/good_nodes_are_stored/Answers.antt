use Rattle.bd_check.proofs.EntryNodes.{held, stored, no_node}
use Rattle.bd_check.proofs.laws.good_nodes_are_stored.Goals as goal

pub returns-clause-held : goal.returns-clause-held
returns-clause-held c = held c.images_are_decoded.ensures.found

pub returns-clause-stored : goal.returns-clause-stored
returns-clause-stored c image t are good = stored c.images_are_decoded.ensures.found image t good are

pub returns-clause-others : goal.returns-clause-others
returns-clause-others c image t are = no_node t are image
