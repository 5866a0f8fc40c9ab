use Rattle.bd_node.proofs.Sound.{root_count, root_unnamed}
use Rattle.bd_node.proofs.Privacy.{names_no_private}
use Rattle.bd_node.proofs.laws.private_nodes_have_one_way.Goals as goal

pub returns-clause-root : goal.returns-clause-root
returns-clause-root c = root_count

pub returns-clause-unnamed : goal.returns-clause-unnamed
returns-clause-unnamed c = root_unnamed

pub returns-clause-one_way : goal.returns-clause-one_way
returns-clause-one_way c = names_no_private
