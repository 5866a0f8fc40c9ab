use Rattle.bd_node.proofs.Stepping.{isolated_private, isolated_root, isolated_none}
use Rattle.bd_node.proofs.laws.changes_of_private_nodes_touch_no_other.Goals as goal

pub returns-clause-private : goal.returns-clause-private
returns-clause-private c = isolated_private

pub returns-clause-root : goal.returns-clause-root
returns-clause-root c = isolated_root

pub returns-clause-none : goal.returns-clause-none
returns-clause-none c = isolated_none
