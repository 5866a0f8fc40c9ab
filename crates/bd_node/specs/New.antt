-- The nodes that a new store has.
use Rattle.std.specs.Prelude.{◌==◌, if◌then◌else◌, [], ◌∷◌, None, Some}
use Rattle.bd_node.specs.declared.node.Node.{Node}
use Rattle.bd_node.specs.declared.node.Node.TheVariants.{Inner}
use Rattle.bd_node.specs.Meaning.{Nodes}
use Rattle.bd_node.specs.Tables.{Table}
use Rattle.bd_node.specs.Closed.{table_from}

-- a root with one edge, without a child
abbrev pub new_root : Node
new_root =
    Inner 1 (record { pivot = []; lift = 0; source = []; child = None; seen = 0 } ∷ []) []

-- the root alone
abbrev pub new_nodes : Nodes
new_nodes id = if id == 1 then Some new_root else None

abbrev pub new_table : Table
new_table = table_from new_nodes 2 1
