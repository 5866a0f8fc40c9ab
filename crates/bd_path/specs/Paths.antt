-- Steps that change nodes of one path from the root.
use Rattle.std.specs.Prelude.{ℕ, List, [], ◌∷◌}
use Rattle.bd_node.specs.declared.node.Entry.{Entry}
use Rattle.bd_node.specs.declared.node.Node.{Node}
use Rattle.bd_node.specs.declared.node.Node.TheVariants.{Leaf}
use Rattle.bd_node.specs.declared.node.Change.{Change}
use Rattle.bd_node.specs.declared.node.Step.{Step}

-- the step that changes a node, and others above it, and makes nodes
abbrev pub path_step : ℕ → ℕ → Node → List Change → List Node → Step
path_step root c h uppers made =
    record { made = made; changes = record { id = c; node = h } ∷ uppers; root = root }

-- the step that changes one node
abbrev pub change_step : ℕ → ℕ → Node → Step
change_step root id n = path_step root id n [] []

-- the step that changes a child and the node above it, and makes others
abbrev pub child_step : ℕ → ℕ → Node → ℕ → Node → List Node → Step
child_step root parent n child m made =
    path_step root child m (record { id = parent; node = n } ∷ []) made

-- the step that changes a node and makes a leaf
abbrev pub leaf_step : ℕ → ℕ → Node → List Entry → Step
leaf_step root parent n entries = path_step root parent n [] (Leaf entries ∷ [])
