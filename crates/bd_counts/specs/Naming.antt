-- The names in a step.
use Rattle.std.specs.Prelude.{ℕ, List, [], ◌∷◌, ◌++◌, count_by, ◌==◌}
use Rattle.std.specs.List.{flat_map}
use Rattle.bd_message.specs.declared.message.Message.{Message}
use Rattle.bd_node.specs.declared.node.Node.{Node}
use Rattle.bd_node.specs.declared.node.Change.{Change}
use Rattle.bd_node.specs.declared.node.Step.{Step}
use Rattle.bd_node.specs.Nodes.{names, message_names}

-- how often an id stands in a list
abbrev pub times_among : List ℕ → ℕ → ℕ
times_among names c = count_by (λ name. name == c) names

-- the names in what a node is changed to
abbrev pub change_names : Change → List ℕ
change_names change = names change.node

-- the names in the nodes that a step gives, and the root
abbrev pub step_names : Step → List ℕ
step_names step =
    flat_map names step.made ++ flat_map change_names step.changes ++ step.root ∷ []

-- the names that made nodes and messages add
abbrev pub added_names : List Node → List Message → List ℕ
added_names made list = flat_map names made ++ flat_map message_names list
