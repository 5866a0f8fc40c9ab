-- Steps in memory that is taken.
use Rattle.std.specs.Prelude.{List, map}
use Rattle.bd_node.specs.declared.node.Node.{Node}
use Rattle.bd_node.specs.declared.node.Change.{Change}
use Rattle.bd_node.specs.declared.node.Step.{Step}
use Rattle.bd_memnodes.specs.declared.plan.Exchange.{Exchange}
use Rattle.bd_memnodes.specs.declared.plan.Addition.{Addition}
use Rattle.bd_memnodes.specs.declared.plan.Plan.{Plan}

abbrev pub change_of : Exchange → Change
change_of exchange = record { id = exchange.id; node = exchange.node.value }

-- the step of a plan
abbrev pub step_of : Plan → Step
step_of plan = record {
  made = map (λ shared. shared.value) plan.made.items;
  changes = map change_of plan.changes.items;
  root = plan.root;
}

-- the made nodes
abbrev pub added_of : Addition → List Node
added_of addition = map (λ shared. shared.value) addition.made.items
