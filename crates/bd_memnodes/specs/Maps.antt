-- What tables of nodes and of counts say.
use Rattle.std.specs.Prelude.{ℕ, List, nat_eq}
use Rattle.std.specs.Option.{option_map, unwrap_or}
use Rattle.std.specs.List.{sum_by}
use Rattle.std.specs.HashMap.{HashMap, get}
use Rattle.std.specs.declared.rc.Rc.{Rc}
use Rattle.bd_node.specs.declared.node.Node.{Node}
use Rattle.bd_node.specs.Nodes.{times}
use Rattle.bd_node.specs.Meaning.{Nodes}

-- the nodes of a table
abbrev pub nodes_in : {S Z : Type 0} → HashMap ℕ (Rc Node Z) S → Nodes
nodes_in table id = option_map (λ shared. shared.value) (get nat_eq table id)

-- the counts of a table: 0 where there is none
abbrev pub count_in : {S : Type 0} → HashMap ℕ ℕ S → ℕ → ℕ
count_in table id = unwrap_or (get nat_eq table id) 0

-- how often nodes name an id
abbrev pub times_of : {Z : Type 0} → List (Rc Node Z) → ℕ → ℕ
times_of nodes c = sum_by (λ shared. times shared.value c) nodes
