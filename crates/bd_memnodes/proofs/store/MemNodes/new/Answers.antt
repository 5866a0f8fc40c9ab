use Rattle.std.proofs.Common.{◌≡◌, ◌∙◌}
use Rattle.bd_node.specs.New.{new_nodes}
use Rattle.bd_node.specs.Tables.{references}
use Rattle.bd_memnodes.specs.Maps.{nodes_in, count_in}
use Rattle.bd_memnodes.proofs.Fresh.{fresh_nodes, fresh_counts, fresh_table, fresh_sound}
use Rattle.bd_memnodes.proofs.store.MemNodes.new.Goals as goal

first_nodes : (c : goal.After-new-2) → nodes_in c.insert.new.self ≡ new_nodes
first_nodes c = fresh_nodes c.new-nodes.result c.insert.new.self c.in_ok-root.root c.new-nodes.ensures.empty c.in_ok-insert.ensures.updates (c.in_ok-root.ensures.ok ∙ c.in_ok-childless_root.ensures)

first_counts : (c : goal.After-new-2) → count_in c.insert-2.new.self ≡ references new_nodes 2 1
first_counts c = fresh_counts c.new-counts.result c.insert-2.new.self c.new-counts.ensures.empty c.in_ok-insert-2.ensures.updates

pub invariant_of-result : goal.invariant_of-result
invariant_of-result c = record { sound = fresh_sound (nodes_in c.insert.new.self) (count_in c.insert-2.new.self) (first_nodes c) (first_counts c); idle = c.new-2.ensures.items }

pub returns-clause-nodes : goal.returns-clause-nodes
returns-clause-nodes c = first_nodes c

pub returns-clause-table : goal.returns-clause-table
returns-clause-table c = fresh_table (nodes_in c.insert.new.self) (count_in c.insert-2.new.self) (first_nodes c) (first_counts c)
