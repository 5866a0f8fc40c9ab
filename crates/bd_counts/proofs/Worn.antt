-- What wears a count.
use Rattle.std.proofs.Common.{◌≡◌, ℕ, ◌+◌, ◌^◌, ◌≤◌, ap, arith, List}
use Rattle.bd_message.specs.declared.fault.Counter.{Counter}
use Rattle.bd_message.specs.declared.fault.Counter.TheVariants.{Count, NextId, Level, Refs, Epoch, Flushes}
use Rattle.bd_message.specs.declared.message.Message.{Message}
use Rattle.bd_node.specs.declared.node.Node.{Node}
use Rattle.bd_node.specs.declared.node.Step.{Step}
use Rattle.bd_node.specs.Tables.{Table, one_if}
use Rattle.bd_node.specs.Steps.{given_times, added_times, IsWornBy, IsWornByAdding}
use Rattle.bd_counts.specs.Naming.{times_among, step_names, added_names}
use Rattle.bd_counts.specs.Counting.{IsWornByNames}
use Rattle.bd_counts.proofs.Names.{step_names_times, added_names_times}

-- the names in a step
pub worn_by_step : (t : Table) (step : Step) (names : List ℕ) → names ≡ step_names step → (k : Counter) → IsWornByNames t.count names k → IsWornBy t step k
worn_by_step t step names is Refs h =
    let id : ℕ = h.0 in
    let all : times_among names id ≡ times_among (step_names step) id = ap (λ (xs : List ℕ). times_among xs id) is in
    let parts : times_among (step_names step) id ≡ given_times step id + one_if step.root id = step_names_times step id in
    let worn : 2 ^ 64 ≤ t.count id + times_among names id = h.1 in
    (id, omega arith)
worn_by_step t step names is Count h = h
worn_by_step t step names is NextId h = absurd h
worn_by_step t step names is Level h = h
worn_by_step t step names is Epoch h = h
worn_by_step t step names is Flushes h = h

-- the names in made nodes and messages
pub worn_by_added : (t : Table) (made : List Node) (list : List Message) (names : List ℕ) → names ≡ added_names made list → (k : Counter) → IsWornByNames t.count names k → IsWornByAdding t made list k
worn_by_added t made list names is Refs h =
    let id : ℕ = h.0 in
    let all : times_among names id ≡ times_among (added_names made list) id = ap (λ (xs : List ℕ). times_among xs id) is in
    let parts : times_among (added_names made list) id ≡ added_times made list id = added_names_times made list id in
    let worn : 2 ^ 64 ≤ t.count id + times_among names id = h.1 in
    (id, omega arith)
worn_by_added t made list names is Count h = h
worn_by_added t made list names is NextId h = absurd h
worn_by_added t made list names is Level h = h
worn_by_added t made list names is Epoch h = h
worn_by_added t made list names is Flushes h = h
