-- What the parts of a step leave.
use Rattle.std.specs.Prelude.{◌≡◌, ℕ, ◌+◌, ◌<◌, ◌≤◌, ◌^◌, List, [], length, map, Some, nat_eq, IsSome}
use Rattle.std.specs.Global.{Global}
use Rattle.std.specs.HashMap.{hash_map_len, get}
use Rattle.std.specs.List.{sum_by}
use Rattle.std.specs.declared.rc.Rc.{Rc}
use Rattle.bd_node.specs.declared.node.Node.{Node}
use Rattle.bd_node.specs.declared.push.Push.{Push}
use Rattle.bd_node.specs.Nodes.{buffer_size}
use Rattle.bd_node.specs.Pushes.{IsPushStep}
use Rattle.bd_node.specs.Tables.{times_in}
use Rattle.bd_node.specs.Steps.{changed_at, given_or}
use Rattle.bd_memnodes.specs.declared.kept.Kept.{Kept}
use Rattle.bd_node.specs.declared.node.Step.{Step}
use Rattle.bd_message.specs.declared.message.Message.{Message}
use Rattle.bd_memnodes.specs.declared.plan.Addition.{Addition}
use Rattle.bd_memnodes.specs.declared.plan.Exchange.{Exchange}
use Rattle.bd_memnodes.specs.declared.plan.Plan.{Plan}
use Rattle.bd_counts.specs.Naming.{times_among, step_names, added_names}
use Rattle.bd_memnodes.specs.Maps.{nodes_in, count_in, times_of}
use Rattle.bd_memnodes.specs.Releasing.{SameHead}
use Rattle.bd_memnodes.specs.Plans.{change_of, step_of, added_of}
use Rattle.bd_memnodes.specs.Stored.{with_made}

-- the next ids and the counts after these names are below their limit
pub record FitCounts (kept : Kept) (made : ℕ) (names : List ℕ) : Type 0 where
  pub next : kept.next + made < 2 ^ 64
  pub counts : (c : ℕ) → 1 ≤ times_among names c
      → count_in kept.counts c + times_among names c < 2 ^ 64

-- made nodes have been added under the next ids, each with a count of 0
pub record IsAdded (old : Kept) (made : List (Rc Node Global)) (new : Kept) : Type 0 where
  pub nodes : (id : ℕ) → nodes_in new.nodes id
      ≡ with_made old.next (map (λ shared. shared.value) made) (nodes_in old.nodes) id
  pub counts : (c : ℕ) → count_in new.counts c ≡ count_in old.counts c
  pub there : (c : ℕ) → old.next ≤ c → c < old.next + length made
      → IsSome (get nat_eq new.counts c)
  pub others : (c : ℕ) → IsSome (get nat_eq old.counts c) → IsSome (get nat_eq new.counts c)
  pub len : hash_map_len new.nodes ≤ hash_map_len old.nodes + length made
  pub next : new.next ≡ old.next + length made
  pub dead : new.dead ≡ old.dead
  pub root : new.root ≡ old.root
  pub size : new.size ≡ old.size

-- nodes were exchanged, and the old ones wait
pub record IsExchanged (old : Kept) (changes : List Exchange) (new : Kept) : Type 0 where
  pub nodes : (id : ℕ) → nodes_in new.nodes id
      ≡ given_or (changed_at (map change_of changes) id) (nodes_in old.nodes id)
  pub waits : (c : ℕ) → times_of new.dead.items c ≡ times_of old.dead.items c
      + sum_by (λ (change : Exchange). times_in (nodes_in old.nodes change.id) c) changes
  pub counts : new.counts ≡ old.counts
  pub head : SameHead old new

-- the same nodes and counts, in perhaps more memory
pub record SameKept (old new : Kept) : Type 0 where
  pub nodes : (id : ℕ) → nodes_in new.nodes id ≡ nodes_in old.nodes id
  pub counts : (c : ℕ) → count_in new.counts c ≡ count_in old.counts c
  pub dead : new.dead.items ≡ old.dead.items
  pub head : SameHead old new

-- the step that makes a push of what is kept
pub record IsStepOf (kept : Kept) (push : Push) (step : Step) : Type 0 where
  pub of_nodes : (n m : Node) → nodes_in kept.nodes push.parent ≡ Some n
      → nodes_in kept.nodes push.child ≡ Some m → IsPushStep kept.root push n m step

-- other nodes stand in the place of kept ones, and the counts are the same
pub record IsReplaced (old : Kept) (changes : List Exchange) (new : Kept) : Type 0 where
  pub nodes : (id : ℕ) → nodes_in new.nodes id
      ≡ given_or (changed_at (map change_of changes) id) (nodes_in old.nodes id)
  pub counts : (c : ℕ) → count_in new.counts c ≡ count_in old.counts c
  pub dead : new.dead.items ≡ []
  pub root : new.root ≡ old.root
  pub next : new.next ≡ old.next
  pub size : (n : Node) → nodes_in new.nodes new.root ≡ Some n → buffer_size n ≡ new.size

-- the plan of a step, for which each counter has room
pub record IsPlanOf (kept : Kept) (step : Step) (plan : Plan) : Type 0 where
  pub step_is : step_of plan ≡ step
  pub names_are : plan.names.items ≡ step_names step
  pub fits : FitCounts kept (length plan.made.items) plan.names.items

-- made nodes and the names in them and in messages, for which each counter has room
pub record IsAdditionOf (kept : Kept) (made : List Node) (list : List Message)
    (addition : Addition) : Type 0 where
  pub made_is : added_of addition ≡ made
  pub names_are : addition.names.items ≡ added_names made list
  pub fits : FitCounts kept (length addition.made.items) addition.names.items

-- what has grown by made nodes and by names
pub record IsAddedTo (old : Kept) (addition : Addition) (new : Kept) : Type 0 where
  pub nodes : (id : ℕ) → nodes_in new.nodes id
      ≡ with_made old.next (added_of addition) (nodes_in old.nodes) id
  pub counts : (c : ℕ) → count_in new.counts c
      ≡ count_in old.counts c + times_among addition.names.items c
  pub next : new.next ≡ old.next + length addition.made.items
  pub dead : new.dead ≡ old.dead
  pub root : new.root ≡ old.root
  pub size : new.size ≡ old.size
