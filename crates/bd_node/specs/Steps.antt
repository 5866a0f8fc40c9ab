-- Steps from nodes to nodes.
use Rattle.std.specs.Prelude.{◌≡◌, ◌≢◌, ℕ, ◌+◌, ◌-◌, ◌^◌, ◌<◌, ◌≤◌, ◌⊎◌, ◌==◌, nat_lt, if◌then◌else◌, List, [], ◌∷◌, length, Option, None, Some, slice_get, count_by, IsSome, IsTrue, Bool, ⊤}
use Rattle.std.specs.List.{AllByRecursion, flat_map, sum_by}
use Rattle.bd_keys.specs.Keys.{IsKey}
use Rattle.bd_message.specs.declared.fault.Counter.{Counter}
use Rattle.bd_message.specs.declared.fault.Counter.TheVariants.{Count, NextId, Level, Refs, Epoch, Flushes}
use Rattle.bd_message.specs.declared.message.Message.{Message}
use Rattle.bd_message.specs.Messages.{size}
use Rattle.bd_message.specs.Effect.{NodesAt}
use Rattle.bd_node.specs.declared.node.Node.{Node}
use Rattle.bd_node.specs.declared.node.Change.{Change}
use Rattle.bd_node.specs.declared.node.Step.{Step}
use Rattle.bd_node.specs.Nodes.{level_of, buffer_size, appended, message_names, names, times, node_at, node_has}
use Rattle.bd_node.specs.Meaning.{Nodes, at}
use Rattle.bd_node.specs.Shape.{IsShape}
use Rattle.bd_node.specs.Tables.{Table, IsKept, IsTable, IsNodeOf, IsSound, one_if}
use Rattle.bd_node.specs.Private.{IsPrivate}

-- ---- what a step gives

-- the node to which these changes change an id's
abbrev pub changed_at : List Change → ℕ → Option Node
changed_at [] id = None
changed_at (c ∷ cs) id = if id == c.id then Some c.node else changed_at cs id

-- the node that a step gives an id, changed or made
abbrev pub given : ℕ → Step → ℕ → Option Node
given next step id =
    if nat_lt id next then changed_at step.changes id else slice_get step.made (id - next)

-- the first, and the second where there is none
abbrev pub given_or : Option Node → Option Node → Option Node
given_or None old = old
given_or (Some n) old = Some n

-- the nodes after a step, before those go that nothing names
abbrev pub after : Nodes → Table → Step → Nodes
after nodes t step id = given_or (given t.next step id) (nodes id)

-- the level of a node, and a given one where there is none
abbrev pub level_or : Option Node → ℕ → ℕ
level_or None old = old
level_or (Some n) old = level_of n

-- the level of an id after a step
abbrev pub level_after : Table → Step → ℕ → ℕ
level_after t step id = level_or (given t.next step id) (t.level id)

-- how often the nodes that a step gives name a node
abbrev pub given_times : Step → ℕ → ℕ
given_times step c =
    sum_by (λ n. times n c) step.made + sum_by (λ (d : Change). times d.node c) step.changes

-- ---- what a step has to be

-- the id is kept or made
abbrev pub IsThere : Table → Step → ℕ → Type 0
IsThere t step id = IsKept t id ⊎ ((t.next ≤ id) × (id < t.next + length step.made))

-- the id may be named from a level: it is there, and lower after the step
pub record IsNamable (t : Table) (step : Step) (level id : ℕ) : Type 0 where
  pub there : IsThere t step id
  pub lower : level_after t step id < level

-- a well-formed node that names what it may
pub record IsPut (t : Table) (step : Step) (n : Node) : Type 0 where
  pub shape : IsShape n
  pub lower : AllByRecursion (IsNamable t step (level_of n)) (names n)

-- the change of a kept node
pub record IsChange (t : Table) (step : Step) (c : Change) : Type 0 where
  pub kept : IsKept t c.id
  pub put : IsPut t step c.node

-- no two changes are of one node
abbrev pub AreOnce : List Change → Type 0
AreOnce [] = ⊤
AreOnce (c ∷ cs) = AllByRecursion (λ (d : Change). d.id ≢ c.id) cs × AreOnce cs

-- a step that may be made, whatever the nodes are
pub record IsStep (t : Table) (step : Step) : Type 0 where
  pub made : AllByRecursion (IsPut t step) step.made
  pub changes : AllByRecursion (IsChange t step) step.changes
  pub once : AreOnce step.changes
  pub root : IsThere t step step.root
  pub inner : 1 ≤ level_after t step step.root
  pub used : (id : ℕ) → t.next ≤ id → id < t.next + length step.made
      → 1 ≤ given_times step id + one_if step.root id

-- a node that isn't changed stays above those that it names
abbrev pub StayAbove : Nodes → Table → Step → Type 0
StayAbove nodes t step = (id : ℕ) (n : Node) → nodes id ≡ Some n → given t.next step id ≡ None
    → AllByRecursion (λ c. level_after t step c < level_of n) (names n)

-- the nodes that name it are changed too
pub record IsOnlyNamed (nodes : Nodes) (t : Table) (step : Step) (id : ℕ) : Type 0 where
  pub each : (p : ℕ) (n : Node) → nodes p ≡ Some n → 1 ≤ times n id
      → IsSome (given t.next step p)

-- why a node may be changed to this one, though its level may rise
pub data HasRoom (nodes : Nodes) (t : Table) (step : Step) (id : ℕ) (n : Node) : Type 0 where
  no_rise : level_of n ≤ t.level id → HasRoom nodes t step id n
  of_root : id ≡ t.root → HasRoom nodes t step id n
  changed_too : IsOnlyNamed nodes t step id → HasRoom nodes t step id n
  under_all : ((p : ℕ) (m : Node) → nodes p ≡ Some m → 1 ≤ times m id → level_of n < level_of m)
      → HasRoom nodes t step id n

-- a step that changes sound nodes in place: private ones alone
pub record IsInPlace (nodes : Nodes) (t : Table) (step : Step) : Type 0 where
  pub private : AllByRecursion (λ (c : Change). IsPrivate nodes t c.id) step.changes
  pub above : StayAbove nodes t step

-- ---- what a step leaves

-- the table after a step, whatever the nodes are
pub record IsTableAfter (t : Table) (step : Step) (new : Table) : Type 0 where
  pub table : IsTable new
  pub root : new.root ≡ step.root
  pub next : new.next ≡ t.next + length step.made
  pub level : (id : ℕ) → IsKept new id → new.level id ≡ level_after t step id
  pub size : (n : Node) → given t.next step step.root ≡ Some n → new.size ≡ buffer_size n
  pub same_size : given t.next step step.root ≡ None → step.root ≡ t.root → new.size ≡ t.size
  pub touched : (id : ℕ) → IsTrue (new.touched id)
      → IsTrue (t.touched id) ⊎ IsSome (changed_at step.changes id)

-- the nodes that stay are as the step leaves them, and sound
pub record IsCommitted (nodes : Nodes) (t : Table) (step : Step) (new : Nodes) (u : Table) : Type 0
  where
    pub stays : (id : ℕ) → IsKept u id → new id ≡ after nodes t step id
    pub sound : IsSound new u

-- a counter has to pass its last value for all that a step adds
abbrev pub IsWornBy : Table → Step → Counter → Type 0
IsWornBy t step Refs = (id : ℕ) × (2 ^ 64 ≤ t.count id + given_times step id + one_if step.root id)
IsWornBy t step NextId = 2 ^ 64 ≤ t.next + length step.made
IsWornBy t step Count = ⊥
IsWornBy t step Level = ⊥
IsWornBy t step Epoch = ⊥
IsWornBy t step Flushes = ⊥

-- ---- steps that change the root alone

-- the step that changes the root to this node
abbrev pub root_step : ℕ → Node → Step
root_step root n =
    record { made = []; changes = record { id = root; node = n } ∷ []; root = root }

-- the step that puts messages after those that wait in the root
abbrev pub append_step : Table → Node → List Message → Step
append_step t root list = root_step t.root (appended root list)

-- the step that does so over made nodes, which the messages may name
abbrev pub extend_step : Table → Node → List Node → List Message → Step
extend_step t root made list = record {
  made = made;
  changes = record { id = t.root; node = appended root list } ∷ [];
  root = t.root;
}

-- a node that may be the root that a table tells of
pub record IsRootOf (t : Table) (n : Node) : Type 0 where
  pub of_table : IsNodeOf t (t.level t.root) n
  pub size : buffer_size n ≡ t.size

-- how often made nodes and messages name a node
abbrev pub added_times : List Node → List Message → ℕ → ℕ
added_times made list c =
    sum_by (λ n. times n c) made + count_by (λ name. name == c) (flat_map message_names list)

-- a counter has to pass its last value for made nodes and the names in them and in messages
abbrev pub IsWornByAdding : Table → List Node → List Message → Counter → Type 0
IsWornByAdding t made list Refs = (id : ℕ) × (2 ^ 64 ≤ t.count id + added_times made list id)
IsWornByAdding t made list NextId = 2 ^ 64 ≤ t.next + length made
IsWornByAdding t made list Count = ⊥
IsWornByAdding t made list Level = ⊥
IsWornByAdding t made list Epoch = ⊥
IsWornByAdding t made list Flushes = ⊥

-- the table after messages were put into the root: only the size of the root's messages has grown
abbrev pub grown : Table → List Message → Table
grown t list = record t { size = t.size + sum_by size list }

-- the table with these nodes as those that steps may have changed
abbrev pub with_touched : (ℕ → Bool) → Table → Table
with_touched touched t = record t { touched = touched }

-- a table that has only grown, in which the root may have been changed
pub record HasGrown (t : Table) (list : List Message) (new : Table) : Type 0 where
  pub is : new ≡ with_touched new.touched (grown t list)
  pub touched : (id : ℕ) → IsTrue (new.touched id) → IsTrue (t.touched id) ⊎ (id ≡ t.root)

-- ---- what each id has after a step

-- what each id is to have after a step whose changed nodes have what they had
pub record IsKeeping (nodes : Nodes) (t : Table) (step : Step) (has : NodesAt) : Type 0 where
  pub old : (id : ℕ) → id < t.next → (k : List ℕ) → has id k ≡ at nodes id k
  pub changed : (id : ℕ) (n : Node) → id < t.next → given t.next step id ≡ Some n → (k : List ℕ)
      → IsKey k → node_at has n k ≡ at nodes id k
  pub made : (id : ℕ) (n : Node) → t.next ≤ id → given t.next step id ≡ Some n → (k : List ℕ)
      → has id k ≡ node_has has n k

-- what each id is to have after a step, where changed nodes may have something else if all that
-- name them are changed too
pub record IsMoving (nodes : Nodes) (t : Table) (step : Step) (has : NodesAt) : Type 0 where
  pub old : (id : ℕ) → given t.next step id ≡ None → (k : List ℕ) → has id k ≡ at nodes id k
  pub put : (id : ℕ) (n : Node) → given t.next step id ≡ Some n → (k : List ℕ)
      → has id k ≡ node_has has n k
  pub named : (id : ℕ) (n : Node) → id < t.next → given t.next step id ≡ Some n
      → ((k : List ℕ) → has id k ≡ at nodes id k) ⊎ IsOnlyNamed nodes t step id
