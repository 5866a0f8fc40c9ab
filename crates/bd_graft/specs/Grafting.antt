-- The step of a graft.
use Rattle.std.specs.Prelude.{◌≡◌, ℕ, ◌+◌, ◌-◌, ◌^◌, ◌<◌, ◌≤◌, ◌⊎◌, Bool, if◌then◌else◌, List, [], ◌∷◌, ◌++◌, length, Option, Some, slice_get, IsTrue, Result, OnOk, OnErr, ⊤}
use Rattle.bd_limits.specs.Limits.{level_limit}
use Rattle.bd_message.specs.declared.fault.Counter.{Counter}
use Rattle.bd_message.specs.declared.fault.Counter.TheVariants.{Count, NextId, Level, Refs, Epoch, Flushes}
use Rattle.bd_message.specs.declared.fault.MapFault.{MapFault}
use Rattle.bd_message.specs.declared.fault.MapFault.TheVariants.{DeviceFault, Damaged, Worn, NoMemory}
use Rattle.bd_message.specs.declared.message.Message.{Message}
use Rattle.bd_message.specs.declared.message.Message.TheVariants.{Goto, Cut}
use Rattle.bd_node.specs.declared.node.Node.{Node}
use Rattle.bd_node.specs.declared.node.Step.{Step}
use Rattle.bd_node.specs.Nodes.{appended}
use Rattle.bd_node.specs.Tables.{Table, IsKept, IsSound, root_at}
use Rattle.bd_node.specs.Steps.{IsWornBy, extend_step}
use Rattle.bd_resolve.specs.declared.following.Target.{Target}
use Rattle.bd_graft.specs.declared.packing.Packed.{Packed}
use Rattle.bd_graft.specs.declared.layers.Layer.{Layer}
use Rattle.bd_graft.specs.Layers.{laid, AreLayers}
use Rattle.bd_graft.specs.Walking.{IsWay, fetched_on}
use Rattle.bd_graft.specs.Packing.{overlay, IsOverlay, IsPacked, packs, overlaid, top_over}
use Rattle.bd_graft.specs.Looking.{waiting_in, looked_at, IsMadeOver}
use Rattle.bd_node.specs.Meaning.{Nodes, at}
use Rattle.bd_keys.specs.Keys.{IsKey}
use Rattle.bd_message.specs.Effect.{acts}
use Rattle.bd_message.specs.KeyMaps.{IsGrafted}
use Rattle.bd_node.specs.declared.store.NodeStore.{Ghosts}
use Rattle.bd_node.specs.Frames.{OfSound, OnlyReads, Stays}
use Rattle.bd_node.specs.Stores.{visited}
use Rattle.bd_resolve.specs.Following.{target_at}

-- the messages of a graft: one prefix is sent to a target, and without `keep` the other one is cut
abbrev pub graft_messages : List ℕ → List ℕ → Bool → Target → List Message
graft_messages s d keep target =
    Goto d target.source target.child ∷ (if keep then [] else Cut s [] ∷ [])

-- the step that makes nodes and a new root after them
abbrev pub top_made : List Node → Node → ℕ → Step
top_made made top next =
    record { made = made ++ top ∷ []; changes = []; root = next + length made }

-- the step that puts messages into a new root over the old one
abbrev pub step_over : Table → List Node → List Message → Step
step_over t made list = top_made made
    (overlay (t.level t.root + 1) (Some (record { child = t.root; source = [] })) list) t.next

-- the made nodes and the target are what stands over the end of the way of a prefix for all that
-- travels on it, below a level
pub record IsSentTo (nodes : Nodes) (t : Table) (s : List ℕ) (made : List Node) (target : Target)
    (top : ℕ) : Type 0 where
  pub travel : List (List Message)
  pub end : Option Target
  pub way : IsWay nodes t.root s travel end
  pub over : IsMadeOver nodes t end (overlaid end (packs travel)) made target
  pub top_is : top ≡ top_over t end (overlaid end (packs travel))

-- what is packed has, under the made nodes, what stands at the keys that begin with a prefix
pub record IsReady (known : Type 0) (nodes : Nodes) (t : Table) (s : List ℕ) (packed : Packed)
    : Type 0 where
  pub layers : List Layer
  pub end : Option Target
  pub packed_is : IsPacked t end (laid layers) packed
  pub layers_are : AreLayers t (t.level t.root + 1) layers end
  pub value : known → IsSound nodes t → (k : List ℕ) → IsKey k
      → acts (at nodes) (laid layers) k (target_at (at nodes) end k) ≡ root_at nodes t (s ++ k)
  pub sent : known → IsSound nodes t
      → IsSentTo nodes t s packed.made.items packed.target (packed.level + 1)
  pub few : length packed.made.items ≤ t.level t.root + 1

-- whatever the nodes are, a counter that has no room for a graft is near its end: ids for its nodes,
-- a level above the root's, more references to a node
abbrev pub IsWornForGraft : Table → Counter → Type 0
IsWornForGraft t NextId = 2 ^ 64 ≤ t.next + t.level t.root + 2
IsWornForGraft t Level = t.level t.root ≡ level_limit
IsWornForGraft t Refs = (id : ℕ) × (2 ^ 63 ≤ t.count id)
IsWornForGraft t Count = ⊥
IsWornForGraft t Epoch = ⊥
IsWornForGraft t Flushes = ⊥

-- a counter has to pass its last value for these overlay nodes and the messages that name what
-- stands over all: for the ids that they get and the names that they add in the root, where it is
-- higher than that, and else in a new root, or for the level of that
pub data IsWornOver (t : Table) (root : Node) (s d : List ℕ) (keep : Bool) (made : List Node)
    (target : Target) (top : ℕ) (counter : Counter) : Type 0 where
  root_kept : top ≤ t.level t.root
      → IsWornBy t (extend_step t root made (graft_messages s d keep target)) counter
      → IsWornOver t root s d keep made target top counter
  root_raised : t.level t.root < top
      → IsWornBy t (step_over t made (graft_messages s d keep target)) counter
      → IsWornOver t root s d keep made target top counter
  level_raised : t.level t.root < top → counter ≡ Level → t.level t.root ≡ level_limit
      → IsWornOver t root s d keep made target top counter

-- a counter has to pass its last value for all that a graft adds
pub record IsWornByGraft (nodes : Nodes) (t : Table) (s d : List ℕ) (keep : Bool)
    (counter : Counter) : Type 0 where
  pub root : Node
  pub root_is : nodes t.root ≡ Some root
  pub made : List Node
  pub target : Target
  pub top : ℕ
  pub sent : IsSentTo nodes t s made target top
  pub worn : IsWornOver t root s d keep made target top counter

-- where a fault says that a counter is worn, it is one of these
abbrev pub OnWorn : (Counter → Type 0) → MapFault → Type 0
OnWorn worn DeviceFault = ⊤
OnWorn worn (Damaged block) = ⊤
OnWorn worn (Worn counter) = worn counter
OnWorn worn NoMemory = ⊤

-- at most as many nodes are made as the tree was high, and one; the root keeps its id and level, or
-- the newest node is the root, one level higher; the old nodes keep their levels, and none but the
-- old root is told as touched
pub record IsGrown (t u : Table) : Type 0 where
  pub later : t.next ≤ u.next
  pub few : u.next ≤ t.next + (t.level t.root + 2)
  pub low : t.level t.root ≤ u.level u.root
  pub high : u.level u.root ≤ t.level t.root + 1
  pub same_root : u.level u.root ≡ t.level t.root → u.root ≡ t.root
  pub new_root : t.level t.root < u.level u.root → (t.next ≤ u.root) × (u.next ≡ u.root + 1)
  pub levels : (id : ℕ) → IsKept t id → IsKept u id → u.level id ≡ t.level id
  pub touched : (id : ℕ) → IsTrue (u.touched id) → IsTrue (t.touched id) ⊎ (id ≡ t.root)

-- ---- what a graft leaves of the nodes

-- the made nodes are there, from an id on, and each is an overlay node
abbrev pub AreMade : Nodes → Table → ℕ → List Node → Type 0
AreMade new u next made = (place : ℕ) (n : Node) → slice_get made place ≡ Some n
    → (new (next + place) ≡ Some n) × IsOverlay u.level n

-- the root stays the root, with the messages after its own, and is above what they name
pub record IsRootKept (nodes : Nodes) (t : Table) (list : List Message) (child next : ℕ)
    (new : Nodes) (u : Table) : Type 0 where
  pub root : u.root ≡ t.root
  pub next_is : u.next ≡ next
  pub old : Node
  pub old_is : nodes t.root ≡ Some old
  pub new_is : new t.root ≡ Some (appended old list)
  pub low : u.level child < t.level t.root

-- a new root, one level above the old one and over it, has the messages, and the old one is as it
-- was: it isn't above what they name
pub record IsRootRaised (nodes : Nodes) (t : Table) (list : List Message) (child next : ℕ)
    (new : Nodes) (u : Table) : Type 0 where
  pub root : u.root ≡ next
  pub next_is : u.next ≡ next + 1
  pub old_is : new t.root ≡ nodes t.root
  pub new_is : new next ≡ Some
      (overlay (t.level t.root + 1) (Some (record { child = t.root; source = [] })) list)
  pub high : t.level t.root ≤ u.level child

-- what a graft leaves: from the next id on the overlay nodes of what travels on the way of one
-- prefix, over its end, unless the only one was there already, and a root with the messages that
-- send the other prefix to what stands over all; each old node and each new id is kept, and nothing
-- else
pub record IsGraftStep (nodes : Nodes) (t : Table) (s d : List ℕ) (keep : Bool) (new : Nodes)
    (u : Table) : Type 0 where
  pub made : List Node
  pub target : Target
  pub top : ℕ
  pub sent : IsSentTo nodes t s made target top
  pub there : AreMade new u t.next made
  pub old : made ≡ [] → IsKept t target.child
  pub root : IsRootKept nodes t (graft_messages s d keep target) target.child
      (t.next + length made) new u
      ⊎ IsRootRaised nodes t (graft_messages s d keep target) target.child
      (t.next + length made) new u
  pub stay : (id : ℕ) → IsKept t id → IsKept u id
  pub fresh : (id : ℕ) → t.next ≤ id → id < u.next → IsKept u id
  pub only : (id : ℕ) → IsKept u id → IsKept t id ⊎ (t.next ≤ id)

-- a graft has so many visits: of the nodes of its way that are fetched, of those that are looked at
-- for an overlay node that is there already, and of those that get new ids
pub record IsWalkOf (nodes : Nodes) (t : Table) (s : List ℕ) (u : Table) (visits : ℕ) : Type 0 where
  pub travel : List (List Message)
  pub end : Option Target
  pub way : IsWay nodes t.root s travel end
  pub visits_are : visits ≡ fetched_on t travel end
      + looked_at (waiting_in nodes t) (overlaid end (packs travel)) + (u.next - t.next)

-- each kept node that stays, but for the root, is what it was, and has at each key what it had
pub record AreOthersSame (nodes : Nodes) (t : Table) (new : Nodes) (u : Table) : Type 0 where
  pub node : (id : ℕ) → IsKept t id → IsKept u id → ¬ (id ≡ u.root) → new id ≡ nodes id
  pub meaning : (id : ℕ) → IsKept t id → IsKept u id → ¬ (id ≡ u.root) → (k : List ℕ)
      → at new id k ≡ at nodes id k

-- a graft was made in a store: what stands at the keys, the nodes, and the table
pub record IsGraftMade {S : Type 0} (g : Ghosts S) (s d : List ℕ) (keep : Bool) (old new : S)
    : Type 0 where
  pub grafted : OfSound g old (IsGrafted (root_at (g.nodes old) (g.table old)) s d keep
      (root_at (g.nodes new) (g.table new)))
  pub sound : OfSound g old (IsSound (g.nodes new) (g.table new))
  pub step : OfSound g old
      (IsGraftStep (g.nodes old) (g.table old) s d keep (g.nodes new) (g.table new))
  pub others : OfSound g old
      (AreOthersSame (g.nodes old) (g.table old) (g.nodes new) (g.table new))
  pub table : IsGrown (g.table old) (g.table new)

-- a call made a graft, with one visit for each node that it made, or else it only read
pub record IsGraftCall {S T E : Type 0} (g : Ghosts S) (s d : List ℕ) (keep : Bool) (old new : S)
    (r : Result T E) : Type 0 where
  pub made : OnOk r (IsGraftMade g s d keep old new)
  pub visits : OnOk r (g.visit_count new
      ≡ visited (g.visit_count old) ((g.table new).next - (g.table old).next))
  pub stays : Stays g old new
  pub err : OnErr r (OnlyReads g old new)
  pub err_visits : OnErr r (g.visit_count new ≡ g.visit_count old)
