-- Which nodes are asked what a key has.
use Rattle.std.specs.Prelude.{◌≡◌, ℕ, ◌+◌, ◌⊎◌, if◌then◌else◌, List, [], ◌∷◌, ◌++◌, drop, Option, None, Some}
use Rattle.std.specs.Option.{option_map}
use Rattle.bd_keys.specs.Keys.{IsBelow, IsAtLeast}
use Rattle.bd_message.specs.declared.message.Message.{Message}
use Rattle.bd_message.specs.declared.message.Message.TheVariants.{Put, Del, Patch, Cut, Goto}
use Rattle.bd_message.specs.Effect.{rest}
use Rattle.bd_node.specs.declared.node.Edge.{Edge}
use Rattle.bd_node.specs.declared.node.Node.{Node}
use Rattle.bd_node.specs.declared.node.Node.TheVariants.{Leaf, Inner}
use Rattle.bd_node.specs.Nodes.{edge_of}
use Rattle.bd_node.specs.Meaning.{Nodes}
use Rattle.bd_node.specs.Touching.{touches}
use Rattle.bd_node.specs.Stores.{visited, AreVisits}
use Rattle.bd_node.specs.Tables.{Table}
use Rattle.bd_query.specs.declared.part.Base.{Base}
use Rattle.bd_query.specs.declared.part.Base.TheVariants.{Value, Ask}
use Rattle.bd_query.specs.declared.stretch.Stretch.{Stretch}
use Rattle.bd_query.specs.declared.stretch.Stretch.TheVariants.{Present, Run, Absent, Child}

-- a node and the key that it is asked
abbrev pub Question : Type 0
Question = ℕ × List ℕ

-- who is asked after a message that changes the key: only a Goto asks another node, and what is
-- patched is asked still
abbrev pub asked_by : Message → List ℕ → Option Question → Option Question
asked_by (Put key value) k old = None
asked_by (Del key) k old = None
asked_by (Patch key off bytes) k old = old
asked_by (Cut prefix from) k old = None
asked_by (Goto prefix source child) k old = Some (child, source ++ rest prefix k)

-- who is asked after these messages
abbrev pub asked_after : List Message → List ℕ → Option Question → Option Question
asked_after [] k old = old
asked_after (m ∷ ms) k old = asked_after ms k (if touches m k then asked_by m k old else old)

-- whom an edge asks: its child, if there is one
abbrev pub asked_first : Edge → List ℕ → Option Question
asked_first e k = option_map (λ c. (c, e.source ++ drop e.lift k)) e.child

-- whom an edge and the messages that its child hasn't seen ask
abbrev pub asked_through : Option Edge → List Message → List ℕ → Option Question
asked_through None buffer k = None
asked_through (Some e) buffer k =
    asked_after (drop e.seen buffer) k (asked_first e k)

-- whom a node asks what a key has: at most one node, and none where a message gives or takes all of
-- the value
abbrev pub asked_at : Node → List ℕ → Option Question
asked_at (Leaf entries) k = None
asked_at (Inner level edges buffer) k = asked_through (edge_of edges k) buffer k

-- whom the base of a value asks
abbrev pub asked_of : Base → Option Question
asked_of (Value found) = None
asked_of (Ask child key) = Some (child, key)

-- whom a stretch asks
abbrev pub asked_in : Stretch → List ℕ → Option Question
asked_in (Present part) k = asked_of part.base
asked_in (Run entries) k = None
asked_in (Absent end) k = None
asked_in (Child end child lift source) k = Some (child, source ++ drop lift k)

-- so many nodes are asked one below the other, the first one at the key
pub data IsWayDown (nodes : Nodes) : ℕ → List ℕ → ℕ → Type 0 where
  ends_here : (id : ℕ) (k : List ℕ) (n : Node) → nodes id ≡ Some n → asked_at n k ≡ None
      → IsWayDown nodes id k 1
  goes_down : (id : ℕ) (k : List ℕ) (n : Node) (child : ℕ) (l : List ℕ) (number : ℕ)
      → nodes id ≡ Some n → asked_at n k ≡ Some (child, l) → IsWayDown nodes child l number
      → IsWayDown nodes id k (number + 1)

-- these are the first nodes, so many, that are asked one below the other, the first one at the key
pub data IsWayBegun (nodes : Nodes) : ℕ → List ℕ → ℕ → Type 0 where
  stops_here : (id : ℕ) (k : List ℕ) → IsWayBegun nodes id k 1
  goes_on : (id : ℕ) (k : List ℕ) (n : Node) (child : ℕ) (l : List ℕ) (number : ℕ)
      → nodes id ≡ Some n → asked_at n k ≡ Some (child, l) → IsWayBegun nodes child l number
      → IsWayBegun nodes id k (number + 1)

-- the next key of a search: the first is at least where it begins, each later one above the last
abbrev pub IsAfterLast : List ℕ → Option (List ℕ) → List ℕ → Type 0
IsAfterLast from None k = IsAtLeast k from
IsAfterLast from (Some last) k = IsBelow last k

-- ways down along rising keys, the last of which is given, ask so many nodes together
pub data AreWaysDown (nodes : Nodes) (root : ℕ) (from : List ℕ) : Option (List ℕ) → ℕ → Type 0 where
  none_yet : AreWaysDown nodes root from None 0
  one_more : (last : Option (List ℕ)) (k : List ℕ) (before number : ℕ)
      → AreWaysDown nodes root from last before → IsAfterLast from last k
      → IsWayDown nodes root k number → AreWaysDown nodes root from (Some k) (before + number)

-- as many visits as nodes asked on one way down
pub record AreVisitsOfWay (nodes : Nodes) (id : ℕ) (k : List ℕ) (before after : ℕ) : Type 0 where
  pub number : ℕ
  pub way : IsWayDown nodes id k number
  pub counted : after ≡ visited before number

-- as many as on the way that is left, none where nobody is asked
abbrev pub AreVisitsOfRest : Nodes → Option Question → ℕ → ℕ → Type 0
AreVisitsOfRest nodes None before after = after ≡ before
AreVisitsOfRest nodes (Some asked) before after = AreVisitsOfWay nodes asked.0 asked.1 before after

-- as many visits as the first nodes on a way down, none where none was visited
pub record AreVisitsOfBegun (nodes : Nodes) (id : ℕ) (k : List ℕ) (before after : ℕ) : Type 0 where
  pub number : ℕ
  pub way : IsWayBegun nodes id k number
  pub counted : after ≡ visited before number

abbrev pub AreVisitsOfPart : Nodes → ℕ → List ℕ → ℕ → ℕ → Type 0
AreVisitsOfPart nodes id k before after =
    (after ≡ before) ⊎ AreVisitsOfBegun nodes id k before after

-- the same of the way that is left
abbrev pub AreVisitsOfRestPart : Nodes → Option Question → ℕ → ℕ → Type 0
AreVisitsOfRestPart nodes None before after = after ≡ before
AreVisitsOfRestPart nodes (Some asked) before after =
    AreVisitsOfPart nodes asked.0 asked.1 before after

-- so many visits, of at most as many nodes as levels from the one down that is asked
abbrev pub AreFewOfRest : Table → Option Question → ℕ → ℕ → Type 0
AreFewOfRest t None before after = after ≡ before
AreFewOfRest t (Some asked) before after = AreVisits 1 (t.level asked.0 + 1) before after

-- as many as on ways down along rising keys, none where there is no way
pub record AreVisitsOfWays (nodes : Nodes) (root : ℕ) (from : List ℕ) (before after : ℕ)
    : Type 0 where
  pub number : ℕ
  pub last : Option (List ℕ)
  pub ways : AreWaysDown nodes root from last number
  pub counted : (after ≡ visited before number) ⊎ ((number ≡ 0) × (after ≡ before))

-- as many as the first nodes on a way down along a key after the last one
pub record AreVisitsOfNext (nodes : Nodes) (root : ℕ) (from : List ℕ) (last : Option (List ℕ))
    (before after : ℕ) : Type 0 where
  pub key : List ℕ
  pub next : IsAfterLast from last key
  pub visits : AreVisitsOfBegun nodes root key before after

-- as many as on ways down along rising keys, and as the first nodes on one more, if it was begun
pub record AreVisitsOfSome (nodes : Nodes) (root : ℕ) (from : List ℕ) (before after : ℕ)
    : Type 0 where
  pub now : ℕ
  pub done : AreVisitsOfWays nodes root from before now
  pub begun : (after ≡ now) ⊎ AreVisitsOfNext nodes root from done.last now after
