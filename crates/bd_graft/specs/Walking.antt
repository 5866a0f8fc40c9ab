-- The way of a prefix from the root down, and what travels from the nodes on it.
use Rattle.std.specs.Prelude.{◌≡◌, ℕ, ◌+◌, nat_lt, min, if◌then◌else◌, List, [], ◌∷◌, length, drop, Option, None, Some, map}
use Rattle.bd_limits.specs.Limits.{key_limit}
use Rattle.bd_message.specs.declared.message.Message.{Message}
use Rattle.bd_node.specs.declared.node.Node.{Node}
use Rattle.bd_node.specs.Meaning.{Nodes}
use Rattle.bd_node.specs.Tables.{Table}
use Rattle.bd_node.specs.Steps.{IsRootOf}
use Rattle.bd_node.specs.Parts.{buffer_of}
use Rattle.bd_resolve.specs.declared.following.Target.{Target}
use Rattle.bd_resolve.specs.declared.following.Followed.TheVariants.{Here, Past}
use Rattle.bd_resolve.specs.Following.{LeadsTo, target_level}
use Rattle.bd_graft.specs.declared.layers.Layer.{Layer}
use Rattle.bd_graft.specs.declared.walking.Passed.{Passed}
use Rattle.bd_graft.specs.Layers.{all_freed}

-- the messages that travel from a node: those from a place on, freed of the prefix
abbrev pub travelling : Node → ℕ → List ℕ → List Message
travelling n newer q = all_freed q (drop newer (buffer_of n))

-- what answers where a way ends at a node: it, and nothing where no key is as long as what is asked
abbrev pub end_at : ℕ → List ℕ → Option Target
end_at id q =
    if nat_lt key_limit (length q) then None else Some (record { child = id; source = q })

-- the way of a prefix from a node down to what answers, and the messages that travel from each node
-- that it leads on from, the first node's first
pub data IsWay (nodes : Nodes) : ℕ → List ℕ → List (List Message) → Option Target → Type 0 where
  ends : (id : ℕ) (q : List ℕ) (n : Node) → nodes id ≡ Some n → LeadsTo n q Here
      → IsWay nodes id q [] (end_at id q)
  to_nothing : (id : ℕ) (q : List ℕ) (n : Node) (newer : ℕ) → nodes id ≡ Some n
      → LeadsTo n q (Past newer None) → IsWay nodes id q (travelling n newer q ∷ []) None
  leads_on : (id : ℕ) (q : List ℕ) (n : Node) (newer : ℕ) (target : Target)
      (more : List (List Message)) (end : Option Target) → nodes id ≡ Some n
      → LeadsTo n q (Past newer (Some target)) → IsWay nodes target.child target.source more end
      → IsWay nodes id q (travelling n newer q ∷ more) end

-- how many nodes of a way are fetched: each that it leads on from, and its end where that is an
-- inner node, at level 1 or more
abbrev pub fetched_on : Table → List (List Message) → Option Target → ℕ
fetched_on t travel end = length travel + min (target_level t end) 1

-- the root, whether its node is known or not
pub record HasRoot (known : Type 0) (nodes : Nodes) (t : Table) : Type 0 where
  pub node : Node
  pub is : IsRootOf t node
  pub there : known → nodes t.root ≡ Some node

-- the messages of each layer
abbrev pub messages_in : List Layer → List (List Message)
messages_in ls = map (λ (l : Layer). l.messages) ls

-- the way leads on from the node, and these messages travel
pub record LeadsOn (n : Node) (q : List ℕ) (on : Passed) : Type 0 where
  pub newer : ℕ
  pub leads : LeadsTo n q (Past newer on.target)
  pub travel : on.layer.messages ≡ travelling n newer q

-- the way leads on from the node, or ends there
abbrev pub IsPassed : Node → List ℕ → Option Passed → Type 0
IsPassed n q None = LeadsTo n q Here
IsPassed n q (Some on) = LeadsOn n q on
