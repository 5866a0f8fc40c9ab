-- The overlay node that is there already.
use Rattle.std.specs.Prelude.{◌≡◌, ℕ, if◌then◌else◌, List, [], ◌∷◌, Option, None, Some}
use Rattle.std.specs.Option.{is_some, option_or}
use Rattle.bd_message.specs.declared.message.Message.{Message}
use Rattle.bd_message.specs.declared.message.Message.TheVariants.{Put, Del, Patch, Cut, Goto}
use Rattle.bd_node.specs.declared.node.Node.{Node}
use Rattle.bd_node.specs.Meaning.{Nodes}
use Rattle.bd_node.specs.Parts.{buffer_of}
use Rattle.bd_node.specs.Tables.{Table}
use Rattle.bd_resolve.specs.declared.following.Target.{Target}
use Rattle.bd_graft.specs.Packing.{over_all, overlays_over}

-- the node that a Goto without a source names
abbrev pub named_whole : Message → Option ℕ
named_whole (Put key value) = None
named_whole (Del key) = None
named_whole (Patch key off bytes) = None
named_whole (Cut prefix from) = None
named_whole (Goto prefix [] child) = Some child
named_whole (Goto prefix (b ∷ source) child) = None

-- the node that the newest Goto without a source names
abbrev pub newest_named : List Message → Option ℕ
newest_named [] = None
newest_named (m ∷ ms) = option_or (newest_named ms) (named_whole m)

-- the messages that wait in a node, if there is one
abbrev pub waiting_of : Option Node → List Message
waiting_of None = []
waiting_of (Some n) = buffer_of n

-- the messages that wait in the root
abbrev pub waiting_in : Nodes → Table → List Message
waiting_in nodes t = waiting_of (nodes t.root)

-- a node is the one overlay node of these groups over an end, and is named by the newest of the
-- root's Gotos without a source
pub record IsAlreadyMade (nodes : Nodes) (t : Table) (end : Option Target)
    (groups : List (List Message)) (c : ℕ) : Type 0 where
  pub newest : newest_named (waiting_in nodes t) ≡ Some c
  pub node : Node
  pub there : nodes c ≡ Some node
  pub alone : overlays_over t end groups ≡ node ∷ []

-- it was found, or there is none
abbrev pub IsFound : Nodes → Table → Option Target → List (List Message) → Option ℕ → Type 0
IsFound nodes t end groups None = (c : ℕ) → ¬ (IsAlreadyMade nodes t end groups c)
IsFound nodes t end groups (Some c) = IsAlreadyMade nodes t end groups c

-- how many nodes are fetched for that: where there would be one overlay node, the root, and what it
-- names
abbrev pub looked_at : List Message → List (List Message) → ℕ
looked_at waiting [] = 0
looked_at waiting (g ∷ []) = if is_some (newest_named waiting) then 2 else 1
looked_at waiting (g ∷ h ∷ groups) = 0

-- what stands over an end for these groups: their overlay nodes are made, or the only one is there
-- already
pub data IsMadeOver (nodes : Nodes) (t : Table) (end : Option Target)
    (groups : List (List Message)) (made : List Node) (target : Target) : Type 0 where
  all_made : ((c : ℕ) → ¬ (IsAlreadyMade nodes t end groups c)) → made ≡ overlays_over t end groups
      → over_all t.next end groups ≡ Some target → IsMadeOver nodes t end groups made target
  none_made : IsAlreadyMade nodes t end groups target.child → target.source ≡ [] → made ≡ []
      → IsMadeOver nodes t end groups made target
