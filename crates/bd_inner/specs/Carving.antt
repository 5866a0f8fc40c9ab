-- Nodes in which the keys of a Goto have edges of their own.
use Rattle.std.specs.Prelude.{◌≡◌, ℕ, ◌+◌, ◌≤◌, nat_lt, Bool, true, false, ◌&&◌, if◌then◌else◌, List, [], ◌∷◌, ◌++◌, length, Option, None, Some, slice_get}
use Rattle.std.specs.Ordering.{is_lt}
use Rattle.bd_keys.specs.Keys.{key_cmp, IsKey, IsPrefixRange}
use Rattle.bd_message.specs.declared.message.Message.{Message}
use Rattle.bd_message.specs.declared.message.Message.TheVariants.{Put, Del, Patch, Cut, Goto}
use Rattle.bd_message.specs.Effect.{begins}
use Rattle.bd_node.specs.declared.node.Edge.{Edge}
use Rattle.bd_node.specs.declared.node.Node.{Node}
use Rattle.bd_node.specs.declared.node.Node.TheVariants.{Leaf, Inner}
use Rattle.bd_node.specs.Shape.{end_before}
use Rattle.bd_node.specs.Compaction.{IsCompacted}
use Rattle.bd_node.specs.Parts.{buffer_of}

-- ---- edges in two

-- whether a key is below an end, if there is one
abbrev pub is_below_end : List ℕ → Option (List ℕ) → Bool
is_below_end k None = true
is_below_end k (Some hi) = is_lt (key_cmp k hi)

-- whether an edge, whose keys end there, has seen fewer messages than that, and has the key after
-- its first one
abbrev pub has_inside : ℕ → List ℕ → Edge → Option (List ℕ) → Bool
has_inside seen key e hi =
    nat_lt e.seen seen && (is_lt (key_cmp e.pivot key) && is_below_end key hi)

-- the edge from another key on
abbrev pub from_key : Edge → List ℕ → Edge
from_key e key = record e { pivot = key }

-- an edge, in two at a key that it has inside
abbrev pub in_two : ℕ → List ℕ → Edge → Option (List ℕ) → List Edge
in_two seen key e hi =
    if has_inside seen key e hi then e ∷ from_key e key ∷ [] else e ∷ []

-- edges, with the one that has a key inside in two, if it has seen fewer messages than that
abbrev pub parted : ℕ → List ℕ → List Edge → List Edge
parted seen key [] = []
parted seen key (e ∷ es) = in_two seen key e (end_before es) ++ parted seen key es

-- the same at an end, if there is one
abbrev pub parted_end : ℕ → Option (List ℕ) → List Edge → List Edge
parted_end seen None es = es
parted_end seen (Some key) es = parted seen key es

-- ---- edges of a Goto's own

-- the edge of a Goto's keys: all up to the Goto is seen
abbrev pub goto_edge : ℕ → List ℕ → List ℕ → ℕ → Edge
goto_edge at prefix source child =
    record {
      pivot = prefix;
      lift = length prefix;
      source = source;
      child = Some child;
      seen = at + 1;
    }

-- whether an edge hasn't seen the Goto, whose edge is `own`, and begins at one of its keys
abbrev pub is_own : Edge → Option (List ℕ) → Edge → Bool
is_own own end e =
    nat_lt e.seen own.seen && (begins e.pivot own.pivot && is_below_end e.pivot end)

-- an edge as it is, or the Goto's own in its place: none, if the edge before is one already
abbrev pub own_part : Edge → Option (List ℕ) → Bool → Edge → List Edge
own_part own end before e =
    if is_own own end e then (if before then [] else from_key own e.pivot ∷ []) else e ∷ []

-- edges, with one of the Goto's own in place of those that begin at one of its keys and haven't seen
-- it, where they are neighbours
abbrev pub owned : Edge → Option (List ℕ) → Bool → List Edge → List Edge
owned own end before [] = []
owned own end before (e ∷ es) =
    own_part own end before e ++ owned own end (is_own own end e) es

-- edges, with those of the Goto's own for its keys
abbrev pub carved : Edge → Option (List ℕ) → List Edge → List Edge
carved own end es = owned own end false (parted_end own.seen end (parted own.seen own.pivot es))

-- ---- nodes

-- a Goto stands at a place of the node's buffer
pub record IsGotoAt (n : Node) (at : ℕ) : Type 0 where
  pub prefix : List ℕ
  pub source : List ℕ
  pub child : ℕ
  pub there : slice_get (buffer_of n) at ≡ Some (Goto prefix source child)

-- the message is a Goto, and the edge is that of its keys, if it stands at a place
abbrev pub IsGotoEdge : ℕ → Message → Edge → Type 0
IsGotoEdge at (Goto prefix source child) e = e ≡ goto_edge at prefix source child
IsGotoEdge at (Put key value) e = ⊥
IsGotoEdge at (Del key) e = ⊥
IsGotoEdge at (Patch key off bytes) e = ⊥
IsGotoEdge at (Cut prefix from) e = ⊥

-- the keys that begin with a prefix end there, at a key that is no longer
pub record IsEnd (prefix : List ℕ) (end : Option (List ℕ)) : Type 0 where
  pub range : IsPrefixRange prefix end
  pub bytes : (key : List ℕ) → end ≡ Some key → IsKey key
  pub short : (key : List ℕ) → end ≡ Some key → length key ≤ length prefix

-- the node with edges of the Goto's own
abbrev pub carved_node : Edge → Option (List ℕ) → Node → Node
carved_node own end (Leaf entries) = Leaf entries
carved_node own end (Inner level edges buffer) = Inner level (carved own end edges) buffer

-- the edge asks the child, with the source in place of the prefix
pub record IsGotoWay (prefix source : List ℕ) (child : ℕ) (e : Edge) : Type 0 where
  pub lift : e.lift ≡ length prefix
  pub source_is : e.source ≡ source
  pub child_is : e.child ≡ Some child

-- the second node is the first, with edges of its own for the Goto at a place of the buffer, and
-- without the messages that are then pending for no edge
pub record IsCarved (n : Node) (at : ℕ) (m : Node) : Type 0 where
  pub prefix : List ℕ
  pub source : List ℕ
  pub child : ℕ
  pub there : slice_get (buffer_of n) at ≡ Some (Goto prefix source child)
  pub bytes : IsKey prefix
  pub end : Option (List ℕ)
  pub ends : IsEnd prefix end
  pub carved : IsCompacted (carved_node (goto_edge at prefix source child) end n) m
