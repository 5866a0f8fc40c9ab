-- Nodes with other edges in place of one.
use Rattle.std.specs.Prelude.{◌≡◌, ℕ, ◌+◌, ◌≤◌, List, [], ◌∷◌, ◌++◌, length, take, drop, Option, Some, ⊤}
use Rattle.bd_limits.specs.Limits.{key_limit, edge_limit}
use Rattle.bd_keys.specs.Keys.{InRange}
use Rattle.bd_node.specs.declared.node.Edge.{Edge}
use Rattle.bd_node.specs.declared.node.Node.{Node}
use Rattle.bd_node.specs.declared.node.Node.TheVariants.{Leaf, Inner}
use Rattle.bd_node.specs.Shape.{end_before, IsChild, IsEdge}
use Rattle.bd_node.specs.Parts.{edges_of, buffer_of, end_at, IsEdgeAt}

-- the key is one of the edge at a place
abbrev pub IsKeyOf : Node → ℕ → Edge → List ℕ → Type 0
IsKeyOf n place e k = InRange e.pivot (end_at n place) k

-- where the keys of the edge before these end, if those of the last of these end there
abbrev pub end_within : Option (List ℕ) → List Edge → Option (List ℕ)
end_within hi [] = hi
end_within hi (e ∷ es) = Some e.pivot

-- each edge has the property, which also takes where its keys end, if the last one's end there
abbrev pub EachEdgeTo : (Edge → Option (List ℕ) → Type 0) → Option (List ℕ) → List Edge → Type 0
EachEdgeTo P hi [] = ⊤
EachEdgeTo P hi (e ∷ es) = P e (end_within hi es) × EachEdgeTo P hi es

-- edges that can stand in place of the one at a place: they have its keys, and aren't too many
pub record FitsAt (n : Node) (place : ℕ) (e : Edge) (list : List Edge) : Type 0 where
  pub here : IsEdgeAt n place e
  pub few : length (edges_of n) + length list ≤ edge_limit + 1
  pub first : end_before list ≡ Some e.pivot
  pub each : EachEdgeTo (IsEdge (length (buffer_of n))) (end_at n place) list

-- an edge's way to another child, with nothing in front of what is left of a key
abbrev pub way_to : Edge → ℕ → ℕ → Edge
way_to e lift child =
    record { pivot = e.pivot; lift = lift; source = []; child = Some child; seen = e.seen }

-- an edge that leaves nothing out and puts nothing in front, over a buffer of so many messages
pub record IsFlat (buffered : ℕ) (e : Edge) : Type 0 where
  pub pivot : length e.pivot ≤ key_limit
  pub lift : e.lift ≡ 0
  pub source : e.source ≡ []
  pub child : IsChild e.child []
  pub seen : e.seen ≤ buffered
