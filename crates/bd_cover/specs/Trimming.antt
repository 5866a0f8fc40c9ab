-- Children that have more than their only edge asks them for.
use Rattle.std.specs.Prelude.{◌≡◌, ℕ, ◌<◌, ◌≤◌, List, [], Option, Some}
use Rattle.bd_node.specs.declared.node.Edge.{Edge}
use Rattle.bd_node.specs.declared.node.Node.{Node}
use Rattle.bd_node.specs.Meaning.{Nodes}
use Rattle.bd_node.specs.Parts.{end_at, IsEdgeAt}
use Rattle.bd_node.specs.Tables.{Table}
use Rattle.bd_copy.specs.Narrowing.{asked_from, asked_end, IsNarrowed}
use Rattle.bd_cover.specs.Reclaimed.{left_at}

-- the walk goes from an edge to its child: an inner node that nothing else names
pub record IsWalked (t : Table) (e : Edge) (child : ℕ) : Type 0 where
  pub child_is : e.child ≡ Some child
  pub once : t.count child ≡ 1
  pub inner : 1 ≤ t.level child

-- the node `m` is what an edge, whose keys end there, asks of `n` where it has no source, and less
-- is left to change at `m` than at `n`
pub record IsTrimmed (e : Edge) (hi : Option (List ℕ)) (n m : Node) : Type 0 where
  pub narrowed : IsNarrowed (asked_from e) (asked_end e hi) n m
  pub less : left_at m < left_at n

-- an edge, whose keys end there, asks with nothing in front of a key a child to which the walk
-- goes, and less is left to change at what it asks of the child than at the child
pub record IsTrimWay (nodes : Nodes) (t : Table) (e : Edge) (hi : Option (List ℕ)) : Type 0 where
  pub child : ℕ
  pub walked : IsWalked t e child
  pub plain : e.source ≡ []
  pub node : Node
  pub there : nodes child ≡ Some node
  pub made : Node
  pub trimmed : IsTrimmed e hi node made

-- so does the edge at a place of a node
pub record IsTrimAt (nodes : Nodes) (t : Table) (n : Node) (place : ℕ) : Type 0 where
  pub edge : Edge
  pub here : IsEdgeAt n place edge
  pub trim : IsTrimWay nodes t edge (end_at n place)

-- there is no such edge
abbrev pub HasNoTrim : Nodes → Table → Node → Type 0
HasNoTrim nodes t n = (place : ℕ) → ¬ IsTrimAt nodes t n place
