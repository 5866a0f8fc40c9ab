-- An edge of a node, as it is read.
use Rattle.std.proofs.Common.{◌≡◌, ℕ, ◌+◌, ◌<◌, List, length, drop, get_or, sym, ap, subst, ◌∙◌, Option}
use Rattle.bd_keys.specs.Keys.{IsBelowEnd}
use Rattle.bd_node.specs.declared.node.Edge.{Edge}
use Rattle.bd_node.specs.declared.node.Node.{Node}
use Rattle.bd_node.specs.Shape.{end_before, IsEdge, IsShape}
use Rattle.bd_node.specs.Parts.{edges_of, buffer_of, end_at, IsEdgeAt}
use Rattle.bd_inner.proofs.Fitting.{own_shape}
use Rattle.bd_node.proofs.Parts.{edge_here}

-- an edge of a node, as it is read
pub record IsRead (n : Node) (place : ℕ) (e : Edge) (es : List Edge) : Type 0 where
  pub shape : IsShape n
  pub same : es ≡ edges_of n
  pub low : place < length (edges_of n)
  pub read : e ≡ get_or es place e

pub here_of : (n : Node) (place : ℕ) (e : Edge) (es : List Edge) → IsRead n place e es → IsEdgeAt n place e
here_of n place e es h = edge_here es n place e h.same h.low h.read

pub read_shape : (n : Node) (place : ℕ) (e : Edge) (es : List Edge) → IsRead n place e es → IsEdge (length (buffer_of n)) e (end_at n place)
read_shape n place e es h = own_shape n place e h.shape (here_of n place e es h)

pub read_end : (n : Node) (place : ℕ) (e : Edge) (es : List Edge) (hi : Option (List ℕ)) → IsRead n place e es → hi ≡ end_before (drop (place + 1) es) → hi ≡ end_at n place
read_end n place e es hi h end = end ∙ ap (λ (l : List Edge). end_before (drop (place + 1) l)) h.same

pub read_rising : (n : Node) (place : ℕ) (e : Edge) (es : List Edge) (hi : Option (List ℕ)) → IsRead n place e es → hi ≡ end_before (drop (place + 1) es) → IsBelowEnd e.pivot hi
read_rising n place e es hi h end = subst (λ (o : Option (List ℕ)). IsBelowEnd e.pivot o) (sym (read_end n place e es hi h end)) (read_shape n place e es h).rising
