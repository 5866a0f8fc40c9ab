-- Nodes that answer the keys of one edge alone.
use Rattle.std.specs.Prelude.{◌≡◌, ℕ, ◌≤◌, nat_lt, Bool, not, ◌&&◌, if◌then◌else◌, List, [], ◌∷◌, ◌++◌, length, take, drop, Option, None, Some}
use Rattle.std.specs.List.{filter, prefix_len}
use Rattle.std.specs.Ordering.{is_lt}
use Rattle.bd_limits.specs.Limits.{key_limit, edge_limit}
use Rattle.bd_keys.specs.Keys.{key_cmp, IsBelowEnd, IsCommon}
use Rattle.bd_message.specs.Effect.{begins}
use Rattle.bd_node.specs.declared.node.Edge.{Edge}
use Rattle.bd_node.specs.declared.node.Entry.{Entry}
use Rattle.bd_node.specs.declared.node.Node.{Node}
use Rattle.bd_node.specs.declared.node.Node.TheVariants.{Leaf, Inner}
use Rattle.bd_node.specs.Compaction.{IsCompacted}
use Rattle.bd_inner.specs.Carving.{is_below_end, from_key}
use Rattle.bd_inner.specs.Clipping.{count_before}
use Rattle.bd_inner.specs.Halves.{bare_edge}

-- ---- the keys that are asked for

-- the first key that an edge asks its child for, without its source
abbrev pub asked_from : Edge → List ℕ
asked_from e = drop e.lift e.pivot

-- where the keys end that an edge asks its child for, without its source, if its own end there
abbrev pub asked_end : Edge → Option (List ℕ) → Option (List ℕ)
asked_end e None = None
asked_end e (Some hi) =
    if begins hi (take e.lift e.pivot) then Some (drop e.lift hi) else None

-- keys from one on and below another one, both of which can be stored
pub record IsSpan (lo : List ℕ) (hi : Option (List ℕ)) : Type 0 where
  pub low : length lo ≤ key_limit
  pub high : (key : List ℕ) → hi ≡ Some key → length key ≤ key_limit
  pub rising : IsBelowEnd lo hi

-- an edge with a source that can be stored, whose keys end there
pub record IsAsking (e : Edge) (hi : Option (List ℕ)) : Type 0 where
  pub span : IsSpan e.pivot hi
  pub lift : e.lift ≤ length e.pivot
  pub common : IsCommon e.pivot hi (take e.lift e.pivot)
  pub source : length e.source ≤ key_limit

-- ---- leaves

-- whether a key is at least the first and below the end
abbrev pub is_within : List ℕ → Option (List ℕ) → List ℕ → Bool
is_within lo hi key = not (is_lt (key_cmp key lo)) && is_below_end key hi

-- the entries of these keys
abbrev pub within : List ℕ → Option (List ℕ) → List Entry → List Entry
within lo hi entries = filter (λ (e : Entry). is_within lo hi e.key) entries

-- ---- inner nodes

-- edges of which the first begins at a key
abbrev pub begun : List ℕ → List Edge → List Edge
begun key [] = []
begun key (e ∷ es) = from_key e key ∷ es

-- the edges of the keys from one on, and one before them without a child
abbrev pub started : ℕ → List ℕ → List Edge → List Edge
started seen [] edges = edges
started seen (b ∷ lo) edges =
    bare_edge [] seen ∷ begun (b ∷ lo) (drop (count_before (b ∷ lo) edges) edges)

-- how many edges begin below a key, up to the first that doesn't
abbrev pub count_below : List ℕ → List Edge → ℕ
count_below key edges = prefix_len (λ (e : Edge). is_lt (key_cmp e.pivot key)) edges

-- the edges of the keys below an end, if there is one, and one after them without a child
abbrev pub ended : ℕ → Option (List ℕ) → List Edge → List Edge
ended seen None edges = edges
ended seen (Some hi) edges = take (count_below hi edges) edges ++ bare_edge hi seen ∷ []

-- the first edges, or the second ones where those are more than 16
abbrev pub few_or : List Edge → List Edge → List Edge
few_or made edges = if nat_lt edge_limit (length made) then edges else made

-- the edges of these keys, and ones without a child for the keys before and after them; all edges
-- as they are, where those would be too many
abbrev pub narrowed : ℕ → List ℕ → Option (List ℕ) → List Edge → List Edge
narrowed seen lo hi edges = few_or (ended seen hi (started seen lo edges)) edges

-- a node with what it has at these keys alone
abbrev pub narrowed_node : List ℕ → Option (List ℕ) → Node → Node
narrowed_node lo hi (Leaf entries) = Leaf (within lo hi entries)
narrowed_node lo hi (Inner level edges buffer) =
    Inner level (narrowed (length buffer) lo hi edges) buffer

-- the same, without the messages that are then pending for no edge
abbrev pub IsNarrowed : List ℕ → Option (List ℕ) → Node → Node → Type 0
IsNarrowed lo hi n m = IsCompacted (narrowed_node lo hi n) m
