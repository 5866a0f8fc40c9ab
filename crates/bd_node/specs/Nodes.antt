-- Nodes: their parts, the nodes that they name, and what a node has at a key.
use Rattle.std.specs.Prelude.{ℕ, suc, Bool, if◌then◌else◌, nat_lt, ◌==◌, List, [], ◌∷◌, ◌++◌, drop, Option, None, Some, count_by}
use Rattle.std.specs.Option.{option_to_list}
use Rattle.std.specs.List.{list_all, flat_map, sum_by}
use Rattle.std.specs.Ordering.{is_lt}
use Rattle.bd_keys.specs.Keys.{key_cmp}
use Rattle.bd_message.specs.declared.message.Message.{Message}
use Rattle.bd_message.specs.declared.message.Message.TheVariants.{Put, Del, Patch, Cut, Goto}
use Rattle.bd_message.specs.Messages.{size}
use Rattle.bd_message.specs.Effect.{NodesAt, same_key, acts}
use Rattle.bd_node.specs.declared.node.Entry.{Entry}
use Rattle.bd_node.specs.declared.node.Edge.{Edge}
use Rattle.bd_node.specs.declared.node.Node.{Node}
use Rattle.bd_node.specs.declared.node.Node.TheVariants.{Leaf, Inner}

-- the level: 0 of a leaf
abbrev pub level_of : Node → ℕ
level_of (Leaf entries) = 0
level_of (Inner level edges buffer) = level

-- the level and 1, and 0 where there is no node
abbrev pub height_of : Option Node → ℕ
height_of None = 0
height_of (Some n) = suc (level_of n)

-- the size of the messages that wait in a node
abbrev pub buffer_size : Node → ℕ
buffer_size (Leaf entries) = 0
buffer_size (Inner level edges buffer) = sum_by size buffer

-- the node with messages put after those that wait in it
abbrev pub appended : Node → List Message → Node
appended (Leaf entries) list = Leaf entries
appended (Inner level edges buffer) list = Inner level edges (buffer ++ list)

-- ---- names

-- the node that a message names
abbrev pub message_names : Message → List ℕ
message_names (Goto prefix source child) = child ∷ []
message_names (Put key value) = []
message_names (Del key) = []
message_names (Patch key off bytes) = []
message_names (Cut prefix from) = []

-- the node that an edge names
abbrev pub edge_names : Edge → List ℕ
edge_names e = option_to_list e.child

-- the nodes that a node names, its edges' first, each as often as it names it
abbrev pub names : Node → List ℕ
names (Leaf entries) = []
names (Inner level edges buffer) = flat_map edge_names edges ++ flat_map message_names buffer

-- how often a node names another
abbrev pub times : Node → ℕ → ℕ
times n c = count_by (λ name. name == c) (names n)

-- ---- what a node has at a key

-- what the first entry of a key says
abbrev pub entry_at : List Entry → List ℕ → Option (List ℕ)
entry_at [] k = None
entry_at (e ∷ es) k = if same_key k e.key then Some e.value else entry_at es k

-- the last edge whose pivot isn't above the key, among these and one before them
abbrev pub edge_from : Edge → List Edge → List ℕ → Edge
edge_from e [] k = e
edge_from e (f ∷ es) k = if is_lt (key_cmp k f.pivot) then e else edge_from f es k

-- the edge whose keys include the key
abbrev pub edge_of : List Edge → List ℕ → Option Edge
edge_of [] k = None
edge_of (e ∷ es) k = Some (edge_from e es k)

-- what a child has at a key, and nothing without one
abbrev pub child_at : NodesAt → Option ℕ → List ℕ → Option (List ℕ)
child_at below None k = None
child_at below (Some child) k = below child k

-- what an edge's child has at the key's translation, changed by the messages that it hasn't seen
abbrev pub edge_at : NodesAt → Edge → List Message → List ℕ → Option (List ℕ)
edge_at below e buffer k =
    acts below (drop e.seen buffer) k (child_at below e.child (e.source ++ drop e.lift k))

-- the same where there may be no edge
abbrev pub through : NodesAt → Option Edge → List Message → List ℕ → Option (List ℕ)
through below None buffer k = None
through below (Some e) buffer k = edge_at below e buffer k

-- what a node has at a key, where `below` is what the nodes that it names have
abbrev pub node_at : NodesAt → Node → List ℕ → Option (List ℕ)
node_at below (Leaf entries) k = entry_at entries k
node_at below (Inner level edges buffer) k = through below (edge_of edges k) buffer k

-- the list is one of bytes
abbrev pub is_key : List ℕ → Bool
is_key k = list_all (λ byte. nat_lt byte 256) k

-- what a node has at a list: nothing where it isn't one of bytes
abbrev pub node_has : NodesAt → Node → List ℕ → Option (List ℕ)
node_has below n k = if is_key k then node_at below n k else None
