-- What a store in memory is seen as.
use Rattle.std.specs.Prelude.{◌≡◌, ℕ, List, nat_eq}
use Rattle.std.specs.Option.{option_map, unwrap_or}
use Rattle.std.specs.Map.{lookup}
use Rattle.std.specs.Global.{Global}
use Rattle.std.specs.declared.rc.Rc.{Rc}
use Rattle.bd_node.specs.declared.node.Node.{Node}
use Rattle.bd_node.specs.Meaning.{Nodes}
use Rattle.bd_node.specs.Tables.{Table}
use Rattle.bd_memnodes.specs.declared.kept.Kept.{Kept}
use Rattle.bd_memnodes.specs.Stored.{table_of}

-- the nodes and the counts by their ids, the root, the size of what waits in it, the next id, and
-- how many nodes were fetched or made
pub record Seen : Type 0 where
  pub nodes : List (ℕ × Rc Node Global)
  pub counts : List (ℕ × ℕ)
  pub root : ℕ
  pub size : ℕ
  pub next : ℕ
  pub visits : ℕ

-- the nodes
abbrev pub nodes_of : Seen → Nodes
nodes_of s id = option_map (λ shared. shared.value) (lookup (nat_eq id) s.nodes)

-- the counts, the levels, the root and the next id
abbrev pub table : Seen → Table
table s =
    table_of (nodes_of s) (λ id. unwrap_or (lookup (nat_eq id) s.counts) 0) s.root s.size s.next

-- what a store is seen as that keeps this
abbrev pub seen : Kept → ℕ → Seen
seen kept visits = record {
  nodes = kept.nodes.entries;
  counts = kept.counts.entries;
  root = kept.root;
  size = kept.size;
  next = kept.next;
  visits = visits;
}

-- reads change what is counted alone
pub record SameNodes (a b : Seen) : Type 0 where
  pub nodes : nodes_of b ≡ nodes_of a
  pub table : table b ≡ table a
