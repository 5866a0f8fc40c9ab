-- What a cache keeps.
use Rattle.std.specs.Prelude.{◌≡◌, ◌⊎◌, ℕ, nat_eq, length, Option, None}
use Rattle.std.specs.Option.{option_map}
use Rattle.std.specs.Map.{lookup}
use Rattle.std.specs.declared.rc.Rc.{Rc}
use Rattle.std.specs.declared.alloc.Global.{Global}
use Rattle.bd_node.specs.declared.node.Node.{Node}
use Rattle.bd_cache.specs.declared.cache.NodeCache.{NodeCache}

-- the node that is held
abbrev pub node_of : Rc Node Global → Node
node_of held = held.value

-- the node that is kept for an id
abbrev pub kept_at : NodeCache → ℕ → Option Node
kept_at cache id = option_map node_of (lookup (nat_eq id) cache.kept.entries)

-- how many nodes are kept
abbrev pub cached_count : NodeCache → ℕ
cached_count cache = length cache.kept.entries

-- how many nodes are kept at most
abbrev pub room_of : NodeCache → ℕ
room_of cache = cache.kept.cap

-- what was kept for an id is still kept, or nothing is
abbrev pub IsKeptOrGone : Option Node → Option Node → Type 0
IsKeptOrGone old new = (new ≡ old) ⊎ (new ≡ None)
