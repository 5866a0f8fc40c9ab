-- The messages that wait on the way of a prefix.
use Rattle.std.specs.Prelude.{◌≡◌, ℕ, ◌+◌, ◌<◌, ◌≤◌, max, List, [], ◌∷◌, ◌++◌, Option}
use Rattle.std.specs.Option.{option_to_list}
use Rattle.std.specs.List.{AllByRecursion, flat_map, sum_by}
use Rattle.bd_limits.specs.Limits.{buffer_limit}
use Rattle.bd_message.specs.declared.message.Message.{Message}
use Rattle.bd_message.specs.Messages.{IsMessage, size}
use Rattle.bd_message.specs.Freeing.{freed}
use Rattle.bd_node.specs.Nodes.{message_names}
use Rattle.bd_node.specs.Tables.{Table, IsLower}
use Rattle.bd_resolve.specs.declared.following.Target.{Target}
use Rattle.bd_resolve.specs.Following.{IsLowerTarget}
use Rattle.bd_graft.specs.declared.layers.Layer.{Layer}

-- messages freed of a prefix, without those that change nothing at what begins with it
abbrev pub all_freed : List ℕ → List Message → List Message
all_freed s list = flat_map (λ m. option_to_list (freed s m)) list

-- one above the highest of these nodes, and 0 where there is none
abbrev pub above : (ℕ → ℕ) → List ℕ → ℕ
above level [] = 0
above level (c ∷ cs) = max (level c + 1) (above level cs)

-- the messages of layers, those of the last layer the oldest
abbrev pub laid : List Layer → List Message
laid [] = []
laid (l ∷ ls) = laid ls ++ l.messages

-- messages of a node that fit a node of its level, and the level above what they name
pub record IsLayer (t : Table) (l : Layer) : Type 0 where
  pub each : AllByRecursion IsMessage l.messages
  pub fits : sum_by size l.messages ≤ buffer_limit
  pub lower : AllByRecursion (IsLower t l.level) (flat_map message_names l.messages)
  pub over : l.over ≡ above t.level (flat_map message_names l.messages)

-- layers of nodes one below the other, all below a level, and a target below them
abbrev pub AreLayers : Table → ℕ → List Layer → Option Target → Type 0
AreLayers t high [] end = IsLowerTarget t high end
AreLayers t high (l ∷ ls) end = (1 ≤ l.level) × (l.level < high) × IsLayer t l × AreLayers t l.level ls end
