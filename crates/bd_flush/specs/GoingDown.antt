-- Which messages may go down an edge.
use Rattle.std.specs.Prelude.{◌≡◌, ℕ, ◌<◌, true, List, Option, None, Some, ⊤}
use Rattle.bd_keys.specs.Keys.{IsKey, IsBelow, InRange}
use Rattle.bd_message.specs.declared.message.Message.{Message}
use Rattle.bd_message.specs.declared.message.Message.TheVariants.{Put, Del, Patch, Cut, Goto}
use Rattle.bd_message.specs.Effect.{begins}
use Rattle.bd_node.specs.declared.node.Edge.{Edge}
use Rattle.bd_node.specs.Touching.{CanTouch}

-- all keys that begin with the prefix, which is one, are at least `lo` and below `hi`
pub record LiesWithin (prefix lo : List ℕ) (hi : Option (List ℕ)) : Type 0 where
  pub bytes : IsKey prefix
  pub range : (k : List ℕ) → begins k prefix ≡ true → InRange lo hi k

-- all keys that begin with the prefix are below the key
abbrev pub IsBelowAll : List ℕ → List ℕ → Type 0
IsBelowAll prefix key = (k : List ℕ) → begins k prefix ≡ true → IsBelow k key

-- the message may go down an edge, whose keys end there, to a child of a level: it names no node, or
-- it is a Goto of keys that are all the edge's, and names a node of a lower level than the child's
abbrev pub MayGoDown : (ℕ → ℕ) → ℕ → Edge → Option (List ℕ) → Message → Type 0
MayGoDown level top e hi (Put key value) = ⊤
MayGoDown level top e hi (Del key) = ⊤
MayGoDown level top e hi (Patch key off bytes) = ⊤
MayGoDown level top e hi (Cut prefix from) = ⊤
MayGoDown level top e hi (Goto prefix source child) =
    (level child < top) × LiesWithin prefix e.pivot hi

-- where the message can change what stands at a key of the edge, it may go down the edge
abbrev pub GoesDown : (ℕ → ℕ) → ℕ → Edge → Option (List ℕ) → Message → Type 0
GoesDown level top e hi m = CanTouch m e.pivot hi → MayGoDown level top e hi m

-- the level of an edge's child, and 0 where there is none
abbrev pub child_level : (ℕ → ℕ) → Option ℕ → ℕ
child_level level None = 0
child_level level (Some child) = level child
