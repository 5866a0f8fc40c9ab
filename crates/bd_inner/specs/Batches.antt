-- What a push moves from a node to a child.
use Rattle.std.specs.Prelude.{◌≡◌, ℕ, ◌+◌, ◌<◌, ◌≤◌, ◌⊎◌, ◌==◌, true, List, [], ◌∷◌, ◌++◌, length, take, drop, Option, Some, count_by, slice_get}
use Rattle.std.specs.Option.{option_to_list}
use Rattle.std.specs.List.{AllByRecursion, flat_map, sum_by}
use Rattle.bd_limits.specs.Limits.{batch_limit}
use Rattle.bd_keys.specs.Keys.{IsKey, IsBelowEnd, InRange, IsCommon}
use Rattle.bd_message.specs.declared.message.Message.{Message}
use Rattle.bd_message.specs.Messages.{IsMessage, IsPlain, size}
use Rattle.bd_message.specs.Effect.{NodesAt, acts}
use Rattle.bd_message.specs.Freeing.{freed, KeepsSource}
use Rattle.bd_node.specs.declared.node.Edge.{Edge}
use Rattle.bd_node.specs.Touching.{touches, CanTouch}
use Rattle.bd_node.specs.Nodes.{message_names}
use Rattle.bd_node.specs.Pushes.{IsPlainFor}
use Rattle.bd_inner.specs.declared.batches.Batch.{Batch}

-- how often messages name a node
abbrev pub goto_count : ℕ → List Message → ℕ
goto_count c ms = count_by (λ name. name == c) (flat_map message_names ms)

-- the bytes that are left out of an edge's keys
abbrev pub lifted : Edge → List ℕ
lifted e = take e.lift e.pivot

-- an edge whose keys end there, and have the bytes in common that are left out of them
pub record IsLifted (e : Edge) (hi : Option (List ℕ)) : Type 0 where
  pub rising : IsBelowEnd e.pivot hi
  pub lift : e.lift ≤ length e.pivot
  pub common : IsCommon e.pivot hi (lifted e)

-- the message can go down an edge whose keys end there: if it is a Goto of some of them, it is one
-- of keys that all begin with the bytes that are left out
abbrev pub CanMove : Edge → Option (List ℕ) → Message → Type 0
CanMove e hi m = (k : List ℕ) → InRange e.pivot hi k → touches m k ≡ true → KeepsSource (lifted e) m

-- messages that do to the child's keys of an edge, whose own keys end there, what others do to its
-- own keys
pub record IsMoved (e : Edge) (hi : Option (List ℕ)) (list moved : List Message) : Type 0 where
  pub effect : (below : NodesAt) (k : List ℕ) → IsKey k → InRange e.pivot hi k
      → (old : Option (List ℕ)) → acts below moved (drop e.lift k) old ≡ acts below list k old
  pub each : AllByRecursion IsMessage moved
  pub size : sum_by size moved ≤ sum_by size list
  pub names : (c : ℕ) → goto_count c moved ≤ goto_count c list
  pub plain : AllByRecursion (IsPlainFor e hi) list → AllByRecursion IsPlain moved

-- one of the messages can change what stands at a key of an edge, whose keys end there
abbrev pub SomeCanTouch : Edge → Option (List ℕ) → List Message → Type 0
SomeCanTouch e hi [] = ⊥
SomeCanTouch e hi (m ∷ list) = CanTouch m e.pivot hi ⊎ SomeCanTouch e hi list

-- what of a message goes down an edge, whose keys end there: if it can change what stands at one of
-- them, the message freed of the bytes that are left out of them, and else nothing
abbrev pub IsPart : Edge → Option (List ℕ) → Message → List Message → Type 0
IsPart e hi m part =
    (CanTouch m e.pivot hi × (part ≡ option_to_list (freed (lifted e) m)))
    ⊎ ((¬ CanTouch m e.pivot hi) × (part ≡ []))

-- what goes down of several messages, in their order
abbrev pub AreParts : Edge → Option (List ℕ) → List Message → List Message → Type 0
AreParts e hi [] moved = moved ≡ []
AreParts e hi (m ∷ list) moved =
    (part : List Message) × (rest : List Message) × IsPart e hi m part × AreParts e hi list rest
    × (moved ≡ part ++ rest)

-- the message would go down an edge, too, but there would be no room for it after these
pub record IsTooMuch (e : Edge) (hi : Option (List ℕ)) (messages : List Message) (m : Message)
    : Type 0 where
  pub can : CanTouch m e.pivot hi
  pub part : Message
  pub part_is : freed (lifted e) m ≡ Some part
  pub over : batch_limit < sum_by size messages + size part

-- what goes down an edge of the oldest messages of a list, as many as fit, at least one where one
-- can change what stands at a key of the edge
pub record IsBatch (e : Edge) (hi : Option (List ℕ)) (list : List Message) (b : Batch) : Type 0
  where
    pub within : b.count ≤ length list
    pub parts : AreParts e hi (take b.count list) b.messages
    pub moved : IsMoved e hi (take b.count list) b.messages
    pub some : SomeCanTouch e hi list → SomeCanTouch e hi (take b.count list)
    pub fits : sum_by size b.messages ≤ batch_limit
    pub full : (m : Message) → slice_get list b.count ≡ Some m → IsTooMuch e hi b.messages m
