-- Messages on one key each, and what they make of what stands there.
use Rattle.std.specs.Prelude.{◌≡◌, ℕ, ◌≤◌, true, List, [], ◌∷◌, map, Option, None, Some, ⊤}
use Rattle.std.specs.Option.{unwrap_or}
use Rattle.std.specs.List.{AllByRecursion, sum_by}
use Rattle.bd_keys.specs.Edits.{overwritten}
use Rattle.bd_keys.specs.Keys.{IsAtLeast}
use Rattle.bd_message.specs.declared.message.Message.{Message}
use Rattle.bd_message.specs.declared.message.Message.TheVariants.{Put, Del, Patch, Cut, Goto}
use Rattle.bd_message.specs.Messages.{IsMessage, size}
use Rattle.bd_message.specs.Effect.{NodesAt, acts}
use Rattle.bd_node.specs.declared.node.Entry.{Entry}
use Rattle.bd_node.specs.Index.{is_point, own_key}
use Rattle.bd_node.specs.Nodes.{entry_at}
use Rattle.bd_leaf.specs.declared.points.Point.{Point}
use Rattle.bd_leaf.specs.declared.points.Point.TheVariants.{Sent, Dropped}

-- ---- the points of a batch

-- the message that a point is: that of the batch, or the Del of an entry
abbrev pub message_of : Point → Message
message_of (Sent m) = m.now
message_of (Dropped e) = Del e.now.key

-- those of several
abbrev pub messages_of : List Point → List Message
messages_of points = map message_of points

-- the Dels of entries
abbrev pub dels_of : List Entry → List Message
dels_of entries = map (λ (e : Entry). Del e.key) entries

-- the message is well-formed, and on one key
pub record IsPoint (m : Message) : Type 0 where
  pub message : IsMessage m
  pub point : is_point m ≡ true

-- and on this one
pub record IsOn (k : List ℕ) (m : Message) : Type 0 where
  pub point : IsPoint m
  pub key : own_key m ≡ k

-- no key is above that of a later message
abbrev pub AreInTurn : List Message → Type 0
AreInTurn [] = ⊤
AreInTurn (m ∷ list) =
    AllByRecursion (λ (n : Message). IsAtLeast (own_key n) (own_key m)) list × AreInTurn list

-- how many bytes more a message can make of entries: none, if it drops one
abbrev pub growth : Message → ℕ
growth (Del key) = 0
growth (Put key value) = size (Put key value)
growth (Patch key off bytes) = size (Patch key off bytes)
growth (Cut prefix from) = size (Cut prefix from)
growth (Goto prefix source child) = size (Goto prefix source child)

-- messages on one key each that make of entries what others make of them, and of no more bytes
pub record IsResolved (entries : List Entry) (list points : List Message) : Type 0 where
  pub each : AllByRecursion IsPoint points
  pub acted : (below : NodesAt) (k : List ℕ)
      → acts below points k (entry_at entries k) ≡ acts below list k (entry_at entries k)
  pub size : sum_by growth points ≤ sum_by size list

-- messages on one key each in the order of their keys, which do the same
pub record IsSorted (old new : List Message) : Type 0 where
  pub each : AllByRecursion IsPoint new
  pub turn : AreInTurn new
  pub acted : (below : NodesAt) (k : List ℕ) (o : Option (List ℕ))
      → acts below new k o ≡ acts below old k o
  pub growth : sum_by growth new ≡ sum_by growth old

-- ---- a value

-- what a message on a key makes of what stands there
abbrev pub value_after : Message → Option (List ℕ) → Option (List ℕ)
value_after (Put key value) old = Some value
value_after (Del key) old = None
value_after (Patch key off bytes) old = Some (overwritten (unwrap_or old []) off bytes)
value_after (Cut prefix from) old = old
value_after (Goto prefix source child) old = old

-- what several make of it, the first one first
abbrev pub value_after_all : List Message → Option (List ℕ) → Option (List ℕ)
value_after_all [] old = old
value_after_all (m ∷ list) old = value_after_all list (value_after m old)
