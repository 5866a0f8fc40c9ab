-- What is known of a key and of the keys after it.
use Rattle.std.specs.Prelude.{◌≡◌, ℕ, ◌+◌, ◌*◌, ◌<◌, ◌≤◌, ◌==◌, Bool, true, false, List, [], ◌∷◌, ◌++◌, length, take, drop, Option, None, Some, IsSome, IfSome, count_by, slice_get, ⊤}
use Rattle.std.specs.List.{AllByRecursion}
use Rattle.bd_limits.specs.Limits.{key_limit}
use Rattle.bd_keys.specs.Keys.{IsKey, IsBelowEnd, IsAtLeast, InRange, Begins}
use Rattle.bd_message.specs.declared.message.Message.{Message}
use Rattle.bd_message.specs.declared.message.Message.TheVariants.{Put, Del, Patch, Cut, Goto}
use Rattle.bd_message.specs.KeyMaps.{At}
use Rattle.bd_message.specs.Effect.{NodesAt}
use Rattle.bd_node.specs.declared.node.Edge.{Edge}
use Rattle.bd_node.specs.declared.node.Entry.{Entry}
use Rattle.bd_node.specs.Tables.{Table, IsLower}
use Rattle.bd_node.specs.Index.{touches_at}
use Rattle.bd_node.specs.Touching.{touches, NoneTouches}
use Rattle.bd_query.specs.Looks.{part_at, IsNamedIn, IsLowerBase}
use Rattle.bd_query.specs.declared.stretch.Stretch.{Stretch}
use Rattle.bd_query.specs.declared.stretch.Stretch.TheVariants.{Present, Run, Absent, Child}
use Rattle.bd_query.specs.declared.turns.Turn.{Turn}
use Rattle.bd_query.specs.declared.turns.Turn.TheVariants.{Found, Run, Passed}

-- ---- ends

-- an end above the key, of at most so many bytes
pub record IsEnd (lo : List ℕ) (most : ℕ) (end : Option (List ℕ)) : Type 0 where
  pub above : IsBelowEnd lo end
  pub short : IfSome end (λ key. length key ≤ most)

-- the first end isn't above the second
abbrev pub IsWithin : Option (List ℕ) → Option (List ℕ) → Type 0
IsWithin end other = (k : List ℕ) → IsBelowEnd k end → IsBelowEnd k other

-- how many bytes an end that one node knows has at most
abbrev pub end_limit : ℕ
end_limit = key_limit + 1

-- ---- messages

-- whether a message leaves a value at a key that it changes, whatever the nodes have
abbrev pub gives_value : Message → Bool
gives_value (Put key value) = true
gives_value (Del key) = false
gives_value (Patch key off bytes) = true
gives_value (Cut prefix from) = false
gives_value (Goto prefix source child) = false

-- the least key at which a message can change anything
abbrev pub first_key : Message → List ℕ
first_key (Put key value) = key
first_key (Del key) = key
first_key (Patch key off bytes) = key
first_key (Cut prefix from) = prefix ++ from
first_key (Goto prefix source child) = prefix

-- no message from a place on changes a key from this one up to the end
abbrev pub NoneFrom : List Message → ℕ → List ℕ → Option (List ℕ) → Type 0
NoneFrom list from lo end = (k : List ℕ) → InRange lo end k → NoneTouches list from (length list) k

-- no message of a kind from a place on changes a key from this one up to the end
abbrev pub NoneAmong : (List Message → ℕ → Bool) → List Message → ℕ → List ℕ → Option (List ℕ)
    → Type 0
NoneAmong among list from lo end = (k : List ℕ) → InRange lo end k → (i : ℕ) → from ≤ i
    → i < length list → among list i ≡ true → touches_at list i k ≡ false

-- the place after one, and where there is none, the other
abbrev pub after : Option ℕ → ℕ → ℕ
after None seen = seen
after (Some place) seen = place + 1

-- the place of the newest message from a place on that can change the key, such that newer ones
-- change no key from it up to the end
abbrev pub IsNewest : List Message → ℕ → List ℕ → Option ℕ → Option (List ℕ) → Type 0
IsNewest list seen lo (Some place) end =
    (seen ≤ place) × NoneFrom list (place + 1) lo end
    × ((m : Message) × (slice_get list place ≡ Some m) × (touches m lo ≡ true))
IsNewest list seen lo None end = NoneFrom list seen lo end

-- ---- stretches

-- no key from this one up to the end has a value
abbrev pub IsEmpty : At → List ℕ → Option (List ℕ) → Type 0
IsEmpty at lo end = (k : List ℕ) → IsKey k → InRange lo end k → at k ≡ None

-- the first of the keys from this one on that have a value, and that value
pub record IsFirst (at : At) (lo key value : List ℕ) : Type 0 where
  pub on : IsAtLeast key lo
  pub empty : IsEmpty at lo (Some key)
  pub has : at key ≡ Some value

-- the entries of the first keys from this one on that have a value, as many as there are entries
abbrev pub IsRun : At → List ℕ → List Entry → Type 0
IsRun at lo [] = ⊤
IsRun at lo (e ∷ es) =
    IsKey e.key × IsFirst at lo e.key e.value × IsRun at (e.key ++ 0 ∷ []) es

-- and there is at least one
abbrev pub IsSomeRun : At → List ℕ → List Entry → Type 0
IsSomeRun at lo entries = (1 ≤ length entries) × IsRun at lo entries

-- each key from this one up to the end has its first bytes, as many as the lift says, and what the
-- child has at the source and the key's other bytes
abbrev pub IsAsked : At → At → List ℕ → Option (List ℕ) → ℕ → List ℕ → Type 0
IsAsked at child lo end lift source = (k : List ℕ) → IsKey k → InRange lo end k
    → Begins k (take lift lo) × (at k ≡ child (source ++ drop lift k))

-- what is said of what stands at a key and at the keys after it
abbrev pub IsStretch : NodesAt → At → List ℕ → Stretch → Type 0
IsStretch below at lo (Present part) = IsSome (at lo) × (at lo ≡ part_at below part)
IsStretch below at lo (Run entries) = IsSomeRun at lo entries
IsStretch below at lo (Absent end) = IsEmpty at lo end
IsStretch below at lo (Child end child lift source) =
    IsAsked at (below child) lo end lift source

-- a stretch ends above the key; the lift is at most 518, and the key is as long
abbrev pub HasEnd : List ℕ → Stretch → Type 0
HasEnd lo (Present part) = ⊤
HasEnd lo (Run entries) = ⊤
HasEnd lo (Absent end) = IsEnd lo end_limit end
HasEnd lo (Child end child lift source) =
    IsEnd lo end_limit end × (lift ≤ key_limit) × (lift ≤ length lo)

-- a stretch ends at this end or before it, and the keys of a run are before it
abbrev pub EndsBy : Option (List ℕ) → Stretch → Type 0
EndsBy other (Present part) = ⊤
EndsBy other (Run entries) = AllByRecursion (λ (e : Entry). IsBelowEnd e.key other) entries
EndsBy other (Absent end) = IsWithin end other
EndsBy other (Child end child lift source) = IsWithin end other

-- a node that is asked is one of these
abbrev pub AsksOneOf : List ℕ → Stretch → Type 0
AsksOneOf ns (Present part) = IsNamedIn ns part.base
AsksOneOf ns (Run entries) = ⊤
AsksOneOf ns (Absent end) = ⊤
AsksOneOf ns (Child end child lift source) = 1 ≤ count_by (λ name. name == child) ns

-- a node that is asked is kept and of a lower level
abbrev pub AsksLower : Table → ℕ → Stretch → Type 0
AsksLower t level (Present part) = IsLowerBase t level part.base
AsksLower t level (Run entries) = ⊤
AsksLower t level (Absent end) = ⊤
AsksLower t level (Child end child lift source) = IsLower t level child

-- the edge's keys from this one up to the end have the bytes in common that it leaves out
pub record IsWay (e : Edge) (lo : List ℕ) (end : Option (List ℕ)) : Type 0 where
  pub few : e.lift ≤ key_limit
  pub long : e.lift ≤ length lo
  pub common : (k : List ℕ) → IsKey k → InRange lo end k → Begins k (take e.lift lo)

-- ---- turns

-- how many bytes the end of a turn has at most, at a node of this level
abbrev pub way_limit : ℕ → ℕ
way_limit level = end_limit * (level + 1)

-- what a turn finds: the key's value, the entries of the first keys that have one, or up to where
-- none has one
abbrev pub IsTurn : At → List ℕ → Turn → Type 0
IsTurn at lo (Found value) = at lo ≡ Some value
IsTurn at lo (Run entries) = IsSomeRun at lo entries
IsTurn at lo (Passed end) = IsEmpty at lo end

-- a turn passes the key, to an end of at most so many bytes
abbrev pub PassesTo : List ℕ → ℕ → Turn → Type 0
PassesTo lo most (Found value) = ⊤
PassesTo lo most (Run entries) = ⊤
PassesTo lo most (Passed end) = IsEnd lo most end
