-- What turns find.
use Rattle.std.proofs.Common.{◌≡◌, ℕ, ◌+◌, ◌<◌, ◌≤◌, List, [], ◌∷◌, ◌++◌, take, drop, ◌∙◌, Option, None, Some, arith}
use Rattle.std.specs.Prelude.{◌⊎◌, ◌↔◌}
use Rattle.std.specs.List.{AllByRecursion}
use Rattle.bd_limits.specs.Limits.{key_limit}
use Rattle.bd_keys.specs.Keys.{IsKey, IsBelowEnd, InRange, Begins}
use Rattle.bd_keys.proofs.Order.{not_below_itself, IsKey-rest, IsKey-cons, IsKey-drop}
use Rattle.bd_message.specs.KeyMaps.{At}
use Rattle.bd_message.specs.Effect.{NodesAt}
use Rattle.bd_node.specs.declared.node.Entry.{Entry}
use Rattle.bd_node.specs.declared.node.Node.{Node}
use Rattle.bd_node.specs.Nodes.{names, node_at}
use Rattle.bd_node.specs.Meaning.{Nodes, at}
use Rattle.bd_node.specs.Tables.{Table, IsKept, IsLower, IsNodeOf, IsStored, IsSound}
use Rattle.bd_node.proofs.Lookup.{named_has}
use Rattle.bd_node.proofs.Sound.{sound-levelled}
use Rattle.bd_node.proofs.LawLemmas.{keys_meet}
use Rattle.bd_query.specs.declared.stretch.Stretch.{Stretch}
use Rattle.bd_query.specs.declared.stretch.Stretch.TheVariants.{Present, Run, Absent, Child}
use Rattle.bd_query.specs.declared.turns.Turn.{Turn}
use Rattle.bd_query.specs.declared.turns.Turn.TheVariants.{Found, Run, Passed}
use Rattle.bd_query.specs.Stretches.{IsEnd, end_limit, way_limit, IsEmpty, IsAsked, IsStretch, EndsBy, AsksOneOf, AsksLower, PassesTo}
use Rattle.bd_query.proofs.Going.{lower_base}
use Rattle.bd_query.proofs.EndLemmas.{lesser_end, end_weaker}
use Rattle.bd_query.proofs.StretchLemmas.{stretch_from}

-- ---- keys

pub IsKey-append : (a b : List ℕ) → IsKey a → IsKey b → IsKey (a ++ b)
IsKey-append [] b is_a is_b = is_b
IsKey-append (x ∷ a) b is_a is_b = IsKey-cons x (a ++ b) (is_a 0) (IsKey-append a b (IsKey-rest x a is_a) is_b)

-- ---- what a node asks

-- what a node asks is kept and of a lower level
pub asks_lower : (t : Table) (level : ℕ) (n : Node) (s : Stretch) → IsNodeOf t level n → AsksOneOf (names n) s → AsksLower t level s
asks_lower t level n (Present part) own h = lower_base t level n part.base own h
asks_lower t level n (Run entries) own h = tt
asks_lower t level n (Absent end) own h = tt
asks_lower t level n (Child end child lift source) own h = named_has (IsLower t level) child (names n) own.lower h

-- no stretch ends after all keys
each_anywhere : (es : List Entry) → AllByRecursion (λ (e : Entry). IsBelowEnd e.key None) es
each_anywhere [] = tt
each_anywhere (e ∷ es) = (tt, each_anywhere es)

ends_nowhere : (s : Stretch) → EndsBy None s
ends_nowhere (Present part) = tt
ends_nowhere (Run entries) = each_anywhere entries
ends_nowhere (Absent end) = λ k below. tt
ends_nowhere (Child end child lift source) = λ k below. tt

-- what a kept node's contents say, it says
pub node_says : (nodes : Nodes) (t : Table) (id : ℕ) (key : List ℕ) (s : Stretch) → IsSound nodes t → IsKept t id → IsKey key
    → ((n : Node) → nodes id ≡ Some n → (below : NodesAt) → IsStretch below (node_at below n) key s) → IsStretch (at nodes) (at nodes id) key s
node_says nodes t id key s sound kept is_key said =
    let stored : IsStored nodes t id = sound.each id kept in
    stretch_from (at nodes) (at nodes id) key None s (ends_nowhere s) is_key tt
    (λ k is_k within.
    (node_at (at nodes) stored.node, keys_meet nodes (sound-levelled nodes t sound) id stored.node stored.there k is_k, said stored.node stored.there (at nodes)))

-- ---- turns

-- a child's turn, its end, and the end of the keys that it was asked for
pub record IsRaisedTurn (key source : List ℕ) (lift most : ℕ) (end lower raised least : Option (List ℕ)) : Type 0 where
  pub own : IsEnd key end_limit end
  pub few : lift ≤ key_limit
  pub lower_end : IsEnd (source ++ drop lift key) most lower
  pub key_is : IsKey key
  pub source_is : IsKey source
  pub raised_end : IsEnd key (lift + most) raised
  pub inside : (k : List ℕ) → Begins k (take lift key) → InRange key raised k → InRange (source ++ drop lift key) lower (source ++ drop lift k)
  pub least_is : (k : List ℕ) → IsBelowEnd k least ↔ (IsBelowEnd k end × IsBelowEnd k raised)
  pub one : (least ≡ end) ⊎ (least ≡ raised)

pub raised_passes : (key source : List ℕ) (lift most : ℕ) (end below raised least : Option (List ℕ)) → IsRaisedTurn key source lift most end below raised least → IsEnd key (end_limit + most) least
raised_passes key source lift most end below raised least h =
    lesser_end key (end_limit + most) end raised least h.one (end_weaker key end_limit (end_limit + most) end (omega arith) h.own)
    (end_weaker key (lift + most) (end_limit + most) raised (let f : lift ≤ key_limit = h.few in omega arith) h.raised_end)

pub raised_empty : (key source : List ℕ) (lift most : ℕ) (end below raised least : Option (List ℕ)) (at child : At) → IsRaisedTurn key source lift most end below raised least
    → IsAsked at child key end lift source → IsEmpty child (source ++ drop lift key) below → IsEmpty at key least
raised_empty key source lift most end below raised least at child h asked empty k is_k within =
    let both = (h.least_is k).0 within.1 in
    let said = asked k is_k (within.0, both.0) in
    said.1 ∙ empty (source ++ drop lift k) (IsKey-append source (drop lift k) h.source_is (IsKey-drop lift k is_k)) (h.inside k said.0 (within.0, both.1))

pub raised_found : (key source value : List ℕ) (lift : ℕ) (end : Option (List ℕ)) (at child : At) → IsKey key → IsBelowEnd key end → IsAsked at child key end lift source → child (source ++ drop lift key) ≡ Some value → at key ≡ Some value
raised_found key source value lift end at child is_key above asked found = (asked key is_key (not_below_itself key, above)).1 ∙ found

pub passes_weaker : (key : List ℕ) (few more : ℕ) (turn : Turn) → few ≤ more → PassesTo key few turn → PassesTo key more turn
passes_weaker key few more (Found value) le h = tt
passes_weaker key few more (Run entries) le h = tt
passes_weaker key few more (Passed end) le h = end_weaker key few more end le h

-- one level more
pub level_more : (lower level : ℕ) → lower < level → end_limit + way_limit lower ≤ way_limit level
level_more lower level h = omega arith
