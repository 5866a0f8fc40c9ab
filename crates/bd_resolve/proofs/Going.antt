-- What stands at the keys of a long prefix, one node further down.
use Rattle.std.specs.List.{AllByRecursion}
use Rattle.std.proofs.lemmas.Bool.{cond-false}
use Rattle.std.proofs.lemmas.Option.{same_Some}
use Rattle.std.proofs.Common.{◌≡◌, ℕ, Bool, true, false, cond, ◌+◌, ◌-◌, ◌∷◌, ◌<◌, ◌≤◌, List, [], ◌++◌, length, refl, sym, ap, subst, ◌∙◌, Option, None, Some, inl, inr, arith}
use Rattle.bd_limits.specs.Limits.{key_limit}
use Rattle.bd_keys.specs.Keys.{IsKey}
use Rattle.bd_message.specs.Effect.{NodesAt, same_key}
use Rattle.bd_node.specs.declared.node.Node.{Node}
use Rattle.bd_node.specs.declared.node.Node.TheVariants.{Leaf, Inner}
use Rattle.bd_node.specs.declared.node.Entry.{Entry}
use Rattle.bd_node.specs.Nodes.{level_of, names, entry_at, is_key, node_at, node_has}
use Rattle.bd_node.specs.Meaning.{Nodes, at}
use Rattle.bd_node.specs.Shape.{IsEdge, IsEntry, IsShape}
use Rattle.bd_node.specs.Tables.{Table, IsKept, IsLower, IsNodeOf, IsStored, IsSound}
use Rattle.bd_node.proofs.Appending.{some_has}
use Rattle.bd_node.proofs.Lookup.{named_has}
use Rattle.bd_node.proofs.Sound.{sound-levelled}
use Rattle.bd_node.proofs.LawLemmas.{keys_meet}
use Rattle.bd_node.proofs.Meanings.{at-meets}
use Rattle.bd_resolve.specs.declared.following.Target.{Target}
use Rattle.bd_node.specs.Stores.{visited}
use Rattle.bd_node.proofs.Visited.{VisitsTo}
use Rattle.bd_resolve.specs.declared.following.Followed.{Followed}
use Rattle.bd_resolve.specs.declared.following.Followed.TheVariants.{Past}
use Rattle.bd_resolve.specs.Following.{target_at, IsNamedTarget, IsLowerTarget, IsEnd, IsPast, IsFollowed, GoesOn, AreNoneOr}
use Rattle.bd_resolve.proofs.Prefixes.{IsKey-append}
use Rattle.bd_resolve.proofs.Covers.{long_acts, too_long}
use Rattle.bd_resolve.proofs.Follows.{each_some}

-- a long prefix has keys of one edge
pub long_goes_on : (n : Node) (q : List ℕ) → IsShape n → 1 ≤ level_of n → key_limit < length q → IsEnd n q → ⊥
long_goes_on (Leaf entries) q shape inner long end = omega arith
long_goes_on (Inner level es buffer) q shape inner long end = elim end [
  | inl empty ↦ (let none : length q ≡ 0 = ap (λ (l : List ℕ). length l) empty in omega arith)
  | inr spread ↦ some_has ⊥ (λ e hi. length q < key_limit) (λ e hi less. (let l : length q < key_limit = less in omega arith)) es
      (each_some (IsEdge (length buffer)) (GoesOn q) (λ e hi. length q < key_limit) (λ e hi own goes. (let pivot : length e.pivot ≤ key_limit = own.pivot in let less : length q < length e.pivot = goes.1 in omega arith)) es shape.each spread.several)
]

-- so what it leads to is what stands there
pub long_past : (n : Node) (q : List ℕ) (newer : ℕ) (target : Option Target) → IsShape n → 1 ≤ level_of n → key_limit < length q → IsPast n q newer target → (below : NodesAt) (k : List ℕ) → node_at below n (q ++ k) ≡ target_at below target k
long_past (Leaf entries) q newer target shape inner long past below k = absurd (omega arith)
long_past (Inner level es buffer) q newer target shape inner long past below k =
    past.answer below k ∙ long_acts below buffer newer q k (target_at below target k) shape.messages past.within long past.newest

pub lower_target : (t : Table) (level : ℕ) (n : Node) (target : Option Target) → IsNodeOf t level n → IsNamedTarget (names n) target → IsLowerTarget t level target
lower_target t level n None own named = tt
lower_target t level n (Some target) own named = named_has (IsLower t level) target.child (names n) own.lower named

-- the node of an id has at the keys of a prefix what a target has
abbrev pub IsLedTo : Nodes → ℕ → List ℕ → Option Target → Type 0
IsLedTo nodes id q target = (n : Node) → nodes id ≡ Some n → (below : NodesAt) (k : List ℕ) → node_at below n (q ++ k) ≡ target_at below target k

no_entry : (es : List Entry) (q k : List ℕ) → AllByRecursion IsEntry es → key_limit < length q → entry_at es (q ++ k) ≡ None
no_entry [] q k each long = refl
no_entry (e ∷ es) q k each long = cond-false (same_key (q ++ k) e.key) (Some e.value) (entry_at es (q ++ k)) (too_long q k e.key each.0.key long) ∙ no_entry es q k each.1 long

no_value : (b : Bool) (v : Option (List ℕ)) → v ≡ None → cond b v None ≡ None
no_value true v e = e
no_value false v e = refl

leaf_has : (below : NodesAt) (n : Node) (q k : List ℕ) → IsShape n → level_of n ≡ 0 → key_limit < length q → node_has below n (q ++ k) ≡ None
leaf_has below (Leaf entries) q k shape level long = no_value (is_key (q ++ k)) (entry_at entries (q ++ k)) (no_entry entries q k shape.each long)
leaf_has below (Inner level es buffer) q k shape is long = absurd (let low : 1 ≤ level = shape.low in let none : level ≡ 0 = is in omega arith)

-- nothing in a leaf has so long a key
pub long_leaf : (nodes : Nodes) (t : Table) (id : ℕ) (q k : List ℕ) → IsSound nodes t → IsKept t id → t.level id ≡ 0 → key_limit < length q → at nodes id (q ++ k) ≡ None
long_leaf nodes t id q k s kept level long =
    let stored : IsStored nodes t id = s.each id kept in
    (at-meets nodes (sound-levelled nodes t s)).each id stored.node stored.there (q ++ k)
    ∙ leaf_has (at nodes) stored.node q k stored.of_table.shape (stored.of_table.level_is ∙ level) long

-- one node further down
pub led_on : (nodes : Nodes) (t : Table) (id : ℕ) (q : List ℕ) (target : Option Target) → IsSound nodes t → IsKept t id → IsKey q → IsLedTo nodes id q target → (k : List ℕ) → IsKey k → target_at (at nodes) target k ≡ at nodes id (q ++ k)
led_on nodes t id q target s kept key led k more =
    let stored : IsStored nodes t id = s.each id kept in
    sym (led stored.node stored.there (at nodes) k)
    ∙ sym (keys_meet nodes (sound-levelled nodes t s) id stored.node stored.there (q ++ k) (IsKey-append q k key more))

-- the same, as the code knows it
pub looked : (nodes : Nodes) (t : Table) (id : ℕ) (n own : Node) (q : List ℕ) (f : Followed) (newer : ℕ) (target : Option Target) → IsNodeOf t (t.level id) n → 1 ≤ t.level id → key_limit < length q → own ≡ n → IsFollowed own q f → f ≡ Past newer target → nodes id ≡ Some n → IsLedTo nodes id q target
looked nodes t id n own q f newer target of long_enough long is followed leads there m there_too below k =
    let inner : 1 ≤ level_of n = subst (λ (l : ℕ). 1 ≤ l) (sym of.level_is) long_enough in
    let past : IsPast n q newer target = subst (λ (g : Followed). IsFollowed n q g) leads (subst (λ (m : Node). IsFollowed m q f) is followed) in
    subst (λ (m : Node). node_at below m (q ++ k) ≡ target_at below target k) (same_Some n m (sym there ∙ there_too)) (long_past n q newer target of.shape inner long past below k)

-- ---- visits

-- there were none, or at most one a level gone down
pub gone_down : (before now after high low : ℕ) → VisitsTo before now high low → after ≡ visited now 1 → (lower : ℕ) → lower < low → AreNoneOr (high - lower) before after
gone_down before now after high low way one lower below =
    let few : way.number + low ≤ high = way.few in
    let less : lower < low = below in
    inr (record { number = way.number + 1; some = (omega arith); few = (omega arith); counted = one ∙ way.next })

pub none_or_more : (few many before after : ℕ) → few ≤ many → AreNoneOr few before after → AreNoneOr many before after
none_or_more few many before after le h = elim h [
  | inl none ↦ inl none
  | inr some ↦ inr (record { number = some.number; some = some.some; few = (let f : some.number ≤ few = some.few in omega arith); counted = some.counted })
]
