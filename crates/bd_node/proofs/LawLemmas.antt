-- What the laws need besides.
use Rattle.std.proofs.Common.{◌≡◌, ℕ, zero, suc, ◌+◌, ◌-◌, ◌≤◌, false, List, [], ◌∷◌, length, drop, refl, sym, ap, subst, ◌∙◌, Option, None, Some, arith, inl, inr, eqb}
use Rattle.std.specs.Prelude.{slice_get, ◌⊎◌}
use Rattle.std.specs.List.{AllByRecursion}
use Rattle.std.proofs.lemmas.Bool.{cases_eq, cond-true, cond-false, eq-eqb, ne_eqb, false_from_ne_true}
use Rattle.std.proofs.lemmas.Option.{same_Some, none-some}
use Rattle.bd_keys.specs.Keys.{IsKey, InRange, IsBelowEnd}
use Rattle.bd_message.specs.declared.message.Message.{Message}
use Rattle.bd_message.specs.declared.message.Message.TheVariants.{Put, Del, Patch, Cut, Goto}
use Rattle.bd_message.specs.Effect.{NodesAt, act, acts, same_key, begins, is_cut}
use Rattle.bd_node.specs.declared.node.Edge.{Edge}
use Rattle.bd_node.specs.declared.node.Node.{Node}
use Rattle.bd_node.specs.declared.node.Step.{Step}
use Rattle.bd_node.specs.Touching.{touches, NoneTouches}
use Rattle.bd_node.specs.Nodes.{level_of, names, edge_of, is_key, node_at}
use Rattle.bd_node.specs.Meaning.{Nodes, at, IsBelowLevel, IsLevelled}
use Rattle.bd_node.specs.Shape.{EachEdge, SomeEdge, IsEdge, IsInner, IsShape}
use Rattle.bd_node.specs.Tables.{Table, IsKept, IsSound, references, one_if}
use Rattle.bd_node.specs.Private.{IsReached}
use Rattle.bd_node.specs.Private.IsReached.{at_root, named}
use Rattle.bd_node.specs.Steps.{IsCommitted}
use Rattle.bd_node.specs.Closed.{IsClosed}
use Rattle.bd_node.specs.New.{new_root, new_nodes, new_table}
use Rattle.bd_node.proofs.Lookup.{each_weaker, key-is_key, node_has-key}
use Rattle.bd_node.proofs.Meanings.{at-meets, at-others, at_untouched}
use Rattle.bd_node.proofs.Sound.{named_lower, one_if-same}
use Rattle.bd_node.proofs.Privacy.{reached}
use Rattle.bd_node.proofs.Edges.{EachEdge-weaker, SomeEdge-weaker, edge_of-only, some_edge}
use Rattle.bd_node.proofs.Closing.{by_node, ended}

pub keys_meet : (nodes : Nodes) → IsLevelled nodes → (id : ℕ) (n : Node) → nodes id ≡ Some n → (k : List ℕ) → IsKey k → at nodes id k ≡ node_at (at nodes) n k
keys_meet nodes levelled id n there k key = (at-meets nodes levelled).each id n there k ∙ node_has-key (at nodes) n k key

pub others_have_nothing : (nodes : Nodes) (id : ℕ) (k : List ℕ) → (IsKey k → ⊥) → at nodes id k ≡ None
others_have_nothing nodes id k not_key = at-others nodes id k (false_from_ne_true (is_key k) (λ h. not_key (key-is_key k h)))

-- an id of the part
abbrev pub InPart : Nodes → ℕ → Type 0
InPart part id = (n : Node) × (part id ≡ Some n)

in_part : (part : Nodes) (level c : ℕ) → IsBelowLevel level (part c) → InPart part c
in_part part level c below = by_node (InPart part c) (part c) (λ none. absurd (subst (λ (o : Option Node). IsBelowLevel level o) none below)) (λ n there. (n, there))

pub part_has : (nodes part : Nodes) → IsLevelled part → ((id : ℕ) (n : Node) → part id ≡ Some n → nodes id ≡ Some n) → (id : ℕ) (n : Node) → part id ≡ Some n → (k : List ℕ) → at part id k ≡ at nodes id k
part_has nodes part levelled same id n there =
    at_untouched nodes part (InPart part) (λ i inside. inside.1 ∙ sym (same i inside.0 inside.1))
    (λ i m inside there_in.
    let e : inside.0 ≡ m = same_Some inside.0 m (sym (same i inside.0 inside.1) ∙ there_in) in
    subst (λ (q : Node). AllByRecursion (InPart part) (names q)) e
    (each_weaker (λ c. IsBelowLevel (level_of inside.0) (part c)) (InPart part) (λ c below. in_part part (level_of inside.0) c below) (names inside.0) (levelled.each i inside.0 inside.1)))
    id (n, there)

-- ---- one outcome

reached_kept : (nodes : Nodes) (t : Table) → IsSound nodes t → (id : ℕ) → IsReached nodes t.root id → IsKept t id
reached_kept nodes t s id at_root = s.table.root
reached_kept nodes t s id (named p _ n up there one) = (named_lower nodes t s p n there id one).kept

outcome_from : (nodes : Nodes) (t : Table) (step : Step) (new other : Nodes) (u v : Table) → IsCommitted nodes t step new u → IsCommitted nodes t step other v → u.root ≡ v.root
    → (id : ℕ) → IsReached new u.root id → IsKept v id
outcome_from nodes t step new other u v c d root id at_root = subst (λ q. IsKept v q) (sym root) d.sound.table.root
outcome_from nodes t step new other u v c d root id (named p _ n up there one) =
    let kept_p : IsKept v p = outcome_from nodes t step new other u v c d root p up in
    let kept_u : IsKept u p = reached_kept new u c.sound p up in
    let there_too : other p ≡ Some n = d.stays p kept_p ∙ sym (c.stays p kept_u) ∙ there in
    (named_lower other v d.sound p n there_too id one).kept

pub one_outcome : (nodes : Nodes) (t : Table) (step : Step) (new other : Nodes) (u v : Table) → IsCommitted nodes t step new u → IsCommitted nodes t step other v → u.root ≡ v.root
    → (id : ℕ) → IsKept u id → IsKept v id × (new id ≡ other id)
one_outcome nodes t step new other u v c d root id kept =
    let too : IsKept v id = outcome_from nodes t step new other u v c d root id (reached new u c.sound id kept) in
    (too, c.stays id kept ∙ sym (d.stays id too))

-- ---- edges

pub edge_some : (level : ℕ) (edges : List Edge) (buffer : List Message) → IsInner level edges buffer → (k : List ℕ) → SomeEdge (λ (e : Edge) hi. (edge_of edges k ≡ Some e) × InRange e.pivot hi k) edges
edge_some level edges buffer h k =
    SomeEdge-weaker (λ (e : Edge) hi. (edge_of edges k ≡ Some e) × InRange e.pivot hi k × IsEdge (length buffer) e hi) (λ (e : Edge) hi. (edge_of edges k ≡ Some e) × InRange e.pivot hi k)
    (λ e hi found. (found.0, found.1)) edges (some_edge (IsEdge (length buffer)) edges k h.each h.first)

pub edge_only : (level : ℕ) (edges : List Edge) (buffer : List Message) → IsInner level edges buffer → (k : List ℕ) → EachEdge (λ (e : Edge) hi. InRange e.pivot hi k → edge_of edges k ≡ Some e) edges
edge_only level edges buffer h k =
    edge_of-only edges k (EachEdge-weaker (IsEdge (length buffer)) (λ (e : Edge) hi. IsBelowEnd e.pivot hi) (λ e hi own. own.rising) edges h.each)

-- ---- messages

pub untouched : (below : NodesAt) (m : Message) (k : List ℕ) → touches m k ≡ false → (old : Option (List ℕ)) → act below m k old ≡ old
untouched below (Put key value) k h old = cond-false (same_key k key) _ old h
untouched below (Del key) k h old = cond-false (same_key k key) _ old h
untouched below (Patch key off bytes) k h old = cond-false (same_key k key) _ old h
untouched below (Cut prefix from) k h old = cond-false (is_cut prefix from k) _ old h
untouched below (Goto prefix source child) k h old = cond-false (begins k prefix) _ old h

-- from a place on there is nothing, or a message and the rest
abbrev IsDrop : List Message → ℕ → Type 0
IsDrop xs i = (drop i xs ≡ []) ⊎ ((m : Message) × (slice_get xs i ≡ Some m) × (drop i xs ≡ m ∷ drop (suc i) xs))

drop_cases : (xs : List Message) (i : ℕ) → IsDrop xs i
drop_cases [] zero = inl refl
drop_cases [] (suc i) = inl refl
drop_cases (x ∷ xs) zero = inr (x, refl, refl)
drop_cases (x ∷ xs) (suc i) = drop_cases xs i

cons_nil : (x : Message) (xs : List Message) → x ∷ xs ≡ [] → ⊥
cons_nil x xs e = cc

drop_past : (xs : List Message) (i : ℕ) → drop i xs ≡ [] → drop (suc i) xs ≡ []
drop_past [] zero e = refl
drop_past [] (suc i) e = refl
drop_past (x ∷ xs) zero e = absurd (cons_nil x xs e)
drop_past (x ∷ xs) (suc i) e = drop_past xs i e

skip_by : (below : NodesAt) (list : List Message) (d from to : ℕ) (k : List ℕ) → from + d ≡ to → NoneTouches list from to k → (old : Option (List ℕ)) → acts below (drop from list) k old ≡ acts below (drop to list) k old
skip_by below list zero from to k e none old = ap (λ i. acts below (drop i list) k old) (let f : from ≡ to = omega arith in f)
skip_by below list (suc d) from to k e none old =
    let later : (o : Option (List ℕ)) → acts below (drop (suc from) list) k o ≡ acts below (drop to list) k o = λ o.
    skip_by below list d (suc from) to k (omega arith) (λ i m low high there. none i m (omega arith) high there) o in
    elim (drop_cases list from) [
      | inl end ↦ ap (λ ms. acts below ms k old) (end ∙ sym (drop_past list from end)) ∙ later old
      | inr some ↦
          ap (λ ms. acts below ms k old) some.2
          ∙ ap (λ o. acts below (drop (suc from) list) k o) (untouched below some.0 k (none from some.0 (omega arith) (omega arith) some.1) old)
          ∙ later old
    ]

pub skipped : (below : NodesAt) (list : List Message) (from to : ℕ) (k : List ℕ) → NoneTouches list from to k → from ≤ to → (old : Option (List ℕ)) → acts below (drop from list) k old ≡ acts below (drop to list) k old
skipped below list from to k none le old = skip_by below list (to - from) from to k (omega arith) none old

-- ---- new stores

new_only : (id : ℕ) (n : Node) → new_nodes id ≡ Some n → (id ≡ 1) × (new_root ≡ n)
new_only id n there =
    elim (cases_eq id 1) [
      | inl same ↦ (same, same_Some new_root n (sym (cond-true (eqb id 1) (Some new_root) None (eq-eqb id 1 same)) ∙ there))
      | inr other ↦ absurd (none-some n (sym (cond-false (eqb id 1) (Some new_root) None (ne_eqb id 1 other)) ∙ there))
    ]

new_shape : IsShape new_root
new_shape = record {
  low = omega arith;
  high = omega arith;
  few = omega arith;
  first = refl;
  each = (record { pivot = omega arith; rising = tt; lift = omega arith; common = λ k key range. refl; source = omega arith; child = refl; seen = omega arith }, tt);
  messages = tt;
  size = omega arith;
  pending = λ place m there. absurd (none-some m there);
}

new_closed : IsClosed new_nodes 2 1
new_closed = record {
  inner = omega arith;
  low = λ id n there. (let e : id ≡ 1 = (new_only id n there).0 in omega arith);
  below = λ id n there. (let e : id ≡ 1 = (new_only id n there).0 in omega arith);
  shape = λ id n there. subst IsShape (new_only id n there).1 new_shape;
  levelled = record {
    each = λ id n there. subst (λ (m : Node). AllByRecursion (λ c. IsBelowLevel (level_of m) (new_nodes c)) (names m)) (new_only id n there).1 tt;
  };
}

pub new_sound : IsSound new_nodes new_table
new_sound = ended new_nodes 2 1 new_closed (λ id n there.
    let e : id ≡ 1 = (new_only id n there).0 in
    let one : one_if 1 1 ≡ 1 = one_if-same 1 in
    let at_one : 1 ≤ references new_nodes 2 1 1 = omega arith in
    subst (λ i. 1 ≤ references new_nodes 2 1 i) (sym e) at_one)
