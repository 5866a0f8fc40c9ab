-- Messages put after those that wait in a node.
use Rattle.std.proofs.Common.{cond, eqb, ◌≡◌, ℕ, zero, suc, ◌+◌, ◌-◌, ◌<◌, ◌≤◌, true, false, not, List, [], ◌∷◌, ◌++◌, length, drop, refl, sym, ap, subst, ◌∙◌, Option, Some, arith, inl, inr, length-append}
use Rattle.std.specs.Prelude.{slice_get}
use Rattle.std.specs.List.{AllByRecursion, flat_map, sum_by}
use Rattle.std.specs.Ordering.{is_lt}
use Rattle.std.specs.Prelude.{count_by, ◌==◌}
use Rattle.std.proofs.lemmas.Bool.{and_from, cases_lt, cases_eq, cond-true, cond-false, eq-eqb, ne_eqb}
use Rattle.std.proofs.lemmas.Option.{same_Some}
use Rattle.std.proofs.lemmas.List.{drop-append-le}
use Rattle.std.proofs.lemmas.List.Sums.{sum_by-append}
use Rattle.std.proofs.lemmas.List.Concat.{flat_map-append}
use Rattle.std.proofs.lemmas.List.Elements.{recursion_from_All}
use Rattle.std.proofs.lemmas.Slice.Eq.{starts_is}
use Rattle.std.specs.Cmp.{unsigned_Decides}
use Rattle.bd_keys.specs.Keys.{key_cmp, IsKey, InRange}
use Rattle.bd_message.specs.declared.message.Message.{Message}
use Rattle.bd_message.specs.declared.message.Message.TheVariants.{Put, Del, Patch, Cut, Goto}
use Rattle.bd_message.specs.Messages.{IsMessage, IsPlain, size}
use Rattle.bd_message.specs.Effect.{NodesAt, same_key, begins, rest, is_cut, act, acts, no_nodes}
use Rattle.bd_node.specs.declared.node.Edge.{Edge}
use Rattle.bd_node.specs.declared.node.Node.{Node}
use Rattle.bd_node.specs.declared.node.Node.TheVariants.{Leaf, Inner}
use Rattle.bd_node.specs.declared.node.Step.{Step}
use Rattle.bd_node.specs.Touching.{touches}
use Rattle.bd_node.specs.Meaning.{Nodes, at}
use Rattle.bd_node.specs.Tables.{Table, IsLower, IsNodeOf, IsStored, IsSound, times_in, one_if, root_at}
use Rattle.bd_node.specs.Steps.{after, IsCommitted, append_step, grown}
use Rattle.bd_node.specs.Stores.{FitsRoot}
use Rattle.bd_node.specs.Nodes.{level_of, buffer_size, appended, message_names, edge_names, names, times, edge_of, child_at, edge_at, through, node_at}
use Rattle.bd_limits.specs.Limits.{buffer_limit}
use Rattle.bd_node.specs.Shape.{end_before, EachEdge, SomeEdge, IsEdge, IsPending, IsInner, IsShape}
use Rattle.bd_node.proofs.Lookup.{each_weaker, each_both, node_has-key}
use Rattle.bd_node.proofs.Meanings.{at-meets}
use Rattle.bd_node.proofs.Sums.{sum_same}
use Rattle.bd_node.proofs.Sound.{node_of, sound-levelled}
use Rattle.bd_node.proofs.Stepping.{after-none, after-some, given_at_root, given_other, root_step-meaning}
use Rattle.bd_node.proofs.Edges.{EachEdge-weaker, SomeEdge-weaker, some_edge, not_below_itself, not_less_lt}

-- ---- a key that a message can change

abbrev pub key_of : Message → List ℕ
key_of (Put key value) = key
key_of (Del key) = key
key_of (Patch key off bytes) = key
key_of (Cut prefix from) = prefix ++ from
key_of (Goto prefix source child) = prefix

same_key-refl : (k : List ℕ) → same_key k k ≡ true
same_key-refl [] = refl
same_key-refl (b ∷ k) = rw ((unsigned_Decides b b).1 refl) (same_key-refl k)

begins-append : (p x : List ℕ) → begins (p ++ x) p ≡ true
begins-append p x = (starts_is unsigned_Decides (p ++ x) p (begins (p ++ x) p) refl).1 x refl

append-nil : (k : List ℕ) → k ++ [] ≡ k
append-nil [] = refl
append-nil (b ∷ k) = ap (λ r. b ∷ r) (append-nil k)

rest-append : (p x : List ℕ) → rest p (p ++ x) ≡ x
rest-append [] x = refl
rest-append (b ∷ p) x = rest-append p x

not_lt : (x : List ℕ) → is_lt (key_cmp x x) ≡ false
not_lt x = not_less_lt (key_cmp x x) (not_below_itself x)

cut-beginning : (p x : List ℕ) → is_cut p x (p ++ x) ≡ true
cut-beginning p x =
    and_from _ _ (begins-append p x)
    (ap (λ r. not (is_lt (key_cmp r x))) (rest-append p x) ∙ ap not (not_lt x))

pub key_of-touched : (m : Message) → touches m (key_of m) ≡ true
key_of-touched (Put key value) = same_key-refl key
key_of-touched (Del key) = same_key-refl key
key_of-touched (Patch key off bytes) = same_key-refl key
key_of-touched (Cut prefix from) = cut-beginning prefix from
key_of-touched (Goto prefix source child) = subst (λ (k : List ℕ). begins k prefix ≡ true) (append-nil prefix) (begins-append prefix [])

-- ---- the shape

slice_get-append_old : {A : Type 0} (xs ys : List A) (i : ℕ) → i < length xs → slice_get (xs ++ ys) i ≡ slice_get xs i
slice_get-append_old [] ys i low = absurd (omega arith)
slice_get-append_old (x ∷ xs) ys zero low = refl
slice_get-append_old (x ∷ xs) ys (suc i) low = slice_get-append_old xs ys i (omega arith)

-- an edge that has seen no more than before
edge_longer : (n more : ℕ) (e : Edge) (hi : Option (List ℕ)) → IsEdge n e hi → IsEdge (n + more) e hi
edge_longer n more e hi h = record {
  pivot = h.pivot;
  rising = h.rising;
  lift = h.lift;
  common = h.common;
  source = h.source;
  child = h.child;
  seen = (let s : e.seen ≤ n = h.seen in omega arith);
}

-- messages after a buffer wait for the edges of their keys
pending_new : (es : List Edge) (n place : ℕ) (m : Message) → EachEdge (IsEdge n) es → end_before es ≡ Some [] → n ≤ place → SomeEdge (IsPending place m) es
pending_new es n place m each first high =
    SomeEdge-weaker (λ (e : Edge) hi. (edge_of es (key_of m) ≡ Some e) × InRange e.pivot hi (key_of m) × IsEdge n e hi) (IsPending place m)
    (λ e hi found. ((let s : e.seen ≤ n = found.2.seen in omega arith), (key_of m, found.1, key_of-touched m))) es
    (some_edge (IsEdge n) es (key_of m) each first)

pub inner_appended : (level : ℕ) (es : List Edge) (buffer list : List Message) → IsInner level es buffer → AllByRecursion IsMessage list → sum_by size buffer + sum_by size list ≤ buffer_limit → IsInner level es (buffer ++ list)
inner_appended level es buffer list h each fits = record {
  low = h.low;
  high = h.high;
  few = h.few;
  first = h.first;
  each = subst (λ (n : ℕ). EachEdge (IsEdge n) es) (sym (length-append buffer list))
      (EachEdge-weaker (IsEdge (length buffer)) (IsEdge (length buffer + length list)) (λ e hi own. edge_longer (length buffer) (length list) e hi own) es h.each);
  messages = each_both IsMessage buffer list h.messages each;
  size = (let e : sum_by size (buffer ++ list) ≡ sum_by size buffer + sum_by size list = sum_by-append size buffer list in omega arith);
  pending = λ place m there.
      elim (cases_lt place (length buffer)) [
        | inl low ↦ h.pending place m (sym (slice_get-append_old buffer list place low) ∙ there)
        | inr high ↦ pending_new es (length buffer) place m h.each h.first high
      ];
}

pub shape_appended : (n : Node) (list : List Message) → IsShape n → AllByRecursion IsMessage list → buffer_size n + sum_by size list ≤ buffer_limit → IsShape (appended n list)
shape_appended (Leaf entries) list h each fits = h
shape_appended (Inner level es buffer) list h each fits = inner_appended level es buffer list h each fits

pub level_appended : (n : Node) (list : List Message) → level_of (appended n list) ≡ level_of n
level_appended (Leaf entries) list = refl
level_appended (Inner level es buffer) list = refl

-- ---- the names

plain_names : (list : List Message) → AllByRecursion IsPlain list → flat_map message_names list ≡ []
plain_names [] h = refl
plain_names (Put key value ∷ list) h = plain_names list h.1
plain_names (Del key ∷ list) h = plain_names list h.1
plain_names (Patch key off bytes ∷ list) h = plain_names list h.1
plain_names (Cut prefix from ∷ list) h = plain_names list h.1
plain_names (Goto prefix source child ∷ list) h = absurd h.0

append-nil' : {A : Type 0} (xs : List A) → xs ++ [] ≡ xs
append-nil' [] = refl
append-nil' (x ∷ xs) = ap (λ r. x ∷ r) (append-nil' xs)

pub names_appended : (n : Node) (list : List Message) → AllByRecursion IsPlain list → names (appended n list) ≡ names n
names_appended (Leaf entries) list h = refl
names_appended (Inner level es buffer) list h =
    ap (λ more. flat_map edge_names es ++ more)
    (flat_map-append message_names buffer list ∙ ap (λ more. flat_map message_names buffer ++ more) (plain_names list h) ∙ append-nil' (flat_map message_names buffer))

-- ---- what the node has

pub acts-append : (below : NodesAt) (ms list : List Message) (k : List ℕ) (old : Option (List ℕ)) → acts below (ms ++ list) k old ≡ acts below list k (acts below ms k old)
acts-append below [] list k old = refl
acts-append below (m ∷ ms) list k old = acts-append below ms list k (act below m k old)

pub acts-plain : (below : NodesAt) (list : List Message) (k : List ℕ) (old : Option (List ℕ)) → AllByRecursion IsPlain list → acts below list k old ≡ acts no_nodes list k old
acts-plain below [] k old h = refl
acts-plain below (Put key value ∷ list) k old h = acts-plain below list k _ h.1
acts-plain below (Del key ∷ list) k old h = acts-plain below list k _ h.1
acts-plain below (Patch key off bytes ∷ list) k old h = acts-plain below list k _ h.1
acts-plain below (Cut prefix from ∷ list) k old h = acts-plain below list k _ h.1
acts-plain below (Goto prefix source child ∷ list) k old h = absurd h.0

edge_at-appended : (below : NodesAt) (e : Edge) (buffer list : List Message) (k : List ℕ) → e.seen ≤ length buffer → edge_at below e (buffer ++ list) k ≡ acts below list k (edge_at below e buffer k)
edge_at-appended below e buffer list k seen =
    ap (λ ms. acts below ms k (child_at below e.child (e.source ++ drop e.lift k))) (drop-append-le e.seen buffer list seen)
    ∙ acts-append below (drop e.seen buffer) list k (child_at below e.child (e.source ++ drop e.lift k))

pub some_has : (Q : Type 0) (P : Edge → Option (List ℕ) → Type 0) → ((e : Edge) (hi : Option (List ℕ)) → P e hi → Q) → (es : List Edge) → SomeEdge P es → Q
some_has Q P f [] h = absurd h
some_has Q P f (e ∷ es) h = elim h [ inl here ↦ f e (end_before es) here | inr later ↦ some_has Q P f es later ]

pub node_at-appended : (below : NodesAt) (n : Node) (list : List Message) (k : List ℕ) → IsShape n → 1 ≤ level_of n → node_at below (appended n list) k ≡ acts below list k (node_at below n k)
node_at-appended below (Leaf entries) list k h inner = absurd (omega arith)
node_at-appended below (Inner level es buffer) list k h inner =
    some_has (through below (edge_of es k) (buffer ++ list) k ≡ acts below list k (through below (edge_of es k) buffer k))
    (λ (e : Edge) hi. (edge_of es k ≡ Some e) × InRange e.pivot hi k × IsEdge (length buffer) e hi)
    (λ e hi found.
    ap (λ o. through below o (buffer ++ list) k) found.0
    ∙ edge_at-appended below e buffer list k found.2.seen
    ∙ sym (ap (λ o. acts below list k (through below o buffer k)) found.0))
    es (some_edge (IsEdge (length buffer)) es k h.each h.first)

pub buffer_appended : (n : Node) (list : List Message) → 1 ≤ level_of n → buffer_size (appended n list) ≡ buffer_size n + sum_by size list
buffer_appended (Leaf entries) list inner = absurd (omega arith)
buffer_appended (Inner level es buffer) list inner = sum_by-append size buffer list

buffer_high : (n : Node) → IsShape n → buffer_size n ≤ buffer_limit
buffer_high (Leaf entries) h = omega arith
buffer_high (Inner level es buffer) h = h.size

-- ---- the step that puts messages after those of the root

pub node_appended : (t : Table) (n : Node) (list : List Message) → IsNodeOf t (t.level t.root) n → buffer_size n ≡ t.size → FitsRoot t list → IsNodeOf t (t.level t.root) (appended n list)
node_appended t n list own size_is fits =
    let high : buffer_size n ≤ buffer_limit = buffer_high n own.shape in
    let more : sum_by size list ≤ buffer_limit - t.size = fits.fits in
    record {
      shape = shape_appended n list own.shape (recursion_from_All IsMessage list fits.each) (omega arith);
      level_is = level_appended n list ∙ own.level_is;
      lower = subst (λ (xs : List ℕ). AllByRecursion (IsLower t (t.level t.root)) xs) (sym (names_appended n list (recursion_from_All IsPlain list fits.plain))) own.lower;
    }

grown_node : (t : Table) (list : List Message) (l : ℕ) (m : Node) → IsNodeOf t l m → IsNodeOf (grown t list) l m
grown_node t list l m own = record {
  shape = own.shape;
  level_is = own.level_is;
  lower = each_weaker (IsLower t l) (IsLower (grown t list) l) (λ c lower. record { kept = lower.kept; lower = lower.lower }) (names m) own.lower;
}

pub times_appended : (n : Node) (list : List Message) (c : ℕ) → AllByRecursion IsPlain list → times (appended n list) c ≡ times n c
times_appended n list c plain = ap (λ xs. count_by (λ name. name == c) xs) (names_appended n list plain)

pub append_sound : (nodes : Nodes) (t : Table) (n : Node) (list : List Message) → IsSound nodes t → nodes t.root ≡ Some n → FitsRoot t list → IsSound (after nodes t (append_step t n list)) (grown t list)
append_sound nodes t n list s there fits =
    let step : Step = append_step t n list in
    let new : Nodes = after nodes t step in
    let own : IsNodeOf t (t.level t.root) n = node_of nodes t s t.root n there in
    let plain : AllByRecursion IsPlain list = recursion_from_All IsPlain list fits.plain in
    let own_after : IsNodeOf t (t.level t.root) (appended n list) = node_appended t n list own (s.size n there) fits in
    let root_is : new t.root ≡ Some (appended n list) = after-some nodes t step t.root (appended n list) (given_at_root t (appended n list) s.table) in
    let other_is : (id : ℕ) → (id ≡ t.root → ⊥) → new id ≡ nodes id = λ id other. after-none nodes t step id (given_other t (appended n list) id other) in
    let term : (c i : ℕ) → times_in (nodes i) c ≡ times_in (new i) c = λ c i.
    elim (cases_eq i t.root) as (λ _. times_in (nodes i) c ≡ times_in (new i) c) [
      | inl same ↦ subst (λ (r : ℕ). times_in (nodes r) c ≡ times_in (new r) c) (sym same)
          (ap (λ o. times_in o c) there ∙ sym (times_appended n list c plain) ∙ sym (ap (λ o. times_in o c) root_is))
      | inr other ↦ sym (ap (λ o. times_in o c) (other_is i other))
    ] in
    record {
      table = record { root = s.table.root; inner = s.table.inner; low = s.table.low; below = s.table.below };
      each = λ id kept.
          elim (cases_eq id t.root) as (λ _. IsStored new (grown t list) id) [
            | inl same ↦ subst (λ (r : ℕ). IsStored new (grown t list) r) (sym same)
                (record { node = appended n list; there = root_is; of_table = grown_node t list (t.level t.root) (appended n list) own_after })
            | inr other ↦ (let stored : IsStored nodes t id = s.each id kept in
                record { node = stored.node; there = other_is id other ∙ stored.there; of_table = grown_node t list (t.level id) stored.node stored.of_table })
          ];
      others = λ id none.
          other_is id (λ same. (let some : 1 ≤ t.count t.root = s.table.root in let e : t.count id ≡ t.count t.root = ap t.count same in omega arith)) ∙ s.others id none;
      counts = λ id. s.counts id ∙ ap (λ a. a + one_if t.root id) (sum_same t.next (λ i. times_in (nodes i) id) (λ i. times_in (new i) id) (λ i low. term id i));
      size = λ m at_root.
          ap buffer_size (sym (same_Some (appended n list) m (sym root_is ∙ at_root)))
          ∙ buffer_appended n list (let a : level_of n ≡ t.level t.root = own.level_is in let b : 1 ≤ t.level t.root = s.table.inner in omega arith)
          ∙ ap (λ a. a + sum_by size list) (s.size n there);
    }

-- what the tree then has
pub append-meaning : (nodes : Nodes) (t : Table) (n : Node) (list : List Message) (new : Nodes) (u : Table) → IsSound nodes t → nodes t.root ≡ Some n → FitsRoot t list → IsCommitted nodes t (append_step t n list) new u → u.root ≡ t.root
    → (k : List ℕ) → IsKey k → root_at new u k ≡ acts no_nodes list k (root_at nodes t k)
append-meaning nodes t n list new u s there fits c root k key =
    let own : IsNodeOf t (t.level t.root) n = node_of nodes t s t.root n there in
    let plain : AllByRecursion IsPlain list = recursion_from_All IsPlain list fits.plain in
    let a : level_of n ≡ t.level t.root = own.level_is in
    let b : 1 ≤ t.level t.root = s.table.inner in
    root_step-meaning nodes t (appended n list) new u s (node_appended t n list own (s.size n there) fits) c root k key
    ∙ node_at-appended (at nodes) n list k own.shape (omega arith)
    ∙ acts-plain (at nodes) list k (node_at (at nodes) n k) plain
    ∙ ap (λ v. acts no_nodes list k v) (sym ((at-meets nodes (sound-levelled nodes t s)).each t.root n there k ∙ node_has-key (at nodes) n k key))

-- the nodes with another root
pub is_appended : (nodes new : Nodes) (t : Table) (root : Node) (list : List Message) → IsSound nodes t → ((i : ℕ) → new i ≡ cond (eqb t.root i) (Some (appended root list)) (nodes i)) → new ≡ after nodes t (append_step t root list)
is_appended nodes new t root list s is = λ j id.
    (let each : (i : ℕ) → new i ≡ after nodes t (append_step t root list) i = λ i.
    elim (cases_eq t.root i) [
      | inl same ↦ is i ∙ cond-true (eqb t.root i) (Some (appended root list)) (nodes i) (eq-eqb t.root i same)
          ∙ sym (subst (λ (k : ℕ). after nodes t (append_step t root list) k ≡ Some (appended root list)) same
          (after-some nodes t (append_step t root list) t.root (appended root list) (given_at_root t (appended root list) s.table)))
      | inr other ↦ is i ∙ cond-false (eqb t.root i) (Some (appended root list)) (nodes i) (ne_eqb t.root i other)
          ∙ sym (after-none nodes t (append_step t root list) i (given_other t (appended root list) i (λ e. other (sym e))))
    ] in each id) j
