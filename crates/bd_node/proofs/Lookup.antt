-- What a node has depends on no more than what the nodes that it names have.
use Rattle.std.proofs.Common.{◌≡◌, ℕ, zero, suc, ◌+◌, ◌≤◌, true, cond, List, [], ◌∷◌, ◌++◌, drop, refl, ap, subst, ◌∙◌, Option, None, Some, arith, inl, inr}
use Rattle.std.specs.Prelude.{count_by, ◌==◌, slice_get}
use Rattle.std.specs.List.{AllByRecursion, flat_map}
use Rattle.std.specs.Option.{option_to_list}
use Rattle.std.specs.Ordering.{is_lt}
use Rattle.std.proofs.lemmas.Bool.{cond_both, cases_eq, eq-eqb, ne_eqb, and_parts, and_from, ltb-true, lt-ltb}
use Rattle.std.proofs.lemmas.Option.{same_Some, none-some}
use Rattle.std.proofs.lemmas.List.Sums.{sum_by-cons}
use Rattle.bd_keys.specs.Keys.{key_cmp, IsKey}
use Rattle.bd_message.specs.declared.message.Message.{Message}
use Rattle.bd_message.specs.declared.message.Message.TheVariants.{Put, Del, Patch, Cut, Goto}
use Rattle.bd_message.specs.Effect.{NodesAt, begins, rest, act, acts}
use Rattle.bd_node.specs.declared.node.Edge.{Edge}
use Rattle.bd_node.specs.declared.node.Node.{Node}
use Rattle.bd_node.specs.declared.node.Node.TheVariants.{Leaf, Inner}
use Rattle.bd_node.specs.Nodes.{message_names, edge_names, names, edge_from, child_at, edge_at, node_at, is_key, node_has}

-- ---- properties of each element

pub each_weaker : {A : Type 0} (P Q : A → Type 0) → ((x : A) → P x → Q x) → (xs : List A) → AllByRecursion P xs → AllByRecursion Q xs
each_weaker P Q f [] h = tt
each_weaker P Q f (x ∷ xs) h = (f x h.0, each_weaker P Q f xs h.1)

pub each_first : {A : Type 0} (P : A → Type 0) (xs ys : List A) → AllByRecursion P (xs ++ ys) → AllByRecursion P xs
each_first P [] ys h = tt
each_first P (x ∷ xs) ys h = (h.0, each_first P xs ys h.1)

pub each_second : {A : Type 0} (P : A → Type 0) (xs ys : List A) → AllByRecursion P (xs ++ ys) → AllByRecursion P ys
each_second P [] ys h = h
each_second P (x ∷ xs) ys h = each_second P xs ys h.1

pub each_both : {A : Type 0} (P : A → Type 0) (xs ys : List A) → AllByRecursion P xs → AllByRecursion P ys → AllByRecursion P (xs ++ ys)
each_both P [] ys h g = g
each_both P (x ∷ xs) ys h g = (h.0, each_both P xs ys h.1 g)

-- and so of the one at a place
pub each_at : {A : Type 0} (P : A → Type 0) (xs : List A) (i : ℕ) (x : A) → AllByRecursion P xs → slice_get xs i ≡ Some x → P x
each_at P [] i x h e = absurd (none-some x e)
each_at P (y ∷ xs) zero x h e = subst P (same_Some y x e) h.0
each_at P (y ∷ xs) (suc i) x h e = each_at P xs i x h.1 e

pub each_dropped : (P : ℕ → Type 0) (n : ℕ) (ms : List Message) → AllByRecursion P (flat_map message_names ms) → AllByRecursion P (flat_map message_names (drop n ms))
each_dropped P zero ms h = h
each_dropped P (suc n) [] h = tt
each_dropped P (suc n) (m ∷ ms) h = each_dropped P n ms (each_second P (message_names m) (flat_map message_names ms) h)

-- ---- how often a name stands in a list

pub count-cons : (x c : ℕ) (xs : List ℕ) → count_by (λ name. name == c) (x ∷ xs) ≡ cond (x == c) 1 0 + count_by (λ name. name == c) xs
count-cons x c xs = sum_by-cons (λ name. cond (name == c) 1 0) x xs

pub count-cons_same : (c : ℕ) (xs : List ℕ) → count_by (λ name. name == c) (c ∷ xs) ≡ 1 + count_by (λ name. name == c) xs
count-cons_same c xs = count-cons c c xs ∙ ap (λ b. cond b 1 0 + count_by (λ name. name == c) xs) (eq-eqb c c refl)

pub count-cons_other : (x c : ℕ) (xs : List ℕ) → (x ≡ c → ⊥) → count_by (λ name. name == c) (x ∷ xs) ≡ count_by (λ name. name == c) xs
count-cons_other x c xs ne = count-cons x c xs ∙ ap (λ b. cond b 1 0 + count_by (λ name. name == c) xs) (ne_eqb x c ne) ∙ omega arith

pub count-cons_le : (x c : ℕ) (xs : List ℕ) → count_by (λ name. name == c) xs ≤ count_by (λ name. name == c) (x ∷ xs)
count-cons_le x c xs = omega (arith, count-cons x c xs)

-- what holds of each name holds of one that is named
pub named_has : (P : ℕ → Type 0) (c : ℕ) (xs : List ℕ) → AllByRecursion P xs → 1 ≤ count_by (λ name. name == c) xs → P c
named_has P c [] h one = absurd (omega arith)
named_has P c (x ∷ xs) h one =
    elim (cases_eq x c) [
      | inl same ↦ subst P same h.0
      | inr other ↦ named_has P c xs h.1 (omega (arith, count-cons_other x c xs other))
    ]

-- and the other way round
pub each_named : (P : ℕ → Type 0) (xs : List ℕ) → ((c : ℕ) → 1 ≤ count_by (λ name. name == c) xs → P c) → AllByRecursion P xs
each_named P [] h = tt
each_named P (x ∷ xs) h =
    (h x (omega (arith, count-cons_same x xs)), each_named P xs (λ c one. h c (omega (arith, count-cons_le x c xs))))

-- ---- what depends on what is below

-- the two have the same of a node
abbrev pub Agree : NodesAt → NodesAt → ℕ → Type 0
Agree f g c = (k : List ℕ) → f c k ≡ g c k

act-same : (f g : NodesAt) (m : Message) (k : List ℕ) (old : Option (List ℕ)) → AllByRecursion (Agree f g) (message_names m) → act f m k old ≡ act g m k old
act-same f g (Put key value) k old h = refl
act-same f g (Del key) k old h = refl
act-same f g (Patch key off bytes) k old h = refl
act-same f g (Cut prefix from) k old h = refl
act-same f g (Goto prefix source child) k old h = ap (λ (v : Option (List ℕ)). cond (begins k prefix) v old) (h.0 (source ++ rest prefix k))

pub acts-same : (f g : NodesAt) (ms : List Message) (k : List ℕ) (old : Option (List ℕ)) → AllByRecursion (Agree f g) (flat_map message_names ms) → acts f ms k old ≡ acts g ms k old
acts-same f g [] k old h = refl
acts-same f g (m ∷ ms) k old h =
    acts-same f g ms k (act f m k old) (each_second (Agree f g) (message_names m) (flat_map message_names ms) h)
    ∙ ap (λ v. acts g ms k v) (act-same f g m k old (each_first (Agree f g) (message_names m) (flat_map message_names ms) h))

child_at-same : (f g : NodesAt) (c : Option ℕ) (k : List ℕ) → AllByRecursion (Agree f g) (option_to_list c) → child_at f c k ≡ child_at g c k
child_at-same f g None k h = refl
child_at-same f g (Some c) k h = h.0 k

pub each_edge_from : (P : ℕ → Type 0) (e : Edge) (es : List Edge) (k : List ℕ) → AllByRecursion P (edge_names e) → AllByRecursion P (flat_map edge_names es) → AllByRecursion P (edge_names (edge_from e es k))
each_edge_from P e [] k own more = own
each_edge_from P e (f ∷ es) k own more =
    cond_both (is_lt (key_cmp k f.pivot)) e (edge_from f es k) (λ (d : Edge). AllByRecursion P (edge_names d)) (λ _. own)
    (λ _. each_edge_from P f es k (each_first P (edge_names f) (flat_map edge_names es) more) (each_second P (edge_names f) (flat_map edge_names es) more))

edge_at-same : (f g : NodesAt) (e : Edge) (buffer : List Message) (k : List ℕ) → AllByRecursion (Agree f g) (edge_names e) → AllByRecursion (Agree f g) (flat_map message_names buffer) → edge_at f e buffer k ≡ edge_at g e buffer k
edge_at-same f g e buffer k own more =
    acts-same f g (drop e.seen buffer) k (child_at f e.child (e.source ++ drop e.lift k)) (each_dropped (Agree f g) e.seen buffer more)
    ∙ ap (λ v. acts g (drop e.seen buffer) k v) (child_at-same f g e.child (e.source ++ drop e.lift k) own)

pub node_at-same : (f g : NodesAt) (n : Node) (k : List ℕ) → AllByRecursion (Agree f g) (names n) → node_at f n k ≡ node_at g n k
node_at-same f g (Leaf entries) k h = refl
node_at-same f g (Inner level [] buffer) k h = refl
node_at-same f g (Inner level (e ∷ es) buffer) k h =
    let edges : List Edge = e ∷ es in
    let first = each_first (Agree f g) (flat_map edge_names edges) (flat_map message_names buffer) h in
    edge_at-same f g (edge_from e es k) buffer k
    (each_edge_from (Agree f g) e es k (each_first (Agree f g) (edge_names e) (flat_map edge_names es) first) (each_second (Agree f g) (edge_names e) (flat_map edge_names es) first))
    (each_second (Agree f g) (flat_map edge_names edges) (flat_map message_names buffer) h)

pub node_has-same : (f g : NodesAt) (n : Node) (k : List ℕ) → AllByRecursion (Agree f g) (names n) → node_has f n k ≡ node_has g n k
node_has-same f g n k h = ap (λ (v : Option (List ℕ)). cond (is_key k) v None) (node_at-same f g n k h)

-- ---- lists of bytes

pub is_key-key : (k : List ℕ) → IsKey k → is_key k ≡ true
is_key-key [] h = refl
is_key-key (b ∷ k) h = and_from _ _ (lt-ltb b 256 (h zero)) (is_key-key k (λ i. h (suc i)))

pub node_has-key : (f : NodesAt) (n : Node) (k : List ℕ) → IsKey k → node_has f n k ≡ node_at f n k
node_has-key f n k h = ap (λ b. cond b (node_at f n k) None) (is_key-key k h)

pub key-is_key : (k : List ℕ) → is_key k ≡ true → IsKey k
key-is_key [] h i = omega arith
key-is_key (b ∷ k) h zero = ltb-true b 256 (and_parts _ _ h).0
key-is_key (b ∷ k) h (suc i) = key-is_key k (and_parts _ _ h).1 i
