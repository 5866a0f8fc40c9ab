-- Layers of messages, one after the other.
use Rattle.std.proofs.Common.{◌≡◌, ℕ, zero, suc, ◌<◌, ◌≤◌, Bool, true, false, cond, ltb, inl, inr, List, [], ◌∷◌, ◌++◌, length, drop, sym, ap, subst, ◌∙◌, Option, None, Some, arith, append_assoc}
use Rattle.std.specs.Prelude.{IfSome}
use Rattle.std.specs.List.{AllByRecursion, flat_map, sum_by}
use Rattle.std.proofs.lemmas.List.{append-nil}
use Rattle.std.proofs.lemmas.List.Sums.{sum_by-cons}
use Rattle.std.proofs.lemmas.Option.{same_Some}
use Rattle.std.proofs.lemmas.Bool.{cases_lt, lt-ltb, le-ltb, cond-true, cond-false}
use Rattle.bd_limits.specs.Limits.{key_limit, buffer_limit, level_limit}
use Rattle.bd_keys.specs.Keys.{IsKey}
use Rattle.bd_message.specs.declared.message.Message.{Message}
use Rattle.bd_message.specs.Messages.{IsMessage, size}
use Rattle.bd_message.specs.Effect.{NodesAt, acts}
use Rattle.bd_node.specs.declared.node.Node.{Node}
use Rattle.bd_node.specs.declared.node.Node.TheVariants.{Leaf, Inner}
use Rattle.bd_node.specs.Nodes.{level_of, names, message_names, edge_names, node_at}
use Rattle.bd_node.specs.Meaning.{Nodes, at}
use Rattle.bd_node.specs.Shape.{IsShape}
use Rattle.bd_node.specs.Tables.{Table, IsKept, IsLower, IsNodeOf, IsStored, IsSound}
use Rattle.bd_node.proofs.Lookup.{each_weaker, each_second, each_dropped}
use Rattle.bd_node.proofs.Sound.{sound-levelled}
use Rattle.bd_node.proofs.LawLemmas.{keys_meet}
use Rattle.bd_node.proofs.Appending.{acts-append}
use Rattle.bd_node.specs.Parts.{buffer_of}
use Rattle.bd_resolve.specs.declared.following.Target.{Target}
use Rattle.bd_resolve.specs.declared.following.Followed.{Followed}
use Rattle.bd_resolve.specs.declared.following.Followed.TheVariants.{Past}
use Rattle.bd_resolve.specs.Following.{target_at, IsLowerTarget, IsFollowed, IsPast}
use Rattle.bd_resolve.proofs.Prefixes.{IsKey-append}
use Rattle.bd_graft.specs.declared.layers.Layer.{Layer}
use Rattle.bd_graft.specs.Layers.{all_freed, above, laid, IsLayer, AreLayers}
use Rattle.bd_graft.specs.Walking.{end_at}
use Rattle.bd_graft.proofs.Freeing.{all_freed_effect, all_freed_names, all_freed_small, uncovered_from, IsSmall}

pub level_high : (n : Node) → IsShape n → level_of n ≤ level_limit
level_high (Leaf entries) shape = omega arith
level_high (Inner level es buffer) shape = shape.high

-- one layer more, with older messages
pub laid_more : (ls : List Layer) (l : Layer) → laid (ls ++ l ∷ []) ≡ l.messages ++ laid ls
laid_more [] l = sym (append-nil l.messages)
laid_more (h ∷ ls) l = ap (λ (ms : List Message). ms ++ h.messages) (laid_more ls l) ∙ append_assoc l.messages (laid ls) h.messages

pub layers_more : (t : Table) (high : ℕ) (ls : List Layer) (l : Layer) (here : Target) (end : Option Target) → AreLayers t high ls (Some here) → IsLayer t l → l.level ≡ t.level here.child → 1 ≤ l.level → IsLowerTarget t l.level end → AreLayers t high (ls ++ l ∷ []) end
layers_more t high [] l here end h own level some lower = (some, (let low : t.level here.child < high = h.lower in omega arith), own, lower)
layers_more t high (first ∷ ls) l here end h own level some lower = (h.0, h.1, h.2, layers_more t first.level ls l here end h.3 own level some lower)

-- the end changes where it is as low
pub layers_end : (t : Table) (high : ℕ) (ls : List Layer) (here end : Option Target) → ((level : ℕ) → IsLowerTarget t level here → IsLowerTarget t level end) → AreLayers t high ls here → AreLayers t high ls end
layers_end t high [] here end f h = f high h
layers_end t high (l ∷ ls) here end f h = (h.0, h.1, h.2, layers_end t l.level ls here end f h.3)

-- what a node of the way has, as what its layer leaves of what is below
pub one_further : (nodes : Nodes) (t : Table) (id : ℕ) (q : List ℕ) (l : Layer) (target : Option Target) (ls : List Layer) (k : List ℕ) → IsSound nodes t → IsKept t id → IsKey q → IsKey k
    → ((n : Node) → nodes id ≡ Some n → (below : NodesAt) (k : List ℕ) → node_at below n (q ++ k) ≡ acts below l.messages k (target_at below target k))
    → acts (at nodes) (laid (ls ++ l ∷ [])) k (target_at (at nodes) target k) ≡ acts (at nodes) (laid ls) k (at nodes id (q ++ k))
one_further nodes t id q l target ls k s kept key more says =
    let stored : IsStored nodes t id = s.each id kept in
    ap (λ (ms : List Message). acts (at nodes) ms k (target_at (at nodes) target k)) (laid_more ls l)
    ∙ acts-append (at nodes) l.messages (laid ls) k (target_at (at nodes) target k)
    ∙ ap (λ v. acts (at nodes) (laid ls) k v) (sym (says stored.node stored.there (at nodes) k) ∙ sym (keys_meet nodes (sound-levelled nodes t s) id stored.node stored.there (q ++ k) (IsKey-append q k key more)))

pub end_has : (has : NodesAt) (child : ℕ) (source k : List ℕ) → (key_limit < length source → has child (source ++ k) ≡ None) → target_at has (end_at child source) k ≡ has child (source ++ k)
end_has has child source k none = elim (cases_lt key_limit (length source)) [
  | inl long ↦ ap (λ (o : Option Target). target_at has o k) (cond-true (ltb key_limit (length source)) None (Some (record { child = child; source = source })) (lt-ltb key_limit (length source) long)) ∙ sym (none long)
  | inr short ↦ ap (λ (o : Option Target). target_at has o k) (cond-false (ltb key_limit (length source)) None (Some (record { child = child; source = source })) (le-ltb key_limit (length source) short))
]

lower_end : (t : Table) (level : ℕ) (b : Bool) (target : Target) → IsLowerTarget t level (Some target) → IsLowerTarget t level (cond b None (Some target))
lower_end t level true target h = tt
lower_end t level false target h = h

pub layers_ended : (t : Table) (high : ℕ) (ls new : List Layer) (child : ℕ) (source : List ℕ) (end : Option Target) → new ≡ ls → end ≡ end_at child source → AreLayers t high ls (Some (record { child = child; source = source })) → AreLayers t high new end
layers_ended t high ls new child source end same is h =
    subst (λ (l : List Layer). AreLayers t high l end) (sym same) (subst (λ (o : Option Target). AreLayers t high ls o) (sym is)
    (layers_end t high ls (Some (record { child = child; source = source })) (end_at child source) (λ level lower. lower_end t level (ltb key_limit (length source)) (record { child = child; source = source }) lower) h))

pub value_ended : (has : NodesAt) (ls new : List Layer) (child : ℕ) (source k : List ℕ) (end : Option Target) (all : Option (List ℕ)) → new ≡ ls → end ≡ end_at child source → (key_limit < length source → has child (source ++ k) ≡ None) → acts has (laid ls) k (has child (source ++ k)) ≡ all
    → acts has (laid new) k (target_at has end k) ≡ all
value_ended has ls new child source k end all same is none h =
    ap (λ (l : List Layer). acts has (laid l) k (target_at has end k)) same
    ∙ ap (λ (o : Option Target). acts has (laid ls) k (target_at has o k)) is
    ∙ ap (λ v. acts has (laid ls) k v) (end_has has child source k none)
    ∙ h

-- ---- one node of the way

pub lower_limit : (t : Table) (level : ℕ) (n : Node) → IsNodeOf t level n → AllByRecursion (IsLower t level_limit) (names n)
lower_limit t level n of =
    each_weaker (IsLower t level) (IsLower t level_limit) (λ c own. record { kept = own.kept; lower = (let l : t.level c < level = own.lower in let e : level_of n ≡ level = of.level_is in let h : level_of n ≤ level_limit = level_high n of.shape in omega arith) }) (names n) of.lower

-- the messages of a node from a place on name what the node names
buffer_names : (P : ℕ → Type 0) (n : Node) (from : ℕ) → AllByRecursion P (names n) → AllByRecursion P (flat_map message_names (drop from (buffer_of n)))
buffer_names P (Leaf entries) zero h = tt
buffer_names P (Leaf entries) (suc from) h = tt
buffer_names P (Inner level es buffer) from h = each_dropped P from buffer (each_second P (flat_map edge_names es) (flat_map message_names buffer) h)

pub passed_names : (P : ℕ → Type 0) (n : Node) (q : List ℕ) (from : ℕ) → AllByRecursion P (names n) → AllByRecursion P (flat_map message_names (all_freed q (drop from (buffer_of n))))
passed_names P n q from h = all_freed_names P q (drop from (buffer_of n)) (buffer_names P n from h)

pub passed_limit : (t : Table) (level : ℕ) (n own : Node) (q : List ℕ) (from : ℕ) (list : List Message) → IsNodeOf t level n → own ≡ n → list ≡ all_freed q (drop from (buffer_of own)) → AllByRecursion (IsLower t level_limit) (flat_map message_names list)
passed_limit t level n own q from list of is e =
    subst (λ (ms : List Message). AllByRecursion (IsLower t level_limit) (flat_map message_names ms)) (sym (e ∙ ap (λ (m : Node). all_freed q (drop from (buffer_of m))) is))
    (passed_names (IsLower t level_limit) n q from (lower_limit t level n of))

-- what an inner node of the way has, by its newer messages and what is followed
pub passed_has : (nodes : Nodes) (id : ℕ) (n own again : Node) (q : List ℕ) (f : Followed) (newer : ℕ) (target : Option Target) (list : List Message) → own ≡ n → again ≡ n → IsFollowed own q f → f ≡ Past newer target → list ≡ all_freed q (drop newer (buffer_of again))
    → nodes id ≡ Some n → (m : Node) → nodes id ≡ Some m → (below : NodesAt) (k : List ℕ) → node_at below m (q ++ k) ≡ acts below list k (target_at below target k)
passed_has nodes id n own again q f newer target list is is_too followed leads e there m there_too below k =
    let past : IsPast n q newer target = subst (λ (g : Followed). IsFollowed n q g) leads (subst (λ (m : Node). IsFollowed m q f) is followed) in
    subst (λ (m : Node). node_at below m (q ++ k) ≡ acts below list k (target_at below target k)) (same_Some n m (sym there ∙ there_too))
    (past.answer below k ∙ sym (all_freed_effect below q (drop newer (buffer_of n)) k (target_at below target k))
    ∙ ap (λ (ms : List Message). acts below ms k (target_at below target k)) (sym (e ∙ ap (λ (m : Node). all_freed q (drop newer (buffer_of m))) is_too)))

node_messages : (n : Node) → IsShape n → AllByRecursion IsMessage (buffer_of n) × (sum_by size (buffer_of n) ≤ buffer_limit)
node_messages (Leaf entries) shape = (tt, omega arith)
node_messages (Inner level es buffer) shape = (shape.messages, shape.size)

dropped : (from : ℕ) (ms : List Message) → AllByRecursion IsMessage ms → AllByRecursion IsMessage (drop from ms) × (sum_by size (drop from ms) ≤ sum_by size ms)
dropped zero ms h = (h, omega arith)
dropped (suc from) [] h = (tt, omega arith)
dropped (suc from) (m ∷ ms) h = ((dropped from ms h.1).0, omega (arith, (dropped from ms h.1).1, sum_by-cons size m ms))

pub passed_layer : (t : Table) (level : ℕ) (n own again : Node) (q : List ℕ) (f : Followed) (newer : ℕ) (target : Option Target) (list : List Message) (over its_level : ℕ) → IsNodeOf t level n → own ≡ n → again ≡ n → IsFollowed own q f → f ≡ Past newer target → list ≡ all_freed q (drop newer (buffer_of again))
    → over ≡ above t.level (flat_map message_names list) → its_level ≡ level → IsLayer t (record { messages = list; over = over; level = its_level })
passed_layer t level n own again q f newer target list over its_level of is is_too followed leads e over_is level_is =
    let past : IsPast n q newer target = subst (λ (g : Followed). IsFollowed n q g) leads (subst (λ (m : Node). IsFollowed m q f) is followed) in
    let list_is : list ≡ all_freed q (drop newer (buffer_of n)) = e ∙ ap (λ (m : Node). all_freed q (drop newer (buffer_of m))) is_too in
    let messages = node_messages n of.shape in
    let part = dropped newer (buffer_of n) messages.0 in
    let small : IsSmall (sum_by size (drop newer (buffer_of n))) (all_freed q (drop newer (buffer_of n))) = all_freed_small q (drop newer (buffer_of n)) (uncovered_from (buffer_of n) newer q past.newest) part.0 in
    record {
      each = subst (λ (ms : List Message). AllByRecursion IsMessage ms) (sym list_is) small.0;
      fits = subst (λ (ms : List Message). sum_by size ms ≤ buffer_limit) (sym list_is)
          (let a : sum_by size (buffer_of n) ≤ buffer_limit = messages.1 in let b : sum_by size (drop newer (buffer_of n)) ≤ sum_by size (buffer_of n) = part.1 in
          let d : sum_by size (all_freed q (drop newer (buffer_of n))) ≤ sum_by size (drop newer (buffer_of n)) = small.1 in omega arith);
      lower = subst (λ (l : ℕ). AllByRecursion (IsLower t l) (flat_map message_names list)) (sym level_is)
          (subst (λ (ms : List Message). AllByRecursion (IsLower t level) (flat_map message_names ms)) (sym list_is) (passed_names (IsLower t level) n q newer of.lower));
      over = over_is;
    }

pub some_is : {A : Type 0} (P : A → Type 0) (o : Option A) (x : A) → o ≡ Some x → IfSome o P → P x
some_is {A} P o x is h = subst (λ (p : Option A). IfSome p P) is h
