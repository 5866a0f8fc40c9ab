-- The step that puts messages into the root, over made nodes.
use Rattle.std.proofs.Common.{◌≡◌, ℕ, ◌+◌, ◌<◌, ◌≤◌, List, [], ◌∷◌, ◌++◌, refl, sym, ap, subst, ◌∙◌, Option, None, Some, arith, inl, inr, cond, IsSome}
use Rattle.std.specs.Prelude.{count_by, ◌==◌}
use Rattle.std.specs.List.{AllByRecursion, flat_map, sum_by}
use Rattle.std.proofs.lemmas.Bool.{cases_eq, cases_lt}
use Rattle.std.proofs.lemmas.Option.{same_Some, none-some}
use Rattle.std.proofs.lemmas.List.Sums.{sum_by-append}
use Rattle.std.proofs.lemmas.List.Concat.{flat_map-append}
use Rattle.bd_limits.specs.Limits.{buffer_limit}
use Rattle.bd_message.specs.declared.message.Message.{Message}
use Rattle.bd_message.specs.Messages.{IsMessage, size}
use Rattle.bd_node.specs.declared.node.Node.{Node}
use Rattle.bd_node.specs.declared.node.Node.TheVariants.{Leaf, Inner}
use Rattle.bd_node.specs.Nodes.{level_of, buffer_size, appended, message_names, edge_names, times}
use Rattle.bd_node.specs.Meaning.{Nodes}
use Rattle.bd_node.specs.Shape.{IsShape}
use Rattle.bd_node.specs.Tables.{Table, IsTable, IsSound}
use Rattle.bd_node.specs.Steps.{given, changed_at, level_or, level_after, StayAbove, IsTableAfter, IsRootOf, extend_step}
use Rattle.bd_node.specs.Steps.HasRoom.{of_root}
use Rattle.bd_node.proofs.Lookup.{each_second}
use Rattle.bd_node.proofs.Sound.{node_of, named_lower}
use Rattle.bd_node.proofs.Stepping.{given-old, given-new, changed_at-same, changed_at-other}
use Rattle.bd_node.proofs.Appending.{level_appended, buffer_appended}
use Rattle.bd_node.proofs.Closing.{stay_above}

-- ---- what it gives

pub root_changed : (t : Table) (n : Node) (list : List Message) (id : ℕ) → id ≡ t.root → changed_at (record { id = t.root; node = appended n list } ∷ []) id ≡ Some (appended n list)
root_changed t n list id same = changed_at-same (record { id = t.root; node = appended n list }) [] id same

other_unchanged : (t : Table) (n : Node) (list : List Message) (id : ℕ) → (id ≡ t.root → ⊥) → changed_at (record { id = t.root; node = appended n list } ∷ []) id ≡ None
other_unchanged t n list id other = changed_at-other (record { id = t.root; node = appended n list }) [] id other

pub given_extended : (t : Table) (n : Node) (made : List Node) (list : List Message) → IsTable t → given t.next (extend_step t n made list) t.root ≡ Some (appended n list)
given_extended t n made list table = given-old t.next (extend_step t n made list) t.root (table.below t.root table.root) ∙ root_changed t n list t.root refl

pub given_beside : (t : Table) (n : Node) (made : List Node) (list : List Message) (id : ℕ) → id < t.next → (id ≡ t.root → ⊥) → given t.next (extend_step t n made list) id ≡ None
given_beside t n made list id low other = given-old t.next (extend_step t n made list) id low ∙ other_unchanged t n list id other

pub extend_above : (nodes : Nodes) (t : Table) (n : Node) (made : List Node) (list : List Message) → IsSound nodes t → StayAbove nodes t (extend_step t n made list)
extend_above nodes t n made list s = stay_above nodes t (extend_step t n made list) s (λ id m low e. of_root (elim (cases_eq id t.root) [
  | inl same ↦ same
  | inr other ↦ absurd (none-some m (sym (given_beside t n made list id low other) ∙ e))
]))

-- ---- which node the root is

pub root_of_sound : (nodes : Nodes) (t : Table) (n : Node) → IsSound nodes t → nodes t.root ≡ Some n → IsRootOf t n
root_of_sound nodes t n s there = record { of_table = node_of nodes t s t.root n there; size = s.size n there }

pub root_inner : (t : Table) (n : Node) → IsTable t → IsRootOf t n → 1 ≤ level_of n
root_inner t n table root = (let inner : 1 ≤ t.level t.root = table.inner in let is : level_of n ≡ t.level t.root = root.of_table.level_is in omega arith)

same_levels : (t : Table) (a b : Node) (made : List Node) (list : List Message) → level_of a ≡ level_of b → (id : ℕ) → level_after t (extend_step t a made list) id ≡ level_after t (extend_step t b made list) id
same_levels t a b made list same id =
    elim (cases_lt id t.next) [
      | inl low ↦ elim (cases_eq id t.root) [
        | inl here ↦
            ap (λ (o : Option Node). level_or o (t.level id)) (given-old t.next (extend_step t a made list) id low ∙ root_changed t a list id here)
            ∙ level_appended a list ∙ same ∙ sym (level_appended b list)
            ∙ sym (ap (λ (o : Option Node). level_or o (t.level id)) (given-old t.next (extend_step t b made list) id low ∙ root_changed t b list id here))
        | inr other ↦ ap (λ (o : Option Node). level_or o (t.level id)) (given_beside t a made list id low other ∙ sym (given_beside t b made list id low other))
      ]
      | inr high ↦ ap (λ (o : Option Node). level_or o (t.level id)) (given-new t.next (extend_step t a made list) id high ∙ sym (given-new t.next (extend_step t b made list) id high))
    ]

pub extended_size : (t : Table) (n : Node) (list : List Message) → IsTable t → IsRootOf t n → buffer_size (appended n list) ≡ t.size + sum_by size list
extended_size t n list table root = buffer_appended n list (root_inner t n table root) ∙ ap (λ (k : ℕ). k + sum_by size list) root.size

changed_too : (t : Table) (a b : Node) (list : List Message) (id : ℕ) → IsSome (changed_at (record { id = t.root; node = appended a list } ∷ []) id) → IsSome (changed_at (record { id = t.root; node = appended b list } ∷ []) id)
changed_too t a b list id some =
    elim (cases_eq id t.root) [
      | inl same ↦ subst (λ (o : Option Node). IsSome o) (sym (root_changed t b list id same)) refl
      | inr other ↦ absurd (let none : IsSome {T = Node} None = subst (λ (o : Option Node). IsSome o) (other_unchanged t a list id other) some in cc)
    ]

-- the table after it doesn't tell which node the root was
pub extended_as : (t : Table) (a b : Node) (made : List Node) (list : List Message) (u : Table) → IsTable t → IsRootOf t a → IsRootOf t b → IsTableAfter t (extend_step t a made list) u → IsTableAfter t (extend_step t b made list) u
extended_as t a b made list u table own other h = record {
  table = h.table;
  root = h.root;
  next = h.next;
  level = λ id kept. h.level id kept ∙ same_levels t a b made list (own.of_table.level_is ∙ sym other.of_table.level_is) id;
  size = λ n some.
      h.size (appended a list) (given_extended t a made list table) ∙ extended_size t a list table own ∙ sym (extended_size t b list table other)
      ∙ ap buffer_size (same_Some (appended b list) n (sym (given_extended t b made list table) ∙ some));
  same_size = λ none same. absurd (none-some (appended b list) (sym none ∙ given_extended t b made list table));
  touched = λ id on. elim (h.touched id on) [
    | inl was ↦ inl was
    | inr some ↦ inr (changed_too t a b list id some)
  ];
}

-- ---- what is added

pub times_extended : (n : Node) (list : List Message) (c : ℕ) → 1 ≤ level_of n → times (appended n list) c ≡ times n c + count_by (λ name. name == c) (flat_map message_names list)
times_extended (Leaf entries) list c inner = absurd (omega arith)
times_extended (Inner level es buffer) list c inner =
    let E : List ℕ = flat_map edge_names es in
    let B : List ℕ = flat_map message_names buffer in
    let L : List ℕ = flat_map message_names list in
    let all : count_by (λ name. name == c) (E ++ flat_map message_names (buffer ++ list)) ≡ count_by (λ name. name == c) (E ++ (B ++ L)) = ap (λ (xs : List ℕ). count_by (λ name. name == c) (E ++ xs)) (flat_map-append message_names buffer list) in
    let one : count_by (λ name. name == c) (E ++ (B ++ L)) ≡ count_by (λ name. name == c) E + count_by (λ name. name == c) (B ++ L) = sum_by-append (λ name. cond (name == c) 1 0) E (B ++ L) in
    let two : count_by (λ name. name == c) (B ++ L) ≡ count_by (λ name. name == c) B + count_by (λ name. name == c) L = sum_by-append (λ name. cond (name == c) 1 0) B L in
    let old : count_by (λ name. name == c) (E ++ B) ≡ count_by (λ name. name == c) E + count_by (λ name. name == c) B = sum_by-append (λ name. cond (name == c) 1 0) E B in
    omega arith

-- the root names no node that isn't there
pub names_none : (nodes : Nodes) (t : Table) (n : Node) → IsSound nodes t → nodes t.root ≡ Some n → (id : ℕ) → t.next ≤ id → times n id ≡ 0
names_none nodes t n s there id high =
    elim (cases_lt (times n id) 1) [
      | inl none ↦ omega arith
      | inr one ↦ absurd (let low : id < t.next = s.table.below id (named_lower nodes t s t.root n there id one).kept in omega arith)
    ]

-- messages with which a node is well-formed
pub added_fit : (n : Node) (list : List Message) → 1 ≤ level_of n → IsShape (appended n list) → AllByRecursion IsMessage list × (buffer_size n + sum_by size list ≤ buffer_limit)
added_fit (Leaf entries) list inner h = absurd (omega arith)
added_fit (Inner level es buffer) list inner h =
    (each_second IsMessage buffer list h.messages, (let e : sum_by size (buffer ++ list) ≡ sum_by size buffer + sum_by size list = sum_by-append size buffer list in let s : sum_by size (buffer ++ list) ≤ buffer_limit = h.size in omega arith))
