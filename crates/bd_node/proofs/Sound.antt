-- What sound nodes are.
use Rattle.std.proofs.Common.{◌≡◌, ℕ, zero, suc, ◌+◌, ◌<◌, ◌≤◌, refl, sym, ap, subst, ◌∙◌, Option, None, Some, arith, cond}
use Rattle.std.specs.Prelude.{◌⊎◌}
use Rattle.std.proofs.Common.{inl, inr}
use Rattle.std.proofs.lemmas.Option.{same_Some, none-some}
use Rattle.std.proofs.lemmas.Bool.{cases_lt, cases_eq, ne_eqb, eq-eqb}
use Rattle.bd_node.specs.declared.node.Node.{Node}
use Rattle.bd_node.specs.declared.node.Node.TheVariants.{Leaf, Inner}
use Rattle.bd_node.specs.Nodes.{level_of, names, times}
use Rattle.bd_node.specs.Meaning.{Nodes, IsBelowLevel, IsLevelled}
use Rattle.bd_node.specs.Shape.{IsShape}
use Rattle.bd_node.specs.Tables.{Table, IsKept, IsLower, IsNodeOf, IsStored, IsSound, sum_below, times_in, one_if, references}
use Rattle.bd_node.proofs.Lookup.{each_weaker, named_has}
use Rattle.bd_node.proofs.Sums.{sum_at, sum_two, sum_some}

-- a node that is there is kept
pub kept_there : (nodes : Nodes) (t : Table) → IsSound nodes t → (id : ℕ) (n : Node) → nodes id ≡ Some n → IsKept t id
kept_there nodes t s id n there =
    elim (cases_lt 0 (t.count id)) [
      | inl some ↦ omega arith
      | inr none ↦ absurd (none-some n (sym (s.others id (omega arith)) ∙ there))
    ]

-- and what its level says
pub node_of : (nodes : Nodes) (t : Table) → IsSound nodes t → (id : ℕ) (n : Node) → nodes id ≡ Some n → IsNodeOf t (t.level id) n
node_of nodes t s id n there =
    let stored : IsStored nodes t id = s.each id (kept_there nodes t s id n there) in
    let same : stored.node ≡ n = same_Some stored.node n (sym stored.there ∙ there) in
    let P : Node → Type 0 = λ m. IsNodeOf t (t.level id) m in
    subst P same stored.of_table

-- sound nodes name nodes of lower levels
pub sound-levelled : (nodes : Nodes) (t : Table) → IsSound nodes t → IsLevelled nodes
sound-levelled nodes t s = record {
  each = λ id n there.
      let own : IsNodeOf t (t.level id) n = node_of nodes t s id n there in
      each_weaker (IsLower t (t.level id)) (λ c. IsBelowLevel (level_of n) (nodes c))
      (λ c lower.
      let stored : IsStored nodes t c = s.each c lower.kept in
      let P : Option Node → Type 0 = λ o. IsBelowLevel (level_of n) o in
      let a : level_of stored.node ≡ t.level c = stored.of_table.level_is in
      let b : level_of n ≡ t.level id = own.level_is in
      let d : t.level c < t.level id = lower.lower in
      subst P (sym stored.there) (omega arith))
      (names n) own.lower;
}

-- what a node names is kept and of a lower level
pub named_lower : (nodes : Nodes) (t : Table) → IsSound nodes t → (id : ℕ) (n : Node) → nodes id ≡ Some n → (c : ℕ) → 1 ≤ times n c → IsLower t (t.level id) c
named_lower nodes t s id n there c one = named_has (IsLower t (t.level id)) c (names n) (node_of nodes t s id n there).lower one

-- how often a node names another is a term of the sum
pub times_there : (nodes : Nodes) (id c : ℕ) (n : Node) → nodes id ≡ Some n → times_in (nodes id) c ≡ times n c
times_there nodes id c n there = ap (λ o. times_in o c) there

-- a node that another names has a count for it
pub counted : (nodes : Nodes) (t : Table) → IsSound nodes t → (p : ℕ) (n : Node) → nodes p ≡ Some n → (c : ℕ) → times n c + one_if t.root c ≤ t.count c
counted nodes t s p n there c =
    let low : p < t.next = s.table.below p (kept_there nodes t s p n there) in
    let term : times_in (nodes p) c ≤ sum_below t.next (λ id. times_in (nodes id) c) = sum_at t.next (λ id. times_in (nodes id) c) p low in
    let is : times_in (nodes p) c ≡ times n c = times_there nodes p c n there in
    let all : t.count c ≡ references nodes t.next t.root c = s.counts c in
    omega arith

-- and one that two name has one for each
pub counted_twice : (nodes : Nodes) (t : Table) → IsSound nodes t → (p q : ℕ) (n m : Node) → nodes p ≡ Some n → nodes q ≡ Some m → (p ≡ q → ⊥) → (c : ℕ) → times n c + times m c + one_if t.root c ≤ t.count c
counted_twice nodes t s p q n m at_p at_q apart c =
    let low : p < t.next = s.table.below p (kept_there nodes t s p n at_p) in
    let high : q < t.next = s.table.below q (kept_there nodes t s q m at_q) in
    let terms : times_in (nodes p) c + times_in (nodes q) c ≤ sum_below t.next (λ id. times_in (nodes id) c) = sum_two t.next (λ id. times_in (nodes id) c) p q low high apart in
    let is_p : times_in (nodes p) c ≡ times n c = times_there nodes p c n at_p in
    let is_q : times_in (nodes q) c ≡ times m c = times_there nodes q c m at_q in
    let all : t.count c ≡ references nodes t.next t.root c = s.counts c in
    omega arith

-- a node that names another
pub record NamedBy (nodes : Nodes) (c : ℕ) : Type 0 where
  pub id : ℕ
  pub node : Node
  pub there : nodes id ≡ Some node
  pub names_it : 1 ≤ times node c

named_in : (nodes : Nodes) (c id : ℕ) (o : Option Node) → nodes id ≡ o → 1 ≤ times_in o c → NamedBy nodes c
named_in nodes c id None e one = absurd (omega arith)
named_in nodes c id (Some n) e one = record { id = id; node = n; there = e; names_it = one }

pub named_of_sum : (nodes : Nodes) (next c : ℕ) → 1 ≤ sum_below next (λ id. times_in (nodes id) c) → NamedBy nodes c
named_of_sum nodes next c one =
    let found : (i : ℕ) × (i < next) × (1 ≤ times_in (nodes i) c) = sum_some next (λ id. times_in (nodes id) c) one in
    named_in nodes c found.0 (nodes found.0) refl found.2

pub one_if-other : (root c : ℕ) → (root ≡ c → ⊥) → one_if root c ≡ 0
one_if-other root c other = ap (λ b. cond b 1 0) (ne_eqb root c other)

pub one_if-same : (root : ℕ) → one_if root root ≡ 1
one_if-same root = ap (λ b. cond b 1 0) (eq-eqb root root refl)

-- a kept node is the root, or some node names it
pub root_or_named : (nodes : Nodes) (t : Table) → IsSound nodes t → (c : ℕ) → IsKept t c → (t.root ≡ c) ⊎ NamedBy nodes c
root_or_named nodes t s c kept =
    elim (cases_eq t.root c) [
      | inl same ↦ inl same
      | inr other ↦ (let none : one_if t.root c ≡ 0 = one_if-other t.root c other in
          let all : t.count c ≡ references nodes t.next t.root c = s.counts c in
          inr (named_of_sum nodes t.next c (omega arith)))
    ]

level_high : (n : Node) → IsShape n → level_of n ≤ 1000
level_high (Leaf entries) h = omega arith
level_high (Inner level edges buffer) h = h.high

pub level_bound : (nodes : Nodes) (t : Table) → IsSound nodes t → (id : ℕ) (n : Node) → nodes id ≡ Some n → t.level id ≤ 1000
level_bound nodes t s id n there =
    let own : IsNodeOf t (t.level id) n = node_of nodes t s id n there in
    let high : level_of n ≤ 1000 = level_high n own.shape in
    let is : level_of n ≡ t.level id = own.level_is in
    omega arith

-- no kept node is above the root: else ever higher ones would name it
under_root : (nodes : Nodes) (t : Table) → IsSound nodes t → (d id : ℕ) → IsKept t id → 1000 < t.level id + d → t.level id ≤ t.level t.root
under_root nodes t s zero id kept high =
    let stored : IsStored nodes t id = s.each id kept in
    let bound : t.level id ≤ 1000 = level_bound nodes t s id stored.node stored.there in
    absurd (omega arith)
under_root nodes t s (suc d) id kept high =
    elim (root_or_named nodes t s id kept) [
      | inl same ↦ let e : t.level t.root ≡ t.level id = ap t.level same in omega arith
      | inr by ↦ (let lower : IsLower t (t.level by.id) id = named_lower nodes t s by.id by.node by.there id by.names_it in
          let l : t.level id < t.level by.id = lower.lower in
          let up : t.level by.id ≤ t.level t.root = under_root nodes t s d by.id (kept_there nodes t s by.id by.node by.there) (omega arith) in
          omega arith)
    ]

pub below_root : (nodes : Nodes) (t : Table) → IsSound nodes t → (id : ℕ) → IsKept t id → t.level id ≤ t.level t.root
below_root nodes t s id kept = under_root nodes t s 1001 id kept (omega arith)

-- so nothing names the root
pub root_unnamed : (nodes : Nodes) (t : Table) → IsSound nodes t → (p : ℕ) (n : Node) → nodes p ≡ Some n → 1 ≤ times n t.root → ⊥
root_unnamed nodes t s p n there one =
    let lower : t.level t.root < t.level p = (named_lower nodes t s p n there t.root one).lower in
    let under : t.level p ≤ t.level t.root = below_root nodes t s p (kept_there nodes t s p n there) in
    omega arith

-- and its count is 1
pub root_count : (nodes : Nodes) (t : Table) → IsSound nodes t → t.count t.root ≡ 1
root_count nodes t s =
    let all : t.count t.root ≡ references nodes t.next t.root t.root = s.counts t.root in
    let own : one_if t.root t.root ≡ 1 = one_if-same t.root in
    elim (cases_lt 0 (sum_below t.next (λ id. times_in (nodes id) t.root))) [
      | inl some ↦ (let by : NamedBy nodes t.root = named_of_sum nodes t.next t.root (omega arith) in
          absurd (root_unnamed nodes t s by.id by.node by.there by.names_it))
      | inr none ↦ omega arith
    ]
