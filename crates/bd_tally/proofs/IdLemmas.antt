-- Sums over the ids of the kept nodes, and what their counts are.
use Rattle.std.proofs.Common.{◌≡◌, ◌≢◌, ℕ, zero, suc, ◌+◌, ◌<◌, ◌≤◌, Bool, true, false, cond, ◌||◌, List, [], ◌∷◌, length, get_or, refl, sym, ap, subst, ◌∙◌, None, Some, arith, inl, inr}
use Rattle.std.specs.Prelude.{◌==◌, All, AllPairs, Contains}
use Rattle.std.specs.List.{AllByRecursion, list_any, sum_by}
use Rattle.std.proofs.lemmas.Bool.{cases_lt, eq-eqb, ne_eqb, or_left, or_right, or_from}
use Rattle.std.proofs.lemmas.Option.{same_Some, none-some}
use Rattle.std.proofs.lemmas.List.Elements.{recursion_from_All}
use Rattle.std.proofs.lemmas.List.Sums.{sum_by-cons}
use Rattle.bd_node.specs.declared.node.Node.{Node}
use Rattle.bd_node.specs.Nodes.{buffer_size, names}
use Rattle.bd_node.specs.Meaning.{Nodes}
use Rattle.bd_node.specs.Tables.{Table, IsKept, IsTable, IsLower, IsNodeOf, IsStored, IsSound, sum_below, times_in, one_if}
use Rattle.bd_node.proofs.Lookup.{named_has}
use Rattle.bd_node.proofs.Sums.{sum_some, sum_same, sum_exchanged}
use Rattle.bd_node.proofs.Sound.{NamedBy, named_of_sum, one_if-other}
use Rattle.bd_tally.specs.Ids.{AreIdsOf, named_by, IsCounted}

-- ---- what holds of each two of a list

pub pairs_first : {A : Type 0} (R : A → A → Type 0) (x : A) (xs : List A) → AllPairs R (x ∷ xs) → All (λ y. R x y) xs
pairs_first R x xs h k d within = h zero (suc k) d (omega arith) (omega (arith, within))

pub pairs_rest : {A : Type 0} (R : A → A → Type 0) (x : A) (xs : List A) → AllPairs R (x ∷ xs) → AllPairs R xs
pairs_rest R x xs h i j d up within = h (suc i) (suc j) d (omega (arith, up)) (omega (arith, within))

-- ---- sums

-- a value at an id that is one of these, and 0 at others
abbrev value_among : (ℕ → ℕ) → List ℕ → ℕ → ℕ
value_among f ids id = cond (list_any (λ (x : ℕ). x == id) ids) (f id) 0

not_among : (id : ℕ) (ids : List ℕ) → AllByRecursion (λ other. id ≢ other) ids → list_any (λ (x : ℕ). x == id) ids ≡ false
not_among id [] apart = refl
not_among id (x ∷ ids) apart = or_from (x == id) (list_any (λ (y : ℕ). y == id) ids) (ne_eqb x id (λ same. apart.0 (sym same))) (not_among id ids apart.1)

among_at : (ids : List ℕ) (id k : ℕ) → k < length ids → get_or ids k id ≡ id → list_any (λ (x : ℕ). x == id) ids ≡ true
among_at [] id k within is = absurd (omega (arith, within))
among_at (x ∷ ids) id zero within is = or_left (x == id) (list_any (λ (y : ℕ). y == id) ids) (eq-eqb x id is)
among_at (x ∷ ids) id (suc k) within is = or_right (x == id) (list_any (λ (y : ℕ). y == id) ids) (among_at ids id k (omega (arith, within)) is)

none_below : (n : ℕ) (f : ℕ → ℕ) → ((i : ℕ) → i < n → f i ≡ 0) → sum_below n f ≡ 0
none_below n f none =
    elim (cases_lt 0 (sum_below n f)) [
      | inl some ↦ absurd (
          let found : (i : ℕ) × (i < n) × (1 ≤ f i) = sum_some n f (omega arith) in
          let is : f found.0 ≡ 0 = none found.0 found.1 in
          let more : 1 ≤ f found.0 = found.2 in
          omega arith)
      | inr low ↦ omega arith
    ]

sum_among : (n : ℕ) (f : ℕ → ℕ) (ids : List ℕ) → AllByRecursion (λ id. id < n) ids → AllPairs (λ id other. id ≢ other) ids → sum_below n (value_among f ids) ≡ sum_by f ids
sum_among n f [] below once = none_below n (value_among f []) (λ i low. refl)
sum_among n f (id ∷ ids) below once =
    let with_it : ℕ → ℕ = value_among f (id ∷ ids) in
    let without_it : ℕ → ℕ = value_among f ids in
    let others : (j : ℕ) → (j ≡ id → ⊥) → with_it j ≡ without_it j = λ j other. ap (λ (b : Bool). cond (b || list_any (λ (x : ℕ). x == j) ids) (f j) 0) (ne_eqb id j (λ same. other (sym same))) in
    let apart : AllByRecursion (λ other. id ≢ other) ids = recursion_from_All (λ other. id ≢ other) ids (pairs_first (λ (a b : ℕ). a ≢ b) id ids once) in
    let moved : sum_below n with_it + without_it id ≡ sum_below n without_it + with_it id = sum_exchanged n with_it without_it id below.0 others in
    let own : with_it id ≡ f id = ap (λ (b : Bool). cond (b || list_any (λ (x : ℕ). x == id) ids) (f id) 0) (eq-eqb id id refl) in
    let absent : without_it id ≡ 0 = ap (λ (b : Bool). cond b (f id) 0) (not_among id ids apart) in
    let rest : sum_below n without_it ≡ sum_by f ids = sum_among n f ids below.1 (pairs_rest (λ (a b : ℕ). a ≢ b) id ids once) in
    let sum : sum_by f (id ∷ ids) ≡ f id + sum_by f ids = sum_by-cons f id ids in
    omega arith

zero_either : (v : ℕ) (b : Bool) → v ≡ 0 → v ≡ cond b v 0
zero_either v true none = refl
zero_either v false none = none

value_is : (f : ℕ → ℕ) (ids : List ℕ) (id : ℕ) → (1 ≤ f id → Contains ids id) → f id ≡ value_among f ids id
value_is f ids id there =
    elim (cases_lt 0 (f id)) [
      | inl some ↦ (let at : Contains ids id = there (omega arith) in
          sym (ap (λ (b : Bool). cond b (f id) 0) (among_at ids id at.0 at.1 at.2)))
      | inr none ↦ zero_either (f id) (list_any (λ (x : ℕ). x == id) ids) (omega arith)
    ]

-- a sum over the ids below one is a sum over a list that has each id that counts, once
pub sum_ids : (n : ℕ) (f : ℕ → ℕ) (ids : List ℕ) → All (λ id. id < n) ids → AllPairs (λ id other. id ≢ other) ids
    → ((id : ℕ) → 1 ≤ f id → Contains ids id) → sum_below n f ≡ sum_by f ids
sum_ids n f ids below once each =
    sum_same n f (value_among f ids) (λ id low. value_is f ids id (each id))
    ∙ sum_among n f ids (recursion_from_All (λ id. id < n) ids below) once

-- ---- names

-- a node that is there is kept
there_kept : (nodes : Nodes) (t : Table) → ((id : ℕ) → t.count id ≡ 0 → nodes id ≡ None) → (id : ℕ) (n : Node) → nodes id ≡ Some n → IsKept t id
there_kept nodes t others id n there =
    elim (cases_lt 0 (t.count id)) [
      | inl some ↦ omega arith
      | inr none ↦ absurd (none-some n (sym (others id (omega arith)) ∙ there))
    ]

-- stored nodes name none that isn't kept
named_kept : (nodes : Nodes) (t : Table) → ((id : ℕ) → IsKept t id → IsStored nodes t id) → ((id : ℕ) → t.count id ≡ 0 → nodes id ≡ None)
    → (c : ℕ) → NamedBy nodes c → IsKept t c
named_kept nodes t each others c by =
    let stored : IsStored nodes t by.id = each by.id (there_kept nodes t others by.id by.node by.there) in
    let same : stored.node ≡ by.node = same_Some stored.node by.node (sym stored.there ∙ by.there) in
    let own : IsNodeOf t (t.level by.id) by.node = subst (λ (m : Node). IsNodeOf t (t.level by.id) m) same stored.of_table in
    let lower : IsLower t (t.level by.id) c = named_has (IsLower t (t.level by.id)) c (names by.node) own.lower by.names_it in
    lower.kept

named_none : (nodes : Nodes) (t : Table) → ((id : ℕ) → IsKept t id → IsStored nodes t id) → ((id : ℕ) → t.count id ≡ 0 → nodes id ≡ None)
    → (c : ℕ) → t.count c ≡ 0 → sum_below t.next (λ id. times_in (nodes id) c) ≡ 0
named_none nodes t each others c none =
    elim (cases_lt 0 (sum_below t.next (λ id. times_in (nodes id) c))) [
      | inl some ↦ absurd (
          let kept : 1 ≤ t.count c = named_kept nodes t each others c (named_of_sum nodes t.next c (omega arith)) in
          omega arith)
      | inr low ↦ omega arith
    ]

-- the names in the nodes of the kept ids are those in all nodes
pub names_listed : (nodes : Nodes) (t : Table) (ids : List ℕ) → AreIdsOf t ids → ((id : ℕ) → t.count id ≡ 0 → nodes id ≡ None)
    → (c : ℕ) → sum_below t.next (λ id. times_in (nodes id) c) ≡ named_by nodes ids c
names_listed nodes t ids are others c =
    sum_ids t.next (λ id. times_in (nodes id) c) ids are.below are.once (λ id some. are.each id (kept id some))
  where
    kept : (id : ℕ) → 1 ≤ times_in (nodes id) c → IsKept t id
    kept id some =
        elim (cases_lt 0 (t.count id)) [
          | inl more ↦ omega arith
          | inr none ↦ absurd (
              let no_names : times_in (nodes id) c ≡ 0 = ap (λ o. times_in o c) (others id (omega arith)) in
              omega arith)
        ]

-- ---- the laws

pub counted_sound : (nodes : Nodes) (t : Table) (ids : List ℕ) → IsTable t → AreIdsOf t ids
    → ((id : ℕ) → IsKept t id → IsStored nodes t id) → ((id : ℕ) → t.count id ≡ 0 → nodes id ≡ None)
    → ((root : Node) → nodes t.root ≡ Some root → buffer_size root ≡ t.size)
    → ((id : ℕ) → IsKept t id → IsCounted nodes t ids id) → IsSound nodes t
counted_sound nodes t ids table are each others size right = record {
  table = table;
  each = each;
  others = others;
  counts = λ c.
      elim (cases_lt 0 (t.count c)) [
        | inl some ↦ (let is : t.count c ≡ named_by nodes ids c + one_if t.root c = right c (omega arith) in
            let sum : sum_below t.next (λ id. times_in (nodes id) c) ≡ named_by nodes ids c = names_listed nodes t ids are others c in
            omega arith)
        | inr low ↦ (let none : t.count c ≡ 0 = omega arith in
            let unnamed : sum_below t.next (λ id. times_in (nodes id) c) ≡ 0 = named_none nodes t each others c none in
            let root : one_if t.root c ≡ 0 = one_if-other t.root c (λ same.
            let kept : 1 ≤ t.count c = subst (λ (id : ℕ). 1 ≤ t.count id) same table.root in
            omega arith) in
            omega arith)
      ];
  size = size;
}

pub sound_counted : (nodes : Nodes) (t : Table) (ids : List ℕ) → AreIdsOf t ids → IsSound nodes t → (id : ℕ) → IsCounted nodes t ids id
sound_counted nodes t ids are sound c =
    sound.counts c ∙ ap (λ n. n + one_if t.root c) (names_listed nodes t ids are sound.others c)
