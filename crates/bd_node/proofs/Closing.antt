-- How a step's nodes become sound: those that nothing names go.
use Rattle.std.proofs.Common.{◌≡◌, ℕ, zero, suc, ◌+◌, ◌-◌, ◌<◌, ◌≤◌, List, [], ◌∷◌, length, refl, sym, ap, subst, ◌∙◌, Option, None, Some, arith, inl, inr, IsSome, eqb}
use Rattle.std.specs.Prelude.{slice_get}
use Rattle.std.specs.List.{AllByRecursion}
use Rattle.std.proofs.lemmas.Bool.{cases_eq, cases_lt, cond-true, cond-false, eq-eqb, ne_eqb}
use Rattle.std.proofs.lemmas.Option.{none-some, slice_get_within}
use Rattle.bd_node.specs.declared.node.Node.{Node}
use Rattle.bd_node.specs.declared.node.Step.{Step}
use Rattle.bd_node.specs.Nodes.{level_of, height_of, names, times}
use Rattle.bd_node.specs.Meaning.{Nodes, IsBelowLevel}
use Rattle.bd_node.specs.Shape.{IsShape}
use Rattle.bd_node.specs.Tables.{Table, IsKept, IsTable, IsLower, IsStored, IsSound, sum_below, times_in, one_if, references}
use Rattle.bd_node.specs.Steps.{given, after, level_or, level_after, IsThere, IsNamable, IsPut, IsChange, IsStep, HasRoom, StayAbove}
use Rattle.bd_node.specs.Steps.HasRoom.{no_rise, of_root, changed_too, under_all}
use Rattle.bd_node.specs.Closed.{IsClosed, without, buffer_size_in, table_from}
use Rattle.bd_node.proofs.Lookup.{each_weaker, each_at, each_named, named_has}
use Rattle.bd_node.proofs.Sums.{sum_at}
use Rattle.bd_node.proofs.Sound.{NamedBy, named_of_sum, kept_there, node_of, named_lower, root_unnamed, times_there, one_if-same, one_if-other}
use Rattle.bd_node.proofs.Stepping.{by_given, given-old, given-new, changed_has, after-none, after-some, no_some}

-- ---- a node that another names

there_of_below : (level : ℕ) (o : Option Node) → IsBelowLevel level o → (P : Type 0) → ((m : Node) → o ≡ Some m → level_of m < level → P) → P
there_of_below level None h P then = absurd h
there_of_below level (Some m) h P then = then m refl h

pub by_node : (P : Type 0) (o : Option Node) → (o ≡ None → P) → ((n : Node) → o ≡ Some n → P) → P
by_node P None none some = none refl
by_node P (Some n) none some = some n refl

named_there : (nodes : Nodes) (next root : ℕ) → IsClosed nodes next root → (p : ℕ) (n : Node) → nodes p ≡ Some n → (c : ℕ) → 1 ≤ times n c → IsBelowLevel (level_of n) (nodes c)
named_there nodes next root closed p n there c one = named_has (λ c. IsBelowLevel (level_of n) (nodes c)) c (names n) (closed.levelled.each p n there) one

-- a node that another names has a reference
referenced : (nodes : Nodes) (next root : ℕ) → IsClosed nodes next root → (p : ℕ) (n : Node) → nodes p ≡ Some n → (c : ℕ) → times n c ≤ references nodes next root c
referenced nodes next root closed p n there c =
    let term : times_in (nodes p) c ≤ sum_below next (λ id. times_in (nodes id) c) = sum_at next (λ id. times_in (nodes id) c) p (closed.below p n there) in
    let is : times_in (nodes p) c ≡ times n c = times_there nodes p c n there in
    omega arith

root_referenced : (nodes : Nodes) (next root : ℕ) → 1 ≤ references nodes next root root
root_referenced nodes next root = let one : one_if root root ≡ 1 = one_if-same root in omega arith

-- what has a reference is there
there_referenced : (nodes : Nodes) (next root : ℕ) → IsClosed nodes next root → (c : ℕ) → 1 ≤ references nodes next root c → (P : Type 0) → ((n : Node) → nodes c ≡ Some n → P) → P
there_referenced nodes next root closed c one P then =
    by_node P (nodes c)
    (λ none.
    elim (cases_eq root c) [
      | inl same ↦ (let high : 2 ≤ height_of (nodes root) = closed.inner in
          let e : height_of (nodes root) ≡ 0 = ap (λ i. height_of (nodes i)) same ∙ ap height_of none in
          absurd (omega arith))
      | inr other ↦ (let zero_if : one_if root c ≡ 0 = one_if-other root c other in
          let by : NamedBy nodes c = named_of_sum nodes next c (omega arith) in
          there_of_below (level_of by.node) (nodes c) (named_there nodes next root closed by.id by.node by.there c by.names_it) P (λ m at_c lower. then m at_c))
    ])
    then

-- ---- begun, dropped, ended

-- once each node has a reference, the nodes are sound
pub ended : (nodes : Nodes) (next root : ℕ) → IsClosed nodes next root → ((id : ℕ) (n : Node) → nodes id ≡ Some n → 1 ≤ references nodes next root id) → IsSound nodes (table_from nodes next root)
ended nodes next root closed used =
    let t : Table = table_from nodes next root in
    let stored : (id : ℕ) → IsKept t id → IsStored nodes t id = λ id kept.
    there_referenced nodes next root closed id kept (IsStored nodes t id) (λ n there. record {
      node = n;
      there = there;
      of_table = record {
        shape = closed.shape id n there;
        level_is = sym (ap (λ o. height_of o - 1) there ∙ (omega arith));
        lower = each_named (IsLower t (t.level id)) (names n) (λ c one. record {
          kept = (let r : times n c ≤ references nodes next root c = referenced nodes next root closed id n there c in omega arith);
          lower = there_of_below (level_of n) (nodes c) (named_there nodes next root closed id n there c one) (t.level c < t.level id) (λ m at_c lower.
              let a : height_of (nodes c) ≡ suc (level_of m) = ap height_of at_c in
              let b : height_of (nodes id) ≡ suc (level_of n) = ap height_of there in
              omega arith);
        });
      };
    }) in
    record {
      table = record {
        root = root_referenced nodes next root;
        inner = (let h : 2 ≤ height_of (nodes root) = closed.inner in omega arith);
        low = λ id kept. there_referenced nodes next root closed id kept (1 ≤ id) (λ n there. closed.low id n there);
        below = λ id kept. there_referenced nodes next root closed id kept (id < next) (λ n there. closed.below id n there);
      };
      each = stored;
      others = λ id none.
          by_node (nodes id ≡ None) (nodes id) (λ e. e) (λ n there. absurd (let some : 1 ≤ references nodes next root id = used id n there in omega arith));
      counts = λ id. refl;
      size = λ n there. sym (ap buffer_size_in there);
    }

pub without-other : (nodes : Nodes) (d id : ℕ) → (id ≡ d → ⊥) → without nodes d id ≡ nodes id
without-other nodes d id other = cond-false (eqb id d) None (nodes id) (ne_eqb id d other)

pub without-same : (nodes : Nodes) (d : ℕ) → without nodes d d ≡ None
without-same nodes d = cond-true (eqb d d) None (nodes d) (eq-eqb d d refl)

pub without-there : (nodes : Nodes) (d id : ℕ) (n : Node) → without nodes d id ≡ Some n → (id ≡ d → ⊥) × (nodes id ≡ Some n)
without-there nodes d id n there =
    elim (cases_eq id d) [
      | inl same ↦ absurd (none-some n (sym (without-same nodes d) ∙ subst (λ (i : ℕ). without nodes d i ≡ Some n) same there))
      | inr other ↦ (other, sym (without-other nodes d id other) ∙ there)
    ]

-- a node without references may go
pub dropped : (nodes : Nodes) (next root d : ℕ) → IsClosed nodes next root → references nodes next root d ≡ 0 → IsClosed (without nodes d) next root
dropped nodes next root d closed none =
    let root_other : root ≡ d → ⊥ = λ same. (let one : 1 ≤ references nodes next root root = root_referenced nodes next root in
    let e : references nodes next root root ≡ references nodes next root d = ap (λ i. references nodes next root i) same in omega arith) in
    record {
      inner = subst (λ (o : Option Node). 2 ≤ height_of o) (sym (without-other nodes d root root_other)) closed.inner;
      low = λ id n there. closed.low id n (without-there nodes d id n there).1;
      below = λ id n there. closed.below id n (without-there nodes d id n there).1;
      shape = λ id n there. closed.shape id n (without-there nodes d id n there).1;
      levelled = record {
        each = λ id n there.
            let old : nodes id ≡ Some n = (without-there nodes d id n there).1 in
            each_named (λ c. IsBelowLevel (level_of n) (without nodes d c)) (names n) (λ c one.
            let other : c ≡ d → ⊥ = λ same. (let r : times n c ≤ references nodes next root c = referenced nodes next root closed id n old c in
            let e : references nodes next root c ≡ references nodes next root d = ap (λ i. references nodes next root i) same in omega arith) in
            subst (λ (o : Option Node). IsBelowLevel (level_of n) o) (sym (without-other nodes d c other)) (named_there nodes next root closed id n old c one));
      };
    }

slice_get_there : {A : Type 0} (xs : List A) (i : ℕ) → i < length xs → slice_get xs i ≡ None → ⊥
slice_get_there [] i low e = omega arith
slice_get_there (x ∷ xs) zero low e = none-some x (sym e)
slice_get_there (x ∷ xs) (suc i) low e = slice_get_there xs i (omega arith) e

-- an id that is there after a step has a node of the level that it is said to have
pub there_after : (nodes : Nodes) (t : Table) (step : Step) → IsSound nodes t → (id : ℕ) → IsThere t step id → (P : Type 0) → ((m : Node) → after nodes t step id ≡ Some m → level_of m ≡ level_after t step id → P) → P
there_after nodes t step s id there P then =
    by_given P (given t.next step id)
    (λ none.
    elim there [
      | inl kept ↦ (let stored : IsStored nodes t id = s.each id kept in
          then stored.node (after-none nodes t step id none ∙ stored.there)
          (stored.of_table.level_is ∙ sym (ap (λ o. level_or o (t.level id)) none)))
      | inr made ↦ (let low : id < t.next + length step.made = made.1 in
          let high : t.next ≤ id = made.0 in
          absurd (slice_get_there step.made (id - t.next) (omega arith) (sym (given-new t.next step id high) ∙ none)))
    ])
    (λ m some. then m (after-some nodes t step id m some) (sym (ap (λ o. level_or o (t.level id)) some)))

below_after : (nodes : Nodes) (t : Table) (step : Step) → IsSound nodes t → (level c : ℕ) → IsThere t step c → level_after t step c < level → IsBelowLevel level (after nodes t step c)
below_after nodes t step s level c there lower =
    there_after nodes t step s c there (IsBelowLevel level (after nodes t step c))
    (λ m at_c is. subst (λ (o : Option Node). IsBelowLevel level o) (sym at_c) (omega arith))

-- what a step gives is well-formed, of an id that may be given one, and names what it may
pub record IsGiven (t : Table) (step : Step) (id : ℕ) (n : Node) : Type 0 where
  pub low : 1 ≤ id
  pub below : id < t.next + length step.made
  pub put : IsPut t step n

pub given_is : (t : Table) (step : Step) → IsTable t → IsStep t step → (id : ℕ) (n : Node) → given t.next step id ≡ Some n → IsGiven t step id n
given_is t step table ok id n e =
    elim (cases_lt id t.next) [
      | inl low ↦ (let change : IsChange t step (record { id = id; node = n }) = changed_has (IsChange t step) step.changes id n ok.changes (sym (given-old t.next step id low) ∙ e) in
          record { low = table.low id change.kept; below = omega arith; put = change.put })
      | inr high ↦ (let at_i : slice_get step.made (id - t.next) ≡ Some n = sym (given-new t.next step id high) ∙ e in
          let within : id - t.next < length step.made = slice_get_within step.made (id - t.next) n at_i in
          let root_low : 1 ≤ t.root = table.low t.root table.root in
          let root_below : t.root < t.next = table.below t.root table.root in
          record { low = omega arith; below = omega arith; put = each_at (IsPut t step) step.made (id - t.next) n ok.made at_i })
    ]

-- the nodes after a step are closed
pub begun : (nodes : Nodes) (t : Table) (step : Step) → IsSound nodes t → IsStep t step → StayAbove nodes t step → IsClosed (after nodes t step) (t.next + length step.made) step.root
begun nodes t step s ok above =
    let both : (P : ℕ → Node → Type 0) → ((id : ℕ) (n : Node) → given t.next step id ≡ Some n → P id n) → ((id : ℕ) (n : Node) → given t.next step id ≡ None → nodes id ≡ Some n → P id n) → (id : ℕ) (n : Node) → after nodes t step id ≡ Some n → P id n = λ P new old id n there.
    by_given (P id n) (given t.next step id)
    (λ none. old id n none (sym (after-none nodes t step id none) ∙ there))
    (λ m some. new id n (some ∙ sym (after-some nodes t step id m some) ∙ there)) in
    record {
      inner = there_after nodes t step s step.root ok.root (2 ≤ height_of (after nodes t step step.root)) (λ m there is.
          let h : height_of (after nodes t step step.root) ≡ suc (level_of m) = ap height_of there in
          let inner : 1 ≤ level_after t step step.root = ok.inner in omega arith);
      low = both (λ id n. 1 ≤ id) (λ id n e. (given_is t step s.table ok id n e).low) (λ id n none there. s.table.low id (kept_there nodes t s id n there));
      below = both (λ id n. id < t.next + length step.made) (λ id n e. (given_is t step s.table ok id n e).below)
          (λ id n none there. (let low : id < t.next = s.table.below id (kept_there nodes t s id n there) in omega arith));
      shape = both (λ id n. IsShape n) (λ id n e. (given_is t step s.table ok id n e).put.shape) (λ id n none there. (node_of nodes t s id n there).shape);
      levelled = record {
        each = both (λ id n. AllByRecursion (λ c. IsBelowLevel (level_of n) (after nodes t step c)) (names n))
            (λ id n e. each_weaker (IsNamable t step (level_of n)) (λ c. IsBelowLevel (level_of n) (after nodes t step c))
            (λ c namable. below_after nodes t step s (level_of n) c namable.there namable.lower) (names n) (given_is t step s.table ok id n e).put.lower)
            (λ id n none there. each_named (λ c. IsBelowLevel (level_of n) (after nodes t step c)) (names n) (λ c one.
            below_after nodes t step s (level_of n) c (inl (named_lower nodes t s id n there c one).kept)
            (named_has (λ d. level_after t step d < level_of n) c (names n) (above id n there none) one)));
      };
    }

-- ---- changes with room

room_above : (nodes : Nodes) (t : Table) (step : Step) → IsSound nodes t → (id : ℕ) (m : Node) → nodes id ≡ Some m → given t.next step id ≡ None → (c : ℕ) (n : Node) → 1 ≤ times m c → HasRoom nodes t step c n → level_of n < level_of m
room_above nodes t step s id m there none c n one (no_rise h) =
    let lower : t.level c < t.level id = (named_lower nodes t s id m there c one).lower in
    let is : level_of m ≡ t.level id = (node_of nodes t s id m there).level_is in
    omega arith
room_above nodes t step s id m there none c n one (of_root same) = absurd (root_unnamed nodes t s id m there (subst (λ (q : ℕ). 1 ≤ times m q) same one))
room_above nodes t step s id m there none c n one (changed_too only) = absurd (no_some (subst (λ (o : Option Node). IsSome o) none (only.each id m there one)))
room_above nodes t step s id m there none c n one (under_all h) = h id m there one

pub stay_above : (nodes : Nodes) (t : Table) (step : Step) → IsSound nodes t → ((id : ℕ) (n : Node) → id < t.next → given t.next step id ≡ Some n → HasRoom nodes t step id n) → StayAbove nodes t step
stay_above nodes t step s room id m there none =
    each_named (λ c. level_after t step c < level_of m) (names m) (λ c one.
    let lower : IsLower t (t.level id) c = named_lower nodes t s id m there c one in
    by_given (level_after t step c < level_of m) (given t.next step c)
    (λ out.
    let e : level_after t step c ≡ t.level c = ap (λ o. level_or o (t.level c)) out in
    let l : t.level c < t.level id = lower.lower in
    let is : level_of m ≡ t.level id = (node_of nodes t s id m there).level_is in
    omega arith)
    (λ n some.
    let e : level_after t step c ≡ level_of n = ap (λ o. level_or o (t.level c)) some in
    let l : level_of n < level_of m = room_above nodes t step s id m there none c n one (room c n (s.table.below c lower.kept) some) in
    omega arith))
