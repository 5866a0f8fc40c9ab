-- Steps that change a private node, and others above it that keep what they had, and make nodes below
-- it.
use Rattle.std.proofs.Common.{◌≡◌, ℕ, zero, suc, ◌+◌, ◌-◌, ◌<◌, ◌≤◌, cond, List, [], ◌∷◌, length, refl, sym, ap, subst, ◌∙◌, Option, None, Some, arith, inl, inr, ltb, eqb, ◌⊎◌}
use Rattle.std.specs.Prelude.{slice_get}
use Rattle.std.specs.List.{AllByRecursion, sum_by}
use Rattle.std.proofs.lemmas.Bool.{cases_lt, cases_eq, cases_Bool, eq-eqb, ne_eqb, lt-ltb, le-ltb, cond-true, cond-false}
use Rattle.std.proofs.lemmas.Option.{same_Some, none-some}
use Rattle.std.proofs.lemmas.List.Sums.{sum_by-cons}
use Rattle.bd_keys.specs.Keys.{IsKey}
use Rattle.bd_message.specs.Effect.{NodesAt}
use Rattle.bd_node.specs.declared.node.Node.{Node}
use Rattle.bd_node.specs.declared.node.Change.{Change}
use Rattle.bd_node.specs.declared.node.Step.{Step}
use Rattle.bd_node.specs.Nodes.{level_of, names, times, node_at, node_has, is_key}
use Rattle.bd_node.specs.Meaning.{Nodes, at, found_at}
use Rattle.bd_node.specs.Shape.{IsShape}
use Rattle.bd_node.specs.Tables.{Table, IsKept, IsTable, IsLower, IsSound}
use Rattle.bd_node.specs.Private.{IsPrivate}
use Rattle.bd_node.specs.Steps.{changed_at, given, level_or, level_after, IsNamable, IsPut, IsChange, AreOnce, IsStep, IsOnlyNamed, HasRoom, IsInPlace, IsTableAfter, IsCommitted, IsMoving}
use Rattle.bd_node.proofs.Lookup.{Agree, each_weaker, each_named, node_has-same, node_has-key, key-is_key, each_at}
use Rattle.bd_node.proofs.Meanings.{at-others, at-none}
use Rattle.bd_node.proofs.Stepping.{touched_in, given-old, given-new, changed_at-same, changed_at-other, changed_at-none, changed_has, moving_meaning, after-none, by_given}
use Rattle.bd_node.proofs.Closing.{stay_above}
use Rattle.bd_path.specs.Flushed.{LeadsTo, IsFlushed}
use Rattle.bd_path.specs.Flushed.LeadsTo.{itself}
use Rattle.bd_path.specs.Paths.{path_step}

-- ---- such a step

-- a node that is made below a level, and names nodes lower than a changed one was
pub record IsMadeUnder (t : Table) (level c : ℕ) (d : Node) : Type 0 where
  pub shape : IsShape d
  pub low : level_of d < level
  pub under : level_of d ≤ t.level c
  pub named : (x : ℕ) → 1 ≤ times d x → IsLower t (level_of d) x

-- a change of a node above another, whose level rises by one at most
pub record IsUpper (t : Table) (step : Step) (c : ℕ) (u : Change) : Type 0 where
  pub kept : IsKept t u.id
  pub above : t.level c < t.level u.id
  pub shape : IsShape u.node
  pub low : t.level u.id ≤ level_of u.node
  pub high : level_of u.node ≤ t.level u.id + 1
  pub named : (x : ℕ) → 1 ≤ times u.node x → IsNamable t step (level_of u.node) x

-- a node that may be changed to this one, with others above it, where these are made, below the top level;
-- each is named by a changed node that is as high as that
pub record IsPathStep (t : Table) (c : ℕ) (h : Node) (uppers : List Change) (made : List Node) : Type 0 where
  pub table : IsTable t
  pub child : IsKept t c
  pub shape : IsShape h
  pub low : t.level c ≤ level_of h
  pub high : level_of h ≤ t.level c + 1
  pub named : (x : ℕ) → 1 ≤ times h x → IsLower t (t.level c) x ⊎ ((t.next ≤ x) × (x < t.next + length made))
  pub top : ℕ
  pub under : (x : ℕ) → t.next ≤ x → 1 ≤ times h x → top ≤ level_of h
  pub made_are : AllByRecursion (IsMadeUnder t top c) made
  pub used : (x : ℕ) → t.next ≤ x → x < t.next + length made → (1 ≤ times h x) ⊎ (1 ≤ sum_by (λ (d : Change). times d.node x) uppers)
  pub uppers_are : AllByRecursion (IsUpper t (path_step t.root c h uppers made) c) uppers
  pub once : AreOnce uppers

pub given_child : (t : Table) (c : ℕ) (h : Node) (uppers : List Change) (made : List Node) → c < t.next → given t.next (path_step t.root c h uppers made) c ≡ Some h
given_child t c h uppers made low =
    given-old t.next (path_step t.root c h uppers made) c low ∙ changed_at-same (record { id = c; node = h }) uppers c refl

pub given_upper : (t : Table) (c : ℕ) (h : Node) (uppers : List Change) (made : List Node) (id : ℕ) → id < t.next → (id ≡ c → ⊥) → given t.next (path_step t.root c h uppers made) id ≡ changed_at uppers id
given_upper t c h uppers made id low other =
    given-old t.next (path_step t.root c h uppers made) id low ∙ changed_at-other (record { id = c; node = h }) uppers id other

-- a node that isn't above the changed one isn't changed
pub given_low : (t : Table) (c : ℕ) (h : Node) (uppers : List Change) (made : List Node) → IsPathStep t c h uppers made → (id : ℕ) → id < t.next → (id ≡ c → ⊥) → t.level id ≤ t.level c → given t.next (path_step t.root c h uppers made) id ≡ None
given_low t c h uppers made b id low other under =
    given_upper t c h uppers made id low other
    ∙ changed_at-none (λ i. t.level c < t.level i) uppers id
    (each_weaker (IsUpper t (path_step t.root c h uppers made) c) (λ (u : Change). t.level c < t.level u.id) (λ u own. own.above) uppers b.uppers_are) (λ above. omega arith)

-- what holds of each change
pub each_change : (P : Change → Type 0) (t : Table) (c : ℕ) (h : Node) (uppers : List Change) (made : List Node) (id : ℕ) (n : Node) → P (record { id = c; node = h }) → AllByRecursion P uppers → id < t.next → given t.next (path_step t.root c h uppers made) id ≡ Some n → P (record { id = id; node = n })
each_change P t c h uppers made id n own each low e =
    changed_has P (record { id = c; node = h } ∷ uppers) id n (own, each) (sym (given-old t.next (path_step t.root c h uppers made) id low) ∙ e)

-- levels rise by one at most
abbrev pub RisesByOne : Table → Change → Type 0
RisesByOne t u = (t.level u.id ≤ level_of u.node) × (level_of u.node ≤ t.level u.id + 1)

pub level_bound : (t : Table) (c : ℕ) (h : Node) (uppers : List Change) (made : List Node) → RisesByOne t (record { id = c; node = h }) → AllByRecursion (RisesByOne t) uppers → (id : ℕ) → id < t.next
    → (t.level id ≤ level_after t (path_step t.root c h uppers made) id) × (level_after t (path_step t.root c h uppers made) id ≤ t.level id + 1)
level_bound t c h uppers made own each id low =
    let step : Step = path_step t.root c h uppers made in
    by_given ((t.level id ≤ level_after t step id) × (level_after t step id ≤ t.level id + 1)) (given t.next step id)
    (λ none.
    let e : level_after t step id ≡ t.level id = ap (λ (o : Option Node). level_or o (t.level id)) none in
    (omega arith, omega arith))
    (λ n some.
    let e : level_after t step id ≡ level_of n = ap (λ (o : Option Node). level_or o (t.level id)) some in
    let own : RisesByOne t (record { id = id; node = n }) = each_change (RisesByOne t) t c h uppers made id n own each low some in
    let least : t.level id ≤ level_of n = own.0 in
    let most : level_of n ≤ t.level id + 1 = own.1 in
    (omega arith, omega arith))

level_rises : (t : Table) (c : ℕ) (h : Node) (uppers : List Change) (made : List Node) → IsPathStep t c h uppers made → (id : ℕ) → id < t.next
    → (t.level id ≤ level_after t (path_step t.root c h uppers made) id) × (level_after t (path_step t.root c h uppers made) id ≤ t.level id + 1)
level_rises t c h uppers made b id low =
    level_bound t c h uppers made (b.low, b.high) (each_weaker (IsUpper t (path_step t.root c h uppers made) c) (RisesByOne t) (λ u up. (up.low, up.high)) uppers b.uppers_are) id low

lower_apart : (t : Table) (level c x : ℕ) → level ≤ t.level c → IsLower t level x → x ≡ c → ⊥
lower_apart t level c x under lower same =
    let e : t.level x ≡ t.level c = ap t.level same in
    let l : t.level x < level = lower.lower in
    omega arith

-- a node below the changed one may be named as before
lower_namable : (t : Table) (c : ℕ) (h : Node) (uppers : List Change) (made : List Node) (level x : ℕ) → IsPathStep t c h uppers made → level ≤ t.level c → IsLower t level x → (above : ℕ) → level ≤ above → IsNamable t (path_step t.root c h uppers made) above x
lower_namable t c h uppers made level x b under lower above more =
    let l : t.level x < level = lower.lower in
    let none : given t.next (path_step t.root c h uppers made) x ≡ None =
    given_low t c h uppers made b x (b.table.below x lower.kept) (lower_apart t level c x under lower) (omega arith) in
    let e : level_after t (path_step t.root c h uppers made) x ≡ t.level x = ap (λ (o : Option Node). level_or o (t.level x)) none in
    record { there = inl lower.kept; lower = omega arith }

-- an element at a place
pub at_of : (xs : List Node) (i : ℕ) → i < length xs → (m : Node) × (slice_get xs i ≡ Some m)
at_of [] i low = absurd (omega arith)
at_of (x ∷ xs) zero low = (x, refl)
at_of (x ∷ xs) (suc i) low = at_of xs i (omega arith)

child_put : (t : Table) (c : ℕ) (h : Node) (uppers : List Change) (made : List Node) → IsPathStep t c h uppers made → IsPut t (path_step t.root c h uppers made) h
child_put t c h uppers made b =
    let step : Step = path_step t.root c h uppers made in
    record {
      shape = b.shape;
      lower = each_named (IsNamable t step (level_of h)) (names h) (λ x one.
          elim (b.named x one) [
            | inl old ↦ lower_namable t c h uppers made (t.level c) x b (omega arith) old (level_of h) b.low
            | inr new ↦ (let found : (m : Node) × (slice_get made (x - t.next) ≡ Some m) = at_of made (x - t.next) (let high : t.next ≤ x = new.0 in let low : x < t.next + length made = new.1 in omega arith) in
                let is : given t.next step x ≡ Some found.0 = given-new t.next step x new.0 ∙ found.1 in
                let e : level_after t step x ≡ level_of found.0 = ap (λ (o : Option Node). level_or o (t.level x)) is in
                let l : level_of found.0 < b.top = (each_at (IsMadeUnder t b.top c) made (x - t.next) found.0 b.made_are found.1).low in
                let under : b.top ≤ level_of h = b.under x new.0 one in
                record { there = inr new; lower = omega arith })
          ]);
    }

upper_put : (t : Table) (c : ℕ) (h : Node) (uppers : List Change) (made : List Node) (u : Change) → IsUpper t (path_step t.root c h uppers made) c u → IsChange t (path_step t.root c h uppers made) u
upper_put t c h uppers made u own = record {
  kept = own.kept;
  put = record {
    shape = own.shape;
    lower = each_named (IsNamable t (path_step t.root c h uppers made) (level_of u.node)) (names u.node) own.named;
  };
}

made_put : (t : Table) (c : ℕ) (h : Node) (uppers : List Change) (made : List Node) → (b : IsPathStep t c h uppers made) → (d : Node) → IsMadeUnder t b.top c d → IsPut t (path_step t.root c h uppers made) d
made_put t c h uppers made b d own = record {
  shape = own.shape;
  lower = each_named (IsNamable t (path_step t.root c h uppers made) (level_of d)) (names d) (λ x one. lower_namable t c h uppers made (level_of d) x b own.under (own.named x one) (level_of d) (omega arith));
}

pub path_may : (t : Table) (c : ℕ) (h : Node) (uppers : List Change) (made : List Node) → IsPathStep t c h uppers made → IsStep t (path_step t.root c h uppers made)
path_may t c h uppers made b =
    let step : Step = path_step t.root c h uppers made in
    record {
      made = each_weaker (IsMadeUnder t b.top c) (IsPut t step) (λ d own. made_put t c h uppers made b d own) made b.made_are;
      changes = (record { kept = b.child; put = child_put t c h uppers made b }, each_weaker (IsUpper t step c) (IsChange t step) (λ u own. upper_put t c h uppers made u own) uppers b.uppers_are);
      once = (
        each_weaker (IsUpper t step c) (λ (u : Change). u.id ≡ c → ⊥) (λ u own same. (let e : t.level u.id ≡ t.level c = ap t.level same in let l : t.level c < t.level u.id = own.above in omega arith)) uppers b.uppers_are,
        b.once,
      );
      root = inl b.table.root;
      inner = (let up : t.level t.root ≤ level_after t step t.root = (level_rises t c h uppers made b t.root (b.table.below t.root b.table.root)).0 in
          let l : 1 ≤ t.level t.root = b.table.inner in
          omega arith);
      used = λ id high low.
          elim (b.used id high low) [
            | inl own ↦ omega (arith, sum_by-cons (λ (d : Change). times d.node id) (record { id = c; node = h }) uppers)
            | inr above ↦ omega (arith, sum_by-cons (λ (d : Change). times d.node id) (record { id = c; node = h }) uppers)
          ];
    }

-- ---- what each id has then

-- as before, and what the made nodes have
abbrev pub has_made : Nodes → ℕ → List Node → NodesAt
has_made nodes next made id k = cond (ltb id next) (at nodes id k) (found_at (at nodes) (slice_get made (id - next)) k)

-- and what the changed one has
abbrev pub has_path : Nodes → ℕ → ℕ → Node → List Node → NodesAt
has_path nodes next c h made id k = cond (eqb id c) (node_has (has_made nodes next made) h k) (has_made nodes next made id k)

pub made_old : (nodes : Nodes) (next : ℕ) (made : List Node) (id : ℕ) → id < next → (k : List ℕ) → has_made nodes next made id k ≡ at nodes id k
made_old nodes next made id low k = cond-true (ltb id next) (at nodes id k) (found_at (at nodes) (slice_get made (id - next)) k) (lt-ltb id next low)

pub made_new : (nodes : Nodes) (next : ℕ) (made : List Node) (id : ℕ) → next ≤ id → (k : List ℕ) → has_made nodes next made id k ≡ found_at (at nodes) (slice_get made (id - next)) k
made_new nodes next made id high k = cond-false (ltb id next) (at nodes id k) (found_at (at nodes) (slice_get made (id - next)) k) (le-ltb id next high)

pub path_child : (nodes : Nodes) (next c : ℕ) (h : Node) (made : List Node) (k : List ℕ) → has_path nodes next c h made c k ≡ node_has (has_made nodes next made) h k
path_child nodes next c h made k = cond-true (eqb c c) (node_has (has_made nodes next made) h k) (has_made nodes next made c k) (eq-eqb c c refl)

pub path_apart : (nodes : Nodes) (next c : ℕ) (h : Node) (made : List Node) (id : ℕ) → (id ≡ c → ⊥) → (k : List ℕ) → has_path nodes next c h made id k ≡ has_made nodes next made id k
path_apart nodes next c h made id other k = cond-false (eqb id c) (node_has (has_made nodes next made) h k) (has_made nodes next made id k) (ne_eqb id c other)

pub path_old : (nodes : Nodes) (next c : ℕ) (h : Node) (made : List Node) (id : ℕ) → (id ≡ c → ⊥) → id < next → (k : List ℕ) → has_path nodes next c h made id k ≡ at nodes id k
path_old nodes next c h made id other low k = path_apart nodes next c h made id other k ∙ made_old nodes next made id low k

-- ---- of sound nodes

-- a change of a private node that leads to the changed one, and keeps what it had
pub record IsUpperOf (nodes : Nodes) (t : Table) (c : ℕ) (h : Node) (uppers : List Change) (made : List Node) (u : Change) : Type 0 where
  pub private : IsPrivate nodes t u.id
  pub leads : LeadsTo nodes c u.id
  pub room : HasRoom nodes t (path_step t.root c h uppers made) u.id u.node
  pub meaning : (k : List ℕ) → IsKey k → node_at (has_path nodes t.next c h made) u.node k ≡ at nodes u.id k

-- the same of sound nodes, where the changed one keeps what it had too, or what names it is changed
pub record IsPathStepOf (nodes : Nodes) (t : Table) (c : ℕ) (h : Node) (uppers : List Change) (made : List Node) : Type 0 where
  pub step : IsPathStep t c h uppers made
  pub sound : IsSound nodes t
  pub private : IsPrivate nodes t c
  pub room : HasRoom nodes t (path_step t.root c h uppers made) c h
  pub moves : ((k : List ℕ) → has_path nodes t.next c h made c k ≡ at nodes c k) ⊎ ((t.root ≡ c → ⊥) × IsOnlyNamed nodes t (path_step t.root c h uppers made) c)
  pub uppers_of : AllByRecursion (IsUpperOf nodes t c h uppers made) uppers

child_low : (t : Table) (c : ℕ) (h : Node) (uppers : List Change) (made : List Node) → IsPathStep t c h uppers made → c < t.next
child_low t c h uppers made b = b.table.below c b.child

-- the changed node names none that is changed
child_agrees : (nodes : Nodes) (t : Table) (c : ℕ) (h : Node) (uppers : List Change) (made : List Node) → IsPathStep t c h uppers made → AllByRecursion (Agree (has_made nodes t.next made) (has_path nodes t.next c h made)) (names h)
child_agrees nodes t c h uppers made b =
    each_named (Agree (has_made nodes t.next made) (has_path nodes t.next c h made)) (names h) (λ x one k.
    sym (path_apart nodes t.next c h made x
    (elim (b.named x one) [
      | inl old ↦ lower_apart t (t.level c) c x (omega arith) old
      | inr new ↦ (λ same. (let low : c < t.next = child_low t c h uppers made b in let high : t.next ≤ x = new.0 in omega arith))
    ])
    k))

made_agrees : (nodes : Nodes) (t : Table) (level c : ℕ) (h : Node) (made : List Node) (d : Node) → IsTable t → IsMadeUnder t level c d → AllByRecursion (Agree (at nodes) (has_path nodes t.next c h made)) (names d)
made_agrees nodes t level c h made d table own =
    each_named (Agree (at nodes) (has_path nodes t.next c h made)) (names d) (λ x one k.
    sym (path_old nodes t.next c h made x (lower_apart t (level_of d) c x own.under (own.named x one)) (table.below x (own.named x one).kept) k))

-- an equation at keys is one at all lists
pub both_ways : (nodes : Nodes) (has : NodesAt) (id : ℕ) (n : Node) → ((k : List ℕ) → IsKey k → node_at has n k ≡ at nodes id k) → (k : List ℕ) → at nodes id k ≡ node_has has n k
both_ways nodes has id n same k =
    elim (cases_Bool (is_key k)) [
      | inl bytes ↦ sym (same k (key-is_key k bytes)) ∙ sym (node_has-key has n k (key-is_key k bytes))
      | inr other ↦ at-others nodes id k other ∙ sym (ap (λ y. cond y (node_at has n k) None) other)
    ]

nothing_there : (nodes : Nodes) (t : Table) (id : ℕ) → IsSound nodes t → t.next ≤ id → (k : List ℕ) → at nodes id k ≡ None
nothing_there nodes t id s high k =
    elim (cases_lt 0 (t.count id)) [
      | inl kept ↦ absurd (let low : id < t.next = s.table.below id (omega arith) in omega arith)
      | inr none ↦ at-none nodes id k (s.others id (omega arith))
    ]

put_old : (nodes : Nodes) (t : Table) (c : ℕ) (h : Node) (uppers : List Change) (made : List Node) → IsPathStepOf nodes t c h uppers made → (id : ℕ) (n : Node) → id < t.next → given t.next (path_step t.root c h uppers made) id ≡ Some n
    → (k : List ℕ) → has_path nodes t.next c h made id k ≡ node_has (has_path nodes t.next c h made) n k
put_old nodes t c h uppers made b id n low e k =
    let has : NodesAt = has_path nodes t.next c h made in
    elim (cases_eq id c) [
      | inl same ↦ (let is : h ≡ n = same_Some h n (sym (given_child t c h uppers made (child_low t c h uppers made b.step)) ∙ ap (λ (i : ℕ). given t.next (path_step t.root c h uppers made) i) (sym same) ∙ e) in
          ap (λ (i : ℕ). has i k) same
          ∙ path_child nodes t.next c h made k
          ∙ node_has-same (has_made nodes t.next made) has h k (child_agrees nodes t c h uppers made b.step)
          ∙ ap (λ (d : Node). node_has has d k) is)
      | inr other ↦ (let own : IsUpperOf nodes t c h uppers made (record { id = id; node = n }) =
          changed_has (IsUpperOf nodes t c h uppers made) uppers id n b.uppers_of (sym (given_upper t c h uppers made id low other) ∙ e) in
          path_old nodes t.next c h made id other low k ∙ both_ways nodes has id n own.meaning k)
    ]

pub path_moving : (nodes : Nodes) (t : Table) (c : ℕ) (h : Node) (uppers : List Change) (made : List Node) → IsPathStepOf nodes t c h uppers made → IsMoving nodes t (path_step t.root c h uppers made) (has_path nodes t.next c h made)
path_moving nodes t c h uppers made b =
    let has : NodesAt = has_path nodes t.next c h made in
    let step : Step = path_step t.root c h uppers made in
    record {
      old = λ id none k.
          elim (cases_eq id c) [
            | inl same ↦ absurd (none-some h (sym none ∙ ap (λ (i : ℕ). given t.next step i) same ∙ given_child t c h uppers made (child_low t c h uppers made b.step)))
            | inr other ↦ elim (cases_lt id t.next) [
              | inl low ↦ path_old nodes t.next c h made id other low k
              | inr high ↦
                  path_apart nodes t.next c h made id other k ∙ made_new nodes t.next made id high k
                  ∙ ap (λ (o : Option Node). found_at (at nodes) o k) (sym (given-new t.next step id high) ∙ none)
                  ∙ sym (nothing_there nodes t id b.sound high k)
            ]
          ];
      put = λ id n e k.
          elim (cases_lt id t.next) [
            | inl low ↦ put_old nodes t c h uppers made b id n low e k
            | inr high ↦ (let there : slice_get made (id - t.next) ≡ Some n = sym (given-new t.next step id high) ∙ e in
                path_apart nodes t.next c h made id (λ same. (let low : c < t.next = child_low t c h uppers made b.step in omega arith)) k
                ∙ made_new nodes t.next made id high k
                ∙ ap (λ (o : Option Node). found_at (at nodes) o k) there
                ∙ node_has-same (at nodes) has n k (made_agrees nodes t b.step.top c h made n b.step.table (each_at (IsMadeUnder t b.step.top c) made (id - t.next) n b.step.made_are there)))
          ];
      named = λ id n low e.
          elim (cases_eq id c) [
            | inl same ↦ elim b.moves [
              | inl keeps ↦ inl (λ k. ap (λ (i : ℕ). has i k) same ∙ keeps k ∙ ap (λ (i : ℕ). at nodes i k) (sym same))
              | inr only ↦ inr (subst (λ (i : ℕ). IsOnlyNamed nodes t step i) (sym same) only.1)
            ]
            | inr other ↦ inl (λ k. path_old nodes t.next c h made id other low k)
          ];
    }

pub path_in_place : (nodes : Nodes) (t : Table) (c : ℕ) (h : Node) (uppers : List Change) (made : List Node) → IsPathStepOf nodes t c h uppers made → IsInPlace nodes t (path_step t.root c h uppers made)
path_in_place nodes t c h uppers made b =
    let step : Step = path_step t.root c h uppers made in
    record {
      private = (b.private, each_weaker (IsUpperOf nodes t c h uppers made) (λ (u : Change). IsPrivate nodes t u.id) (λ u own. own.private) uppers b.uppers_of);
      above = stay_above nodes t step b.sound (λ id n low e.
          each_change (λ (u : Change). HasRoom nodes t step u.id u.node) t c h uppers made id n b.room
          (each_weaker (IsUpperOf nodes t c h uppers made) (λ (u : Change). HasRoom nodes t step u.id u.node) (λ u own. own.room) uppers b.uppers_of) low e);
    }

-- ---- what the step leaves

pub record IsPathDone (nodes : Nodes) (t : Table) (c : ℕ) (h : Node) (uppers : List Change) (made : List Node) (new : Nodes) (u : Table) : Type 0 where
  pub of : IsPathStepOf nodes t c h uppers made
  pub after : IsTableAfter t (path_step t.root c h uppers made) u
  pub committed : IsCommitted nodes t (path_step t.root c h uppers made) new u

root_has : (nodes : Nodes) (t : Table) (c : ℕ) (h : Node) (uppers : List Change) (made : List Node) → IsPathStepOf nodes t c h uppers made → (k : List ℕ) → has_path nodes t.next c h made t.root k ≡ at nodes t.root k
root_has nodes t c h uppers made b k =
    let low : t.root < t.next = b.step.table.below t.root b.step.table.root in
    elim (cases_eq t.root c) [
      | inr other ↦ path_old nodes t.next c h made t.root other low k
      | inl same ↦ elim b.moves [
        | inl keeps ↦ ap (λ (i : ℕ). has_path nodes t.next c h made i k) same ∙ keeps k ∙ ap (λ (i : ℕ). at nodes i k) (sym same)
        | inr only ↦ absurd (only.0 same)
      ]
    ]

pub root_stays : (t : Table) (c : ℕ) (h : Node) (uppers : List Change) (made : List Node) (u : Table) → IsTableAfter t (path_step t.root c h uppers made) u → IsKept u t.root
root_stays t c h uppers made u after = subst (λ (r : ℕ). IsKept u r) after.root after.table.root

pub root_rises : (t : Table) (c : ℕ) (h : Node) (uppers : List Change) (made : List Node) (u : Table) → IsPathStep t c h uppers made → IsTableAfter t (path_step t.root c h uppers made) u → (t.level t.root ≤ u.level u.root) × (u.level u.root ≤ t.level t.root + 1)
root_rises t c h uppers made u b after =
    let step : Step = path_step t.root c h uppers made in
    let is : u.level u.root ≡ level_after t step t.root = ap u.level after.root ∙ after.level t.root (root_stays t c h uppers made u after) in
    let own = level_rises t c h uppers made b t.root (b.table.below t.root b.table.root) in
    let least : t.level t.root ≤ level_after t step t.root = own.0 in
    let most : level_after t step t.root ≤ t.level t.root + 1 = own.1 in
    (omega arith, omega arith)

pub path_flushed : (nodes : Nodes) (t : Table) (c : ℕ) (h : Node) (uppers : List Change) (made : List Node) (new : Nodes) (u : Table) → IsPathDone nodes t c h uppers made new u → length made ≤ 4 → IsFlushed nodes t new u
path_flushed nodes t c h uppers made new u b few =
    let step : Step = path_step t.root c h uppers made in
    let next : u.next ≡ t.next + length made = b.after.next in
    let rises = root_rises t c h uppers made u b.of.step b.after in
    let then : (id : ℕ) → IsKept u id → (k : List ℕ) → at new id k ≡ has_path nodes t.next c h made id k =
    λ id kept k. moving_meaning nodes t step new u (has_path nodes t.next c h made) b.of.sound b.committed (path_moving nodes t c h uppers made b.of) id kept k in
    record {
      same = λ k.
          ap (λ (r : ℕ). at new r k) b.after.root
          ∙ then t.root (root_stays t c h uppers made u b.after) k
          ∙ root_has nodes t c h uppers made b.of k;
      sound = b.committed.sound;
      later = omega arith;
      few = omega arith;
      last = c;
      private = b.of.private;
      others = λ id kept stays no.
          let below : id < t.next = b.of.step.table.below id kept in
          let other : id ≡ c → ⊥ = λ e. no (subst (λ (i : ℕ). LeadsTo nodes c i) (sym e) itself) in
          let none : given t.next step id ≡ None =
          given_upper t c h uppers made id below other
          ∙ changed_at-none (λ i. LeadsTo nodes c i) uppers id (each_weaker (IsUpperOf nodes t c h uppers made) (λ (v : Change). LeadsTo nodes c v.id) (λ v own. own.leads) uppers b.of.uppers_of) no in
          record {
            node = b.committed.stays id stays ∙ after-none nodes t step id none;
            meaning = λ k. then id stays k ∙ path_old nodes t.next c h made id other below k;
          };
      touched = touched_in (LeadsTo nodes c) t u step b.after
          (itself, each_weaker (IsUpperOf nodes t c h uppers made) (λ (v : Change). LeadsTo nodes c v.id) (λ v own. own.leads) uppers b.of.uppers_of);
      low = rises.0;
      high = rises.1;
    }

-- ---- a counter that is worn
