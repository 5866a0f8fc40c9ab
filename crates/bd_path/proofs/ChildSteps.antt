-- Steps that change a private node and a child that it alone names, and make others below it: the path of
-- the two.
use Rattle.std.proofs.Common.{◌≡◌, ℕ, ◌+◌, ◌-◌, ◌<◌, ◌≤◌, cond, List, [], ◌∷◌, length, refl, sym, ap, subst, ◌∙◌, Option, Some, None, arith, rules, inl, inr, eqb, IsSome, ◌⊎◌}
use Rattle.std.specs.Prelude.{slice_get}
use Rattle.std.specs.List.{AllByRecursion}
use Rattle.std.proofs.lemmas.Bool.{cases_eq, eq-eqb, ne_eqb, cond-true, cond-false}
use Rattle.std.proofs.lemmas.List.Sums.{sum_by-cons}
use Rattle.bd_keys.specs.Keys.{IsKey}
use Rattle.bd_message.specs.Effect.{NodesAt}
use Rattle.bd_node.specs.declared.node.Node.{Node}
use Rattle.bd_node.specs.declared.node.Change.{Change}
use Rattle.bd_node.specs.declared.node.Step.{Step}
use Rattle.bd_node.specs.Nodes.{level_of, buffer_size, names, times, node_at, node_has}
use Rattle.bd_node.specs.Meaning.{Nodes, at, found_at}
use Rattle.bd_node.specs.Shape.{IsShape}
use Rattle.bd_node.specs.Tables.{Table, IsKept, IsTable, IsLower, IsSound, one_if}
use Rattle.bd_node.specs.Private.{IsPrivate}
use Rattle.bd_node.specs.Private.IsPrivate.{alone}
use Rattle.bd_node.specs.Steps.{given, level_or, level_after, IsStep, IsOnlyNamed, IsInPlace, IsTableAfter, IsCommitted}
use Rattle.bd_node.specs.Steps.HasRoom.{no_rise}
use Rattle.bd_node.proofs.Lookup.{Agree, each_weaker, each_named, each_at, node_at-same, node_has-same, node_has-key}
use Rattle.bd_node.proofs.Meanings.{at-meets}
use Rattle.bd_node.proofs.Sound.{sound-levelled, counted_twice, root_unnamed}
use Rattle.bd_node.proofs.Stepping.{given-new, changed_at-same, changed_at-other}
use Rattle.bd_path.specs.Flushed.{IsFlushed, IsNoHigher}
use Rattle.bd_path.specs.Flushed.LeadsTo.{itself, through}
use Rattle.bd_path.specs.Paths.{child_step}
use Rattle.bd_path.proofs.PathSteps.{IsMadeUnder, IsUpper, IsPathStep, IsPathStepOf, given_child, given_upper, at_of, has_made, has_path, made_old, made_new, path_may, path_in_place, path_flushed, root_stays}

-- ---- such a step

-- a node that is made, no higher than this level
pub record IsMadeBelow (t : Table) (level : ℕ) (d : Node) : Type 0 where
  pub shape : IsShape d
  pub low : level_of d ≤ level
  pub named : (x : ℕ) → 1 ≤ times d x → IsLower t (level_of d) x

-- a node, and a child of it, that may be changed to these, where these are made
pub record IsChildChange (t : Table) (p : ℕ) (n : Node) (c : ℕ) (h : Node) (made : List Node) : Type 0 where
  pub table : IsTable t
  pub parent : IsKept t p
  pub child : IsLower t (t.level p) c
  pub shape : IsShape n
  pub level : level_of n ≡ t.level p
  pub named : (x : ℕ) → 1 ≤ times n x → IsLower t (t.level p) x ⊎ ((t.next ≤ x) × (x < t.next + length made))
  pub child_shape : IsShape h
  pub child_level : level_of h ≡ t.level c
  pub child_named : (x : ℕ) → 1 ≤ times h x → IsLower t (t.level c) x
  pub each : AllByRecursion (IsMadeBelow t (t.level c)) made
  pub used : (x : ℕ) → t.next ≤ x → x < t.next + length made → 1 ≤ times n x

apart : (t : Table) (p c : ℕ) → IsLower t (t.level p) c → p ≡ c → ⊥
apart t p c lower same =
    let e : t.level p ≡ t.level c = ap t.level same in
    let l : t.level c < t.level p = lower.lower in
    omega arith

-- the parent's change
abbrev above : ℕ → Node → List Change
above p n = record { id = p; node = n } ∷ []

given_parent : (t : Table) (p : ℕ) (n : Node) (c : ℕ) (h : Node) (made : List Node) → IsChildChange t p n c h made → given t.next (child_step t.root p n c h made) p ≡ Some n
given_parent t p n c h made b =
    given_upper t c h (above p n) made p (b.table.below p b.parent) (apart t p c b.child) ∙ changed_at-same (record { id = p; node = n }) [] p refl

given_else : (t : Table) (p : ℕ) (n : Node) (c : ℕ) (h : Node) (made : List Node) (id : ℕ) → id < t.next → (id ≡ p → ⊥) → (id ≡ c → ⊥) → given t.next (child_step t.root p n c h made) id ≡ None
given_else t p n c h made id low other far = given_upper t c h (above p n) made id low far ∙ changed_at-other (record { id = p; node = n }) [] id other

-- no kept node's level changes
level_kept : (t : Table) (p : ℕ) (n : Node) (c : ℕ) (h : Node) (made : List Node) → IsChildChange t p n c h made → (id : ℕ) → id < t.next → level_after t (child_step t.root p n c h made) id ≡ t.level id
level_kept t p n c h made b id low =
    let step : Step = child_step t.root p n c h made in
    elim (cases_eq id p) [
      | inl same ↦
          subst (λ (i : ℕ). level_after t step i ≡ t.level i) (sym same)
          (ap (λ (o : Option Node). level_or o (t.level p)) (given_parent t p n c h made b) ∙ b.level)
      | inr other ↦ elim (cases_eq id c) [
        | inl same ↦
            subst (λ (i : ℕ). level_after t step i ≡ t.level i) (sym same)
            (ap (λ (o : Option Node). level_or o (t.level c)) (given_child t c h (above p n) made (b.table.below c b.child.kept)) ∙ b.child_level)
        | inr far ↦ ap (λ (o : Option Node). level_or o (t.level id)) (given_else t p n c h made id low other far)
      ]
    ]

-- the level of a made node
made_level : (t : Table) (p : ℕ) (n : Node) (c : ℕ) (h : Node) (made : List Node) → IsChildChange t p n c h made → (x : ℕ) → t.next ≤ x → x < t.next + length made → level_after t (child_step t.root p n c h made) x ≤ t.level c
made_level t p n c h made b x high low =
    let found : (m : Node) × (slice_get made (x - t.next) ≡ Some m) = at_of made (x - t.next) (omega arith) in
    let is : given t.next (child_step t.root p n c h made) x ≡ Some found.0 = given-new t.next (child_step t.root p n c h made) x high ∙ found.1 in
    let e : level_after t (child_step t.root p n c h made) x ≡ level_of found.0 = ap (λ (o : Option Node). level_or o (t.level x)) is in
    let l : level_of found.0 ≤ t.level c = (each_at (IsMadeBelow t (t.level c)) made (x - t.next) found.0 b.each found.1).low in
    omega arith

upper : (t : Table) (p : ℕ) (n : Node) (c : ℕ) (h : Node) (made : List Node) → IsChildChange t p n c h made → IsUpper t (child_step t.root p n c h made) c (record { id = p; node = n })
upper t p n c h made b =
    let level : level_of n ≡ t.level p = b.level in
    let down : t.level c < t.level p = b.child.lower in
    record {
      kept = b.parent;
      above = down;
      shape = b.shape;
      low = omega arith;
      high = omega arith;
      named = λ x one.
          elim (b.named x one) [
            | inl old ↦ (let e : level_after t (child_step t.root p n c h made) x ≡ t.level x = level_kept t p n c h made b x (b.table.below x old.kept) in
                let l : t.level x < t.level p = old.lower in
                record { there = inl old.kept; lower = omega arith })
            | inr new ↦ (let l : level_after t (child_step t.root p n c h made) x ≤ t.level c = made_level t p n c h made b x new.0 new.1 in
                record { there = inr new; lower = omega arith })
          ];
    }

path : (t : Table) (p : ℕ) (n : Node) (c : ℕ) (h : Node) (made : List Node) → IsChildChange t p n c h made → IsPathStep t c h (above p n) made
path t p n c h made b =
    let level : level_of h ≡ t.level c = b.child_level in
    record {
      table = b.table;
      child = b.child.kept;
      shape = b.child_shape;
      low = omega arith;
      high = omega arith;
      named = λ x one. inl (b.child_named x one);
      top = t.level c + 1;
      under = λ x high one. absurd (let low : x < t.next = b.table.below x (b.child_named x one).kept in omega arith);
      made_are = each_weaker (IsMadeBelow t (t.level c)) (IsMadeUnder t (t.level c + 1) c)
          (λ d own. record { shape = own.shape; low = (let l : level_of d ≤ t.level c = own.low in omega arith); under = own.low; named = own.named }) made b.each;
      used = λ x high low. inr (let one : 1 ≤ times n x = b.used x high low in omega (arith, sum_by-cons (λ (d : Change). times d.node x) (record { id = p; node = n }) []));
      uppers_are = (upper t p n c h made b, tt);
      once = (tt, tt);
    }

pub below_step : (t : Table) (p : ℕ) (n : Node) (c : ℕ) (h : Node) (made : List Node) → IsChildChange t p n c h made → IsStep t (child_step t.root p n c h made)
below_step t p n c h made b = path_may t c h (above p n) made (path t p n c h made b)

-- ---- of sound nodes

-- what each id has then: the child's new node names nodes that stay as they are
abbrev pub has_below : Nodes → ℕ → ℕ → Node → List Node → NodesAt
has_below nodes next c h made id k = cond (eqb id c) (node_has (at nodes) h k) (has_made nodes next made id k)

-- the same of sound nodes, where the child is private and what names it is changed so that it keeps
-- what it had
pub record IsChildChangeOf (nodes : Nodes) (t : Table) (p : ℕ) (old n : Node) (c : ℕ) (h : Node) (made : List Node) : Type 0 where
  pub step : IsChildChange t p n c h made
  pub sound : IsSound nodes t
  pub there : nodes p ≡ Some old
  pub private : IsPrivate nodes t p
  pub once : t.count c ≡ 1
  pub names_it : 1 ≤ times old c
  pub meaning : (k : List ℕ) → IsKey k → node_at (has_below nodes t.next c h made) n k ≡ node_at (at nodes) old k

pub has_child : (nodes : Nodes) (next c : ℕ) (h : Node) (made : List Node) (k : List ℕ) → has_below nodes next c h made c k ≡ node_has (at nodes) h k
has_child nodes next c h made k = cond-true (eqb c c) (node_has (at nodes) h k) (has_made nodes next made c k) (eq-eqb c c refl)

has_apart : (nodes : Nodes) (next c : ℕ) (h : Node) (made : List Node) (id : ℕ) → (id ≡ c → ⊥) → (k : List ℕ) → has_below nodes next c h made id k ≡ has_made nodes next made id k
has_apart nodes next c h made id other k = cond-false (eqb id c) (node_has (at nodes) h k) (has_made nodes next made id k) (ne_eqb id c other)

pub has_old : (nodes : Nodes) (next c : ℕ) (h : Node) (made : List Node) (id : ℕ) → (id ≡ c → ⊥) → id < next → (k : List ℕ) → has_below nodes next c h made id k ≡ at nodes id k
has_old nodes next c h made id other low k = has_apart nodes next c h made id other k ∙ made_old nodes next made id low k

pub has_new : (nodes : Nodes) (next c : ℕ) (h : Node) (made : List Node) (id : ℕ) (m : Node) → c < next → next ≤ id → slice_get made (id - next) ≡ Some m → (k : List ℕ) → has_below nodes next c h made id k ≡ node_has (at nodes) m k
has_new nodes next c h made id m low high there k =
    has_apart nodes next c h made id (λ same. (omega arith)) k
    ∙ made_new nodes next made id high k
    ∙ ap (λ (o : Option Node). found_at (at nodes) o k) there

-- the same by the path
has_same : (nodes : Nodes) (t : Table) (p : ℕ) (n : Node) (c : ℕ) (h : Node) (made : List Node) → IsChildChange t p n c h made → (id : ℕ) (k : List ℕ) → has_path nodes t.next c h made id k ≡ has_below nodes t.next c h made id k
has_same nodes t p n c h made b id k =
    ap (λ (v : Option (List ℕ)). cond (eqb id c) v (has_made nodes t.next made id k))
    (node_has-same (has_made nodes t.next made) (at nodes) h k
    (each_named (Agree (has_made nodes t.next made) (at nodes)) (names h) (λ x one l. made_old nodes t.next made x (b.table.below x (b.child_named x one).kept) l)))

-- the parent keeps what it had
parent_keeps : (nodes : Nodes) (t : Table) (p : ℕ) (old n : Node) (c : ℕ) (h : Node) (made : List Node) → IsChildChangeOf nodes t p old n c h made → (k : List ℕ) → IsKey k → node_at (has_path nodes t.next c h made) n k ≡ at nodes p k
parent_keeps nodes t p old n c h made b k key =
    node_at-same (has_path nodes t.next c h made) (has_below nodes t.next c h made) n k
    (each_named (Agree (has_path nodes t.next c h made) (has_below nodes t.next c h made)) (names n) (λ x one l. has_same nodes t p n c h made b.step x l))
    ∙ b.meaning k key
    ∙ sym (node_has-key (at nodes) old k key)
    ∙ sym ((at-meets nodes (sound-levelled nodes t b.sound)).each p old b.there k)

-- the parent alone names the child
only_named : (nodes : Nodes) (t : Table) (p : ℕ) (old n : Node) (c : ℕ) (h : Node) (made : List Node) → IsChildChangeOf nodes t p old n c h made → IsOnlyNamed nodes t (child_step t.root p n c h made) c
only_named nodes t p old n c h made b = record {
  each = λ q m there one.
      elim (cases_eq q p) [
        | inl same ↦
            subst (λ (o : Option Node). IsSome o)
            (sym (ap (λ (i : ℕ). given t.next (child_step t.root p n c h made) i) same ∙ given_parent t p n c h made b.step))
            (let some : IsSome (Some n) = search rules in some)
        | inr other ↦ absurd (let two : times m c + times old c + one_if t.root c ≤ t.count c = counted_twice nodes t b.sound q p m old there b.there other c in
            let one_count : t.count c ≡ 1 = b.once in
            let named : 1 ≤ times old c = b.names_it in
            omega arith)
      ];
}

path_of : (nodes : Nodes) (t : Table) (p : ℕ) (old n : Node) (c : ℕ) (h : Node) (made : List Node) → IsChildChangeOf nodes t p old n c h made → IsPathStepOf nodes t c h (above p n) made
path_of nodes t p old n c h made b =
    let level : level_of n ≡ t.level p = b.step.level in
    let child_level : level_of h ≡ t.level c = b.step.child_level in
    record {
      step = path t p n c h made b.step;
      sound = b.sound;
      private = alone p c old b.private b.there b.names_it b.once;
      room = no_rise (omega arith);
      moves = inr (λ same. root_unnamed nodes t b.sound p old b.there (subst (λ (i : ℕ). 1 ≤ times old i) (sym same) b.names_it), only_named nodes t p old n c h made b);
      uppers_of = (
        record {
          private = b.private;
          leads = through p c old b.there b.names_it itself;
          room = no_rise (omega arith);
          meaning = parent_keeps nodes t p old n c h made b;
        },
        tt,
      );
    }

pub below_in_place : (nodes : Nodes) (t : Table) (p : ℕ) (old n : Node) (c : ℕ) (h : Node) (made : List Node) → IsChildChangeOf nodes t p old n c h made → IsInPlace nodes t (child_step t.root p n c h made)
below_in_place nodes t p old n c h made b = path_in_place nodes t c h (above p n) made (path_of nodes t p old n c h made b)

-- ---- what the step leaves

pub record IsChildChanged (nodes : Nodes) (t : Table) (p : ℕ) (old n : Node) (c : ℕ) (h : Node) (made : List Node) (new : Nodes) (u : Table) : Type 0 where
  pub of : IsChildChangeOf nodes t p old n c h made
  pub after : IsTableAfter t (child_step t.root p n c h made) u
  pub committed : IsCommitted nodes t (child_step t.root p n c h made) new u

pub child_flushed : (nodes : Nodes) (t : Table) (p : ℕ) (old n : Node) (c : ℕ) (h : Node) (made : List Node) (new : Nodes) (u : Table) → IsChildChanged nodes t p old n c h made new u → length made ≤ 4 → IsFlushed nodes t new u
child_flushed nodes t p old n c h made new u b few =
    path_flushed nodes t c h (above p n) made new u (record { of = path_of nodes t p old n c h made b.of; after = b.after; committed = b.committed }) few

-- ---- the table

pub no_higher : (t : Table) (p : ℕ) (n : Node) (c : ℕ) (h : Node) (made : List Node) (u : Table) → IsChildChange t p n c h made → IsTableAfter t (child_step t.root p n c h made) u → (p ≡ t.root → buffer_size n ≤ t.size) → (c ≡ t.root → buffer_size h ≤ t.size) → IsNoHigher t u
no_higher t p n c h made u b after parent_fits child_fits =
    let step : Step = child_step t.root p n c h made in
    let low : t.root < t.next = b.table.below t.root b.table.root in
    record {
      root = after.root;
      level = ap u.level after.root ∙ after.level t.root (root_stays t c h (above p n) made u after) ∙ level_kept t p n c h made b t.root low;
      size =
          elim (cases_eq t.root p) [
            | inl same ↦ (let is : u.size ≡ buffer_size n = after.size n (ap (λ (i : ℕ). given t.next step i) same ∙ given_parent t p n c h made b) in
                let few : buffer_size n ≤ t.size = parent_fits (sym same) in
                omega arith)
            | inr other ↦ elim (cases_eq t.root c) [
              | inl same ↦ (let is : u.size ≡ buffer_size h = after.size h (ap (λ (i : ℕ). given t.next step i) same ∙ given_child t c h (above p n) made (b.table.below c b.child.kept)) in
                  let few : buffer_size h ≤ t.size = child_fits (sym same) in
                  omega arith)
              | inr far ↦ (let is : u.size ≡ t.size = after.same_size (given_else t p n c h made t.root low other far) refl in
                  omega arith)
            ]
          ];
    }
