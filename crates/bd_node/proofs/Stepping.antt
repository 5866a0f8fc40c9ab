-- What nodes have after a step.
use Rattle.std.proofs.Common.{◌≡◌, ℕ, ◌+◌, ◌-◌, ◌<◌, ◌≤◌, cond, List, [], ◌∷◌, refl, sym, ap, subst, ◌∙◌, Option, None, Some, arith, inl, inr, IsSome, IsTrue, ◌⊎◌, ltb, eqb}
use Rattle.std.specs.Prelude.{slice_get}
use Rattle.std.specs.List.{AllByRecursion}
use Rattle.std.proofs.lemmas.Bool.{cases_eq, cases_lt, cases_Bool, eq-eqb, ne_eqb, lt-ltb, le-ltb, cond-true, cond-false}
use Rattle.std.proofs.lemmas.Option.{same_Some, none-some}
use Rattle.bd_keys.specs.Keys.{IsKey}
use Rattle.bd_message.specs.Effect.{NodesAt}
use Rattle.bd_node.specs.declared.node.Node.{Node}
use Rattle.bd_node.specs.declared.node.Change.{Change}
use Rattle.bd_node.specs.declared.node.Step.{Step}
use Rattle.bd_node.specs.Nodes.{level_of, names, times, node_at, node_has, is_key}
use Rattle.bd_node.specs.Meaning.{Nodes, at, IsLevelled, Meets}
use Rattle.bd_node.specs.Tables.{Table, IsKept, IsTable, IsLower, IsNodeOf, IsStored, IsSound, root_at}
use Rattle.bd_node.specs.Private.{IsPrivate}
use Rattle.bd_node.specs.Steps.{changed_at, given, given_or, after, level_or, level_after, IsNamable, IsStep, IsInPlace, IsTableAfter, IsCommitted, root_step, IsKeeping, IsMoving}
use Rattle.bd_node.proofs.Lookup.{Agree, each_weaker, each_named, named_has, node_at-same, node_has-same, node_has-key, key-is_key}
use Rattle.bd_node.proofs.Meanings.{at-meets, meets_agree, at_untouched, at-others}
use Rattle.bd_node.proofs.Sound.{kept_there, node_of, sound-levelled, named_lower, root_unnamed}
use Rattle.bd_node.proofs.Privacy.{names_no_private, root_private}

-- ---- what a step gives

pub given-old : (next : ℕ) (step : Step) (id : ℕ) → id < next → given next step id ≡ changed_at step.changes id
given-old next step id low = cond-true (ltb id next) _ _ (lt-ltb id next low)

pub given-new : (next : ℕ) (step : Step) (id : ℕ) → next ≤ id → given next step id ≡ slice_get step.made (id - next)
given-new next step id high = cond-false (ltb id next) _ _ (le-ltb id next high)

pub changed_at-same : (c : Change) (cs : List Change) (id : ℕ) → id ≡ c.id → changed_at (c ∷ cs) id ≡ Some c.node
changed_at-same c cs id e = cond-true (eqb id c.id) _ _ (eq-eqb id c.id e)

pub changed_at-other : (c : Change) (cs : List Change) (id : ℕ) → (id ≡ c.id → ⊥) → changed_at (c ∷ cs) id ≡ changed_at cs id
changed_at-other c cs id ne = cond-false (eqb id c.id) _ _ (ne_eqb id c.id ne)

-- an id that isn't of the kind that is changed isn't changed
pub changed_at-none : (P : ℕ → Type 0) (cs : List Change) (id : ℕ) → AllByRecursion (λ (c : Change). P c.id) cs → (P id → ⊥) → changed_at cs id ≡ None
changed_at-none P [] id h out = refl
changed_at-none P (c ∷ cs) id h out =
    changed_at-other c cs id (λ e. out (subst P (sym e) h.0)) ∙ changed_at-none P cs id h.1 out

-- what holds of each change holds of one
pub changed_has : (P : Change → Type 0) (cs : List Change) (id : ℕ) (n : Node) → AllByRecursion P cs → changed_at cs id ≡ Some n → P (record { id = id; node = n })
changed_has P [] id n h e = absurd (none-some n e)
changed_has P (c ∷ cs) id n h e =
    elim (cases_eq id c.id) [
      | inl same ↦ (let node : c.node ≡ n = same_Some c.node n (sym (changed_at-same c cs id same) ∙ e) in
          let Q : ℕ → Type 0 = λ i. P (record { id = i; node = c.node }) in
          let R : Node → Type 0 = λ m. P (record { id = id; node = m }) in
          subst R node (subst Q (sym same) h.0))
      | inr other ↦ changed_has P cs id n h.1 (sym (changed_at-other c cs id other) ∙ e)
    ]

-- what holds of each changed id holds of each that a step may have touched
touched_by : (P : ℕ → Type 0) (cs : List Change) (id : ℕ) (o : Option Node) → AllByRecursion (λ (c : Change). P c.id) cs → changed_at cs id ≡ o → IsSome o → P id
touched_by P cs id None all is some = cc
touched_by P cs id (Some n) all is some = changed_has (λ (c : Change). P c.id) cs id n all is

pub touched_in : (P : ℕ → Type 0) (t u : Table) (step : Step) → IsTableAfter t step u → AllByRecursion (λ (c : Change). P c.id) step.changes → (id : ℕ) → IsTrue (u.touched id) → IsTrue (t.touched id) ⊎ P id
touched_in P t u step after all id on =
    elim (after.touched id on) [
      | inl was ↦ inl was
      | inr some ↦ inr (touched_by P step.changes id (changed_at step.changes id) all refl some)
    ]

-- the node of an id that isn't given one stays
pub after-none : (nodes : Nodes) (t : Table) (step : Step) (id : ℕ) → given t.next step id ≡ None → after nodes t step id ≡ nodes id
after-none nodes t step id e = ap (λ o. given_or o (nodes id)) e

pub after-some : (nodes : Nodes) (t : Table) (step : Step) (id : ℕ) (n : Node) → given t.next step id ≡ Some n → after nodes t step id ≡ Some n
after-some nodes t step id n e = ap (λ o. given_or o (nodes id)) e

-- ---- what has to have been meant

-- what meets the equations of the nodes after a step is what the nodes that stay have
pub committed_meaning : (nodes : Nodes) (t : Table) (step : Step) (new : Nodes) (u : Table) → IsCommitted nodes t step new u → (has : NodesAt) → Meets (after nodes t step) has → (id : ℕ) → IsKept u id → Agree (at new) has id
committed_meaning nodes t step new u c has meets id kept =
    let stored : IsStored new u id = c.sound.each id kept in
    let levelled : IsLevelled new = sound-levelled new u c.sound in
    let own : Meets new has = record {
      each = λ i n there k. meets.each i n (sym (c.stays i (kept_there new u c.sound i n there)) ∙ there) k;
    } in
    meets_agree new levelled (at new) has (at-meets new levelled) own id stored.node stored.there

-- a node that the step gives, and that stays, has what its content says
pub given_stays : (nodes : Nodes) (t : Table) (step : Step) (new : Nodes) (u : Table) → IsCommitted nodes t step new u → (id : ℕ) (n : Node) → IsKept u id → given t.next step id ≡ Some n → new id ≡ Some n
given_stays nodes t step new u c id n kept e = c.stays id kept ∙ after-some nodes t step id n e

pub given_meaning : (nodes : Nodes) (t : Table) (step : Step) (new : Nodes) (u : Table) → IsCommitted nodes t step new u → (id : ℕ) (n : Node) → IsKept u id → given t.next step id ≡ Some n → (k : List ℕ) → IsKey k → at new id k ≡ node_at (at new) n k
given_meaning nodes t step new u c id n kept e k key =
    (at-meets new (sound-levelled new u c.sound)).each id n (given_stays nodes t step new u c id n kept e) k
    ∙ node_has-key (at new) n k key

-- ---- nodes that are replaced by ones that have the same

pub by_given : (P : Type 0) (g : Option Node) → (g ≡ None → P) → ((n : Node) → g ≡ Some n → P) → P
by_given P None none some = none refl
by_given P (Some n) none some = some n refl

kept_low : (nodes : Nodes) (t : Table) → IsSound nodes t → (id : ℕ) (n : Node) → nodes id ≡ Some n → id < t.next
kept_low nodes t s id n there = s.table.below id (kept_there nodes t s id n there)

keeping_changed : (nodes : Nodes) (t : Table) (step : Step) (has : NodesAt) → IsKeeping nodes t step has → (id : ℕ) (n : Node) → id < t.next → given t.next step id ≡ Some n → (k : List ℕ) → has id k ≡ node_has has n k
keeping_changed nodes t step has keeps id n low e k =
    elim (cases_Bool (is_key k)) [
      | inl bytes ↦ keeps.old id low k ∙ sym (keeps.changed id n low e k (key-is_key k bytes)) ∙ sym (node_has-key has n k (key-is_key k bytes))
      | inr other ↦ keeps.old id low k ∙ at-others nodes id k other ∙ sym (ap (λ b. cond b (node_at has n k) None) other)
    ]

pub keeping_meets : (nodes : Nodes) (t : Table) (step : Step) (has : NodesAt) → IsSound nodes t → IsKeeping nodes t step has → Meets (after nodes t step) has
keeping_meets nodes t step has s keeps = record {
  each = λ id n there k.
      by_given (has id k ≡ node_has has n k) (given t.next step id)
      (λ none.
      let old : nodes id ≡ Some n = sym (after-none nodes t step id none) ∙ there in
      let low : id < t.next = kept_low nodes t s id n old in
      keeps.old id low k
      ∙ (at-meets nodes (sound-levelled nodes t s)).each id n old k
      ∙ node_has-same (at nodes) has n k
      (each_weaker (IsLower t (t.level id)) (Agree (at nodes) has) (λ c lower l. sym (keeps.old c (s.table.below c lower.kept) l)) (names n) (node_of nodes t s id n old).lower))
      (λ m some.
      let same : m ≡ n = same_Some m n (sym (after-some nodes t step id m some) ∙ there) in
      let P : Node → Type 0 = λ q. has id k ≡ node_has has q k in
      subst P same
      (elim (cases_lt id t.next) [
        | inl low ↦ keeping_changed nodes t step has keeps id m low some k
        | inr high ↦ keeps.made id m high some k
      ]));
}

-- what the nodes have after a step whose changed nodes have what they had
pub keeping_meaning : (nodes : Nodes) (t : Table) (step : Step) (new : Nodes) (u : Table) (has : NodesAt) → IsSound nodes t → IsCommitted nodes t step new u → IsKeeping nodes t step has → (id : ℕ) → IsKept u id → Agree (at new) has id
keeping_meaning nodes t step new u has s c keeps id kept = committed_meaning nodes t step new u c has (keeping_meets nodes t step has s keeps) id kept

-- ---- nodes whose namers change with them

pub no_some : IsSome {T = Node} None → ⊥
no_some h = cc

moving_old : (nodes : Nodes) (t : Table) (step : Step) (has : NodesAt) → IsSound nodes t → IsMoving nodes t step has → (id : ℕ) (n : Node) → nodes id ≡ Some n → given t.next step id ≡ None → (c : ℕ) → 1 ≤ times n c → Agree (at nodes) has c
moving_old nodes t step has s moves id n there none c one = λ k.
    by_given (at nodes c k ≡ has c k) (given t.next step c)
    (λ out. sym (moves.old c out k))
    (λ m some.
    elim (moves.named c m (s.table.below c (named_lower nodes t s id n there c one).kept) some) [
      | inl same ↦ sym (same k)
      | inr only ↦ (let given_too : IsSome (given t.next step id) = only.each id n there one in
          let none_too : IsSome {T = Node} None = subst (λ (o : Option Node). IsSome o) none given_too in
          absurd (no_some none_too))
    ])

pub moving_meets : (nodes : Nodes) (t : Table) (step : Step) (has : NodesAt) → IsSound nodes t → IsMoving nodes t step has → Meets (after nodes t step) has
moving_meets nodes t step has s moves = record {
  each = λ id n there k.
      by_given (has id k ≡ node_has has n k) (given t.next step id)
      (λ none.
      let old : nodes id ≡ Some n = sym (after-none nodes t step id none) ∙ there in
      moves.old id none k
      ∙ (at-meets nodes (sound-levelled nodes t s)).each id n old k
      ∙ node_has-same (at nodes) has n k (each_named (Agree (at nodes) has) (names n) (λ c one. moving_old nodes t step has s moves id n old none c one)))
      (λ m some.
      let same : m ≡ n = same_Some m n (sym (after-some nodes t step id m some) ∙ there) in
      let P : Node → Type 0 = λ q. has id k ≡ node_has has q k in
      subst P same (moves.put id m some k));
}

pub moving_meaning : (nodes : Nodes) (t : Table) (step : Step) (new : Nodes) (u : Table) (has : NodesAt) → IsSound nodes t → IsCommitted nodes t step new u → IsMoving nodes t step has → (id : ℕ) → IsKept u id → Agree (at new) has id
moving_meaning nodes t step new u has s c moves id kept = committed_meaning nodes t step new u c has (moving_meets nodes t step has s moves) id kept

-- ---- isolation

-- nodes of a kind that isn't changed, and names none that is, have what they had
isolated : (nodes : Nodes) (t : Table) (step : Step) (new : Nodes) (u : Table) (P : ℕ → Type 0) → IsSound nodes t → IsCommitted nodes t step new u
    → AllByRecursion (λ (c : Change). P c.id) step.changes → ((id c : ℕ) (n : Node) → P c → (P id → ⊥) → nodes id ≡ Some n → 1 ≤ times n c → ⊥)
    → (id : ℕ) → IsKept t id → IsKept u id → (P id → ⊥) → Agree (at new) (at nodes) id
isolated nodes t step new u P s c changed apart id kept stays out =
    let S : ℕ → Type 0 = λ i. (IsKept t i × IsKept u i) × (P i → ⊥) in
    let same : (i : ℕ) → S i → new i ≡ nodes i = λ i at_i.
    c.stays i at_i.0.1 ∙ after-none nodes t step i (given-old t.next step i (s.table.below i at_i.0.0) ∙ changed_at-none P step.changes i changed at_i.1) in
    let closed : (i : ℕ) (n : Node) → S i → nodes i ≡ Some n → AllByRecursion S (names n) = λ i n at_i there.
    each_named S (names n) (λ d one.
    (((named_lower nodes t s i n there d one).kept, (named_lower new u c.sound i n (same i at_i ∙ there) d one).kept), λ p. apart i d n p at_i.1 there one)) in
    at_untouched nodes new S same closed id ((kept, stays), out)

-- where private nodes alone are changed, each other node that stays has what it had
pub isolated_private : (nodes : Nodes) (t : Table) (step : Step) (new : Nodes) (u : Table) → IsSound nodes t → IsCommitted nodes t step new u
    → AllByRecursion (λ (c : Change). IsPrivate nodes t c.id) step.changes
    → (id : ℕ) → IsKept t id → IsKept u id → (IsPrivate nodes t id → ⊥) → Agree (at new) (at nodes) id
isolated_private nodes t step new u s c changed = isolated nodes t step new u (λ i. IsPrivate nodes t i) s c changed (λ id d n p out there one. names_no_private nodes t s id d n p out there one)

-- where the root alone is changed, all others
pub isolated_root : (nodes : Nodes) (t : Table) (step : Step) (new : Nodes) (u : Table) → IsSound nodes t → IsCommitted nodes t step new u
    → AllByRecursion (λ (c : Change). c.id ≡ t.root) step.changes
    → (id : ℕ) → IsKept t id → IsKept u id → (id ≡ t.root → ⊥) → Agree (at new) (at nodes) id
isolated_root nodes t step new u s c changed =
    isolated nodes t step new u (λ i. i ≡ t.root) s c changed
    (λ id d n p out there one. root_unnamed nodes t s id n there (subst (λ q. 1 ≤ times n q) p one))

-- without changes, all
pub isolated_none : (nodes : Nodes) (t : Table) (step : Step) (new : Nodes) (u : Table) → IsSound nodes t → IsCommitted nodes t step new u
    → step.changes ≡ [] → (id : ℕ) → IsKept t id → IsKept u id → Agree (at new) (at nodes) id
isolated_none nodes t step new u s c none id kept stays =
    isolated nodes t step new u (λ i. ⊥) s c (subst (λ (cs : List Change). AllByRecursion (λ (d : Change). ⊥) cs) (sym none) tt) (λ i d n p out there one. p) id kept stays (λ p. p)

-- ---- steps that change the root alone

pub given_root : (t : Table) (n : Node) → t.root < t.next → given t.next (root_step t.root n) t.root ≡ Some n
given_root t n low = given-old t.next (root_step t.root n) t.root low ∙ changed_at-same (record { id = t.root; node = n }) [] t.root refl

pub given_other : (t : Table) (n : Node) (id : ℕ) → (id ≡ t.root → ⊥) → given t.next (root_step t.root n) id ≡ None
given_other t n id other =
    elim (cases_lt id t.next) [
      | inl low ↦ given-old t.next (root_step t.root n) id low ∙ changed_at-other (record { id = t.root; node = n }) [] id other
      | inr high ↦ given-new t.next (root_step t.root n) id high
    ]

pub given_at_root : (t : Table) (n : Node) → IsTable t → given t.next (root_step t.root n) t.root ≡ Some n
given_at_root t n table = given_root t n (table.below t.root table.root)

-- a name below the root's level isn't the root's
lower_other : (t : Table) (id : ℕ) → IsLower t (t.level t.root) id → id ≡ t.root → ⊥
lower_other t id lower same =
    let e : t.level id ≡ t.level t.root = ap t.level same in
    let l : t.level id < t.level t.root = lower.lower in
    omega arith

level_after_other : (t : Table) (n : Node) (id : ℕ) → (id ≡ t.root → ⊥) → level_after t (root_step t.root n) id ≡ t.level id
level_after_other t n id other = ap (λ o. level_or o (t.level id)) (given_other t n id other)

pub root_step-step : (t : Table) (n : Node) → IsTable t → IsNodeOf t (t.level t.root) n → IsStep t (root_step t.root n)
root_step-step t n table own =
    let step : Step = root_step t.root n in
    let level : level_of n ≡ t.level t.root = own.level_is in
    let root_level : level_after t step t.root ≡ level_of n = ap (λ o. level_or o (t.level t.root)) (given_at_root t n table) in
    let inner : 1 ≤ t.level t.root = table.inner in
    record {
      made = tt;
      changes = (
        record {
          kept = table.root;
          put = record {
            shape = own.shape;
            lower = each_weaker (IsLower t (t.level t.root)) (IsNamable t step (level_of n))
                (λ c lower. record {
                  there = inl lower.kept;
                  lower = (let e : level_after t step c ≡ t.level c = level_after_other t n c (lower_other t c lower) in
                      let l : t.level c < t.level t.root = lower.lower in omega arith);
                }) (names n) own.lower;
          };
        },
        tt,
      );
      once = (tt, tt);
      root = inl table.root;
      inner = omega arith;
      used = λ id high low. absurd (let l : id < t.next + 0 = low in omega arith);
    }

pub root_step-in_place : (nodes : Nodes) (t : Table) (n : Node) → IsSound nodes t → IsInPlace nodes t (root_step t.root n)
root_step-in_place nodes t n s = record {
  private = (root_private nodes t s, tt);
  above = λ id m there none.
      each_named (λ c. level_after t (root_step t.root n) c < level_of m) (names m) (λ c one.
      let lower : IsLower t (t.level id) c = named_lower nodes t s id m there c one in
      let other : c ≡ t.root → ⊥ = λ e. root_unnamed nodes t s id m there (subst (λ q. 1 ≤ times m q) e one) in
      let e : level_after t (root_step t.root n) c ≡ t.level c = level_after_other t n c other in
      let l : t.level c < t.level id = lower.lower in
      let is : level_of m ≡ t.level id = (node_of nodes t s id m there).level_is in
      omega arith);
}

-- what the tree then has
pub root_step-meaning : (nodes : Nodes) (t : Table) (n : Node) (new : Nodes) (u : Table) → IsSound nodes t → IsNodeOf t (t.level t.root) n → IsCommitted nodes t (root_step t.root n) new u → u.root ≡ t.root
    → (k : List ℕ) → IsKey k → root_at new u k ≡ node_at (at nodes) n k
root_step-meaning nodes t n new u s own c root k key =
    let step : Step = root_step t.root n in
    let kept : IsKept u t.root = subst (λ q. IsKept u q) root c.sound.table.root in
    let there : new t.root ≡ Some n = given_stays nodes t step new u c t.root n kept (given_at_root t n s.table) in
    ap (λ r. at new r k) root
    ∙ given_meaning nodes t step new u c t.root n kept (given_at_root t n s.table) k key
    ∙ node_at-same (at new) (at nodes) n k
    (each_named (Agree (at new) (at nodes)) (names n) (λ d one.
    let lower : IsLower t (t.level t.root) d = named_has (IsLower t (t.level t.root)) d (names n) own.lower one in
    isolated_root nodes t step new u s c (refl, tt) d lower.kept (named_lower new u c.sound t.root n there d one).kept (lower_other t d lower)))
