-- A push, made of copies of the two nodes.
use Rattle.std.proofs.Common.{◌≡◌, ℕ, ◌-◌, refl, sym, ap, subst, ◌∙◌, arith, List, [], length, map, nat_eq, IsSome, Some, IsTrue, false, true}
use Rattle.std.specs.List.{AllByRecursion}
use Rattle.std.specs.HashMap.{get}
use Rattle.bd_node.specs.declared.node.Node.{Node}
use Rattle.bd_node.specs.declared.node.Change.{Change}
use Rattle.bd_node.specs.declared.node.Step.{Step}
use Rattle.bd_node.specs.declared.push.Push.{Push}
use Rattle.bd_node.specs.Nodes.{height_of, buffer_size}
use Rattle.bd_node.specs.Meaning.{Nodes}
use Rattle.bd_node.specs.Shape.{IsShape}
use Rattle.bd_node.specs.Tables.{Table, IsKept, IsNodeOf, IsStored, IsSound}
use Rattle.bd_node.specs.Steps.{changed_at, given, given_or, after, level_or, level_after, IsChange, IsStep, AreOnce, StayAbove, IsTableAfter, IsCommitted}
use Rattle.bd_node.specs.Pushes.{IsPush, CanPush, IsPushStep, HasPushed, IsPushed}
use Rattle.bd_node.proofs.Lookup.{each_weaker}
use Rattle.bd_node.proofs.Sound.{node_of}
use Rattle.bd_node.proofs.Stepping.{after-none, after-some, by_given}
use Rattle.bd_node.proofs.Closing.{begun}
use Rattle.bd_node.proofs.Pushing.{push_levels, push_is_step, push_in_place, pushed_after}
use Rattle.bd_memnodes.specs.declared.kept.Kept.{Kept}
use Rattle.bd_memnodes.specs.declared.plan.Exchange.{Exchange}
use Rattle.bd_memnodes.specs.Maps.{nodes_in, count_in}
use Rattle.bd_memnodes.specs.Plans.{change_of}
use Rattle.bd_memnodes.specs.Stored.{table_in, with_made, IsWhole}
use Rattle.bd_memnodes.specs.Carried.{IsStepOf, IsReplaced, SameKept}
use Rattle.bd_memnodes.proofs.Carrying.{with_made-none}
use Rattle.bd_memnodes.proofs.Parts.{some_of_node, each_mapped}
use Rattle.bd_memnodes.proofs.Settling.{after_is}

-- ---- the table

-- the level of a node that stays
level_stays : (nodes : Nodes) (t : Table) (step : Step) (o : ℕ) (id : ℕ) → IsSound nodes t → IsKept t id → o ≡ height_of (after nodes t step id) - 1 → o ≡ level_after t step id
level_stays nodes t step o id s kept is =
    let stored : IsStored nodes t id = s.each id kept in
    by_given (o ≡ level_after t step id) (given t.next step id)
    (λ none. omega (arith, is, ap height_of (after-none nodes t step id none ∙ stored.there), stored.of_table.level_is, ap (λ p. level_or p (t.level id)) none))
    (λ m some. omega (arith, is, ap height_of (after-some nodes t step id m some), ap (λ p. level_or p (t.level id)) some))

-- the table after a step that makes no node and changes no level and no count
alike_after : (nodes new : Nodes) (t u : Table) (step : Step) → IsSound nodes t → step.root ≡ t.root → step.made ≡ [] → ((id : ℕ) → level_after t step id ≡ t.level id) → u.root ≡ t.root → u.next ≡ t.next
    → ((id : ℕ) → u.count id ≡ t.count id) → ((id : ℕ) → u.level id ≡ height_of (new id) - 1) → ((id : ℕ) → new id ≡ after nodes t step id) → ((n : Node) → new u.root ≡ Some n → buffer_size n ≡ u.size)
    → ((id : ℕ) → IsTrue (u.touched id) → ⊥) → IsTableAfter t step u
alike_after nodes new t u step s root made levels same_root same_next count height new_is size none_touched =
    let kept : (id : ℕ) → IsKept u id → IsKept t id = λ id some. omega (arith, some, count id) in
    let level : (id : ℕ) → IsKept t id → u.level id ≡ level_after t step id = λ id some.
    level_stays nodes t step (u.level id) id s some (height id ∙ ap (λ o. height_of o - 1) (new_is id)) in
    let at_root : new u.root ≡ after nodes t step step.root = new_is u.root ∙ ap (after nodes t step) (same_root ∙ sym root) in
    record {
      table = record {
        root = subst (λ (r : ℕ). IsKept u r) (sym same_root) (omega (arith, s.table.root, count t.root));
        inner = omega (arith, s.table.inner, level t.root s.table.root, levels t.root, ap u.level same_root);
        low = λ id some. s.table.low id (kept id some);
        below = λ id some. omega (arith, s.table.below id (kept id some), same_next);
      };
      root = same_root ∙ sym root;
      next = omega (arith, same_next, ap (λ (ns : List Node). length ns) made);
      level = λ id some. level id (kept id some);
      size = λ n some. sym (size n (at_root ∙ after-some nodes t step step.root n some));
      same_size = λ none same.
          let stored : IsStored nodes t t.root = s.each t.root s.table.root in
          sym (size stored.node (at_root ∙ after-none nodes t step step.root none ∙ ap nodes root ∙ stored.there)) ∙ s.size stored.node stored.there;
      touched = λ id on. absurd (none_touched id on);
    }

-- ---- the step

module _ (old : Kept) (push : Push) (step : Step) (whole : IsWhole old) (is : IsPush (table_in old) push) (can : CanPush (nodes_in old.nodes) (table_in old) push) (of : IsStepOf old push step) where
  makes : IsPushStep old.root push can.parent can.child step
  makes = of.of_nodes can.parent can.child can.parent_is can.child_is

  parent_of : IsNodeOf (table_in old) ((table_in old).level push.parent) can.parent
  parent_of = node_of (nodes_in old.nodes) (table_in old) whole.sound push.parent can.parent can.parent_is

  child_of : IsNodeOf (table_in old) ((table_in old).level push.child) can.child
  child_of = node_of (nodes_in old.nodes) (table_in old) whole.sound push.child can.child can.child_is

  is_step : IsStep (table_in old) step
  is_step = push_is_step (table_in old) push can.parent can.child step whole.sound.table is parent_of child_of can.can makes

  stay_above : StayAbove (nodes_in old.nodes) (table_in old) step
  stay_above = (push_in_place (nodes_in old.nodes) (table_in old) push can.parent can.child step whole.sound is can.parent_is can.child_is can makes).above

  made_none : step.made ≡ []
  made_none = ap (λ (x : Step). x.made) makes.is

  step_root : step.root ≡ old.root
  step_root = ap (λ (x : Step). x.root) makes.is

  changed_is : (id : ℕ) → given_or (changed_at step.changes id) (nodes_in old.nodes id) ≡ after (nodes_in old.nodes) (table_in old) step id
  changed_is id =
      ap (λ o. given_or (changed_at step.changes id) o) (with_made-none old.next (nodes_in old.nodes) id)
      ∙ ap (λ (ns : List Node). given_or (changed_at step.changes id) (with_made old.next ns (nodes_in old.nodes) id)) (sym made_none)
      ∙ after_is (nodes_in old.nodes) (table_in old) step whole.sound.table is_step id

  shape_after : (id : ℕ) (n : Node) → after (nodes_in old.nodes) (table_in old) step id ≡ Some n → IsShape n
  shape_after = (begun (nodes_in old.nodes) (table_in old) step whole.sound is_step stay_above).shape

  module _ (mid : Kept) (changes : List Exchange) (same : SameKept old mid) (changes_are : map change_of changes ≡ step.changes) where
    mid_is : (id : ℕ) → given_or (changed_at (map change_of changes) id) (nodes_in mid.nodes id) ≡ after (nodes_in old.nodes) (table_in old) step id
    mid_is id =
        ap (λ (cs : List Change). given_or (changed_at cs id) (nodes_in mid.nodes id)) changes_are
        ∙ ap (λ o. given_or (changed_at step.changes id) o) (same.nodes id)
        ∙ changed_is id

    -- what the exchange of the two nodes asks for
    pub push_there : AllByRecursion (λ (x : Exchange). IsSome (get nat_eq mid.nodes x.id)) changes
    push_there =
        each_weaker (λ (x : Exchange). IsChange (table_in old) step (change_of x)) (λ (x : Exchange). IsSome (get nat_eq mid.nodes x.id))
        (λ x change.
        let stored : IsStored (nodes_in old.nodes) (table_in old) x.id = whole.sound.each x.id change.kept in
        some_of_node (get nat_eq mid.nodes x.id) stored.node (same.nodes x.id ∙ stored.there))
        changes (each_mapped (IsChange (table_in old) step) change_of changes
        (subst (λ (cs : List Change). AllByRecursion (IsChange (table_in old) step) cs) (sym changes_are) is_step.changes))

    pub push_once : AreOnce (map change_of changes)
    push_once = subst AreOnce (sym changes_are) is_step.once

    pub push_shape : (n : Node) → given_or (changed_at (map change_of changes) mid.root) (nodes_in mid.nodes mid.root) ≡ Some n → IsShape n
    push_shape n there = shape_after mid.root n (sym (mid_is mid.root) ∙ there)

    -- what it leaves
    module _ (new : Kept) (replaced : IsReplaced mid changes new) where
      new_is : (id : ℕ) → nodes_in new.nodes id ≡ after (nodes_in old.nodes) (table_in old) step id
      new_is id = replaced.nodes id ∙ mid_is id

      counts_same : (c : ℕ) → count_in new.counts c ≡ count_in old.counts c
      counts_same c = replaced.counts c ∙ same.counts c

      table_after : IsTableAfter (table_in old) step (table_in new)
      table_after =
          alike_after (nodes_in old.nodes) (nodes_in new.nodes) (table_in old) (table_in new) step whole.sound step_root made_none
          (push_levels (table_in old) push can.parent can.child step whole.sound.table is parent_of.level_is child_of.level_is makes)
          (replaced.root ∙ same.head.root) (replaced.next ∙ same.head.next) counts_same (λ id. refl) new_is replaced.size (λ id on. let e : false ≡ true = on in cc)

      committed : IsCommitted (nodes_in old.nodes) (table_in old) step (nodes_in new.nodes) (table_in new)
      committed =
          pushed_after (nodes_in old.nodes) (nodes_in new.nodes) (table_in old) (table_in new) push can.parent can.child step whole.sound is can.parent_is can.child_is can.can makes new_is table_after counts_same

      pub is_pushed : (n m : Node) → nodes_in old.nodes push.parent ≡ Some n → nodes_in old.nodes push.child ≡ Some m → IsPushed (nodes_in old.nodes) (table_in old) push n m (nodes_in new.nodes) (table_in new)
      is_pushed n m n_there m_there = record { step = step; makes = of.of_nodes n m n_there m_there; table = table_after; committed = committed }

      pub has_pushed : HasPushed (table_in old) push (table_in new)
      has_pushed = record {
        parent = can.parent;
        child = can.child;
        parent_level = parent_of.level_is;
        child_level = child_of.level_is;
        root_size = λ at_root. whole.sound.size can.parent (ap (nodes_in old.nodes) (sym at_root) ∙ can.parent_is);
        step = step;
        makes = makes;
        table = table_after;
      }

      pub whole_pushed : IsWhole new
      whole_pushed = record { sound = committed.sound; idle = replaced.dead }
