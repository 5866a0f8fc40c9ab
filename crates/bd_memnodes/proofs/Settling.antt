-- The nodes after a step, and what is left when no node waits.
use Rattle.std.proofs.Common.{◌≡◌, ℕ, ◌+◌, ◌-◌, ◌<◌, refl, sym, ap, ◌∙◌, arith, inl, inr, false, true, length, Some, ltb}
use Rattle.std.specs.Prelude.{slice_get}
use Rattle.std.specs.List.{AllByRecursion}
use Rattle.std.proofs.lemmas.Bool.{cases_lt, cond-true, cond-false, lt-ltb, le-ltb}
use Rattle.bd_node.specs.declared.node.Node.{Node}
use Rattle.bd_node.specs.declared.node.Change.{Change}
use Rattle.bd_node.specs.declared.node.Step.{Step}
use Rattle.bd_node.specs.Nodes.{level_of, height_of, buffer_size}
use Rattle.bd_node.specs.Meaning.{Nodes}
use Rattle.bd_node.specs.Tables.{Table, IsKept, IsTable, IsStored, IsSound}
use Rattle.bd_node.specs.Steps.{changed_at, given, given_or, after, level_or, level_after, IsChange, IsStep, IsTableAfter, IsCommitted}
use Rattle.bd_node.proofs.Lookup.{each_weaker}
use Rattle.bd_node.proofs.Sound.{node_of}
use Rattle.bd_node.proofs.Stepping.{given-old, given-new, changed_at-none, after-none, after-some, by_given}
use Rattle.bd_counts.specs.Releasing.{IsReleasing}
use Rattle.bd_memnodes.specs.Stored.{table_of, with_made}
use Rattle.bd_counts.proofs.Settling.{root_there, settled_sound}

-- ---- the nodes after a step

-- made nodes are added, and then changed ones exchanged
pub after_is : (nodes : Nodes) (t : Table) (step : Step) → IsTable t → IsStep t step → (id : ℕ) → given_or (changed_at step.changes id) (with_made t.next step.made nodes id) ≡ after nodes t step id
after_is nodes t step table ok id =
    elim (cases_lt id t.next) [
      | inl low ↦
          ap (λ o. given_or (changed_at step.changes id) o) (cond-true (ltb id t.next) (nodes id) (given_or (slice_get step.made (id - t.next)) (nodes id)) (lt-ltb id t.next low))
          ∙ sym (ap (λ o. given_or o (nodes id)) (given-old t.next step id low))
      | inr high ↦
          (let kept_low : AllByRecursion (λ (d : Change). d.id < t.next) step.changes = each_weaker (IsChange t step) (λ (d : Change). d.id < t.next) (λ d change. table.below d.id change.kept) step.changes ok.changes in
          ap (λ o. given_or o (with_made t.next step.made nodes id)) (changed_at-none (λ i. i < t.next) step.changes id kept_low (λ low. omega arith))
          ∙ cond-false (ltb id t.next) (nodes id) (given_or (slice_get step.made (id - t.next)) (nodes id)) (le-ltb id t.next high)
          ∙ sym (ap (λ o. given_or o (nodes id)) (given-new t.next step id high)))
    ]

-- ---- nothing is owed any more

-- what a store has after a step
pub record IsDone (nodes : Nodes) (t : Table) (step : Step) (new : Nodes) (u : Table) : Type 0 where
  pub committed : IsCommitted nodes t step new u
  pub table : IsTableAfter t step u

pub settled_done : (nodes : Nodes) (t : Table) (step : Step) (size : ℕ) (new : Nodes) (counts : ℕ → ℕ) → IsSound nodes t
    → IsReleasing (after nodes t step) (t.next + length step.made) step.root new counts (λ c. 0) → ((n : Node) → new step.root ≡ Some n → buffer_size n ≡ size)
    → IsDone nodes t step new (table_of new counts step.root size (t.next + length step.made))
settled_done nodes t step size new counts s h size_is =
    let u : Table = table_of new counts step.root size (t.next + length step.made) in
    let sound : IsSound new u = settled_sound (after nodes t step) (t.next + length step.made) step.root new counts u h (record {
      count = λ id. refl;
      level = λ id n there. (let e : height_of (new id) ≡ height_of (Some n) = ap height_of there in omega arith);
      root_is = refl;
      next_is = refl;
      size = size_is;
    }) in
    let stays : (id : ℕ) → IsKept u id → new id ≡ after nodes t step id = λ id kept.
    (let stored : IsStored new u id = sound.each id kept in stored.there ∙ sym (h.stays id stored.node stored.there)) in
    let root_is : new step.root ≡ after nodes t step step.root = stays step.root sound.table.root in
    record {
      committed = record { stays = stays; sound = sound };
      table = record {
        table = sound.table;
        root = refl;
        next = refl;
        level = λ id kept.
            let stored : IsStored new u id = sound.each id kept in
            by_given (height_of (new id) - 1 ≡ level_after t step id) (given t.next step id)
            (λ none.
            let old : nodes id ≡ Some stored.node = sym (after-none nodes t step id none) ∙ sym (stays id kept) ∙ stored.there in
            let a : height_of (new id) ≡ height_of (Some stored.node) = ap height_of stored.there in
            let b : level_of stored.node ≡ t.level id = (node_of nodes t s id stored.node old).level_is in
            let d : level_after t step id ≡ t.level id = ap (λ o. level_or o (t.level id)) none in
            omega arith)
            (λ m some.
            let a : height_of (new id) ≡ height_of (Some m) = ap height_of (stays id kept ∙ after-some nodes t step id m some) in
            let d : level_after t step id ≡ level_of m = ap (λ o. level_or o (t.level id)) some in
            omega arith);
        size = λ n some. sym (size_is n (root_is ∙ after-some nodes t step step.root n some));
        same_size = λ none same.
            root_there new (t.next + length step.made) step.root h.closed (size ≡ t.size) (λ n there.
            sym (size_is n there) ∙ s.size n (ap nodes (sym same) ∙ sym (after-none nodes t step step.root none) ∙ sym root_is ∙ there));
        touched = λ id on. absurd (let e : false ≡ true = on in cc);
      };
    }
