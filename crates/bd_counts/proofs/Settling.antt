-- How a step begins, and what is left when no name is owed.
use Rattle.std.proofs.Common.{◌≡◌, ℕ, ◌+◌, ◌-◌, ◌<◌, ◌≤◌, sym, ap, subst, ◌∙◌, arith, inl, inr, length, Some}
use Rattle.std.specs.List.{sum_by}
use Rattle.std.proofs.lemmas.Bool.{cases_lt}
use Rattle.std.proofs.lemmas.Option.{slice_get_within, same_Some}
use Rattle.bd_node.specs.declared.node.Node.{Node}
use Rattle.bd_node.specs.declared.node.Change.{Change}
use Rattle.bd_node.specs.declared.node.Step.{Step}
use Rattle.bd_node.specs.Nodes.{level_of, height_of, buffer_size, names}
use Rattle.bd_node.specs.Meaning.{Nodes}
use Rattle.bd_node.specs.Tables.{Table, IsKept, IsLower, IsStored, IsSound, times_in, one_if, references}
use Rattle.bd_node.specs.Steps.{given, given_times, after, level_or, level_after, IsChange, IsStep, StayAbove, IsCommitted}
use Rattle.bd_node.specs.Closed.{IsClosed, buffer_size_in, table_from}
use Rattle.bd_node.proofs.Lookup.{each_weaker}
use Rattle.bd_node.proofs.Sound.{kept_there, node_of}
use Rattle.bd_node.proofs.Stepping.{given-old, given-new, changed_has, after-none, after-some, by_given}
use Rattle.bd_node.proofs.Counting.{counts_stepped}
use Rattle.bd_node.proofs.Closing.{by_node, begun, ended}
use Rattle.bd_counts.specs.Naming.{times_among, step_names}
use Rattle.bd_counts.specs.Counting.{HasCounts, HasRootSize}
use Rattle.bd_counts.specs.Releasing.{IsReleasing}
use Rattle.bd_counts.proofs.Names.{step_names_times}

-- ---- the nodes after a step

-- each node after a step is counted
pub used_after : (nodes : Nodes) (t : Table) (step : Step) → IsSound nodes t → IsStep t step → (id : ℕ) (n : Node) → after nodes t step id ≡ Some n → 1 ≤ t.count id + (given_times step id + one_if step.root id)
used_after nodes t step s ok id n there =
    by_given (1 ≤ t.count id + (given_times step id + one_if step.root id)) (given t.next step id)
    (λ none. let kept : 1 ≤ t.count id = kept_there nodes t s id n (sym (after-none nodes t step id none) ∙ there) in omega arith)
    (λ m some.
    elim (cases_lt id t.next) [
      | inl low ↦ (let change : IsChange t step (record { id = id; node = m }) = changed_has (IsChange t step) step.changes id m ok.changes (sym (given-old t.next step id low) ∙ some) in
          let kept : 1 ≤ t.count id = change.kept in omega arith)
      | inr high ↦ (let within : id - t.next < length step.made = slice_get_within step.made (id - t.next) m (sym (given-new t.next step id high) ∙ some) in
          let used : 1 ≤ given_times step id + one_if step.root id = ok.used id high (omega arith) in omega arith)
    ])

pub begun_releasing : (nodes : Nodes) (t : Table) (step : Step) (new : Nodes) (counts owed : ℕ → ℕ) → IsSound nodes t → IsStep t step → StayAbove nodes t step
    → ((id : ℕ) → new id ≡ after nodes t step id)
    → ((c : ℕ) → counts c ≡ t.count c + times_among (step_names step) c)
    → ((c : ℕ) → owed c ≡ one_if t.root c + sum_by (λ (d : Change). times_in (nodes d.id) c) step.changes)
    → IsReleasing (after nodes t step) (t.next + length step.made) step.root new counts owed
begun_releasing nodes t step new counts owed s ok above is counts_are owed_is =
    let is_after : new ≡ after nodes t step = λ i id. is id i in
    subst (λ (m : Nodes). IsReleasing (after nodes t step) (t.next + length step.made) step.root m counts owed) (sym is_after)
    (record {
      closed = begun nodes t step s ok above;
      stays = λ id n there. there;
      used = λ id n there.
          let a : counts id ≡ t.count id + times_among (step_names step) id = counts_are id in
          let b : times_among (step_names step) id ≡ given_times step id + one_if step.root id = step_names_times step id in
          let d : 1 ≤ t.count id + (given_times step id + one_if step.root id) = used_after nodes t step s ok id n there in
          omega arith;
      exact = λ c.
          let a : counts c ≡ t.count c + times_among (step_names step) c = counts_are c in
          let b : times_among (step_names step) c ≡ given_times step c + one_if step.root c = step_names_times step c in
          let d : t.count c ≡ references nodes t.next t.root c = s.counts c in
          let e : references (after nodes t step) (t.next + length step.made) step.root c + sum_by (λ (d : Change). times_in (nodes d.id) c) step.changes + one_if t.root c
          ≡ references nodes t.next t.root c + given_times step c + one_if step.root c = counts_stepped nodes t step s.table ok c in
          let f : owed c ≡ one_if t.root c + sum_by (λ (d : Change). times_in (nodes d.id) c) step.changes = owed_is c in
          omega arith;
    })

-- ---- nothing is owed any more

pub root_there : (nodes : Nodes) (next root : ℕ) → IsClosed nodes next root → (P : Type 0) → ((n : Node) → nodes root ≡ Some n → P) → P
root_there nodes next root closed P then =
    by_node P (nodes root)
    (λ none. absurd (let high : 2 ≤ height_of (nodes root) = closed.inner in let e : height_of (nodes root) ≡ 0 = ap height_of none in omega arith))
    then

-- a table of these nodes
pub record IsTableOf (nodes : Nodes) (next root : ℕ) (counts : ℕ → ℕ) (u : Table) : Type 0 where
  pub count : (id : ℕ) → u.count id ≡ counts id
  pub level : (id : ℕ) (n : Node) → nodes id ≡ Some n → u.level id ≡ level_of n
  pub root_is : u.root ≡ root
  pub next_is : u.next ≡ next
  pub size : (n : Node) → nodes root ≡ Some n → buffer_size n ≡ u.size

-- nodes that are sound with a table are sound with another that says the same of them
same_sound : (nodes : Nodes) (t u : Table) → IsSound nodes t → u.root ≡ t.root → u.next ≡ t.next → ((id : ℕ) → u.count id ≡ t.count id) → ((id : ℕ) → IsKept t id → u.level id ≡ t.level id) → u.size ≡ t.size
    → IsSound nodes u
same_sound nodes t u s root next counts levels size =
    let old : (id : ℕ) → IsKept u id → IsKept t id = λ id kept. subst (λ (n : ℕ). 1 ≤ n) (counts id) kept in
    let kept_too : (id : ℕ) → IsKept t id → IsKept u id = λ id kept. subst (λ (n : ℕ). 1 ≤ n) (sym (counts id)) kept in
    record {
      table = record {
        root = subst (λ (r : ℕ). IsKept u r) (sym root) (kept_too t.root s.table.root);
        inner = subst (λ (r : ℕ). 1 ≤ u.level r) (sym root) (subst (λ (n : ℕ). 1 ≤ n) (sym (levels t.root s.table.root)) s.table.inner);
        low = λ id kept. s.table.low id (old id kept);
        below = λ id kept. subst (λ (n : ℕ). id < n) (sym next) (s.table.below id (old id kept));
      };
      each = λ id kept.
          let stored : IsStored nodes t id = s.each id (old id kept) in
          let level_is : u.level id ≡ t.level id = levels id (old id kept) in
          record {
            node = stored.node;
            there = stored.there;
            of_table = record {
              shape = stored.of_table.shape;
              level_is = stored.of_table.level_is ∙ sym level_is;
              lower = each_weaker (IsLower t (t.level id)) (IsLower u (u.level id)) (λ c lower. record {
                kept = kept_too c lower.kept;
                lower = (let a : t.level c < t.level id = lower.lower in let b : u.level c ≡ t.level c = levels c lower.kept in omega arith);
              }) (names stored.node) stored.of_table.lower;
            };
          };
      others = λ id none. s.others id (sym (counts id) ∙ none);
      counts = λ id. counts id ∙ s.counts id ∙ ap (λ n. references nodes n t.root id) (sym next) ∙ ap (λ r. references nodes u.next r id) (sym root);
      size = λ n there. s.size n (ap nodes (sym root) ∙ there) ∙ sym size;
    }

pub settled_sound : (first : Nodes) (next root : ℕ) (nodes : Nodes) (counts : ℕ → ℕ) (u : Table) → IsReleasing first next root nodes counts (λ c. 0) → IsTableOf nodes next root counts u → IsSound nodes u
settled_sound first next root nodes counts u h is =
    let exact : (c : ℕ) → counts c ≡ references nodes next root c = λ c. (let e : counts c ≡ references nodes next root c + 0 = h.exact c in omega arith) in
    let own : IsSound nodes (table_from nodes next root) = ended nodes next root h.closed (λ id n there. subst (λ (k : ℕ). 1 ≤ k) (exact id) (h.used id n there)) in
    same_sound nodes (table_from nodes next root) u own is.root_is is.next_is (λ id. is.count id ∙ exact id)
    (λ id kept.
    let stored : IsStored nodes (table_from nodes next root) id = own.each id kept in
    is.level id stored.node stored.there ∙ stored.of_table.level_is)
    (root_there nodes next root h.closed (u.size ≡ buffer_size_in (nodes root)) (λ n there. sym (is.size n there) ∙ sym (ap buffer_size_in there)))

-- a node that stays has the level that the step gives it
level_stays : (nodes : Nodes) (t : Table) (step : Step) → IsSound nodes t → (id : ℕ) (n : Node) → after nodes t step id ≡ Some n → level_after t step id ≡ level_of n
level_stays nodes t step s id n there =
    by_given (level_after t step id ≡ level_of n) (given t.next step id)
    (λ none. ap (λ o. level_or o (t.level id)) none ∙ sym (node_of nodes t s id n (sym (after-none nodes t step id none) ∙ there)).level_is)
    (λ m some. ap (λ o. level_or o (t.level id)) some ∙ ap level_of (same_Some m n (sym (after-some nodes t step id m some) ∙ there)))

pub settled_committed : (nodes : Nodes) (t : Table) (step : Step) (new : Nodes) (counts : ℕ → ℕ) (u : Table) → IsSound nodes t
    → IsReleasing (after nodes t step) (t.next + length step.made) step.root new counts (λ c. 0) → HasCounts t step counts u → HasRootSize (after nodes t step) u
    → IsCommitted nodes t step new u
settled_committed nodes t step new counts u s h has size =
    let sound : IsSound new u = settled_sound (after nodes t step) (t.next + length step.made) step.root new counts u h (record {
      count = has.count;
      level = λ id n there. has.level id (subst (λ (k : ℕ). 1 ≤ k) (sym (has.count id)) (h.used id n there)) ∙ level_stays nodes t step s id n (h.stays id n there);
      root_is = has.root;
      next_is = has.next;
      size = λ n there. size n (ap (after nodes t step) has.root ∙ h.stays step.root n there);
    }) in
    record {
      stays = λ id kept. (let stored : IsStored new u id = sound.each id kept in stored.there ∙ sym (h.stays id stored.node stored.there));
      sound = sound;
    }
