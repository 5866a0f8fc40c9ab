-- The root with more messages, over made nodes.
use Rattle.std.proofs.Common.{◌≡◌, ℕ, ◌+◌, ◌-◌, ◌<◌, ◌≤◌, refl, sym, ap, subst, ◌∙◌, inl, inr, List, [], ◌∷◌, length, Some, arith, cond, eqb, ltb}
use Rattle.std.specs.Prelude.{slice_get}
use Rattle.std.specs.List.{sum_by}
use Rattle.std.proofs.lemmas.Bool.{cases_eq, cases_lt, cond-true, cond-false, eq-eqb, ne_eqb, lt-ltb}
use Rattle.std.proofs.lemmas.Option.{same_Some, slice_get_within}
use Rattle.std.proofs.lemmas.List.{length-map}
use Rattle.std.proofs.lemmas.List.Sums.{sum_by-cons}
use Rattle.bd_message.specs.declared.message.Message.{Message}
use Rattle.bd_message.specs.Messages.{size}
use Rattle.bd_node.specs.declared.node.Node.{Node}
use Rattle.bd_node.specs.declared.node.Change.{Change}
use Rattle.bd_node.specs.declared.node.Step.{Step}
use Rattle.bd_node.specs.Nodes.{buffer_size, appended, times}
use Rattle.bd_node.specs.Meaning.{Nodes}
use Rattle.bd_node.specs.Tables.{Table, IsKept, IsTable, IsSound, times_in, one_if, references}
use Rattle.bd_node.specs.Steps.{changed_at, given, given_or, given_times, after, IsThere, IsChange, IsStep, extend_step, added_times}
use Rattle.bd_node.proofs.Sound.{kept_there, one_if-other}
use Rattle.bd_node.proofs.Stepping.{given-old, given-new, changed_at-other, changed_has, after-none, after-some, by_given}
use Rattle.bd_node.proofs.Extending.{root_changed, given_extended, extend_above, root_of_sound, root_inner, extended_size, times_extended, names_none}
use Rattle.bd_memnodes.specs.declared.kept.Kept.{Kept}
use Rattle.bd_memnodes.specs.declared.plan.Addition.{Addition}
use Rattle.bd_counts.specs.Naming.{times_among, step_names, added_names}
use Rattle.bd_memnodes.specs.Maps.{nodes_in, count_in}
use Rattle.bd_counts.specs.Releasing.{IsReleasing}
use Rattle.bd_memnodes.specs.Releasing.{SameHead}
use Rattle.bd_memnodes.specs.Plans.{added_of}
use Rattle.bd_memnodes.specs.Stored.{table_of, table_in, with_made, IsWhole}
use Rattle.bd_memnodes.specs.Carried.{SameKept, IsAddedTo}
use Rattle.bd_memnodes.proofs.Same.{equal_tables}
use Rattle.bd_counts.proofs.Names.{step_names_times, added_names_times, step_names_there}
use Rattle.bd_counts.proofs.Settling.{begun_releasing}
use Rattle.bd_memnodes.proofs.Settling.{after_is, settled_done, IsDone}

-- how often the nodes of the step name a node: what is added, and what the root named before
given_all : (nodes : Nodes) (t : Table) (root : Node) (made : List Node) (list : List Message) (c : ℕ) → IsSound nodes t → nodes t.root ≡ Some root
    → given_times (extend_step t root made list) c ≡ added_times made list c + times root c
given_all nodes t root made list c s there =
    let inner : 1 ≤ _ = root_inner t root s.table (root_of_sound nodes t root s there) in
    omega (arith, times_extended root list c inner, sum_by-cons (λ (d : Change). times d.node c) (record { id = t.root; node = appended root list }) [])

-- each node after it is counted
extend_used : (nodes : Nodes) (t : Table) (root : Node) (made : List Node) (list : List Message) → IsSound nodes t → nodes t.root ≡ Some root → IsStep t (extend_step t root made list)
    → (id : ℕ) (n : Node) → after nodes t (extend_step t root made list) id ≡ Some n → 1 ≤ t.count id + added_times made list id
extend_used nodes t root made list s there ok id n at_id =
    let step : Step = extend_step t root made list in
    by_given (1 ≤ t.count id + added_times made list id) (given t.next step id)
    (λ none. let kept : 1 ≤ t.count id = kept_there nodes t s id n (sym (after-none nodes t step id none) ∙ at_id) in omega arith)
    (λ m some.
    elim (cases_lt id t.next) [
      | inl low ↦ (let kept : 1 ≤ t.count id = (changed_has (IsChange t step) step.changes id m ok.changes (sym (given-old t.next step id low) ∙ some)).kept in omega arith)
      | inr high ↦ (let within : id - t.next < length made = slice_get_within made (id - t.next) m (sym (given-new t.next step id high) ∙ some) in
          let used : 1 ≤ given_times step id + one_if t.root id = ok.used id high (omega arith) in
          let low : t.root < t.next = s.table.below t.root s.table.root in
          let other : one_if t.root id ≡ 0 = one_if-other t.root id (λ e. omega arith) in
          let none : times root id ≡ 0 = names_none nodes t root s there id high in
          omega (arith, given_all nodes t root made list id s there))
    ])

-- each name that is added is of a node that is there
pub added_there : (nodes : Nodes) (t : Table) (root : Node) (made : List Node) (list : List Message) → IsSound nodes t → nodes t.root ≡ Some root → IsStep t (extend_step t root made list)
    → (c : ℕ) → 1 ≤ times_among (added_names made list) c → IsThere t (extend_step t root made list) c
added_there nodes t root made list s there ok c one =
    step_names_there t (extend_step t root made list) ok c
    (omega (arith, one, added_names_times made list c, given_all nodes t root made list c s there, step_names_times (extend_step t root made list) c))

-- what a store has after it
pub extend_done : (nodes new : Nodes) (t : Table) (counts : ℕ → ℕ) (root : Node) (made : List Node) (list : List Message) (bytes : ℕ) → IsSound nodes t → nodes t.root ≡ Some root → IsStep t (extend_step t root made list)
    → ((id : ℕ) → new id ≡ after nodes t (extend_step t root made list) id) → ((c : ℕ) → counts c ≡ t.count c + added_times made list c) → bytes ≡ t.size + sum_by size list
    → IsDone nodes t (extend_step t root made list) new (table_of new counts t.root bytes (t.next + length made))
extend_done nodes new t counts root made list bytes s there ok is counts_are bytes_are =
    let step : Step = extend_step t root made list in
    let owed : ℕ → ℕ = λ c. one_if t.root c + sum_by (λ (d : Change). times_in (nodes d.id) c) step.changes in
    let all : ℕ → ℕ = λ c. t.count c + times_among (step_names step) c in
    let begun : IsReleasing (after nodes t step) (t.next + length made) t.root new all owed =
    begun_releasing nodes t step new all owed s ok (extend_above nodes t root made list s) is (λ c. refl) (λ c. refl) in
    settled_done nodes t step bytes new counts s
    (record {
      closed = begun.closed;
      stays = begun.stays;
      used = λ id n at_id. (let used : 1 ≤ t.count id + added_times made list id = extend_used nodes t root made list s there ok id n (sym (is id) ∙ at_id) in let e : counts id ≡ t.count id + added_times made list id = counts_are id in omega arith);
      exact = λ c.
          let e : counts c ≡ t.count c + added_times made list c = counts_are c in
          let exact : t.count c + times_among (step_names step) c ≡ references new (t.next + length made) t.root c + (one_if t.root c + sum_by (λ (d : Change). times_in (nodes d.id) c) step.changes) = begun.exact c in
          let names : times_among (step_names step) c ≡ given_times step c + one_if t.root c = step_names_times step c in
          let given_is : given_times step c ≡ added_times made list c + times root c = given_all nodes t root made list c s there in
          let old : times_in (nodes t.root) c ≡ times root c = ap (λ o. times_in o c) there in
          omega (arith, sum_by-cons (λ (d : Change). times_in (nodes d.id) c) (record { id = t.root; node = appended root list }) []);
    })
    (λ n at_root.
    let same : appended root list ≡ n = same_Some (appended root list) n (sym (is t.root ∙ after-some nodes t step t.root (appended root list) (given_extended t root made list s.table)) ∙ at_root) in
    ap buffer_size (sym same) ∙ extended_size t root list s.table (root_of_sound nodes t root s there) ∙ sym bytes_are)

-- the root put in its place among made nodes
put_is : (nodes put : Nodes) (t : Table) (root : Node) (made : List Node) (list : List Message) → IsTable t → ((i : ℕ) → put i ≡ cond (eqb t.root i) (Some (appended root list)) (nodes i))
    → (id : ℕ) → with_made t.next made put id ≡ given_or (changed_at (record { id = t.root; node = appended root list } ∷ []) id) (with_made t.next made nodes id)
put_is nodes put t root made list table is id =
    elim (cases_eq id t.root) [
      | inl same ↦ (let low : id < t.next = table.below id (subst (λ (i : ℕ). IsKept t i) (sym same) table.root) in
          cond-true (ltb id t.next) (put id) (given_or (slice_get made (id - t.next)) (put id)) (lt-ltb id t.next low)
          ∙ is id ∙ cond-true (eqb t.root id) (Some (appended root list)) (nodes id) (eq-eqb t.root id (sym same))
          ∙ sym (ap (λ o. given_or o (with_made t.next made nodes id)) (root_changed t root list id same)))
      | inr other ↦
          ap (λ x. cond (ltb id t.next) x (given_or (slice_get made (id - t.next)) x)) (is id ∙ cond-false (eqb t.root id) (Some (appended root list)) (nodes id) (ne_eqb t.root id (λ e. other (sym e))))
          ∙ sym (ap (λ o. given_or o (with_made t.next made nodes id)) (changed_at-other (record { id = t.root; node = appended root list }) [] id other))
    ]

-- what is kept after it
pub extended : (old mid grown last : Kept) (addition : Addition) (root : Node) (made : List Node) (list : List Message) (added : ℕ) → IsWhole old → nodes_in old.nodes old.root ≡ Some root → IsStep (table_in old) (extend_step (table_in old) root made list)
    → SameKept old mid → ((i : ℕ) → nodes_in grown.nodes i ≡ cond (eqb mid.root i) (Some (appended root list)) (nodes_in mid.nodes i)) → grown.counts ≡ mid.counts → SameHead mid grown → IsAddedTo grown addition last
    → added_of addition ≡ made → addition.names.items ≡ added_names made list → added ≡ sum_by size list
    → IsDone (nodes_in old.nodes) (table_in old) (extend_step (table_in old) root made list) (nodes_in last.nodes) (table_of (nodes_in last.nodes) (count_in last.counts) last.root (last.size + added) last.next)
extended old mid grown last addition root made list added whole there ok same put same_counts head to made_is names_are added_is =
    let nodes : Nodes = nodes_in old.nodes in
    let t : Table = table_in old in
    let step : Step = extend_step t root made list in
    let next_is : grown.next ≡ old.next = head.next ∙ same.head.next in
    let long : length addition.made.items ≡ length made = sym (length-map addition.made.items (λ shared. shared.value)) ∙ ap length made_is in
    let last_next : last.next ≡ old.next + length made = to.next ∙ omega (arith, next_is, long) in
    let last_root : last.root ≡ old.root = to.root ∙ head.root ∙ same.head.root in
    let last_size : last.size + added ≡ old.size + added = ap (λ n. n + added) (to.size ∙ head.size ∙ same.head.size) in
    let put_old : (i : ℕ) → nodes_in grown.nodes i ≡ cond (eqb old.root i) (Some (appended root list)) (nodes i) = λ i.
    put i ∙ ap (λ r. cond (eqb r i) (Some (appended root list)) (nodes_in mid.nodes i)) same.head.root ∙ ap (λ o. cond (eqb old.root i) (Some (appended root list)) o) (same.nodes i) in
    let is : (id : ℕ) → nodes_in last.nodes id ≡ after nodes t step id = λ id.
    to.nodes id
    ∙ ap (λ n. with_made n (added_of addition) (nodes_in grown.nodes) id) next_is
    ∙ ap (λ (ns : List Node). with_made old.next ns (nodes_in grown.nodes) id) made_is
    ∙ put_is nodes (nodes_in grown.nodes) t root made list whole.sound.table put_old id
    ∙ after_is nodes t step whole.sound.table ok id in
    let counts : (c : ℕ) → count_in last.counts c ≡ count_in old.counts c + added_times made list c = λ c.
    to.counts c
    ∙ ap (λ m. count_in m c + times_among addition.names.items c) same_counts
    ∙ ap (λ n. n + times_among addition.names.items c) (same.counts c)
    ∙ ap (λ (ns : List ℕ). count_in old.counts c + times_among ns c) names_are
    ∙ ap (λ n. count_in old.counts c + n) (added_names_times made list c) in
    subst (λ (u : Table). IsDone nodes t step (nodes_in last.nodes) u)
    (equal_tables (nodes_in last.nodes) (nodes_in last.nodes) (count_in last.counts) (count_in last.counts) old.root last.root (old.size + added) (last.size + added) (old.next + length made) last.next refl refl (sym last_root) (sym last_size) (sym last_next))
    (extend_done nodes (nodes_in last.nodes) t (count_in last.counts) root made list (old.size + added) whole.sound there ok is counts (ap (λ n. old.size + n) added_is))
