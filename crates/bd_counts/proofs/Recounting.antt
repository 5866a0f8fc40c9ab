-- Counts while names are taken back.
use Rattle.std.proofs.Common.{◌≡◌, ℕ, ◌+◌, ◌<◌, ◌≤◌, sym, ap, subst, ◌∙◌, arith, inl, inr, List, [], ◌∷◌, ◌++◌, length, Option, None, Some, Result, Ok, Err, IfOk, IfSome, cond, eqb}
use Rattle.std.specs.Prelude.{IfNone}
use Rattle.std.specs.List.{sum_by}
use Rattle.std.proofs.lemmas.Bool.{cases_eq, cases_lt, cond-true, cond-false, eq-eqb, ne_eqb}
use Rattle.bd_node.specs.declared.node.Node.{Node}
use Rattle.bd_node.specs.declared.node.Change.{Change}
use Rattle.bd_node.specs.declared.node.Step.{Step}
use Rattle.bd_node.specs.Meaning.{Nodes}
use Rattle.bd_node.specs.Tables.{Table, IsKept, IsTable, IsSound, sum_below, times_in, one_if}
use Rattle.bd_node.specs.Steps.{given_times, after, IsStep, StayAbove}
use Rattle.bd_node.proofs.Sums.{sum_exchanged}
use Rattle.bd_node.proofs.Sound.{one_if-same, one_if-other}
use Rattle.bd_node.proofs.Closing.{by_node}
use Rattle.bd_counts.specs.Naming.{times_among, step_names}
use Rattle.bd_counts.specs.Counting.{counted, IsRecount, MakesTable, IsOwing, Commits}
use Rattle.bd_counts.specs.Releasing.{IsReleasing, IsLess}
use Rattle.bd_counts.proofs.Names.{times_among-append, times_among-one, step_names_times, step_names_there}
use Rattle.bd_counts.proofs.Releasing.{is_without, less_other, taken_one, taken_last}
use Rattle.bd_counts.proofs.Settling.{used_after, begun_releasing, settled_committed}

-- ---- nodes that are counted

counted-none : (counts : ℕ → ℕ) (nodes : Nodes) (id : ℕ) → counts id ≡ 0 → counted counts nodes id ≡ None
counted-none counts nodes id none = cond-true (eqb (counts id) 0) None (nodes id) (eq-eqb (counts id) 0 none)

counted-some : (counts : ℕ → ℕ) (nodes : Nodes) (id : ℕ) → 1 ≤ counts id → counted counts nodes id ≡ nodes id
counted-some counts nodes id some = cond-false (eqb (counts id) 0) None (nodes id) (ne_eqb (counts id) 0 (λ e. omega arith))

-- where each node is counted, all are there
counted-all : (counts : ℕ → ℕ) (nodes : Nodes) → ((id : ℕ) (n : Node) → nodes id ≡ Some n → 1 ≤ counts id) → (id : ℕ) → counted counts nodes id ≡ nodes id
counted-all counts nodes used id =
    by_node (counted counts nodes id ≡ nodes id) (nodes id)
    (λ none.
    elim (cases_lt 0 (counts id)) [
      | inl some ↦ counted-some counts nodes id (omega arith)
      | inr out ↦ counted-none counts nodes id (omega arith) ∙ sym none
    ])
    (λ n there. counted-some counts nodes id (used id n there))

counted-others : (id : ℕ) (counts new : ℕ → ℕ) (nodes : Nodes) → IsLess id counts new → (c : ℕ) → (c ≡ id → ⊥) → counted new nodes c ≡ counted counts nodes c
counted-others id counts new nodes less c other = ap (λ (n : ℕ). cond (eqb n 0) None (nodes c)) (less_other id counts new less c other)

-- ---- the counts with all names of a step

begun_count : (t : Table) (step : Step) (counts : ℕ → ℕ) → ((c : ℕ) → counts c ≡ t.count c + times_among (step_names step) c) → (c : ℕ) → counts c ≡ t.count c + (given_times step c + one_if step.root c)
begun_count t step counts are c =
    let a : counts c ≡ t.count c + times_among (step_names step) c = are c in
    let b : times_among (step_names step) c ≡ given_times step c + one_if step.root c = step_names_times step c in
    omega arith

pub begun_owing : (nodes : Nodes) (t : Table) (step : Step) (counts : ℕ → ℕ) (owed : List ℕ) → IsSound nodes t → IsStep t step → StayAbove nodes t step
    → ((c : ℕ) → counts c ≡ t.count c + times_among (step_names step) c)
    → ((c : ℕ) → times_among owed c ≡ one_if t.root c + sum_by (λ (d : Change). times_in (nodes d.id) c) step.changes)
    → IsOwing nodes t step counts owed
begun_owing nodes t step counts owed s ok above are owed_is =
    begun_releasing nodes t step (counted counts (after nodes t step)) counts (times_among owed) s ok above
    (counted-all counts (after nodes t step) (λ id n there.
    let used : 1 ≤ t.count id + (given_times step id + one_if step.root id) = used_after nodes t step s ok id n there in
    let all : counts id ≡ t.count id + (given_times step id + one_if step.root id) = begun_count t step counts are id in
    omega arith))
    are owed_is

pub begun_recount : (t : Table) (step : Step) (counts : ℕ → ℕ) (gone : List ℕ) → IsStep t step → ((c : ℕ) → counts c ≡ t.count c + times_among (step_names step) c) → gone ≡ [] → IsRecount t step counts gone
begun_recount t step counts gone ok are none = record {
  root =
      let all : counts step.root ≡ t.count step.root + (given_times step step.root + one_if step.root step.root) = begun_count t step counts are step.root in
      let one : one_if step.root step.root ≡ 1 = one_if-same step.root in
      omega arith;
  there = λ id some.
      elim (cases_lt 0 (t.count id)) [
        | inl kept ↦ inl (omega arith)
        | inr new ↦ (let all : counts id ≡ t.count id + times_among (step_names step) id = are id in step_names_there t step ok id (omega arith))
      ];
  goes = λ id there zero.
      let all : counts id ≡ t.count id + (given_times step id + one_if step.root id) = begun_count t step counts are id in
      elim there [
        | inl kept ↦ (let one : 1 ≤ t.count id = kept in absurd (omega arith))
        | inr made ↦ (let used : 1 ≤ given_times step id + one_if step.root id = ok.used id made.0 made.1 in absurd (omega arith))
      ];
  only = λ id one. (let e : times_among gone id ≡ 0 = ap (λ (xs : List ℕ). times_among xs id) none in absurd (omega arith));
}

-- ---- a name is taken back

was_counted : (id : ℕ) (counts new : ℕ → ℕ) → IsLess id counts new → 1 ≤ counts id
was_counted id counts new less =
    let e : new id + one_if id id ≡ counts id = less.each id in
    let one : one_if id id ≡ 1 = one_if-same id in
    omega arith

pub recount_one : (t : Table) (step : Step) (id : ℕ) (counts new : ℕ → ℕ) (gone : List ℕ) → IsLess id counts new → 1 ≤ new id → IsRecount t step counts gone → IsRecount t step new gone
recount_one t step id counts new gone less some h = record {
  root =
      elim (cases_eq step.root id) [
        | inl same ↦ subst (λ (i : ℕ). 1 ≤ new i) (sym same) some
        | inr other ↦ subst (λ (n : ℕ). 1 ≤ n) (sym (less_other id counts new less step.root other)) h.root
      ];
  there = λ c one. h.there c (let e : new c + one_if id c ≡ counts c = less.each c in omega arith);
  goes = λ c there zero.
      elim (cases_eq c id) [
        | inl same ↦ (let one : 1 ≤ new c = subst (λ (i : ℕ). 1 ≤ new i) (sym same) some in absurd (omega arith))
        | inr other ↦ h.goes c there (sym (less_other id counts new less c other) ∙ zero)
      ];
  only = λ c one. ((h.only c one).0, (let e : new c + one_if id c ≡ counts c = less.each c in let z : counts c ≡ 0 = (h.only c one).1 in omega arith));
}

times_pushed : (list new : List ℕ) (id : ℕ) → new ≡ list ++ id ∷ [] → (c : ℕ) → times_among new c ≡ times_among list c + one_if id c
times_pushed list new id is c =
    ap (λ (xs : List ℕ). times_among xs c) is
    ∙ times_among-append list (id ∷ []) c
    ∙ ap (λ n. times_among list c + n) (times_among-one id c)

pub recount_last : (t : Table) (step : Step) (id : ℕ) (counts new : ℕ → ℕ) (gone new_gone : List ℕ) → IsLess id counts new → new id ≡ 0 → (step.root ≡ id → ⊥) → new_gone ≡ gone ++ id ∷ []
    → IsRecount t step counts gone → IsRecount t step new new_gone
recount_last t step id counts new gone new_gone less zero below_root pushed h =
    let was : 1 ≤ counts id = was_counted id counts new less in
    record {
      root = subst (λ (n : ℕ). 1 ≤ n) (sym (less_other id counts new less step.root below_root)) h.root;
      there = λ c one. h.there c (let e : new c + one_if id c ≡ counts c = less.each c in omega arith);
      goes = λ c there none.
          let times : times_among new_gone c ≡ times_among gone c + one_if id c = times_pushed gone new_gone id pushed c in
          elim (cases_eq c id) [
            | inl same ↦ (let one : one_if id c ≡ 1 = ap (one_if id) same ∙ one_if-same id in
                let counted_too : 1 ≤ counts c = subst (λ (i : ℕ). 1 ≤ counts i) (sym same) was in
                elim (cases_lt 0 (times_among gone c)) [
                  | inl some ↦ (let z : counts c ≡ 0 = (h.only c (omega arith)).1 in absurd (omega arith))
                  | inr out ↦ omega arith
                ])
            | inr other ↦ (let one : times_among gone c ≡ 1 = h.goes c there (sym (less_other id counts new less c other) ∙ none) in
                let no_more : one_if id c ≡ 0 = one_if-other id c (λ e. other (sym e)) in
                omega arith)
          ];
      only = λ c one.
          let times : times_among new_gone c ≡ times_among gone c + one_if id c = times_pushed gone new_gone id pushed c in
          elim (cases_eq c id) [
            | inl same ↦ (h.there c (subst (λ (i : ℕ). 1 ≤ counts i) (sym same) was), ap new same ∙ zero)
            | inr other ↦ (let no_more : one_if id c ≡ 0 = one_if-other id c (λ e. other (sym e)) in
                let some : 1 ≤ times_among gone c = omega arith in
                ((h.only c some).0, less_other id counts new less c other ∙ (h.only c some).1))
          ];
    }

pub owed_pushed : (owed all : List ℕ) (id : ℕ) → all ≡ owed ++ id ∷ [] → (c : ℕ) → times_among all c ≡ one_if id c + times_among owed c
owed_pushed owed all id is c = let e : times_among all c ≡ times_among owed c + one_if id c = times_pushed owed all id is c in omega arith

pub owing_one : (nodes : Nodes) (t : Table) (step : Step) (id : ℕ) (counts new : ℕ → ℕ) (owed all : List ℕ) → IsLess id counts new → 1 ≤ new id → all ≡ owed ++ id ∷ []
    → IsOwing nodes t step counts all → IsOwing nodes t step new owed
owing_one nodes t step id counts new owed all less some is h =
    let A : Nodes = after nodes t step in
    let each : (c : ℕ) → counted new A c ≡ counted counts A c = λ c.
    elim (cases_eq c id) [
      | inl same ↦ counted-some new A c (subst (λ (i : ℕ). 1 ≤ new i) (sym same) some) ∙ sym (counted-some counts A c (subst (λ (i : ℕ). 1 ≤ counts i) (sym same) (was_counted id counts new less)))
      | inr other ↦ counted-others id counts new A less c other
    ] in
    let same_nodes : counted new A ≡ counted counts A = λ i c. each c i in
    subst (λ (m : Nodes). IsReleasing A (t.next + length step.made) step.root m new (times_among owed)) (sym same_nodes)
    (taken_one A (t.next + length step.made) step.root id (counted counts A) counts new (times_among all) (times_among owed) less some (owed_pushed owed all id is) h)

pub owing_last : (nodes : Nodes) (t : Table) (step : Step) (id : ℕ) (counts new : ℕ → ℕ) (owed all new_owed : List ℕ) → IsLess id counts new → new id ≡ 0 → all ≡ owed ++ id ∷ []
    → ((c : ℕ) → times_among new_owed c ≡ times_among owed c + times_in (after nodes t step id) c)
    → IsOwing nodes t step counts all → IsOwing nodes t step new new_owed
owing_last nodes t step id counts new owed all new_owed less zero is pushed h =
    let A : Nodes = after nodes t step in
    taken_last A (t.next + length step.made) step.root id (counted counts A) (counted new A) counts new (times_among all) (times_among new_owed) (times_among owed) less zero
    (is_without (counted counts A) (counted new A) id (counted-none new A id zero) (counted-others id counts new A less))
    (owed_pushed owed all id is)
    (λ c.
    let a : times_among new_owed c ≡ times_among owed c + times_in (A id) c = pushed c in
    let b : times_in (counted counts A id) c ≡ times_in (A id) c = ap (λ o. times_in o c) (counted-some counts A id (was_counted id counts new less)) in
    omega arith)
    h

-- the counts together fall
pub fewer_counts : (t : Table) (step : Step) (id : ℕ) (counts new : ℕ → ℕ) (gone : List ℕ) → IsTable t → IsRecount t step counts gone → IsLess id counts new
    → sum_below (t.next + length step.made) new < sum_below (t.next + length step.made) counts
fewer_counts t step id counts new gone table h less =
    let low : id < t.next + length step.made =
    elim (h.there id (was_counted id counts new less)) [
      | inl kept ↦ (let below : id < t.next = table.below id kept in omega arith)
      | inr made ↦ made.1
    ] in
    let sums : sum_below (t.next + length step.made) new + counts id ≡ sum_below (t.next + length step.made) counts + new id =
    sum_exchanged (t.next + length step.made) new counts id low (less_other id counts new less) in
    let e : new id + one_if id id ≡ counts id = less.each id in
    let one : one_if id id ≡ 1 = one_if-same id in
    omega arith

-- ---- no name is owed any more

pub settled_commits : (nodes : Nodes) (t : Table) (step : Step) (counts : ℕ → ℕ) → IsSound nodes t → IsOwing nodes t step counts [] → Commits nodes t step counts
settled_commits nodes t step counts s h u has size = settled_committed nodes t step (counted counts (after nodes t step)) counts u s h has size

pub makes_table : (t : Table) (step : Step) (counts : ℕ → ℕ) (gone : List ℕ) → IsTable t → IsStep t step → IsRecount t step counts gone → MakesTable t step counts
makes_table t step counts gone table ok h u has =
    let back : (id : ℕ) → IsKept u id → 1 ≤ counts id = λ id kept. subst (λ (n : ℕ). 1 ≤ n) (has.count id) kept in
    let root_kept : IsKept u step.root = subst (λ (n : ℕ). 1 ≤ n) (sym (has.count step.root)) h.root in
    let root_low : 1 ≤ t.root = table.low t.root table.root in
    let root_below : t.root < t.next = table.below t.root table.root in
    record {
      root = subst (λ (r : ℕ). IsKept u r) (sym has.root) root_kept;
      inner = subst (λ (r : ℕ). 1 ≤ u.level r) (sym has.root) (subst (λ (n : ℕ). 1 ≤ n) (sym (has.level step.root root_kept)) ok.inner);
      low = λ id kept.
          elim (h.there id (back id kept)) [
            | inl old ↦ table.low id old
            | inr made ↦ (let high : t.next ≤ id = made.0 in omega arith)
          ];
      below = λ id kept.
          let next : u.next ≡ t.next + length step.made = has.next in
          elim (h.there id (back id kept)) [
            | inl old ↦ (let low : id < t.next = table.below id old in omega arith)
            | inr made ↦ (let low : id < t.next + length step.made = made.1 in omega arith)
          ];
    }

-- ---- what is found

pub found_weaker : {A E : Type 0} (P Q : A → Type 0) (r : Result (Option A) E) → ((x : A) → P x → Q x) → IfOk r (λ o. IfSome o P) → IfOk r (λ o. IfSome o Q)
found_weaker P Q (Ok (Some x)) f h = f x h
found_weaker P Q (Ok None) f h = tt
found_weaker P Q (Err e) f h = tt

-- where none is found
pub none_weaker : {A E : Type 0} (P Q : Type 0) (r : Result (Option A) E) → (P → Q) → IfOk r (λ o. IfNone o P) → IfOk r (λ o. IfNone o Q)
none_weaker P Q (Ok (Some x)) f h = tt
none_weaker P Q (Ok None) f h = f h
none_weaker P Q (Err e) f h = tt
