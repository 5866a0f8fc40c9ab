-- How often nodes are named after a step, and without one node.
use Rattle.std.proofs.Common.{◌≡◌, ℕ, zero, suc, ◌+◌, ◌-◌, ◌<◌, List, [], ◌∷◌, length, refl, sym, ap, ◌∙◌, Option, None, Some, arith, eqb}
use Rattle.std.specs.Prelude.{slice_get}
use Rattle.std.specs.List.{AllByRecursion, sum_by}
use Rattle.std.proofs.lemmas.Bool.{cond-true, cond-false, eq-eqb, ne_eqb}
use Rattle.std.proofs.lemmas.List.Sums.{sum_by-cons}
use Rattle.bd_node.specs.declared.node.Node.{Node}
use Rattle.bd_node.specs.declared.node.Change.{Change}
use Rattle.bd_node.specs.declared.node.Step.{Step}
use Rattle.bd_node.specs.Nodes.{times}
use Rattle.bd_node.specs.Meaning.{Nodes}
use Rattle.bd_node.specs.Tables.{Table, IsTable, sum_below, times_in, one_if, references}
use Rattle.bd_node.specs.Steps.{changed_at, given_or, after, given_times, IsChange, IsStep, AreOnce}
use Rattle.bd_node.specs.Closed.{without}
use Rattle.bd_node.proofs.Lookup.{each_weaker}
use Rattle.bd_node.proofs.Sums.{sum_same, sum_exchanged, sum_split, sum_first}
use Rattle.bd_node.proofs.Stepping.{given-old, given-new, changed_at-same, changed_at-other, changed_at-none}

-- ---- changed nodes

-- the nodes with changes
abbrev changed : Nodes → List Change → Nodes
changed nodes cs id = given_or (changed_at cs id) (nodes id)

changed-same : (nodes : Nodes) (d : Change) (ds : List Change) → changed nodes (d ∷ ds) d.id ≡ Some d.node
changed-same nodes d ds = ap (λ o. given_or o (nodes d.id)) (changed_at-same d ds d.id refl)

changed-other : (nodes : Nodes) (d : Change) (ds : List Change) (id : ℕ) → (id ≡ d.id → ⊥) → changed nodes (d ∷ ds) id ≡ changed nodes ds id
changed-other nodes d ds id ne = ap (λ o. given_or o (nodes id)) (changed_at-other d ds id ne)

changed-later : (nodes : Nodes) (d : Change) (ds : List Change) → AllByRecursion (λ (e : Change). e.id ≡ d.id → ⊥) ds → changed nodes ds d.id ≡ nodes d.id
changed-later nodes d ds apart = ap (λ o. given_or o (nodes d.id)) (changed_at-none (λ i. i ≡ d.id → ⊥) ds d.id apart (λ out. out refl))

-- how often the nodes that are changed name a node
abbrev old_times : Nodes → List Change → ℕ → ℕ
old_times nodes cs c = sum_by (λ (d : Change). times_in (nodes d.id) c) cs

changes_count : (nodes : Nodes) (next c : ℕ) (cs : List Change) → AllByRecursion (λ (d : Change). d.id < next) cs → AreOnce cs
    → sum_below next (λ id. times_in (changed nodes cs id) c) + old_times nodes cs c
    ≡ sum_below next (λ id. times_in (nodes id) c) + sum_by (λ (d : Change). times d.node c) cs
changes_count nodes next c [] low once = refl
changes_count nodes next c (d ∷ ds) low once =
    let rest = changes_count nodes next c ds low.1 once.1 in
    let swapped = sum_exchanged next (λ id. times_in (changed nodes (d ∷ ds) id) c) (λ id. times_in (changed nodes ds id) c) d.id low.0
    (λ j ne. ap (λ o. times_in o c) (changed-other nodes d ds j ne)) in
    let here : times_in (changed nodes (d ∷ ds) d.id) c ≡ times d.node c = ap (λ o. times_in o c) (changed-same nodes d ds) in
    let before : times_in (changed nodes ds d.id) c ≡ times_in (nodes d.id) c = ap (λ o. times_in o c) (changed-later nodes d ds once.0) in
    let old = sum_by-cons (λ (e : Change). times_in (nodes e.id) c) d ds in
    let new = sum_by-cons (λ (e : Change). times e.node c) d ds in
    omega arith

-- ---- made nodes

made_count : (c : ℕ) (made : List Node) → sum_below (length made) (λ i. times_in (slice_get made i) c) ≡ sum_by (λ n. times n c) made
unfolding sum_below
made_count c [] = refl
made_count c (n ∷ ns) =
    sum_first (length ns) (λ i. times_in (slice_get (n ∷ ns) i) c)
    ∙ ap (λ s. times n c + s) (made_count c ns)
    ∙ sym (sum_by-cons (λ m. times m c) n ns)

within_get : {A : Type 0} (P : Option A → Type 0) (xs : List A) (i : ℕ) → i < length xs → ((x : A) → P (Some x)) → P (slice_get xs i)
within_get P [] i low f = absurd (omega arith)
within_get P (x ∷ xs) zero low f = f x
within_get P (x ∷ xs) (suc i) low f = within_get P xs i (omega arith) f

after_made : (nodes : Nodes) (t : Table) (step : Step) (i : ℕ) → i < length step.made → after nodes t step (t.next + i) ≡ slice_get step.made i
after_made nodes t step i low =
    let place : t.next + i - t.next ≡ i = omega arith in
    ap (λ o. given_or o (nodes (t.next + i))) (given-new t.next step (t.next + i) (omega arith) ∙ ap (slice_get step.made) place)
    ∙ within_get (λ o. given_or o (nodes (t.next + i)) ≡ o) step.made i low (λ n. refl)

after_old : (nodes : Nodes) (t : Table) (step : Step) (id : ℕ) → id < t.next → after nodes t step id ≡ changed nodes step.changes id
after_old nodes t step id low = ap (λ o. given_or o (nodes id)) (given-old t.next step id low)

-- ---- steps

-- the references after a step, and what the changed nodes and the root's pointer named, are those
-- before it and what the step names
pub counts_stepped : (nodes : Nodes) (t : Table) (step : Step) → IsTable t → IsStep t step → (c : ℕ)
    → references (after nodes t step) (t.next + length step.made) step.root c + sum_by (λ (d : Change). times_in (nodes d.id) c) step.changes + one_if t.root c
    ≡ references nodes t.next t.root c + given_times step c + one_if step.root c
counts_stepped nodes t step table ok c =
    let low : AllByRecursion (λ (d : Change). d.id < t.next) step.changes = each_weaker (IsChange t step) (λ (d : Change). d.id < t.next) (λ d change. table.below d.id change.kept) step.changes ok.changes in
    let parts = sum_split t.next (length step.made) (λ id. times_in (after nodes t step id) c) in
    let olds = sum_same t.next (λ id. times_in (after nodes t step id) c) (λ id. times_in (changed nodes step.changes id) c) (λ i l. ap (λ o. times_in o c) (after_old nodes t step i l)) in
    let news = sum_same (length step.made) (λ i. times_in (after nodes t step (t.next + i)) c) (λ i. times_in (slice_get step.made i) c) (λ i l. ap (λ o. times_in o c) (after_made nodes t step i l)) in
    let made = made_count c step.made in
    let changes = changes_count nodes t.next c step.changes low ok.once in
    omega arith

-- the references without a node, and what it names, are those with it
pub counts_dropped : (nodes : Nodes) (next root d : ℕ) → d < next → (c : ℕ)
    → references (without nodes d) next root c + times_in (nodes d) c ≡ references nodes next root c
counts_dropped nodes next root d low c =
    let swapped = sum_exchanged next (λ id. times_in (without nodes d id) c) (λ id. times_in (nodes id) c) d low
    (λ j ne. ap (λ o. times_in o c) (cond-false (eqb j d) None (nodes j) (ne_eqb j d ne))) in
    let gone : times_in (without nodes d d) c ≡ 0 = ap (λ o. times_in o c) (cond-true (eqb d d) None (nodes d) (eq-eqb d d refl)) in
    omega arith
