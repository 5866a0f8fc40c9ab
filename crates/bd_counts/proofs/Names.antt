-- How often ids stand in lists, and the names in a step.
use Rattle.std.proofs.Common.{◌≡◌, ℕ, ◌+◌, ◌^◌, ◌<◌, ◌≤◌, refl, sym, ap, subst, ◌∙◌, arith, inl, inr, List, [], ◌∷◌, ◌++◌, length, take, drop, cond}
use Rattle.std.specs.Prelude.{◌==◌, slice_index, flat_map}
use Rattle.std.specs.List.{AllByRecursion, sum_by}
use Rattle.std.proofs.lemmas.Bool.{cases_eq}
use Rattle.std.proofs.lemmas.List.{take_more, take-append-drop}
use Rattle.std.proofs.lemmas.List.Sums.{sum_by-append, sum_by-cons}
use Rattle.bd_message.specs.declared.message.Message.{Message}
use Rattle.bd_node.specs.declared.node.Node.{Node}
use Rattle.bd_node.specs.declared.node.Step.{Step}
use Rattle.bd_node.specs.Nodes.{level_of, message_names, names, times}
use Rattle.bd_node.specs.Tables.{Table, one_if}
use Rattle.bd_node.specs.Steps.{given_times, added_times, IsThere, IsNamable, IsPut, IsChange, IsStep}
use Rattle.bd_node.proofs.Lookup.{count-cons_same, count-cons_other, each_weaker, each_both, named_has}
use Rattle.bd_node.proofs.Sound.{one_if-same, one_if-other}
use Rattle.bd_counts.specs.Naming.{times_among, change_names, step_names, added_names}

pub times_among-cons : (x : ℕ) (xs : List ℕ) (c : ℕ) → times_among (x ∷ xs) c ≡ one_if x c + times_among xs c
times_among-cons x xs c =
    elim (cases_eq x c) [
      | inl same ↦ subst (λ (d : ℕ). times_among (x ∷ xs) d ≡ one_if x d + times_among xs d) same
          (count-cons_same x xs ∙ ap (λ n. n + times_among xs x) (sym (one_if-same x)))
      | inr other ↦ count-cons_other x c xs other ∙ omega (arith, one_if-other x c other)
    ]

pub times_among-append : (xs ys : List ℕ) (c : ℕ) → times_among (xs ++ ys) c ≡ times_among xs c + times_among ys c
times_among-append xs ys c = sum_by-append (λ name. cond (name == c) 1 0) xs ys

pub times_among-one : (x c : ℕ) → times_among (x ∷ []) c ≡ one_if x c
times_among-one x c = times_among-cons x [] c ∙ omega arith

pub times_take : (xs : List ℕ) (i : ℕ) → i < length xs → (c : ℕ) → times_among (take (i + 1) xs) c ≡ times_among (take i xs) c + one_if (slice_index xs i) c
times_take xs i low c =
    ap (λ (ys : List ℕ). times_among ys c) (take_more xs i 0 low)
    ∙ times_among-append (take i xs) (slice_index xs i ∷ []) c
    ∙ ap (λ n. times_among (take i xs) c + n) (times_among-one (slice_index xs i) c)

-- so many names of a list are among its first
pub times_first : (xs : List ℕ) (i : ℕ) (c : ℕ) → times_among (take i xs) c ≤ times_among xs c
times_first xs i c =
    let e : times_among xs c ≡ times_among (take i xs) c + times_among (drop i xs) c = ap (λ (ys : List ℕ). times_among ys c) (sym (take-append-drop i xs)) ∙ times_among-append (take i xs) (drop i xs) c in
    omega arith

pub fits_more : (counts raised : ℕ → ℕ) (xs : List ℕ) (i : ℕ) → i < length xs → raised (slice_index xs i) + 1 < 2 ^ 64
    → ((c : ℕ) → raised c ≡ counts c + times_among (take i xs) c)
    → ((c : ℕ) → 1 ≤ times_among (take i xs) c → counts c + times_among (take i xs) c < 2 ^ 64)
    → (c : ℕ) → 1 ≤ times_among (take (i + 1) xs) c → counts c + times_among (take (i + 1) xs) c < 2 ^ 64
fits_more counts raised xs i low room before fits c some =
    let x : ℕ = slice_index xs i in
    let more : times_among (take (i + 1) xs) c ≡ times_among (take i xs) c + one_if x c = times_take xs i low c in
    elim (cases_eq x c) [
      | inl same ↦ (let here : counts c + times_among (take i xs) c + 1 < 2 ^ 64 =
          subst (λ (d : ℕ). counts d + times_among (take i xs) d + 1 < 2 ^ 64) same (subst (λ (n : ℕ). n + 1 < 2 ^ 64) (before x) room) in
          let one : one_if x c ≡ 1 = subst (λ (d : ℕ). one_if x d ≡ 1) same (one_if-same x) in
          omega arith)
      | inr other ↦ (let none : one_if x c ≡ 0 = one_if-other x c other in
          let here : counts c + times_among (take i xs) c < 2 ^ 64 = fits c (omega arith) in
          omega arith)
    ]

-- a name whose count has no room
pub worn_at : (counts raised : ℕ → ℕ) (xs : List ℕ) (i : ℕ) → i < length xs → raised (slice_index xs i) + 1 ≡ 2 ^ 64
    → ((c : ℕ) → raised c ≡ counts c + times_among (take i xs) c) → 2 ^ 64 ≤ counts (slice_index xs i) + times_among xs (slice_index xs i)
worn_at counts raised xs i low full before =
    let x : ℕ = slice_index xs i in
    let more : times_among (take (i + 1) xs) x ≡ times_among (take i xs) x + one_if x x = times_take xs i low x in
    let one : one_if x x ≡ 1 = one_if-same x in
    let all : times_among (take (i + 1) xs) x ≤ times_among xs x = times_first xs (i + 1) x in
    let here : raised x ≡ counts x + times_among (take i xs) x = before x in
    omega arith

-- ---- the names in a step

flat_times : {A : Type 0} (f : A → List ℕ) (c : ℕ) (xs : List A) → times_among (flat_map f xs) c ≡ sum_by (λ x. times_among (f x) c) xs
flat_times f c [] = refl
flat_times f c (x ∷ xs) =
    times_among-append (f x) (flat_map f xs) c
    ∙ ap (λ n. times_among (f x) c + n) (flat_times f c xs)
    ∙ sym (sum_by-cons (λ y. times_among (f y) c) x xs)

pub step_names_times : (step : Step) (c : ℕ) → times_among (step_names step) c ≡ given_times step c + one_if step.root c
step_names_times step c =
    times_among-append (flat_map names step.made ++ flat_map change_names step.changes) (step.root ∷ []) c
    ∙ ap (λ n. n + times_among (step.root ∷ []) c) (times_among-append (flat_map names step.made) (flat_map change_names step.changes) c)
    ∙ ap (λ n. n + times_among (flat_map change_names step.changes) c + times_among (step.root ∷ []) c) (flat_times names c step.made)
    ∙ ap (λ n. sum_by (λ m. times m c) step.made + n + times_among (step.root ∷ []) c) (flat_times change_names c step.changes)
    ∙ ap (λ n. given_times step c + n) (times_among-one step.root c)

pub added_names_times : (made : List Node) (list : List Message) (c : ℕ) → times_among (added_names made list) c ≡ added_times made list c
added_names_times made list c =
    times_among-append (flat_map names made) (flat_map message_names list) c
    ∙ ap (λ n. n + times_among (flat_map message_names list) c) (flat_times names c made)

each_flat : {A : Type 0} (P : ℕ → Type 0) (f : A → List ℕ) (xs : List A) → AllByRecursion (λ x. AllByRecursion P (f x)) xs → AllByRecursion P (flat_map f xs)
each_flat P f [] h = tt
each_flat P f (x ∷ xs) h = each_both P (f x) (flat_map f xs) h.0 (each_flat P f xs h.1)

-- each name is of a node that is there
pub step_names_there : (t : Table) (step : Step) → IsStep t step → (c : ℕ) → 1 ≤ times_among (step_names step) c → IsThere t step c
step_names_there t step ok c one =
    let put : (n : Node) → IsPut t step n → AllByRecursion (IsThere t step) (names n) = λ n own.
    each_weaker (IsNamable t step (level_of n)) (IsThere t step) (λ d namable. namable.there) (names n) own.lower in
    let made : AllByRecursion (IsThere t step) (flat_map names step.made) =
    each_flat (IsThere t step) names step.made (each_weaker (IsPut t step) (λ n. AllByRecursion (IsThere t step) (names n)) put step.made ok.made) in
    let changed : AllByRecursion (IsThere t step) (flat_map change_names step.changes) =
    each_flat (IsThere t step) change_names step.changes (each_weaker (IsChange t step) (λ d. AllByRecursion (IsThere t step) (change_names d)) (λ d change. put d.node change.put) step.changes ok.changes) in
    named_has (IsThere t step) c (step_names step)
    (each_both (IsThere t step) (flat_map names step.made ++ flat_map change_names step.changes) (step.root ∷ [])
    (each_both (IsThere t step) (flat_map names step.made) (flat_map change_names step.changes) made changed) (ok.root, tt)) one
