-- The ids of kept nodes, as a list.
use Rattle.std.proofs.Common.{◌≡◌, ℕ, zero, suc, ◌+◌, ◌<◌, ◌≤◌, List, [], ◌∷◌, Bool, true, false, eqb, cond, ◌||◌, refl, sym, ap, subst, ◌∙◌, arith, inl, inr}
use Rattle.std.specs.Prelude.{◌==◌, if◌then◌else◌, length, All, AllPairs, IsTrue, ⊤, slice_index_or}
use Rattle.std.specs.List.{filter, list_any, range_with_len, AllByRecursion}
use Rattle.std.proofs.lemmas.Bool.{cases_eq, cases_Bool, or_right, or_left, or_from, eq-eqb, ne_eqb, le-leb, leb-true, true≢false, false≢true}
use Rattle.std.proofs.lemmas.List.Elements.{recursion_from_All}
use Rattle.bd_node.specs.Tables.{Table, IsKept, sum_below, kept_count}
use Rattle.bd_node.proofs.Sums.{sum_same, sum_first}
use Rattle.bd_view.specs.Views.{is_kept, kept_ids}

-- ---- how many there are

length_cond : (b : Bool) (x : ℕ) (xs : List ℕ) → length (cond b (x ∷ xs) xs) ≡ (if b then 1 else 0) + length xs
length_cond true x xs = omega arith
length_cond false x xs = omega arith

length_from : (p : ℕ → Bool) (n a : ℕ) → length (filter p (range_with_len a n)) ≡ sum_below n (λ i. if p (a + i) then 1 else 0)
unfolding sum_below
length_from p zero a = refl
length_from p (suc n) a =
    let one : ℕ → ℕ = λ id. if p id then 1 else 0 in
    let tail : length (filter p (range_with_len (a + 1) n)) ≡ sum_below n (λ i. one (a + 1 + i)) = length_from p n (a + 1) in
    let moved : sum_below n (λ i. one (a + 1 + i)) ≡ sum_below n (λ i. one (a + suc i)) = sum_same n _ _ (λ i low. ap one (omega arith)) in
    let first : one a ≡ one (a + 0) = ap one (omega arith) in
    let whole : sum_below (suc n) (λ i. one (a + i)) ≡ one (a + 0) + sum_below n (λ i. one (a + suc i)) = sum_first n (λ i. one (a + i)) in
    length_cond (p a) a (filter p (range_with_len (a + 1) n)) ∙ omega (arith, tail, moved, first, whole)

-- as many as the test counts
pub passing_count : (p : ℕ → Bool) (n : ℕ) → length (filter p (range_with_len 0 n)) ≡ sum_below n (λ id. if p id then 1 else 0)
passing_count p n = length_from p n 0 ∙ sum_same n _ _ (λ i low. ap (λ id. if p id then 1 else 0) (omega arith))

-- ---- which there are

any_cond : (b : Bool) (t : ℕ → Bool) (x : ℕ) (xs : List ℕ) → list_any t xs ≡ true → list_any t (cond b (x ∷ xs) xs) ≡ true
any_cond true t x xs h = or_right (t x) (list_any t xs) h
any_cond false t x xs h = h

has_from : (p : ℕ → Bool) (n a id : ℕ) → a ≤ id → id < a + n → p id ≡ true → list_any (λ other. other == id) (filter p (range_with_len a n)) ≡ true
has_from p zero a id low high passes = absurd (omega arith)
has_from p (suc n) a id low high passes =
    elim (cases_eq a id) [
      | inl same ↦ (let here : p a ≡ true = ap p same ∙ passes in
          ap (λ b. list_any (λ other. other == id) (cond b (a ∷ filter p (range_with_len (a + 1) n)) (filter p (range_with_len (a + 1) n)))) here
          ∙ or_left (eqb a id) _ (eq-eqb a id same))
      | inr other ↦ any_cond (p a) (λ other. other == id) a (filter p (range_with_len (a + 1) n)) (has_from p n (a + 1) id (omega arith) (omega arith) passes)
    ]

-- each number that passes
pub passing_has : (p : ℕ → Bool) (n id : ℕ) → id < n → p id ≡ true → list_any (λ other. other == id) (filter p (range_with_len 0 n)) ≡ true
passing_has p n id low passes = has_from p n 0 id (omega arith) (omega arith) passes

-- ---- a rising list of them

-- from a number on, each is above the one before
IsRising : ℕ → List ℕ → Type 0
IsRising a [] = ⊤
IsRising a (x ∷ xs) = (a ≤ x) × IsRising (x + 1) xs

rising_from : (a : ℕ) (ids : List ℕ) → All (λ id. a ≤ id) ids → AllPairs (λ id later. id < later) ids → IsRising a ids
unfolding IsRising
rising_from a [] low pairs = tt
rising_from a (x ∷ xs) low pairs =
    (low 0 x (omega arith), rising_from (x + 1) xs (λ k d h. let later : x < slice_index_or xs k d = pairs 0 (suc k) d (omega arith) (omega arith) in omega arith) (λ i j d lt h. pairs (suc i) (suc j) d (omega arith) (omega arith)))

-- none is below its first number
lacks : (a b : ℕ) (ids : List ℕ) → a < b → IsRising b ids → list_any (λ other. other == a) ids ≡ false
unfolding IsRising
lacks a b [] low rising = refl
lacks a b (x ∷ xs) low rising = or_from (eqb x a) _ (ne_eqb x a (λ e. omega (arith, rising.0))) (lacks a (x + 1) xs (omega (arith, rising.0)) rising.1)

-- numbers that pass, from one on up to another
record IsListOf (p : ℕ → Bool) (n a : ℕ) (ids : List ℕ) : Type 0 where
  rising : IsRising a ids
  each : AllByRecursion (λ id. (id < a + n) × (p id ≡ true)) ids
  all : (id : ℕ) → a ≤ id → id < a + n → p id ≡ true → list_any (λ other. other == id) ids ≡ true

each_later : (p : ℕ → Bool) (n a : ℕ) (ids : List ℕ) → AllByRecursion (λ id. (id < a + suc n) × (p id ≡ true)) ids → AllByRecursion (λ id. (id < a + 1 + n) × (p id ≡ true)) ids
each_later p n a [] each = tt
each_later p n a (x ∷ xs) each = ((omega (arith, each.0.0), each.0.1), each_later p n a xs each.1)

-- without its first number
tail_of : (p : ℕ → Bool) (n a x : ℕ) (xs : List ℕ) → a ≡ x → IsListOf p (suc n) a (x ∷ xs) → IsListOf p n (a + 1) xs
unfolding IsRising
tail_of p n a x xs same h = record {
  rising = subst (λ b. IsRising (b + 1) xs) (sym same) h.rising.1;
  each = each_later p n a xs h.each.1;
  all = λ id low high passes. subst (λ b. (b || list_any (λ other. other == id) xs) ≡ true) (ne_eqb x id (λ e. omega arith)) (h.all id (omega arith) (omega arith) passes);
}

-- where the first number doesn't pass
later_of : (p : ℕ → Bool) (n a : ℕ) (ids : List ℕ) → p a ≡ false → IsListOf p (suc n) a ids → IsListOf p n (a + 1) ids
unfolding IsRising
later_of p n a [] fails h = record { rising = tt; each = tt; all = λ id low high passes. h.all id (omega arith) (omega arith) passes }
later_of p n a (x ∷ xs) fails h = record {
  rising = ((let apart : a ≡ x → ⊥ = λ e. true≢false (sym h.each.0.1 ∙ ap p (sym e) ∙ fails) in elim (cases_eq a x) [ inl same ↦ absurd (apart same) | inr other ↦ omega (arith, h.rising.0) ]), h.rising.1);
  each = each_later p n a (x ∷ xs) h.each;
  all = λ id low high passes. h.all id (omega arith) (omega arith) passes;
}

-- where the first number passes, it comes first
listed_first : (p : ℕ → Bool) (n a : ℕ) (ids : List ℕ) → ((xs : List ℕ) → IsListOf p n (a + 1) xs → xs ≡ filter p (range_with_len (a + 1) n)) → p a ≡ true → IsListOf p (suc n) a ids
    → ids ≡ a ∷ filter p (range_with_len (a + 1) n)
unfolding IsRising
listed_first p n a [] rest passes h = absurd (false≢true (h.all a (omega arith) (omega arith) passes))
listed_first p n a (x ∷ xs) rest passes h =
    elim (cases_eq a x) [
      | inl same ↦ ap (λ y. y ∷ xs) (sym same) ∙ ap (λ ys. a ∷ ys) (rest xs (tail_of p n a x xs same h))
      | inr other ↦ (let low : a < x = omega (arith, h.rising.0) in
          absurd (false≢true (sym (or_from (eqb x a) _ (ne_eqb x a (λ e. other (sym e))) (lacks a (x + 1) xs (omega arith) h.rising.1)) ∙ h.all a (omega arith) (omega arith) passes)))
    ]

listed : (p : ℕ → Bool) (n a : ℕ) (ids : List ℕ) → IsListOf p n a ids → ids ≡ filter p (range_with_len a n)
unfolding IsRising
listed p zero a [] h = refl
listed p zero a (x ∷ xs) h = absurd (omega (arith, h.rising.0, h.each.0.0))
listed p (suc n) a ids h =
    elim (cases_Bool (p a)) [
      | inl passes ↦ listed_first p n a ids (λ xs part. listed p n (a + 1) xs part) passes h ∙ ap (λ b. cond b (a ∷ filter p (range_with_len (a + 1) n)) (filter p (range_with_len (a + 1) n))) (sym passes)
      | inr fails ↦ listed p n (a + 1) ids (later_of p n a ids fails h) ∙ ap (λ b. cond b (a ∷ filter p (range_with_len (a + 1) n)) (filter p (range_with_len (a + 1) n))) (sym fails)
    ]

-- so the list of them is one
pub passing_one : (p : ℕ → Bool) (n : ℕ) (ids : List ℕ) → AllPairs (λ id later. id < later) ids → All (λ id. (id < n) × IsTrue (p id)) ids
    → ((id : ℕ) → id < n → IsTrue (p id) → IsTrue (list_any (λ other. other == id) ids)) → ids ≡ filter p (range_with_len 0 n)
passing_one p n ids pairs each all = listed p n 0 ids (record {
  rising = rising_from 0 ids (λ k d h. omega arith) pairs;
  each = recursion_from_All _ ids (λ k d h. (let l : slice_index_or ids k d < n = (each k d h).0 in omega arith, (each k d h).1));
  all = λ id low high passes. all id (omega arith) passes;
})

-- ---- kept nodes

pub kept_length : (t : Table) → length (kept_ids t) ≡ kept_count t
unfolding kept_count
kept_length t = passing_count (is_kept t) t.next

pub kept_one : (t : Table) (ids : List ℕ) → AllPairs (λ id later. id < later) ids → All (λ id. (id < t.next) × IsKept t id) ids
    → ((id : ℕ) → id < t.next → IsKept t id → IsTrue (list_any (λ other. other == id) ids)) → ids ≡ kept_ids t
kept_one t ids pairs each all =
    passing_one (is_kept t) t.next ids pairs (λ k d h. ((each k d h).0, le-leb 1 (t.count (slice_index_or ids k d)) (each k d h).1)) (λ id low kept. all id low (leb-true 1 (t.count id) kept))
