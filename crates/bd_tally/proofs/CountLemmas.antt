-- Counts after names.
use Rattle.std.proofs.Common.{◌≡◌, ◌≢◌, ℕ, ◌+◌, ◌-◌, ◌<◌, ◌≤◌, Bool, ◌||◌, nat_lt, List, [], ◌∷◌, ◌++◌, length, get_or, set, take, map, refl, sym, ap, subst, ◌∙◌, arith, inl, inr}
use Rattle.std.specs.Prelude.{All, flat_map}
use Rattle.std.proofs.lemmas.Bool.{cases_lt, cases_order, le-ltb, lt-ltb, or_left, or_right}
use Rattle.std.proofs.lemmas.List.{length-map, length-set, get_or-map, get_or-set_same, get_or-set_other, get_or_read, same_lists, take_more, take_all, flat_map_more}
use Rattle.std.proofs.lemmas.List.Folds.{map_fixed}
use Rattle.std.proofs.lemmas.Simd.{map-map}
use Rattle.bd_node.specs.Tables.{one_if}
use Rattle.bd_node.proofs.Sound.{one_if-same, one_if-other}
use Rattle.bd_counts.specs.Naming.{times_among}
use Rattle.bd_counts.proofs.Names.{times_among-append, times_among-one}
use Rattle.bd_tally.specs.Counts.{AreRising, IsPlaceOf, count_after, counts_after}
use Rattle.bd_tally.specs.declared.count.Count.{Count}

pub map_alike : {A B : Type 0} (f g : A → B) → ((x : A) → f x ≡ g x) → (xs : List A) → map f xs ≡ map g xs
map_alike f g same [] = refl
map_alike f g same (x ∷ xs) = λ i. same x i ∷ map_alike f g same xs i

-- ---- one count

over_after : (left m n : ℕ) (over : Bool) → (nat_lt (left - m) n || (nat_lt left m || over)) ≡ (nat_lt left (m + n) || over)
over_after left m n over =
    elim (cases_lt left (m + n)) [
      | inl fewer ↦ elim (cases_lt (left - m) n) [
        | inl last ↦ or_left (nat_lt (left - m) n) (nat_lt left m || over) (lt-ltb (left - m) n last) ∙ sym (or_left (nat_lt left (m + n)) over (lt-ltb left (m + n) fewer))
        | inr later ↦ or_right (nat_lt (left - m) n) (nat_lt left m || over) (or_left (nat_lt left m) over (lt-ltb left m (omega arith))) ∙ sym (or_left (nat_lt left (m + n)) over (lt-ltb left (m + n) fewer))
      ]
      | inr enough ↦
          ap (λ (b : Bool). b || (nat_lt left m || over)) (le-ltb (left - m) n (omega arith))
          ∙ ap (λ (b : Bool). b || over) (le-ltb left m (omega arith))
          ∙ sym (ap (λ (b : Bool). b || over) (le-ltb left (m + n) enough))
    ]

-- names after names are names together
pub count_after-count_after : (m n : ℕ) (c : Count) → count_after n (count_after m c) ≡ count_after (m + n) c
count_after-count_after m n c =
    let left : c.left - m - n ≡ c.left - (m + n) = omega arith in
    let over : (nat_lt (c.left - m) n || (nat_lt c.left m || c.over)) ≡ (nat_lt c.left (m + n) || c.over) = over_after c.left m n c.over in
    λ i. record { id = c.id; left = left i; over = over i }

pub count_after-none : (c : Count) → count_after 0 c ≡ c
count_after-none c =
    let left : c.left - 0 ≡ c.left = omega arith in
    let over : (nat_lt c.left 0 || c.over) ≡ c.over = ap (λ (b : Bool). b || c.over) (le-ltb c.left 0 (omega arith)) in
    λ i. record { id = c.id; left = left i; over = over i }

-- a name of another id
after_other : (name : ℕ) (c : Count) → c.id ≢ name → count_after (times_among (name ∷ []) c.id) c ≡ c
after_other name c other =
    ap (λ (n : ℕ). count_after n c) (times_among-one name c.id ∙ one_if-other name c.id (λ same. other (sym same))) ∙ count_after-none c

-- a name of its own
after_own : (name : ℕ) (c : Count) → c.id ≡ name → count_after (times_among (name ∷ []) c.id) c ≡ count_after 1 c
after_own name c own =
    ap (λ (n : ℕ). count_after n c) (times_among-one name c.id ∙ ap (one_if name) own ∙ one_if-same name)

-- ---- counts

pub counts_after-counts_after : (xs ys : List ℕ) (cs : List Count) → counts_after ys (counts_after xs cs) ≡ counts_after (xs ++ ys) cs
counts_after-counts_after xs ys cs =
    map-map (λ (c : Count). count_after (times_among ys c.id) c) (λ (c : Count). count_after (times_among xs c.id) c) cs
    ∙ map_alike (λ (c : Count). count_after (times_among ys c.id) (count_after (times_among xs c.id) c)) (λ (c : Count). count_after (times_among (xs ++ ys) c.id) c)
    (λ c. count_after-count_after (times_among xs c.id) (times_among ys c.id) c ∙ ap (λ (n : ℕ). count_after n c) (sym (times_among-append xs ys c.id))) cs

pub counts_after-none : (cs : List Count) → counts_after [] cs ≡ cs
counts_after-none cs = map_fixed (λ (c : Count). count_after (times_among [] c.id) c) cs (λ k d within. count_after-none (get_or cs k d))

-- a name of no count
pub after_absent : (cs : List Count) (name : ℕ) → All (λ c. c.id ≢ name) cs → counts_after (name ∷ []) cs ≡ cs
after_absent cs name absent = map_fixed (λ (c : Count). count_after (times_among (name ∷ []) c.id) c) cs (λ k d within. after_other name (get_or cs k d) (absent k d within))

-- a name of the count at a place
module _ (cs : List Count) (name place : ℕ) (c : Count) (rising : AreRising cs) (at : IsPlaceOf cs name place) (is : c ≡ get_or cs place c) where
  abbrev new : Count
  new = count_after 1 c

  abbrev after : Count → Count
  after d = count_after (times_among (name ∷ []) d.id) d

  elsewhere : (k : ℕ) (d : Count) → k < length cs → k ≢ place → (get_or cs k d).id ≢ name → get_or (set cs place new) k d ≡ get_or (map after cs) k d
  elsewhere k d within apart other =
      get_or-set_other cs place k new d apart ∙ sym (after_other name (get_or cs k d) other) ∙ sym (get_or-map after cs k d d within)

  there : (d : Count) → get_or (set cs place new) place d ≡ get_or (map after cs) place d
  there d =
      let read : c ≡ get_or cs place d = get_or_read cs place c at.within is d in
      get_or-set_same cs place new d at.within
      ∙ ap (count_after 1) read ∙ sym (after_own name (get_or cs place d) (at.of_id d))
      ∙ sym (get_or-map after cs place d d at.within)

  each_place : (k : ℕ) (d : Count) → k < length cs → get_or (set cs place new) k d ≡ get_or (map after cs) k d
  each_place k d within =
      let named : (get_or cs place d).id ≡ name = at.of_id d in
      elim (cases_order k place) [
        | inl same ↦ subst (λ (p : ℕ). get_or (set cs place new) p d ≡ get_or (map after cs) p d) (sym same) (there d)
        | inr apart ↦ elim apart [
          | inl before ↦ (let less : (get_or cs k d).id < (get_or cs place d).id = rising k place d before at.within in
              elsewhere k d within (λ same. omega arith) (λ same. omega (arith, less, named, same)))
          | inr behind ↦ (let more : (get_or cs place d).id < (get_or cs k d).id = rising place k d behind within in
              elsewhere k d within (λ same. omega arith) (λ same. omega (arith, more, named, same)))
        ]
      ]

  pub after_at : set cs place (count_after 1 c) ≡ counts_after (name ∷ []) cs
  after_at =
      same_lists (set cs place new) (map after cs) (length-set cs place new ∙ sym (length-map cs after))
      (λ k d long. each_place k d (omega (arith, length-set cs place new)))

-- names leave the ids
pub after_rising : (names : List ℕ) (cs : List Count) → AreRising cs → AreRising (counts_after names cs)
after_rising names cs rising i j d up long =
    let after : Count → Count = λ c. count_after (times_among names c.id) c in
    let within : j < length cs = omega (arith, length-map cs after) in
    let first : (get_or (map after cs) i d).id ≡ (get_or cs i d).id = ap (λ (c : Count). c.id) (get_or-map after cs i d d (omega arith)) in
    let second : (get_or (map after cs) j d).id ≡ (get_or cs j d).id = ap (λ (c : Count). c.id) (get_or-map after cs j d d within) in
    let less : (get_or cs i d).id < (get_or cs j d).id = rising i j d up within in
    omega (arith, first, second, less)

-- ---- the names in what stands in a list

pub after_first : {A : Type 0} (f : A → List ℕ) (xs : List A) (cs : List Count) → cs ≡ counts_after (flat_map f (take 0 xs)) cs
after_first f xs cs = sym (counts_after-none cs)

pub after_more : {A : Type 0} (f : A → List ℕ) (xs : List A) (i : ℕ) (x : A) (old now new : List Count) → i < length xs → x ≡ get_or xs i x
    → now ≡ counts_after (flat_map f (take i xs)) old → new ≡ counts_after (f x) now → new ≡ counts_after (flat_map f (take (i + 1) xs)) old
after_more {A = A} f xs i x old now last within is before after =
    let front : take (i + 1) xs ≡ take i xs ++ x ∷ [] = take_more xs i x within ∙ ap (λ (y : A). take i xs ++ y ∷ []) (sym is) in
    let more : flat_map f (take i xs) ++ f x ≡ flat_map f (take (i + 1) xs) = flat_map_more f [] (take i xs) x ∙ ap (flat_map f) (sym front) in
    after ∙ ap (counts_after (f x)) before ∙ counts_after-counts_after (flat_map f (take i xs)) (f x) old
    ∙ ap (λ (ys : List ℕ). counts_after ys old) more

pub after_all : {A : Type 0} (f : A → List ℕ) (xs : List A) (i : ℕ) (old new : List Count) → length xs ≤ i
    → new ≡ counts_after (flat_map f (take i xs)) old → new ≡ counts_after (flat_map f xs) old
after_all {A = A} f xs i old last past before = before ∙ ap (λ (ys : List A). counts_after (flat_map f ys) old) (take_all i xs past)

pub rising_now : (names : List ℕ) (old now : List Count) → AreRising old → now ≡ counts_after names old → AreRising now
rising_now names old now rising is = subst AreRising (sym is) (after_rising names old rising)
