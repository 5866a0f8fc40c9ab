-- Nodes that are added and exchanged one after the other.
use Rattle.std.proofs.Common.{◌≡◌, ℕ, ◌+◌, ◌-◌, ◌≤◌, zero, suc, refl, sym, ap, subst, ◌∙◌, arith, inl, inr, List, [], ◌∷◌, ◌++◌, length, length-append, append_assoc, map, nat_eq, vec_len, vec_capacity, IsSome, Option, None, Some, Global, cond, eqb, ltb, Bool, true, false}
use Rattle.std.specs.Prelude.{slice_get}
use Rattle.std.specs.List.{AllByRecursion, sum_by}
use Rattle.std.specs.HashMap.{hash_map_len, get, spare}
use Rattle.std.specs.declared.rc.Rc.{Rc}
use Rattle.std.proofs.lemmas.Bool.{cases_eq, cases_lt, cond-true, cond-false, eq-eqb, ne_eqb, lt-ltb, le-ltb}
use Rattle.std.proofs.lemmas.List.{length-map, map_push, map-append}
use Rattle.std.proofs.lemmas.List.Sums.{sum_by-append, sum_by-cons}
use Rattle.bd_node.specs.declared.node.Node.{Node}
use Rattle.bd_node.specs.declared.node.Change.{Change}
use Rattle.bd_node.specs.Meaning.{Nodes}
use Rattle.bd_node.specs.Tables.{times_in}
use Rattle.bd_node.specs.Steps.{changed_at, given_or, AreOnce}
use Rattle.bd_node.proofs.Lookup.{each_second}
use Rattle.bd_node.proofs.Stepping.{changed_at-same, changed_at-other, changed_at-none}
use Rattle.bd_memnodes.specs.declared.kept.Kept.{Kept}
use Rattle.bd_memnodes.specs.declared.plan.Exchange.{Exchange}
use Rattle.bd_memnodes.specs.Maps.{nodes_in, count_in, times_of}
use Rattle.bd_memnodes.specs.Releasing.{SameHead}
use Rattle.bd_memnodes.specs.Plans.{change_of}
use Rattle.bd_memnodes.specs.Stored.{with_made}
use Rattle.bd_memnodes.specs.Carried.{IsAdded, IsExchanged}

-- ---- one more element at a list's end

slice_get_push : {A : Type 0} (xs : List A) (x : A) (i : ℕ) → slice_get (xs ++ x ∷ []) i ≡ cond (eqb (length xs) i) (Some x) (slice_get xs i)
slice_get_push [] x zero = refl
slice_get_push [] x (suc i) = sym (cond-false (eqb 0 (suc i)) (Some x) None (ne_eqb 0 (suc i) (λ e. omega arith)))
slice_get_push (y ∷ ys) x zero = sym (cond-false (eqb (suc (length ys)) 0) (Some x) (Some y) (ne_eqb (suc (length ys)) 0 (λ e. omega arith)))
slice_get_push (y ∷ ys) x (suc i) =
    slice_get_push ys x i
    ∙ elim (cases_eq (length ys) i) [
      | inl same ↦ cond-true (eqb (length ys) i) (Some x) (slice_get ys i) (eq-eqb (length ys) i same)
          ∙ sym (cond-true (eqb (suc (length ys)) (suc i)) (Some x) (slice_get ys i) (eq-eqb (suc (length ys)) (suc i) (ap suc same)))
      | inr other ↦ cond-false (eqb (length ys) i) (Some x) (slice_get ys i) (ne_eqb (length ys) i other)
          ∙ sym (cond-false (eqb (suc (length ys)) (suc i)) (Some x) (slice_get ys i) (ne_eqb (suc (length ys)) (suc i) (λ e. other (omega arith))))
    ]

-- ---- made nodes

with_made-more : (next : ℕ) (made : List Node) (n : Node) (nodes : Nodes) (id : ℕ) → with_made next (made ++ n ∷ []) nodes id ≡ cond (eqb (next + length made) id) (Some n) (with_made next made nodes id)
with_made-more next made n nodes id =
    elim (cases_lt id next) [
      | inl low ↦
          cond-true (ltb id next) (nodes id) (given_or (slice_get (made ++ n ∷ []) (id - next)) (nodes id)) (lt-ltb id next low)
          ∙ sym (cond-true (ltb id next) (nodes id) (given_or (slice_get made (id - next)) (nodes id)) (lt-ltb id next low))
          ∙ sym (cond-false (eqb (next + length made) id) (Some n) (with_made next made nodes id) (ne_eqb (next + length made) id (λ e. omega arith)))
      | inr high ↦
          cond-false (ltb id next) (nodes id) (given_or (slice_get (made ++ n ∷ []) (id - next)) (nodes id)) (le-ltb id next high)
          ∙ ap (λ o. given_or o (nodes id)) (slice_get_push made n (id - next))
          ∙ elim (cases_eq (next + length made) id) [
            | inl same ↦
                ap (λ b. given_or (cond b (Some n) (slice_get made (id - next))) (nodes id)) (eq-eqb (length made) (id - next) (omega arith))
                ∙ sym (cond-true (eqb (next + length made) id) (Some n) (with_made next made nodes id) (eq-eqb (next + length made) id same))
            | inr other ↦
                ap (λ b. given_or (cond b (Some n) (slice_get made (id - next))) (nodes id)) (ne_eqb (length made) (id - next) (λ e. other (omega arith)))
                ∙ sym (cond-false (ltb id next) (nodes id) (given_or (slice_get made (id - next)) (nodes id)) (le-ltb id next high))
                ∙ sym (cond-false (eqb (next + length made) id) (Some n) (with_made next made nodes id) (ne_eqb (next + length made) id other))
          ]
    ]

-- of the made nodes these were added, and the rest are to come
pub record IsAdding (old : Kept) (made so_far rest : List (Rc Node Global)) (new : Kept) : Type 0 where
  pub all : so_far ++ rest ≡ made
  pub added : IsAdded old so_far new
  pub spare_nodes : spare old.nodes ≤ spare new.nodes + length so_far
  pub spare_counts : spare old.counts ≤ spare new.counts + length so_far

-- what adding one node leaves
pub record IsAddedOne (old : Kept) (shared : Rc Node Global) (new : Kept) : Type 0 where
  pub nodes : (id : ℕ) → nodes_in new.nodes id ≡ cond (eqb old.next id) (Some shared.value) (nodes_in old.nodes id)
  pub counts : (c : ℕ) → count_in new.counts c ≡ count_in old.counts c
  pub there : IsSome (get nat_eq new.counts old.next)
  pub others : (c : ℕ) → IsSome (get nat_eq old.counts c) → IsSome (get nat_eq new.counts c)
  pub spare_nodes : spare old.nodes ≤ spare new.nodes + 1
  pub spare_counts : spare old.counts ≤ spare new.counts + 1
  pub len : hash_map_len new.nodes ≤ hash_map_len old.nodes + 1
  pub next : new.next ≡ old.next + 1
  pub dead : new.dead ≡ old.dead
  pub root : new.root ≡ old.root
  pub size : new.size ≡ old.size

pub added_one : (old : Kept) (made xs rest : List (Rc Node Global)) (x : Rc Node Global) (mid new : Kept) → IsAdding old made xs (x ∷ rest) mid → IsAddedOne mid x new → IsAdding old made (xs ++ x ∷ []) rest new
added_one old made xs rest x mid new h one =
    let longer : length (xs ++ x ∷ []) ≡ length xs + 1 = length-append xs (x ∷ []) in
    let at : mid.next ≡ old.next + length xs = h.added.next in
    record {
      all = append_assoc xs (x ∷ []) rest ∙ h.all;
      added = record {
        nodes = λ id.
            one.nodes id
            ∙ ap (λ k. cond (eqb k id) (Some x.value) (nodes_in mid.nodes id)) (at ∙ ap (λ k. old.next + k) (sym (length-map xs (λ shared. shared.value))))
            ∙ ap (λ o. cond (eqb (old.next + length (map (λ shared. shared.value) xs)) id) (Some x.value) o) (h.added.nodes id)
            ∙ sym (with_made-more old.next (map (λ shared. shared.value) xs) x.value (nodes_in old.nodes) id)
            ∙ sym (ap (λ (ns : List Node). with_made old.next ns (nodes_in old.nodes) id) (map_push (λ shared. shared.value) xs x));
        counts = λ c. one.counts c ∙ h.added.counts c;
        there = λ c low high.
            elim (cases_eq c mid.next) [
              | inl same ↦ subst (λ (d : ℕ). IsSome (get nat_eq new.counts d)) (sym same) one.there
              | inr other ↦ one.others c (h.added.there c low (omega arith))
            ];
        others = λ c some. one.others c (h.added.others c some);
        len = (let a : hash_map_len new.nodes ≤ hash_map_len mid.nodes + 1 = one.len in
            let b : hash_map_len mid.nodes ≤ hash_map_len old.nodes + length xs = h.added.len in omega arith);
        next = one.next ∙ omega arith;
        dead = one.dead ∙ h.added.dead;
        root = one.root ∙ h.added.root;
        size = one.size ∙ h.added.size;
      };
      spare_nodes = (let a : spare mid.nodes ≤ spare new.nodes + 1 = one.spare_nodes in
          let b : spare old.nodes ≤ spare mid.nodes + length xs = h.spare_nodes in omega arith);
      spare_counts = (let a : spare mid.counts ≤ spare new.counts + 1 = one.spare_counts in
          let b : spare old.counts ≤ spare mid.counts + length xs = h.spare_counts in omega arith);
    }

pub with_made-none : (next : ℕ) (nodes : Nodes) (id : ℕ) → nodes id ≡ with_made next [] nodes id
with_made-none next nodes id =
    elim (cases_lt id next) [
      | inl low ↦ sym (cond-true (ltb id next) (nodes id) (nodes id) (lt-ltb id next low))
      | inr high ↦ sym (cond-false (ltb id next) (nodes id) (nodes id) (le-ltb id next high))
    ]

pub adding_begun : (old : Kept) (made rest : List (Rc Node Global)) → rest ≡ made → IsAdding old made [] rest old
adding_begun old made rest is = record {
  all = is;
  added = record {
    nodes = λ id. with_made-none old.next (nodes_in old.nodes) id;
    counts = λ c. refl;
    there = λ c low high. absurd (omega arith);
    others = λ c some. some;
    len = omega arith;
    next = omega arith;
    dead = refl;
    root = refl;
    size = refl;
  };
  spare_nodes = omega arith;
  spare_counts = omega arith;
}

-- there is room for the next one
pub room_for_one : (made xs rest : List (Rc Node Global)) (x : Rc Node Global) → xs ++ x ∷ rest ≡ made → length xs + 1 ≤ length made
room_for_one made xs rest x e =
    let a : length made ≡ length xs + length (x ∷ rest) = ap length (sym e) ∙ length-append xs (x ∷ rest) in omega arith

-- ---- changed nodes

changed_at-more : (cs : List Change) (d : Change) (id : ℕ) → AllByRecursion (λ (e : Change). e.id ≡ d.id → ⊥) cs → changed_at (cs ++ d ∷ []) id ≡ cond (eqb d.id id) (Some d.node) (changed_at cs id)
changed_at-more [] d id apart =
    elim (cases_eq d.id id) [
      | inl same ↦ changed_at-same d [] id (sym same) ∙ sym (cond-true (eqb d.id id) (Some d.node) None (eq-eqb d.id id same))
      | inr other ↦ changed_at-other d [] id (λ e. other (sym e)) ∙ sym (cond-false (eqb d.id id) (Some d.node) None (ne_eqb d.id id other))
    ]
changed_at-more (c ∷ cs) d id apart =
    elim (cases_eq id c.id) [
      | inl same ↦ changed_at-same c (cs ++ d ∷ []) id same
          ∙ sym (cond-false (eqb d.id id) (Some d.node) (changed_at (c ∷ cs) id) (ne_eqb d.id id (λ e. apart.0 (sym same ∙ sym e))) ∙ changed_at-same c cs id same)
      | inr other ↦ changed_at-other c (cs ++ d ∷ []) id other ∙ changed_at-more cs d id apart.1
          ∙ sym (ap (λ o. cond (eqb d.id id) (Some d.node) o) (changed_at-other c cs id other))
    ]

once_before : (cs : List Change) (d : Change) (ds : List Change) → AreOnce (cs ++ d ∷ ds) → AllByRecursion (λ (e : Change). e.id ≡ d.id → ⊥) cs
once_before [] d ds once = tt
once_before (c ∷ cs) d ds once = ((λ e. (each_second (λ (f : Change). f.id ≡ c.id → ⊥) cs (d ∷ ds) once.0).0 (sym e)), once_before cs d ds once.1)

given_cond : (b : Bool) (n : Node) (o old : Option Node) → cond b (Some n) (given_or o old) ≡ given_or (cond b (Some n) o) old
given_cond true n o old = refl
given_cond false n o old = refl

-- of the changes these were made, and the rest are to come
pub record IsExchanging (old : Kept) (changes so_far rest : List Exchange) (new : Kept) : Type 0 where
  pub all : so_far ++ rest ≡ changes
  pub exchanged : IsExchanged old so_far new
  pub there : (i : ℕ) → IsSome (get nat_eq old.nodes i) → IsSome (get nat_eq new.nodes i)
  pub len : hash_map_len new.nodes ≡ hash_map_len old.nodes
  pub dead : vec_len new.dead ≡ vec_len old.dead + length so_far
  pub capacity : vec_capacity old.dead ≤ vec_capacity new.dead

-- what one change leaves
pub record IsExchangedOne (old : Kept) (id : ℕ) (shared : Rc Node Global) (new : Kept) : Type 0 where
  pub nodes : (i : ℕ) → nodes_in new.nodes i ≡ cond (eqb id i) (Some shared.value) (nodes_in old.nodes i)
  pub others : (i : ℕ) → IsSome (get nat_eq old.nodes i) → IsSome (get nat_eq new.nodes i)
  pub waits : (c : ℕ) → times_of new.dead.items c ≡ times_of old.dead.items c + times_in (nodes_in old.nodes id) c
  pub dead : vec_len new.dead ≡ vec_len old.dead + 1
  pub capacity : vec_capacity old.dead ≤ vec_capacity new.dead
  pub len : hash_map_len new.nodes ≡ hash_map_len old.nodes
  pub counts : new.counts ≡ old.counts
  pub head : SameHead old new

before_apart : (changes xs rest : List Exchange) (x : Exchange) → xs ++ x ∷ rest ≡ changes → AreOnce (map change_of changes) → AllByRecursion (λ (e : Change). e.id ≡ x.id → ⊥) (map change_of xs)
before_apart changes xs rest x all once =
    once_before (map change_of xs) (change_of x) (map change_of rest)
    (subst (λ (cs : List Change). AreOnce cs) (sym (ap (λ ys. map change_of ys) all) ∙ map-append change_of xs (x ∷ rest)) once)

pub exchanged_one : (old : Kept) (changes xs rest : List Exchange) (x : Exchange) (mid new : Kept) → AreOnce (map change_of changes)
    → IsExchanging old changes xs (x ∷ rest) mid → IsExchangedOne mid x.id x.node new → IsExchanging old changes (xs ++ x ∷ []) rest new
exchanged_one old changes xs rest x mid new once h one =
    let longer : length (xs ++ x ∷ []) ≡ length xs + 1 = length-append xs (x ∷ []) in
    let apart = before_apart changes xs rest x h.all once in
    let untouched : nodes_in mid.nodes x.id ≡ nodes_in old.nodes x.id =
    h.exchanged.nodes x.id ∙ ap (λ o. given_or o (nodes_in old.nodes x.id)) (changed_at-none (λ i. i ≡ x.id → ⊥) (map change_of xs) x.id apart (λ out. out refl)) in
    record {
      all = append_assoc xs (x ∷ []) rest ∙ h.all;
      exchanged = record {
        nodes = λ id.
            one.nodes id
            ∙ ap (λ o. cond (eqb x.id id) (Some x.node.value) o) (h.exchanged.nodes id)
            ∙ given_cond (eqb x.id id) x.node.value (changed_at (map change_of xs) id) (nodes_in old.nodes id)
            ∙ sym (ap (λ o. given_or o (nodes_in old.nodes id)) (ap (λ (cs : List Change). changed_at cs id) (map_push change_of xs x) ∙ changed_at-more (map change_of xs) (change_of x) id apart));
        waits = λ c.
            let a : times_of new.dead.items c ≡ times_of mid.dead.items c + times_in (nodes_in mid.nodes x.id) c = one.waits c in
            let b : times_of mid.dead.items c ≡ times_of old.dead.items c + sum_by (λ (change : Exchange). times_in (nodes_in old.nodes change.id) c) xs = h.exchanged.waits c in
            let d : times_in (nodes_in mid.nodes x.id) c ≡ times_in (nodes_in old.nodes x.id) c = ap (λ o. times_in o c) untouched in
            let e : sum_by (λ (change : Exchange). times_in (nodes_in old.nodes change.id) c) (xs ++ x ∷ []) ≡ sum_by (λ (change : Exchange). times_in (nodes_in old.nodes change.id) c) xs + times_in (nodes_in old.nodes x.id) c =
            sum_by-append (λ (change : Exchange). times_in (nodes_in old.nodes change.id) c) xs (x ∷ [])
            ∙ ap (λ (k : ℕ). sum_by (λ (change : Exchange). times_in (nodes_in old.nodes change.id) c) xs + k) (sum_by-cons (λ (change : Exchange). times_in (nodes_in old.nodes change.id) c) x [] ∙ omega arith) in
            omega arith;
        counts = one.counts ∙ h.exchanged.counts;
        head = record {
          root = one.head.root ∙ h.exchanged.head.root;
          size = one.head.size ∙ h.exchanged.head.size;
          next = one.head.next ∙ h.exchanged.head.next;
        };
      };
      there = λ i some. one.others i (h.there i some);
      len = one.len ∙ h.len;
      dead = (let a : vec_len new.dead ≡ vec_len mid.dead + 1 = one.dead in let b : vec_len mid.dead ≡ vec_len old.dead + length xs = h.dead in omega arith);
      capacity = (let a : vec_capacity mid.dead ≤ vec_capacity new.dead = one.capacity in let b : vec_capacity old.dead ≤ vec_capacity mid.dead = h.capacity in omega arith);
    }

pub exchanging_begun : (old : Kept) (changes rest : List Exchange) → rest ≡ changes → IsExchanging old changes [] rest old
exchanging_begun old changes rest is = record {
  all = is;
  exchanged = record {
    nodes = λ id. refl;
    waits = λ c. omega arith;
    counts = refl;
    head = record { root = refl; size = refl; next = refl };
  };
  there = λ i some. some;
  len = refl;
  dead = omega arith;
  capacity = omega arith;
}

-- the node of the next change is there
pub next_there : (old : Kept) (changes xs rest : List Exchange) (x : Exchange) (mid : Kept) → AllByRecursion (λ (change : Exchange). IsSome (get nat_eq old.nodes change.id)) changes
    → IsExchanging old changes xs (x ∷ rest) mid → IsSome (get nat_eq mid.nodes x.id)
next_there old changes xs rest x mid there h =
    h.there x.id (each_second (λ (change : Exchange). IsSome (get nat_eq old.nodes change.id)) xs (x ∷ rest)
    (subst (λ (cs : List Exchange). AllByRecursion (λ (change : Exchange). IsSome (get nat_eq old.nodes change.id)) cs) (sym h.all) there)).0

pub next_room : (changes xs rest : List Exchange) (x : Exchange) → xs ++ x ∷ rest ≡ changes → length xs + 1 ≤ length changes
next_room changes xs rest x e =
    let a : length changes ≡ length xs + length (x ∷ rest) = ap length (sym e) ∙ length-append xs (x ∷ rest) in omega arith
