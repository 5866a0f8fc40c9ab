-- One verdict is right of a map.
use Rattle.std.proofs.Common.{◌≡◌, ℕ, zero, suc, ◌+◌, ◌*◌, ◌-◌, ◌^◌, ◌<◌, ◌≤◌, ◌⊎◌, inl, inr, Bool, List, [], ◌∷◌, ◌++◌, length, get_or, Option, None, Some, refl, sym, ap, subst, ◌∙◌, arith}
use Rattle.std.specs.Prelude.{IsSome, IfSome, is_some, slice_index}
use Rattle.std.specs.Int.{w32}
use Rattle.std.specs.Option.{option_map, unwrap_or}
use Rattle.std.specs.FinMap.{get}
use Rattle.std.specs.List.{AllByRecursion}
use Rattle.std.proofs.lemmas.Bool.{cases_lt, cases_order}
use Rattle.std.proofs.lemmas.List.{get_or_past}
use Rattle.bd_limits.specs.Limits.{block_limit}
use Rattle.bd_wire.specs.Numbers.{be}
use Rattle.bd_keys.specs.Keys.{IsKey, IsAtLeast}
use Rattle.bd_keys.proofs.Order.{IsKey-rest, IsKey-cons, IsKey-nil, below_from, not_below_itself, not_below_nil}
use Rattle.bd_names.specs.Names.{AreNames, key_of}
use Rattle.bd_model.specs.Tree.{Entry, Directory, FileWith, Tree, IsEntry}
use Rattle.bd_model.specs.Step.{file_bytes}
use Rattle.bd_message.specs.KeyMaps.{At, IsNextEntry}
use Rattle.bd_represent.specs.EntryKeys.{record_key, block_key}
use Rattle.bd_represent.specs.Represents.{record_value}
use Rattle.bd_represent.proofs.TreeLemmas.{Represents-along}
use Rattle.bd_scan.specs.declared.scan.Found.{Found}
use Rattle.bd_scan.specs.Scans.{AreNext}
use Rattle.bd_entries.specs.declared.mark.Mark.{Mark}
use Rattle.bd_entries.specs.declared.check.Entries.{Entries}
use Rattle.bd_entries.specs.declared.check.Entries.TheVariants.{Tree as Whole, Broken, Limit}
use Rattle.bd_entries.specs.Fronts.{IsTreeOf, HasTree, before, key_past, HasBelow, EndsAt}
use Rattle.bd_entries.specs.Marks.{IsBlockAt, IsSeen}
use Rattle.bd_entries.specs.Verdicts.{IsWhole, IsBroken, IsOver, IsVerdict}
use Rattle.bd_entries.proofs.KeyOrder.{one_least, from_both, below_next}
use Rattle.bd_entries.proofs.Below.{was_there, before_before, before_below, same_other, further, not_end}
use Rattle.bd_entries.proofs.Growing.{some_is, directory_some}
use Rattle.bd_entries.proofs.Steps.{block_seen, child_seen, root_seen}
use Rattle.bd_entries.proofs.Nexts.{IsFirst, IsChildAt, first_is, next_is}
use Rattle.bd_entries.proofs.Passing.{least_first}

-- ---- rows of keys

-- there is one next entry
one_next : (at : At) (from : List ℕ) (f g : Found) → IsNextEntry at from [] (Some (f.key, f.value)) → IsNextEntry at from [] (Some (g.key, g.value)) → f ≡ g
one_next at from f g hf hg =
    let keys : f.key ≡ g.key = one_least f.key g.key (hg.0.1 f.key hf.0.0) (hf.0.1 g.key hg.0.0) in
    let values : Some f.value ≡ Some g.value = sym hf.1 ∙ ap at keys ∙ hg.1 in
    let value : f.value ≡ g.value = cc in
    let first : ◌≡◌ {A = Found} f (record { key = g.key; value = f.value }) = ap (λ (k : List ℕ). record { key = k; value = f.value }) keys in
    let second : ◌≡◌ {A = Found} (record { key = g.key; value = f.value }) g = ap (λ (v : List ℕ). record { key = g.key; value = v }) value in
    first ∙ second

-- the longer of two rows goes on where the other one ends
row_goes_on : (at : At) (from : List ℕ) (fs gs : List Found) → AreNext at from [] fs → AreNext at from [] gs → length fs ≤ length gs
    → (rest : List Found) × (length rest ≡ length gs - length fs) × AreNext at (key_past from fs) [] rest × (key_past from gs ≡ key_past (key_past from fs) rest)
row_goes_on at from [] gs hf hg le = (gs, omega arith, hg, refl)
row_goes_on at from (f ∷ fs) [] hf hg le = absurd (omega arith)
row_goes_on at from (f ∷ fs) (g ∷ gs) hf hg le =
    let same : g ≡ f = one_next at from g f hg.0 hf.0 in
    let later : AreNext at (f.key ++ 0 ∷ []) [] gs = subst (λ (x : Found). AreNext at (x.key ++ 0 ∷ []) [] gs) same hg.1 in
    let on = row_goes_on at (f.key ++ 0 ∷ []) fs gs hf.1 later (omega arith) in
    (on.0, omega (arith, on.1), on.2, ap (λ (x : Found). key_past (x.key ++ 0 ∷ []) gs) same ∙ on.3)

-- a row never goes back
past_from : (at : At) (from : List ℕ) (fs : List Found) → AreNext at from [] fs → IsAtLeast (key_past from fs) from
past_from at from [] h = not_below_itself from
past_from at from (f ∷ fs) h = from_both (key_past (f.key ++ 0 ∷ []) fs) (f.key ++ 0 ∷ []) from (past_from at (f.key ++ 0 ∷ []) fs h.1) (further at from f.key f.value h.0)

-- the same row stands in a front that has all of it
row_in_front : (at : At) (high from : List ℕ) (fs : List Found) → AreNext at from [] fs → IsAtLeast high (key_past from fs) → AreNext (before at high) from [] fs
row_in_front at high from [] h above = tt
row_in_front at high from (f ∷ fs) h above = (here, row_in_front at high (f.key ++ 0 ∷ []) fs h.1 above)
  where
    past : IsAtLeast high (f.key ++ 0 ∷ [])
    past = from_both high (key_past (f.key ++ 0 ∷ []) fs) (f.key ++ 0 ∷ []) above (past_from at (f.key ++ 0 ∷ []) fs h.1)

    stands : before at high f.key ≡ Some f.value
    stands = before_below at high f.key (below_from f.key (f.key ++ 0 ∷ []) high (below_next f.key) past) ∙ h.0.1

    here : IsNextEntry (before at high) from [] (Some (f.key, f.value))
    here = (((subst IsSome (sym stands) refl, h.0.0.0.1, refl), λ k found. h.0.0.1 k (was_there at high k found.0, found.1, found.2)), stands)

-- ---- the fronts of a map that is a tree's are trees'

is_key_or_not : (k : List ℕ) → (IsKey k) ⊎ (IsKey k → ⊥)
is_key_or_not [] = inl IsKey-nil
is_key_or_not (b ∷ k) = by (cases_lt b 256) (is_key_or_not k)
  where
    by : (b < 256) ⊎ (256 ≤ b) → (IsKey k) ⊎ (IsKey k → ⊥) → (IsKey (b ∷ k)) ⊎ (IsKey (b ∷ k) → ⊥)
    by (inl small) (inl rest) = inl (IsKey-cons b k small rest)
    by (inl small) (inr never) = inr (λ h. never (IsKey-rest b k h))
    by (inr large) any = inr (λ h. (let first : b < 256 = h 0 in absurd (omega arith)))

tree_along : (has_modes : Bool) (old new : At) (t : Tree) → ((k : List ℕ) → IsKey k → new k ≡ old k) → IsTreeOf has_modes old t → IsTreeOf has_modes new t
tree_along has_modes old new t same of = record { tree = of.tree; modes = of.modes; represents = Represents-along old new t same of.represents }

byte_at : (l : List ℕ) (i : ℕ) → AllByRecursion (λ b. b < 256) l → get_or l i 0 < 256
byte_at [] i h = omega arith
byte_at (b ∷ l) zero h = h.0
byte_at (b ∷ l) (suc i) h = byte_at l i h.1

-- a stored block has bytes
block_bytes : (has_modes : Bool) (at : At) (t : Tree) (path : List (List ℕ)) (i : ℕ) (value : List ℕ) → IsTreeOf has_modes at t → AreNames path → i < 2 ^ 32 → length value ≤ block_limit → at (block_key path i) ≡ Some value → IsKey value
block_bytes has_modes at t path i value of names small short is j = by (cases_lt j block_limit)
  where
    bytes_of : (o : Option Entry) → IfSome o IsEntry → AllByRecursion (λ b. b < 256) (file_bytes o)
    bytes_of None h = tt
    bytes_of (Some (Directory mode)) h = tt
    bytes_of (Some (FileWith mode bytes)) h = h.1

    by : (j < block_limit) ⊎ (block_limit ≤ j) → slice_index value j < 256
    by (inl inside) =
        subst (λ (n : ℕ). n < 256)
        ((of.represents.files path names).bytes i j small inside ∙ ap (λ (o : Option (List ℕ)). slice_index (unwrap_or o []) j) is)
        (byte_at (file_bytes (get t path)) (block_limit * i + j) (bytes_of (get t path) (of.tree.entries path)))
    by (inr past) = subst (λ (n : ℕ). n < 256) (sym (get_or_past value j 0 (omega (arith, short, past)))) (omega arith)

-- where all of it is a tree's, one key more is
next_seen : (has_modes : Bool) (at : At) (low key value : List ℕ) (mark : Mark) (u : Tree) → IsTreeOf has_modes at u → IsSeen has_modes at low mark → IsNextEntry at low [] (Some (key, value)) → (m : Mark) × IsSeen has_modes at (key ++ 0 ∷ []) m
next_seen has_modes at low key value mark u of seen next = by (is_key_or_not key)
  where
    names : AreNames seen.marked.path
    names = seen.is.tree.names seen.marked.path (ap is_some seen.marked.has)

    on : (IsBlockAt mark key value) ⊎ (IsChildAt has_modes seen.marked.path mark.entry key value) → (m : Mark) × IsSeen has_modes at (key ++ 0 ∷ []) m
    on (inl block) =
        let here : at (block_key seen.marked.path block.number) ≡ Some value = ap at (ap (λ (k : List ℕ). k ++ 0 ∷ 1 ∷ be w32 block.number) (sym seen.marked.key_is) ∙ sym block.key_is) ∙ next.1 in
        (mark, block_seen has_modes at low key value mark (block_bytes has_modes at u seen.marked.path block.number value of names block.small block.block.1 here) seen block next)
    on (inr c) =
        let new : Mark = record { path = key_of c.child; entry = c.new } in (
          new,
          subst (λ (k : List ℕ). IsSeen has_modes at (k ++ 0 ∷ []) new) (sym c.key_is)
              (child_seen has_modes at low value mark new c.child c.new seen c.is_child (subst (λ (k : List ℕ). IsNextEntry at low [] (Some (k, value))) c.key_is next) c.within c.allowed c.value_is refl refl),
        )

    by : (IsKey key) ⊎ (IsKey key → ⊥) → (m : Mark) × IsSeen has_modes at (key ++ 0 ∷ []) m
    by (inl is_key) = on (next_is has_modes at low key value mark u of seen next is_key)
    by (inr never) = (
      mark,
      record {
        tree = seen.tree;
        is = tree_along has_modes (before at low) (before at (key ++ 0 ∷ [])) seen.tree (λ k is_key. same_other at low key value next k (λ same. never (subst IsKey same is_key))) seen.is;
        marked = seen.marked;
      },
    )

row_seen : (has_modes : Bool) (at : At) (low : List ℕ) (fs : List Found) (mark : Mark) (u : Tree) → IsTreeOf has_modes at u → IsSeen has_modes at low mark → AreNext at low [] fs → (m : Mark) × IsSeen has_modes at (key_past low fs) m
row_seen has_modes at low [] mark u of seen next = (mark, seen)
row_seen has_modes at low (f ∷ fs) mark u of seen next =
    let later = next_seen has_modes at low f.key f.value mark u of seen next.0 in
    row_seen has_modes at (f.key ++ 0 ∷ []) fs later.0 u of later.1 next.1

root_there : (has_modes : Bool) (at : At) (u : Tree) → IsTreeOf has_modes at u → IsSome (at (record_key []))
root_there has_modes at u of =
    let e = some_is (get u []) (directory_some (get u []) of.tree.root) in
    subst IsSome (sym (of.represents.records [] refl ∙ ap (option_map record_value) e.1)) refl

-- the first keys, at least one, of a map that is a tree's, are a tree's
front_seen : (has_modes : Bool) (at : At) (fs : List Found) (u : Tree) → IsTreeOf has_modes at u → AreNext at [] [] fs → 1 ≤ length fs → HasTree has_modes (before at (key_past [] fs))
front_seen has_modes at [] u of next some = absurd (omega arith)
front_seen has_modes at (f ∷ fs) u of next some = (last.1.tree, last.1.is)
  where
    first : IsFirst has_modes f.key f.value
    first = first_is has_modes at f.key f.value u of next.0

    mark : Mark
    mark = record { path = []; entry = first.entry }

    begun : IsSeen has_modes at (f.key ++ 0 ∷ []) mark
    begun =
        subst (λ (k : List ℕ). IsSeen has_modes at (k ++ 0 ∷ []) mark) (sym first.key_is)
        (root_seen has_modes at f.value first.entry mark (subst (λ (k : List ℕ). IsNextEntry at [] [] (Some (k, f.value))) first.key_is next.0) first.within first.allowed first.directory first.value_is refl refl)

    last : (m : Mark) × IsSeen has_modes at (key_past (f.key ++ 0 ∷ []) fs) m
    last = row_seen has_modes at (f.key ++ 0 ∷ []) fs mark u of begun next.1

-- ---- verdicts exclude each other

-- where a key is the next after so many and others after more, a row of keys leads from the one to the others
goes_on : (at : At) (n m : ℕ) (low high : List ℕ) → HasBelow at n low → HasBelow at m high → n ≤ m → (rest : List Found) × (length rest ≡ m - n) × AreNext at low [] rest × (high ≡ key_past low rest)
goes_on at n m low high a b le =
    let on = row_goes_on at [] a.found b.found a.each b.each (omega (arith, le, a.count, b.count)) in
    (on.0, omega (arith, on.1, a.count, b.count), subst (λ (k : List ℕ). AreNext at k [] on.0) (sym a.past) on.2, b.past ∙ on.3 ∙ ap (λ (k : List ℕ). key_past k on.0) (sym a.past))

row_left : (at : At) (low : List ℕ) (rest : List Found) → 0 < length rest → AreNext at low [] rest → EndsAt at low → ⊥
row_left at low [] some next ends = absurd (omega arith)
row_left at low (f ∷ fs) some next ends = not_end at low f.key f.value next.0 ends

no_more : (at : At) (n m : ℕ) (low high : List ℕ) → HasBelow at n low → HasBelow at m high → n < m → EndsAt at low → ⊥
no_more at n m low high a b less ends =
    let on = goes_on at n m low high a b (omega arith) in
    row_left at low on.0 (omega (arith, on.1)) on.2 ends

same_end : (at : At) (n : ℕ) (low high : List ℕ) → HasBelow at n low → HasBelow at n high → low ≡ high
same_end at n low high a b =
    let on = goes_on at n n low high a b (omega arith) in
    sym (on.3 ∙ none on.0 (omega (arith, on.1)))
  where
    none : (rest : List Found) → length rest ≡ 0 → key_past low rest ≡ low
    none [] h = refl
    none (f ∷ fs) h = absurd (omega arith)

whole_one : (has_modes : Bool) (at : At) (most n m : ℕ) → IsWhole has_modes at most n → IsWhole has_modes at most m → n ≡ m
whole_one has_modes at most n m a b = by (cases_order n m)
  where
    by : (n ≡ m) ⊎ ((n < m) ⊎ (m < n)) → n ≡ m
    by (inl same) = same
    by (inr (inl less)) = absurd (no_more at n m a.low b.low a.below b.below less a.ends)
    by (inr (inr more)) = absurd (no_more at m n b.low a.low b.below a.below more b.ends)

whole_over : (has_modes : Bool) (at : At) (most n : ℕ) → IsWhole has_modes at most n → IsOver has_modes at most → ⊥
whole_over has_modes at most n a b = by (cases_lt n most)
  where
    by : (n < most) ⊎ (most ≤ n) → ⊥
    by (inl less) = no_more at n most a.low b.low a.below b.below less a.ends
    by (inr full) =
        let same : n ≡ most = omega (arith, full, a.few) in
        b.more (subst (EndsAt at) (same_end at most a.low b.low (subst (λ (k : ℕ). HasBelow at k a.low) same a.below) b.below) a.ends)

broken_over : (has_modes : Bool) (at : At) (most : ℕ) → IsBroken has_modes at most → IsOver has_modes at most → ⊥
broken_over has_modes at most a b = by (cases_lt 0 a.keys)
  where
    on : (rest : List Found) × (length rest ≡ most - a.keys) × AreNext at a.low [] rest × (b.low ≡ key_past a.low rest)
    on = goes_on at a.keys most a.low b.low a.below b.below a.few

    above : IsAtLeast b.low a.low
    above = subst (λ (k : List ℕ). IsAtLeast k a.low) (sym on.3) (past_from at a.low on.0 on.2)

    by : (0 < a.keys) ⊎ (a.keys ≤ 0) → ⊥
    by (inl some) =
        let row = row_in_front at b.low [] a.below.found a.below.each (subst (λ (k : List ℕ). IsAtLeast b.low k) a.below.past above) in
        let front = front_seen has_modes (before at b.low) a.below.found b.front.0 b.front.1 row (omega (arith, some, a.below.count)) in
        let same : before (before at b.low) (key_past [] a.below.found) ≡ before at a.low = subst (λ (k : List ℕ). before (before at b.low) k ≡ before at a.low) a.below.past (before_before at a.low b.low above) in
        a.front front.0 (subst (λ (m : At). IsTreeOf has_modes m front.0) same front.1)
    by (inr none) =
        let root = was_there at b.low (record_key []) (root_there has_modes (before at b.low) b.front.0 b.front.1) in
        let low : a.low ≡ [] = least_first at a.keys a.low a.below (omega (arith, none)) in
        subst (EndsAt at) low (a.ends (omega (arith, none))) (record_key []) (root, not_below_nil (record_key []), refl)

pub one_verdict : (has_modes : Bool) (at : At) (most : ℕ) (v w : Entries) → IsVerdict has_modes at most v → IsVerdict has_modes at most w → v ≡ w
one_verdict has_modes at most (Whole n) (Whole m) a b = ap Whole (whole_one has_modes at most n m a b)
one_verdict has_modes at most (Whole n) Broken a b = absurd (b.none a.tree.0 a.tree.1)
one_verdict has_modes at most (Whole n) Limit a b = absurd (whole_over has_modes at most n a b)
one_verdict has_modes at most Broken (Whole m) a b = absurd (a.none b.tree.0 b.tree.1)
one_verdict has_modes at most Broken Broken a b = refl
one_verdict has_modes at most Broken Limit a b = absurd (broken_over has_modes at most a b)
one_verdict has_modes at most Limit (Whole m) a b = absurd (whole_over has_modes at most m b a)
one_verdict has_modes at most Limit Broken a b = absurd (broken_over has_modes at most b a)
one_verdict has_modes at most Limit Limit a b = refl
