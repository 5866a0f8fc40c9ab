-- What a listing names: each entry of a directory, nothing else, and in the order of bytes.
use Rattle.std.proofs.Common.{◌≡◌, ℕ, zero, suc, ◌<◌, Bool, true, false, T, cond, List, [], ◌∷◌, ◌++◌, length, map, Option, None, Some, Less, Equal, Greater, refl, sym, ap, subst, ◌∙◌, arith}
use Rattle.std.proofs.lemmas.Cmp.{nat_list_cmp_total}
use Rattle.std.specs.Prelude.{◌&&◌, slice_index_or}
use Rattle.std.specs.List.{filter_map, cons_option, Contains, AllByRecursion}
use Rattle.std.specs.List.Sorted.{IsStrictlySortedBy}
use Rattle.std.specs.Ordering.{nat_cmp, is_lt, ordering_then}
use Rattle.std.specs.Cmp.{tied_itself}
use Rattle.std.specs.Cmp.Lexicographic.{slice_cmp}
use Rattle.std.specs.declared.cmp.Ordering.{Ordering}
use Rattle.std.specs.FinMap.{get, find, entries, is_sorted, get-entries, entries_sorted}
use Rattle.std.specs.FinMap.Entries.{below_all}
use Rattle.bd_command.specs.declared.reply.Listed.{Listed}
use Rattle.bd_names.specs.Names.{rest_below}
use Rattle.bd_names.proofs.NamesLaws.{rest_below-append, rest_below-some}
use Rattle.bd_model.specs.Tree.{Entry, is_directory, Tree, path_cmp}
use Rattle.bd_model.specs.Step.{child_of, children}
use Rattle.bd_model.proofs.PathOrder.{paths_total, same_path, same_path-true, same_path-equal, same_path-false}
use Rattle.bd_model.proofs.TreeGets.{Entries}

-- the child that an entry is
abbrev child : List (List ℕ) → List (List ℕ) × Entry → Option Listed
child p e = child_of (rest_below p e.0) e.1

abbrev named : List ℕ → Entry → Listed
named n x = record { name = n; is_dir = is_directory x }

here : {X : Type 0} (x y : X) (xs : List X) → x ≡ y → Contains (x ∷ xs) y
here x y xs e = (0, omega arith, e)

later : {X : Type 0} (x y : X) (xs : List X) → Contains xs y → Contains (x ∷ xs) y
later x y xs h = (suc h.0, omega arith, h.2)

later_if : {X : Type 0} (o : Option X) (y : X) (xs : List X) → Contains xs y → Contains (cons_option o xs) y
later_if None y xs h = h
later_if (Some x) y xs h = later x y xs h

-- ---- each entry is named

names_entry : (p : List (List ℕ)) (n : List ℕ) (x : Entry) (es : Entries) → find path_cmp (p ++ n ∷ []) es ≡ Some x → Contains (filter_map (child p) es) (named n x)
names_entry p n x [] h = absurd (cc)
names_entry p n x (e ∷ es) h = by (same_path (p ++ n ∷ []) e.0) refl h (names_entry p n x es)
  where
    by : (b : Bool) → same_path (p ++ n ∷ []) e.0 ≡ b → cond b (Some e.1) (find path_cmp (p ++ n ∷ []) es) ≡ Some x
        → (find path_cmp (p ++ n ∷ []) es ≡ Some x → Contains (filter_map (child p) es) (named n x))
        → Contains (cons_option (child p e) (filter_map (child p) es)) (named n x)
    by true at found ih =
        let key : e.0 ≡ p ++ n ∷ [] = sym (same_path-true (p ++ n ∷ []) e.0 at) in
        let value : e.1 ≡ x = cc in
        let is : child p e ≡ Some (named n x) = ap (λ (o : Option (List (List ℕ))). child_of o e.1) (ap (rest_below p) key ∙ rest_below-append p (n ∷ [])) ∙ ap (λ (y : Entry). Some (named n y)) value in
        subst (λ (o : Option Listed). Contains (cons_option o (filter_map (child p) es)) (named n x)) (sym is) (here (named n x) (named n x) (filter_map (child p) es) refl)
    by false at found ih = later_if (child p e) (named n x) (filter_map (child p) es) (ih found)

pub names_each : (t : Tree) (p : List (List ℕ)) (n : List ℕ) (x : Entry) → get t (p ++ n ∷ []) ≡ Some x → Contains (children p t) (record { name = n; is_dir = is_directory x })
names_each t p n x h = names_entry p n x (entries t) (sym (get-entries t (p ++ n ∷ [])) ∙ h)

-- ---- and nothing else

named_by : (o : Option (List (List ℕ))) (x : Entry) (l : Listed) → child_of o x ≡ Some l → (o ≡ Some (l.name ∷ [])) × (l.is_dir ≡ is_directory x)
named_by None x l h = absurd (cc)
named_by (Some []) x l h = absurd (cc)
named_by (Some (n ∷ [])) x l h =
    let is : named n x ≡ l = cc in
    (ap (λ (k : Listed). Some (k.name ∷ [])) is, ap (λ (k : Listed). k.is_dir) (sym is))
named_by (Some (n ∷ m ∷ ns)) x l h = absurd (cc)

-- an entry among others
record HasChild (p : List (List ℕ)) (l : Listed) (es : Entries) : Type 0 where
  entry : Entry
  at : Contains es (p ++ l.name ∷ [], entry)
  kind : l.is_dir ≡ is_directory entry

has_later : (p : List (List ℕ)) (l : Listed) (e : List (List ℕ) × Entry) (es : Entries) → HasChild p l es → HasChild p l (e ∷ es)
has_later p l e es h = record { entry = h.entry; at = later e (p ++ l.name ∷ [], h.entry) es h.at; kind = h.kind }

named_entry : (p : List (List ℕ)) (l : Listed) (es : Entries) (k : ℕ) → k < length (filter_map (child p) es) → slice_index_or (filter_map (child p) es) k l ≡ l → HasChild p l es
named_entry p l [] k h at = absurd (omega arith)
named_entry p l (e ∷ es) k h at = by (child p e) refl (named_entry p l es) k h at
  where
    by : (o : Option Listed) → child p e ≡ o
        → ((i : ℕ) → i < length (filter_map (child p) es) → slice_index_or (filter_map (child p) es) i l ≡ l → HasChild p l es)
        → (j : ℕ) → j < length (cons_option o (filter_map (child p) es)) → slice_index_or (cons_option o (filter_map (child p) es)) j l ≡ l → HasChild p l (e ∷ es)
    by None is ih j h at = has_later p l e es (ih j h at)
    by (Some y) is ih zero h at =
        let found = named_by (rest_below p e.0) e.1 l (is ∙ ap Some at) in
        record {
          entry = e.1;
          at = here e (p ++ l.name ∷ [], e.1) es (ap (λ (q : List (List ℕ)). (q, e.1)) (rest_below-some p e.0 (l.name ∷ []) found.0));
          kind = found.1;
        }
    by (Some y) is ih (suc j) h at = has_later p l e es (ih j (omega arith) at)

-- ---- an entry of a map is found

less : (r : Ordering) → T (is_lt r) → r ≡ Less
less Less h = refl
less Equal h = absurd h
less Greater h = absurd h

first : (a b : Bool) → T (a && b) → T a
first true b h = tt
first false b h = absurd h

second : (a b : Bool) → T (a && b) → T b
second true b h = h
second false b h = absurd h

below_at : (q : List (List ℕ)) (es : Entries) (k : ℕ) (d : List (List ℕ) × Entry) → k < length es → T (below_all path_cmp q es) → path_cmp q (slice_index_or es k d).0 ≡ Less
below_at q [] k d h below = absurd (omega arith)
below_at q (e ∷ es) zero d h below = less (path_cmp q e.0) (first (is_lt (path_cmp q e.0)) (below_all path_cmp q es) below)
below_at q (e ∷ es) (suc k) d h below = below_at q es k d (omega arith) (second (is_lt (path_cmp q e.0)) (below_all path_cmp q es) below)

less_apart : (p q : List (List ℕ)) → path_cmp p q ≡ Less → same_path q p ≡ false
less_apart p q h = same_path-false q p (λ same. tied same)
  where
    tied : q ≡ p → ⊥
    tied same = let both : Less ≡ Equal = sym h ∙ ap (path_cmp p) same ∙ tied_itself paths_total p in cc

find_at : (q : List (List ℕ)) (x : Entry) (es : Entries) (k : ℕ) → T (is_sorted path_cmp es) → k < length es → slice_index_or es k (q, x) ≡ (q, x) → find path_cmp q es ≡ Some x
find_at q x [] k sorted h at = absurd (omega arith)
find_at q x (e ∷ es) zero sorted h at =
    let key : e.0 ≡ q = ap (λ (y : List (List ℕ) × Entry). y.0) at in
    let value : e.1 ≡ x = ap (λ (y : List (List ℕ) × Entry). y.1) at in
    ap (λ (b : Bool). cond b (Some e.1) (find path_cmp q es)) (same_path-equal q e.0 (sym key)) ∙ ap Some value
find_at q x (e ∷ es) (suc k) sorted h at =
    let below : path_cmp e.0 (slice_index_or es k (q, x)).0 ≡ Less = below_at e.0 es k (q, x) (omega arith) (first (below_all path_cmp e.0 es) (is_sorted path_cmp es) sorted) in
    let after : path_cmp e.0 q ≡ Less = ap (λ (y : List (List ℕ) × Entry). path_cmp e.0 y.0) (sym at) ∙ below in
    ap (λ (b : Bool). cond b (Some e.1) (find path_cmp q es)) (less_apart e.0 q after)
    ∙ find_at q x es k (second (below_all path_cmp e.0 es) (is_sorted path_cmp es) sorted) (omega arith) at

pub names_only : (t : Tree) (p : List (List ℕ)) (l : Listed) → Contains (children p t) l → (x : Entry) × (get t (p ++ l.name ∷ []) ≡ Some x) × (l.is_dir ≡ is_directory x)
names_only t p l h =
    let found = named_entry p l (entries t) h.0 h.1 h.2 in
    (found.entry, get-entries t (p ++ l.name ∷ []) ∙ find_at (p ++ l.name ∷ []) found.entry (entries t) found.at.0 (entries_sorted t) found.at.1 found.at.2, found.kind)

-- ---- the names rise

abbrev name_cmp : List ℕ → List ℕ → Ordering
name_cmp = slice_cmp nat_cmp

-- after one front, paths compare as their rests do
path_cmp-front : (p r s : List (List ℕ)) → path_cmp (p ++ r) (p ++ s) ≡ path_cmp r s
path_cmp-front [] r s = refl
path_cmp-front (n ∷ p) r s = ap (λ (o : Ordering). ordering_then o (path_cmp (p ++ r) (p ++ s))) (tied_itself nat_list_cmp_total n) ∙ path_cmp-front p r s

then_less : (o : Ordering) → ordering_then o Equal ≡ Less → o ≡ Less
then_less Less h = refl
then_less Equal h = h
then_less Greater h = h

name_less : (p : List (List ℕ)) (n m : List ℕ) → path_cmp (p ++ n ∷ []) (p ++ m ∷ []) ≡ Less → name_cmp n m ≡ Less
name_less p n m h = then_less (name_cmp n m) (sym (path_cmp-front p (n ∷ []) (m ∷ [])) ∙ h)

abbrev names : List Listed → List (List ℕ)
names ls = map (λ l. l.name) ls

child_path : (p : List (List ℕ)) (e : List (List ℕ) × Entry) (l : Listed) → child p e ≡ Some l → e.0 ≡ p ++ l.name ∷ []
child_path p e l is = rest_below-some p e.0 (l.name ∷ []) (named_by (rest_below p e.0) e.1 l is).0

-- a name is below those that come after it
below_names : (p : List (List ℕ)) (n : List ℕ) (es : Entries) → T (below_all path_cmp (p ++ n ∷ []) es) → AllByRecursion (λ m. name_cmp n m ≡ Less) (names (filter_map (child p) es))
below_names p n [] below = tt
below_names p n (e ∷ es) below = by (child p e) refl (below_names p n es (second (is_lt (path_cmp (p ++ n ∷ []) e.0)) (below_all path_cmp (p ++ n ∷ []) es) below))
  where
    by : (o : Option Listed) → child p e ≡ o → AllByRecursion (λ m. name_cmp n m ≡ Less) (names (filter_map (child p) es)) → AllByRecursion (λ m. name_cmp n m ≡ Less) (names (cons_option o (filter_map (child p) es)))
    by None is ih = ih
    by (Some l) is ih =
        (name_less p n l.name (ap (path_cmp (p ++ n ∷ [])) (sym (child_path p e l is)) ∙ less (path_cmp (p ++ n ∷ []) e.0) (first (is_lt (path_cmp (p ++ n ∷ []) e.0)) (below_all path_cmp (p ++ n ∷ []) es) below)), ih)

names_sorted : (p : List (List ℕ)) (es : Entries) → T (is_sorted path_cmp es) → IsStrictlySortedBy name_cmp (names (filter_map (child p) es))
unfolding IsStrictlySortedBy
names_sorted p [] sorted = tt
names_sorted p (e ∷ es) sorted = by (child p e) refl (names_sorted p es (second (below_all path_cmp e.0 es) (is_sorted path_cmp es) sorted))
  where
    by : (o : Option Listed) → child p e ≡ o → IsStrictlySortedBy name_cmp (names (filter_map (child p) es)) → IsStrictlySortedBy name_cmp (names (cons_option o (filter_map (child p) es)))
    by None is ih = ih
    by (Some l) is ih = (below_names p l.name es (subst (λ (q : List (List ℕ)). T (below_all path_cmp q es)) (child_path p e l is) (first (below_all path_cmp e.0 es) (is_sorted path_cmp es) sorted)), ih)

pub names_rise : (t : Tree) (p : List (List ℕ)) → IsStrictlySortedBy (slice_cmp nat_cmp) (map (λ l. l.name) (children p t))
names_rise t p = names_sorted p (entries t) (entries_sorted t)
