-- The names in a directory: those after one, and the first of them.
use Rattle.std.proofs.Common.{◌≡◌, ◌⊎◌, inl, inr, ℕ, zero, suc, ◌<◌, List, [], ◌∷◌, ◌++◌, length, map, Bool, true, false, cond, Option, None, Some, Less, Equal, Greater, refl, sym, ap, subst, ◌∙◌, arith, append_assoc}
use Rattle.std.specs.Prelude.{slice_index_or}
use Rattle.std.specs.List.{filter, filter_map, Contains, AllByRecursion}
use Rattle.std.specs.List.Sorted.{IsStrictlySortedBy}
use Rattle.std.specs.Ordering.{nat_cmp, is_lt, is_le, is_eq}
use Rattle.std.specs.Cmp.{tied_itself, Equal-is}
use Rattle.std.specs.declared.cmp.Ordering.{Ordering}
use Rattle.std.proofs.lemmas.Cmp.{nat_list_cmp_total}
use Rattle.std.specs.FinMap.{get}
use Rattle.bd_names.specs.Names.{rest_below}
use Rattle.bd_names.proofs.NamesLaws.{rest_below-some}
use Rattle.bd_command.specs.declared.reply.Listed.{Listed}
use Rattle.bd_model.specs.Tree.{Path, Name, Entry, Tree, IsTree, is_directory}
use Rattle.bd_model.specs.Step.{children}
use Rattle.bd_model.proofs.Listing.{names_each, names_only, names_rise}
use Rattle.bd_model.proofs.Accepted.{absent_below}
use Rattle.bd_stream.specs.Exports.{names_in}
use Rattle.bd_stream.proofs.OrderLemmas.{name_cmp, is_after, is_from, begins_with}

-- ---- members

-- a name is among others
unfoldable pub Has : Name → List Name → Type 0
Has k [] = ⊥
Has k (y ∷ ys) = (y ≡ k) ⊎ Has k ys

has_at : (ls : List Listed) (l : Listed) (i : ℕ) → i < length ls → slice_index_or ls i l ≡ l → Has l.name (map (λ x. x.name) ls)
unfolding Has
has_at [] l i h e = absurd (omega arith)
has_at (x ∷ ls) l zero h e = inl (ap (λ (y : Listed). y.name) e)
has_at (x ∷ ls) l (suc i) h e = inr (has_at ls l i (omega arith) e)

-- the name of what is contained is among the names
pub has_named : (ls : List Listed) (l : Listed) → Contains ls l → Has l.name (map (λ x. x.name) ls)
has_named ls l h = has_at ls l h.0 h.1 h.2

-- a name among the names is that of something contained
pub has_back : (ls : List Listed) (k : Name) → Has k (map (λ x. x.name) ls) → (l : Listed) × Contains ls l × (l.name ≡ k)
unfolding Has
has_back [] k h = absurd h
has_back (x ∷ ls) k (inl e) = (x, (0, omega arith, refl), e)
has_back (x ∷ ls) k (inr h) =
    let rest = has_back ls k h in
    (rest.0, (suc rest.1.0, omega (arith, rest.1.1), rest.1.2), rest.2)

-- ---- names that pass

filter_map_names : (f : Name → Bool) (ls : List Listed) → map (λ (l : Listed). l.name) (filter (λ (l : Listed). f l.name) ls) ≡ filter f (map (λ (l : Listed). l.name) ls)
filter_map_names f [] = refl
filter_map_names f (l ∷ ls) = by (f l.name) (filter_map_names f ls)
  where
    by : (b : Bool) → map (λ (x : Listed). x.name) (filter (λ (x : Listed). f x.name) ls) ≡ filter f (map (λ (x : Listed). x.name) ls)
        → map (λ (x : Listed). x.name) (cond b (l ∷ filter (λ (x : Listed). f x.name) ls) (filter (λ (x : Listed). f x.name) ls)) ≡ cond b (l.name ∷ filter f (map (λ (x : Listed). x.name) ls)) (filter f (map (λ (x : Listed). x.name) ls))
    by true ih = ap (λ (l' : List Name). l.name ∷ l') ih
    by false ih = ih

filter_whole : (ns : List Name) → filter (λ (n : Name). true) ns ≡ ns
filter_whole [] = refl
filter_whole (n ∷ ns) = ap (λ (l : List Name). n ∷ l) (filter_whole ns)

-- the names in a directory after one are those that pass
pub names_filter : (t : Tree) (path : Path) (lo : Option Name) → names_in t path lo ≡ filter (is_after lo) (map (λ (l : Listed). l.name) (children path t))
names_filter t path None = sym (filter_whole (map (λ (l : Listed). l.name) (children path t)))
names_filter t path (Some m) = filter_map_names (λ n. is_lt (name_cmp m n)) (children path t)

-- a name that passes is among those that do
has_filter : (f : Name → Bool) (k : Name) (ns : List Name) → Has k ns → f k ≡ true → Has k (filter f ns)
unfolding Has
has_filter f k [] h pass = absurd h
has_filter f k (y ∷ ys) h pass = by (f y) refl (λ g. has_filter f k ys g pass) h
  where
    by : (b : Bool) → f y ≡ b → (Has k ys → Has k (filter f ys)) → (y ≡ k) ⊎ Has k ys → Has k (cond b (y ∷ filter f ys) (filter f ys))
    by true is ih (inl e) = inl e
    by true is ih (inr g) = inr (ih g)
    by false is ih (inl e) = absurd (let clash : true ≡ false = sym pass ∙ ap f (sym e) ∙ is in cc)
    by false is ih (inr g) = ih g

-- what passes was among all, and passes
has_passed : (f : Name → Bool) (k : Name) (ns : List Name) → Has k (filter f ns) → Has k ns × (f k ≡ true)
unfolding Has
has_passed f k [] h = absurd h
has_passed f k (y ∷ ys) h = by (f y) refl (has_passed f k ys) h
  where
    by : (b : Bool) → f y ≡ b → (Has k (filter f ys) → Has k ys × (f k ≡ true)) → Has k (cond b (y ∷ filter f ys) (filter f ys)) → ((y ≡ k) ⊎ Has k ys) × (f k ≡ true)
    by true is ih (inl e) = (inl e, ap f (sym e) ∙ is)
    by true is ih (inr g) = let rest = ih g in (inr rest.0, rest.1)
    by false is ih g = let rest = ih g in (inr rest.0, rest.1)

all_has : (P : Name → Type 0) (k : Name) (ns : List Name) → AllByRecursion P ns → Has k ns → P k
unfolding Has
all_has P k [] all h = absurd h
all_has P k (y ∷ ys) all (inl e) = subst P e all.0
all_has P k (y ∷ ys) all (inr g) = all_has P k ys all.1 g

-- those that pass rise too
all_filter : (P : Name → Type 0) (f : Name → Bool) (ns : List Name) → AllByRecursion P ns → AllByRecursion P (filter f ns)
all_filter P f [] all = tt
all_filter P f (y ∷ ys) all = by (f y) (all_filter P f ys all.1)
  where
    by : (b : Bool) → AllByRecursion P (filter f ys) → AllByRecursion P (cond b (y ∷ filter f ys) (filter f ys))
    by true ih = (all.0, ih)
    by false ih = ih

sorted_filter : (f : Name → Bool) (ns : List Name) → IsStrictlySortedBy name_cmp ns → IsStrictlySortedBy name_cmp (filter f ns)
unfolding IsStrictlySortedBy
sorted_filter f [] h = tt
sorted_filter f (y ∷ ys) h = by (f y) (sorted_filter f ys h.1)
  where
    by : (b : Bool) → IsStrictlySortedBy name_cmp (filter f ys) → IsStrictlySortedBy name_cmp (cond b (y ∷ filter f ys) (filter f ys))
    by true ih = (all_filter (λ m. name_cmp y m ≡ Less) f ys h.0, ih)
    by false ih = ih

-- the names after one rise
pub names_sorted : (t : Tree) (path : Path) (lo : Option Name) → IsStrictlySortedBy name_cmp (names_in t path lo)
names_sorted t path lo = subst (λ (l : List Name). IsStrictlySortedBy name_cmp l) (sym (names_filter t path lo)) (sorted_filter (is_after lo) (map (λ (l : Listed). l.name) (children path t)) (names_rise t path))

-- ---- which names there are

prefix_there : (t : Tree) → IsTree t → (p r : Path) (x : Entry) → get t (p ++ r) ≡ Some x → (y : Entry) × (get t p ≡ Some y)
prefix_there t tree p r x there = by (get t p) refl
  where
    by : (o : Option Entry) → get t p ≡ o → (y : Entry) × (o ≡ Some y)
    by None is = absurd (let clash : Some x ≡ None = sym there ∙ absent_below t tree p r is in cc)
    by (Some y) is = (y, refl)

-- an entry below a directory stands under one of its names
pub under_name : (t : Tree) → IsTree t → (d : Path) (k : Name) (r : Path) (x : Entry) → get t (d ++ k ∷ r) ≡ Some x → Has k (map (λ (l : Listed). l.name) (children d t))
under_name t tree d k r x there =
    let above = prefix_there t tree (d ++ k ∷ []) r x (ap (get t) (append_assoc d (k ∷ []) r) ∙ there) in
    has_named (children d t) (record { name = k; is_dir = is_directory above.0 }) (names_each t d k above.0 above.1)

-- a name in a directory has an entry there
pub name_there : (t : Tree) (d : Path) (lo : Option Name) (k : Name) → Has k (names_in t d lo) → ((x : Entry) × (get t (d ++ k ∷ []) ≡ Some x)) × (is_after lo k ≡ true)
name_there t d lo k h =
    let passed = has_passed (is_after lo) k (map (λ (l : Listed). l.name) (children d t)) (subst (Has k) (names_filter t d lo) h) in
    let back = has_back (children d t) k passed.0 in
    let only = names_only t d back.0 back.1 in
    ((only.0, subst (λ (n : Name). get t (d ++ n ∷ []) ≡ Some only.0) back.2 only.1), passed.1)

-- an entry under a name that passes stands under one of those after
under_passed : (t : Tree) → IsTree t → (d : Path) (lo : Option Name) (k : Name) (r : Path) (x : Entry) → get t (d ++ k ∷ r) ≡ Some x → is_after lo k ≡ true → Has k (names_in t d lo)
under_passed t tree d lo k r x there pass =
    subst (Has k) (sym (names_filter t d lo)) (has_filter (is_after lo) k (map (λ (l : Listed). l.name) (children d t)) (under_name t tree d k r x there) pass)

false_by : (b : Bool) → (b ≡ true → ⊥) → b ≡ false
false_by true h = absurd (h refl)
false_by false h = refl

-- without names after one, no entry stands under such
pub no_names : (t : Tree) → IsTree t → (top d : Path) (lo : Option Name) → names_in t (top ++ d) lo ≡ [] → (p : Path) (x : Entry) → get t (top ++ p) ≡ Some x → begins_with (is_after lo) (rest_below d p) ≡ false
unfolding Has
no_names t tree top d lo none p x there = by (rest_below d p) refl
  where
    by : (o : Option Path) → rest_below d p ≡ o → begins_with (is_after lo) o ≡ false
    by None is = refl
    by (Some []) is = refl
    by (Some (k ∷ r)) is =
        let at : get t ((top ++ d) ++ k ∷ r) ≡ Some x = ap (get t) (append_assoc top d (k ∷ r) ∙ ap (λ (q : Path). top ++ q) (sym (rest_below-some d p (k ∷ r) is))) ∙ there in
        false_by (is_after lo k) (λ pass. subst (Has k) none (under_passed t tree (top ++ d) lo k r x at pass))

le_of_less : (n k : Name) → name_cmp n k ≡ Less → is_le (name_cmp n k) ≡ true
le_of_less n k h = ap is_le h

le_itself : (n : Name) → is_le (name_cmp n n) ≡ true
le_itself n = ap is_le (tied_itself nat_list_cmp_total n)

-- the first of names that rise is least
first_least : (n k : Name) (ns : List Name) → IsStrictlySortedBy name_cmp (n ∷ ns) → Has k (n ∷ ns) → is_from n k ≡ true
unfolding Has IsStrictlySortedBy
first_least n k ns h (inl e) = subst (λ (m : Name). is_le (name_cmp n m) ≡ true) e (le_itself n)
first_least n k ns h (inr g) = le_of_less n k (all_has (λ m. name_cmp n m ≡ Less) k ns h.0 g)

-- above a name that is above, all are
after_from : (lo : Option Name) (n k : Name) → is_after lo n ≡ true → is_from n k ≡ true → is_after lo k ≡ true
after_from None n k h g = refl
after_from (Some m) n k h g = by (name_cmp n k) refl g
  where
    lt : (o : Ordering) → is_lt o ≡ true → o ≡ Less
    lt Less e = refl
    lt Equal e = cc
    lt Greater e = cc

    by : (o : Ordering) → name_cmp n k ≡ o → is_le o ≡ true → is_lt (name_cmp m k) ≡ true
    by Less is e = ap is_lt (nat_list_cmp_total.trans m n k (lt (name_cmp m n) h) is)
    by Equal is e = ap is_lt (sym (nat_list_cmp_total_right m n k is) ∙ lt (name_cmp m n) h)
      where
        nat_list_cmp_total_right : (a b c : Name) → name_cmp b c ≡ Equal → name_cmp a b ≡ name_cmp a c
        nat_list_cmp_total_right a b c tied = ap (name_cmp a) (Rattle.std.specs.FinMap.slice_cmp-IsAntisymmetric Rattle.std.specs.FinMap.nat_cmp-IsAntisymmetric b c tied)
    by Greater is e = cc

iff_true : (a b : Bool) → (a ≡ true → b ≡ true) → (b ≡ true → a ≡ true) → a ≡ b
iff_true true b f g = sym (f refl)
iff_true false true f g = g refl
iff_true false false f g = refl

-- the entries under a name after one are those from the first of them on
pub from_first : (t : Tree) → IsTree t → (top d : Path) (lo : Option Name) (n : Name) (more : List Name) → names_in t (top ++ d) lo ≡ n ∷ more → (p : Path) (x : Entry) → get t (top ++ p) ≡ Some x → begins_with (is_after lo) (rest_below d p) ≡ begins_with (is_from n) (rest_below d p)
unfolding Has
from_first t tree top d lo n more names p x there = by (rest_below d p) refl
  where
    passes : is_after lo n ≡ true
    passes = (name_there t (top ++ d) lo n (subst (Has n) (sym names) (inl refl))).1

    sorted : IsStrictlySortedBy name_cmp (n ∷ more)
    sorted = subst (λ (l : List Name). IsStrictlySortedBy name_cmp l) names (names_sorted t (top ++ d) lo)

    by : (o : Option Path) → rest_below d p ≡ o → begins_with (is_after lo) o ≡ begins_with (is_from n) o
    by None is = refl
    by (Some []) is = refl
    by (Some (k ∷ r)) is =
        let at : get t ((top ++ d) ++ k ∷ r) ≡ Some x = ap (get t) (append_assoc top d (k ∷ r) ∙ ap (λ (q : Path). top ++ q) (sym (rest_below-some d p (k ∷ r) is))) ∙ there in
        iff_true (is_after lo k) (is_from n k)
        (λ pass. first_least n k more sorted (subst (Has k) names (under_passed t tree (top ++ d) lo k r x at pass)))
        (λ least. after_from lo n k passes least)

-- ---- the names after the first

pass_all : (f : Name → Bool) (ns : List Name) → AllByRecursion (λ n. f n ≡ true) ns → filter f ns ≡ ns
pass_all f [] all = refl
pass_all f (n ∷ ns) all = ap (λ (b : Bool). cond b (n ∷ filter f ns) (filter f ns)) all.0 ∙ ap (λ (l : List Name). n ∷ l) (pass_all f ns all.1)

all_lt : (n : Name) (ns : List Name) → AllByRecursion (λ m. name_cmp n m ≡ Less) ns → AllByRecursion (λ m. is_lt (name_cmp n m) ≡ true) ns
all_lt n [] all = tt
all_lt n (m ∷ ns) all = (ap is_lt all.0, all_lt n ns all.1)

all_after : (lo : Option Name) (n : Name) (ns : List Name) → is_after lo n ≡ true → AllByRecursion (λ m. name_cmp n m ≡ Less) ns → AllByRecursion (λ m. is_after lo m ≡ true) ns
all_after lo n [] h all = tt
all_after lo n (m ∷ ns) h all = (after_from lo n m h (le_of_less n m all.0), all_after lo n ns h all.1)

not_below : (n y : Name) → name_cmp y n ≡ Less → is_lt (name_cmp n y) ≡ false
not_below n y h = ap is_lt (nat_list_cmp_total.antisymm n y) ∙ ap (λ (o : Ordering). is_lt (Rattle.std.specs.Ordering.ordering_reverse o)) h

-- behind the first of those after a name stand those after it
rest_after : (lo : Option Name) (n : Name) (more ns : List Name) → IsStrictlySortedBy name_cmp ns → filter (is_after lo) ns ≡ n ∷ more → filter (is_after (Some n)) ns ≡ more
unfolding IsStrictlySortedBy Has
rest_after lo n more [] sorted is = cc
rest_after lo n more (y ∷ ys) sorted is = by (is_after lo y) refl (rest_after lo n more ys sorted.1) is
  where
    by : (b : Bool) → is_after lo y ≡ b → (filter (is_after lo) ys ≡ n ∷ more → filter (is_after (Some n)) ys ≡ more) → cond b (y ∷ filter (is_after lo) ys) (filter (is_after lo) ys) ≡ n ∷ more → filter (is_after (Some n)) (y ∷ ys) ≡ more
    by true pass ih e =
        let same : y ≡ n = cc in
        let rest : filter (is_after lo) ys ≡ more = cc in
        let lower : is_lt (name_cmp n y) ≡ false = subst (λ (m : Name). is_lt (name_cmp n m) ≡ false) (sym same) (ap is_lt (tied_itself nat_list_cmp_total n)) in
        ap (λ (b : Bool). cond b (y ∷ filter (is_after (Some n)) ys) (filter (is_after (Some n)) ys)) lower
        ∙ pass_all (is_after (Some n)) ys (subst (λ (m : Name). AllByRecursion (λ k. is_lt (name_cmp m k) ≡ true) ys) same (all_lt y ys sorted.0))
        ∙ sym (pass_all (is_after lo) ys (all_after lo y ys pass sorted.0)) ∙ rest
    by false pass ih e =
        let in_rest : Has n ys = (has_passed (is_after lo) n ys (subst (Has n) (sym e) (inl refl))).0 in
        let lower : is_lt (name_cmp n y) ≡ false = not_below n y (all_has (λ m. name_cmp y m ≡ Less) n ys sorted.0 in_rest) in
        ap (λ (b : Bool). cond b (y ∷ filter (is_after (Some n)) ys) (filter (is_after (Some n)) ys)) lower ∙ ih e

pub names_rest : (t : Tree) (path : Path) (lo : Option Name) (n : Name) (more : List Name) → names_in t path lo ≡ n ∷ more → names_in t path (Some n) ≡ more
names_rest t path lo n more is =
    names_filter t path (Some n)
    ∙ rest_after lo n more (map (λ (l : Listed). l.name) (children path t)) (names_rise t path) (sym (names_filter t path lo) ∙ is)
