-- The entries at a path and below it: each is one of the tree, and they stand in the order of paths.
use Rattle.std.proofs.Common.{◌≡◌, List, [], ◌∷◌, ◌++◌, Bool, true, false, T, cond, Option, None, Some, Less, Equal, Greater, refl, sym, ap, subst, ◌∙◌, append_assoc}
use Rattle.std.specs.Prelude.{◌&&◌}
use Rattle.std.specs.List.{filter, filter_map, flat_map, cons_option, AllByRecursion}
use Rattle.std.specs.Option.{option_map}
use Rattle.std.specs.Ordering.{is_lt, is_le, is_eq, ordering_then}
use Rattle.std.specs.Cmp.{tied_itself}
use Rattle.std.specs.declared.cmp.Ordering.{Ordering}
use Rattle.std.proofs.lemmas.Cmp.{nat_list_cmp_total}
use Rattle.std.specs.FinMap.{get, find, entries, is_sorted, get-entries, entries_sorted}
use Rattle.std.specs.FinMap.Entries.{below_all}
use Rattle.bd_names.specs.Names.{rest_below}
use Rattle.bd_names.proofs.NamesLaws.{rest_below-append, rest_below-some}
use Rattle.bd_model.specs.Tree.{Path, Entry, Tree, path_cmp}
use Rattle.bd_model.specs.Step.{Placed, moved_entry}
use Rattle.bd_model.proofs.PathOrder.{paths_total, same_path, same_path-true, same_path-refl, same_path-false}
use Rattle.bd_stream.specs.Streams.{entry_bytes, entries_at}
use Rattle.bd_stream.specs.Exports.{from, beyond, ending}

-- ---- in order

pub less : (r : Ordering) → T (is_lt r) → r ≡ Less
less Less h = refl
less Equal h = absurd h
less Greater h = absurd h

pub first : (a b : Bool) → T (a && b) → T a
first true b h = tt
first false b h = absurd h

pub second : (a b : Bool) → T (a && b) → T b
second true b h = h
second false b h = absurd h

pub both : (a b : Bool) → T a → T b → T (a && b)
both true b p q = q
both false b p q = absurd p

-- after one front, paths compare as their rests do
pub path_cmp-front : (p r s : Path) → path_cmp (p ++ r) (p ++ s) ≡ path_cmp r s
path_cmp-front [] r s = refl
path_cmp-front (n ∷ p) r s = ap (λ (o : Ordering). ordering_then o (path_cmp (p ++ r) (p ++ s))) (tied_itself nat_list_cmp_total n) ∙ path_cmp-front p r s

-- what is above all that moves is above all that moved
moved_below : (top r : Path) (es : List Placed) → T (below_all path_cmp (top ++ r) es) → T (below_all path_cmp r (filter_map (moved_entry top []) es))
moved_below top r [] h = tt
moved_below top r (e ∷ es) h = by (rest_below top e.0) refl (moved_below top r es (second (is_lt (path_cmp (top ++ r) e.0)) (below_all path_cmp (top ++ r) es) h))
  where
    by : (o : Option Path) → rest_below top e.0 ≡ o → T (below_all path_cmp r (filter_map (moved_entry top []) es))
        → T (below_all path_cmp r (cons_option (option_map (λ (rest : Path). (rest, e.1)) o) (filter_map (moved_entry top []) es)))
    by None is ih = ih
    by (Some s) is ih =
        let here : e.0 ≡ top ++ s = rest_below-some top e.0 s is in
        let cmp : path_cmp (top ++ r) e.0 ≡ path_cmp r s = ap (path_cmp (top ++ r)) here ∙ path_cmp-front top r s in
        both (is_lt (path_cmp r s)) (below_all path_cmp r (filter_map (moved_entry top []) es)) (subst (λ (o : Ordering). T (is_lt o)) cmp (first (is_lt (path_cmp (top ++ r) e.0)) (below_all path_cmp (top ++ r) es) h)) ih

moved_sorted : (top : Path) (es : List Placed) → T (is_sorted path_cmp es) → T (is_sorted path_cmp (filter_map (moved_entry top []) es))
moved_sorted top [] h = tt
moved_sorted top (e ∷ es) h = by (rest_below top e.0) refl (moved_sorted top es (second (below_all path_cmp e.0 es) (is_sorted path_cmp es) h))
  where
    by : (o : Option Path) → rest_below top e.0 ≡ o → T (is_sorted path_cmp (filter_map (moved_entry top []) es))
        → T (is_sorted path_cmp (cons_option (option_map (λ (rest : Path). (rest, e.1)) o) (filter_map (moved_entry top []) es)))
    by None is ih = ih
    by (Some s) is ih =
        let here : e.0 ≡ top ++ s = rest_below-some top e.0 s is in
        both (below_all path_cmp s (filter_map (moved_entry top []) es)) (is_sorted path_cmp (filter_map (moved_entry top []) es))
        (moved_below top s es (subst (λ (q : Path). T (below_all path_cmp q es)) here (first (below_all path_cmp e.0 es) (is_sorted path_cmp es) h))) ih

pub at_sorted : (t : Tree) (top : Path) → T (is_sorted path_cmp (entries_at t top))
at_sorted t top = moved_sorted top (entries t) (entries_sorted t)

-- ---- each is one of the tree

found_moved : (top r : Path) (es : List Placed) → find path_cmp r (filter_map (moved_entry top []) es) ≡ find path_cmp (top ++ r) es
found_moved top r [] = refl
found_moved top r (e ∷ es) = by (rest_below top e.0) refl (found_moved top r es)
  where
    by : (o : Option Path) → rest_below top e.0 ≡ o → find path_cmp r (filter_map (moved_entry top []) es) ≡ find path_cmp (top ++ r) es
        → find path_cmp r (cons_option (option_map (λ (rest : Path). (rest, e.1)) o) (filter_map (moved_entry top []) es)) ≡ cond (same_path (top ++ r) e.0) (Some e.1) (find path_cmp (top ++ r) es)
    by None is ih =
        ih ∙ ap (λ (t : Bool). cond t (Some e.1) (find path_cmp (top ++ r) es)) (sym (same_path-false (top ++ r) e.0 (λ same. apart same)))
      where
        apart : (top ++ r ≡ e.0) → ⊥
        apart same = let found : Some r ≡ None = sym (rest_below-append top r) ∙ ap (rest_below top) same ∙ is in cc
    by (Some s) is ih =
        let here : e.0 ≡ top ++ s = rest_below-some top e.0 s is in
        ap (λ (o : Option Entry). cond (same_path r s) (Some e.1) o) ih
        ∙ ap (λ (o : Ordering). cond (is_eq o) (Some e.1) (find path_cmp (top ++ r) es)) (sym (ap (path_cmp (top ++ r)) here ∙ path_cmp-front top r s))

-- what is found at a path below is what the tree has there
pub found_at : (t : Tree) (top r : Path) → find path_cmp r (entries_at t top) ≡ get t (top ++ r)
found_at t top r = found_moved top r (entries t) ∙ sym (get-entries t (top ++ r))

-- a path that is above another one isn't it
pub apart_above : (p q : Path) → T (is_lt (path_cmp p q)) → same_path q p ≡ false
apart_above p q h = same_path-false q p (λ same. tied same)
  where
    tied : q ≡ p → ⊥
    tied same = let clash : Less ≡ Equal = sym (less (path_cmp p q) h) ∙ ap (path_cmp p) same ∙ tied_itself paths_total p in cc

-- what is found among the others is found behind one that is below them all
pub found_later : (e : Placed) (es fs : List Placed) → T (below_all path_cmp e.0 fs) → AllByRecursion (λ f. find path_cmp f.0 es ≡ Some f.1) fs → AllByRecursion (λ f. find path_cmp f.0 (e ∷ es) ≡ Some f.1) fs
found_later e es [] h all = tt
found_later e es (f ∷ fs) h all = (
  ap (λ (t : Bool). cond t (Some e.1) (find path_cmp f.0 es)) (apart_above e.0 f.0 (first (is_lt (path_cmp e.0 f.0)) (below_all path_cmp e.0 fs) h)) ∙ all.0,
  found_later e es fs (second (is_lt (path_cmp e.0 f.0)) (below_all path_cmp e.0 fs) h) all.1,
)

pub all_found : (es : List Placed) → T (is_sorted path_cmp es) → AllByRecursion (λ f. find path_cmp f.0 es ≡ Some f.1) es
all_found [] h = tt
all_found (e ∷ es) h = (
  ap (λ (t : Bool). cond t (Some e.1) (find path_cmp e.0 es)) (same_path-refl e.0),
  found_later e es es (first (below_all path_cmp e.0 es) (is_sorted path_cmp es) h) (all_found es (second (below_all path_cmp e.0 es) (is_sorted path_cmp es) h)),
)

all_there : (t : Tree) (top : Path) (es : List Placed) → AllByRecursion (λ f. find path_cmp f.0 (entries_at t top) ≡ Some f.1) es → AllByRecursion (λ f. get t (top ++ f.0) ≡ Some f.1) es
all_there t top [] all = tt
all_there t top (f ∷ fs) all = (sym (found_at t top f.0) ∙ all.0, all_there t top fs all.1)

-- each entry stands in the tree
pub at_there : (t : Tree) (top : Path) → AllByRecursion (λ f. get t (top ++ f.0) ≡ Some f.1) (entries_at t top)
at_there t top = all_there t top (entries_at t top) (all_found (entries_at t top) (at_sorted t top))

-- ---- those that are left

filter_agrees : (t : Tree) (top : Path) (P Q : Path → Bool) (es : List Placed) → ((p : Path) (x : Entry) → get t (top ++ p) ≡ Some x → P p ≡ Q p) → AllByRecursion (λ f. get t (top ++ f.0) ≡ Some f.1) es → filter (λ (e : Placed). P e.0) es ≡ filter (λ (e : Placed). Q e.0) es
filter_agrees t top P Q [] same all = refl
filter_agrees t top P Q (e ∷ es) same all =
    let rest = filter_agrees t top P Q es same all.1 in
    ap (λ (b : Bool). cond b (e ∷ filter (λ (f : Placed). P f.0) es) (filter (λ (f : Placed). P f.0) es)) (same e.0 e.1 all.0)
    ∙ ap (λ (l : List Placed). cond (Q e.0) (e ∷ l) l) rest

-- tests that agree on the paths of the tree leave the same
pub ending_agrees : (t : Tree) (top : Path) (P Q : Path → Bool) → ((p : Path) (x : Entry) → get t (top ++ p) ≡ Some x → P p ≡ Q p) → ending t top P ≡ ending t top Q
ending_agrees t top P Q same =
    ap (λ (l : List Placed). flat_map entry_bytes l ++ 69 ∷ []) (filter_agrees t top P Q (entries_at t top) same (at_there t top))

filter_none : (es : List Placed) → filter (λ (e : Placed). false) es ≡ []
filter_none [] = refl
filter_none (e ∷ es) = filter_none es

filter_all : (es : List Placed) → filter (λ (e : Placed). true) es ≡ es
filter_all [] = refl
filter_all (e ∷ es) = ap (λ (l : List Placed). e ∷ l) (filter_all es)

-- where no entry is left the end is
pub ending_none : (t : Tree) (top : Path) (P : Path → Bool) → ((p : Path) (x : Entry) → get t (top ++ p) ≡ Some x → P p ≡ false) → ending t top P ≡ 69 ∷ []
ending_none t top P none =
    ending_agrees t top P (λ p. false) none ∙ ap (λ (l : List Placed). flat_map entry_bytes l ++ 69 ∷ []) (filter_none (entries_at t top))

-- where all are left it is all of them
pub ending_all : (t : Tree) (top : Path) (P : Path → Bool) → ((p : Path) (x : Entry) → get t (top ++ p) ≡ Some x → P p ≡ true) → ending t top P ≡ flat_map entry_bytes (entries_at t top) ++ 69 ∷ []
ending_all t top P every =
    ending_agrees t top P (λ p. true) every ∙ ap (λ (l : List Placed). flat_map entry_bytes l ++ 69 ∷ []) (filter_all (entries_at t top))

-- ---- the next one

from_above : (q : Path) (es : List Placed) → T (below_all path_cmp q es) → filter (λ (e : Placed). from q e.0) es ≡ filter (λ (e : Placed). beyond q e.0) es
from_above q [] h = refl
from_above q (e ∷ es) h =
    let is = less (path_cmp q e.0) (first (is_lt (path_cmp q e.0)) (below_all path_cmp q es) h) in
    let rest = from_above q es (second (is_lt (path_cmp q e.0)) (below_all path_cmp q es) h) in
    ap (λ (o : Ordering). cond (is_le o) (e ∷ filter (λ (f : Placed). from q f.0) es) (filter (λ (f : Placed). from q f.0) es)) is
    ∙ ap (λ (l : List Placed). e ∷ l) rest
    ∙ ap (λ (o : Ordering). cond (is_lt o) (e ∷ filter (λ (f : Placed). beyond q f.0) es) (filter (λ (f : Placed). beyond q f.0) es)) (sym is)

-- what is below the first of them isn't among them
pub not_found : (q : Path) (es : List Placed) → T (below_all path_cmp q es) → find path_cmp q es ≡ None
not_found q [] h = refl
not_found q (e ∷ es) h =
    ap (λ (o : Ordering). cond (is_eq o) (Some e.1) (find path_cmp q es)) (less (path_cmp q e.0) (first (is_lt (path_cmp q e.0)) (below_all path_cmp q es) h))
    ∙ not_found q es (second (is_lt (path_cmp q e.0)) (below_all path_cmp q es) h)

pub all_above : (q : Path) (e : Placed) (es : List Placed) → path_cmp q e.0 ≡ Less → T (below_all path_cmp e.0 es) → T (below_all path_cmp q es)
all_above q e [] is h = tt
all_above q e (f ∷ fs) is h =
    let after = less (path_cmp e.0 f.0) (first (is_lt (path_cmp e.0 f.0)) (below_all path_cmp e.0 fs) h) in
    let chain : path_cmp q f.0 ≡ Less = paths_total.trans q e.0 f.0 is after in
    both (is_lt (path_cmp q f.0)) (below_all path_cmp q fs) (subst (λ (o : Ordering). T (is_lt o)) (sym chain) tt) (all_above q e fs is (second (is_lt (path_cmp e.0 f.0)) (below_all path_cmp e.0 fs) h))

pub split_at : (q : Path) (x : Entry) (es : List Placed) → T (is_sorted path_cmp es) → find path_cmp q es ≡ Some x → filter (λ (e : Placed). from q e.0) es ≡ (q, x) ∷ filter (λ (e : Placed). beyond q e.0) es
split_at q x [] h found = absurd (cc)
split_at q x (e ∷ es) h found = by (path_cmp q e.0) refl found (split_at q x es (second (below_all path_cmp e.0 es) (is_sorted path_cmp es) h))
  where
    above : T (below_all path_cmp e.0 es)
    above = first (below_all path_cmp e.0 es) (is_sorted path_cmp es) h

    by : (o : Ordering) → path_cmp q e.0 ≡ o → cond (is_eq o) (Some e.1) (find path_cmp q es) ≡ Some x
        → (find path_cmp q es ≡ Some x → filter (λ (f : Placed). from q f.0) es ≡ (q, x) ∷ filter (λ (f : Placed). beyond q f.0) es)
        → cond (is_le o) (e ∷ filter (λ (f : Placed). from q f.0) es) (filter (λ (f : Placed). from q f.0) es) ≡ (q, x) ∷ cond (is_lt o) (e ∷ filter (λ (f : Placed). beyond q f.0) es) (filter (λ (f : Placed). beyond q f.0) es)
    by Less is at ih = absurd (let none : find path_cmp q es ≡ None = not_found q es (all_above q e es is above) in cc)
    by Equal is at ih =
        let key : q ≡ e.0 = same_path-true q e.0 (ap is_eq is) in
        let value : e.1 ≡ x = cc in
        ap (λ (p : Path). (p, e.1) ∷ filter (λ (f : Placed). from q f.0) es) (sym key)
        ∙ ap (λ (y : Entry). (q, y) ∷ filter (λ (f : Placed). from q f.0) es) value
        ∙ ap (λ (l : List Placed). (q, x) ∷ l) (from_above q es (subst (λ (p : Path). T (below_all path_cmp p es)) (sym key) above))
    by Greater is at ih = ih at

-- what is left from an entry on are its bytes, and what is left beyond it
pub ending_next : (t : Tree) (top q : Path) (x : Entry) → get t (top ++ q) ≡ Some x → ending t top (from q) ≡ entry_bytes (q, x) ++ ending t top (beyond q)
ending_next t top q x h =
    let cut = split_at q x (entries_at t top) (at_sorted t top) (found_at t top q ∙ h) in
    ap (λ (l : List Placed). flat_map entry_bytes l ++ 69 ∷ []) cut
    ∙ append_assoc (entry_bytes (q, x)) (flat_map entry_bytes (filter (λ (e : Placed). beyond q e.0) (entries_at t top))) (69 ∷ [])
