-- The entries at a path of a tree are those of a stream: each may stand where it does.
use Rattle.std.proofs.Common.{◌≡◌, ◌⊎◌, inl, inr, ℕ, ◌≤◌, List, [], ◌∷◌, ◌++◌, length, Bool, true, false, T, cond, not, Option, None, Some, Less, Equal, Greater, refl, sym, ap, subst, ◌∙◌, arith, append_assoc, append-nil}
use Rattle.std.specs.Prelude.{◌&&◌, ◌||◌, IfSome, IsSome, is_some, ◌==◌}
use Rattle.std.specs.List.{AllByRecursion, filter}
use Rattle.std.specs.Ordering.{nat_cmp, is_lt, is_le, is_eq, ordering_then, ordering_reverse}
use Rattle.std.specs.Cmp.{tied_itself, nat_cmp_total}
use Rattle.std.specs.Cmp.Lexicographic.{slice_cmp}
use Rattle.std.specs.FinMap.{get, find, is_sorted, slice_cmp-IsAntisymmetric, nat_cmp-IsAntisymmetric}
use Rattle.std.specs.FinMap.Entries.{below_all}
use Rattle.std.specs.declared.cmp.Ordering.{Ordering}
use Rattle.std.proofs.lemmas.Bool.{lt-ltb}
use Rattle.bd_limits.specs.Limits.{path_limit}
use Rattle.bd_keys.specs.Keys.{key_cmp}
use Rattle.bd_names.specs.Names.{AreNames, key_of, path_text, is_under, parent_of}
use Rattle.bd_names.proofs.NamesLaws.{is_name-bytes, AreNames-parts, AreNames-cons, AreNames-append, key_of-cons, parent_of-some, parent_of-none, is_under-refl, is_under-antisym}
use Rattle.bd_model.specs.Tree.{Path, Name, Entry, Directory, FileWith, Tree, IsTree, IsEntry, path_cmp, is_directory, has_directory}
use Rattle.bd_model.specs.Step.{Placed}
use Rattle.bd_model.proofs.PathOrder.{paths_total, same_path-true}
use Rattle.bd_stream.specs.declared.machine.Phase.TheVariants.{First, Next}
use Rattle.bd_stream.specs.Heads.{IsHead}
use Rattle.bd_stream.specs.Importing.{has_parent}
use Rattle.bd_stream.specs.Streams.{head_at, entries_at, FitsBelow, AreInOrder, IsStreamFor}
use Rattle.bd_stream.specs.Exports.{from, beyond, past}
use Rattle.bd_stream.proofs.OrderLemmas.{name_cmp, begins_with, is_from, from_in, from_root}
use Rattle.bd_stream.proofs.PlaceLemmas.{text_by}
use Rattle.bd_stream.proofs.ValueLemmas.{IsNameByte, name_bytes}
use Rattle.bd_stream.proofs.EntryLemmas.{less, first, second, both, path_cmp-front, at_sorted, at_there, found_at, not_found, all_above, split_at}

-- ---- keys rise with paths

bytes_less : (n m K L : List ℕ) → name_cmp n m ≡ Less → AllByRecursion IsNameByte m → slice_cmp nat_cmp (n ++ 0 ∷ K) (m ++ 0 ∷ L) ≡ Less
bytes_less [] [] K L h bytes = cc
bytes_less [] (y ∷ m) K L h bytes = ap (λ (b : Bool). ordering_then (cond b Less (cond (0 == y) Equal Greater)) (slice_cmp nat_cmp K (m ++ 0 ∷ L))) (lt-ltb 0 y (let low : 33 ≤ y = bytes.0.low in omega arith))
bytes_less (x ∷ n) [] K L h bytes = cc
bytes_less (x ∷ n) (y ∷ m) K L h bytes = by (nat_cmp x y) h (λ e. bytes_less n m K L e bytes.1)
  where
    by : (o : Ordering) → ordering_then o (name_cmp n m) ≡ Less → (name_cmp n m ≡ Less → slice_cmp nat_cmp (n ++ 0 ∷ K) (m ++ 0 ∷ L) ≡ Less) → ordering_then o (slice_cmp nat_cmp (n ++ 0 ∷ K) (m ++ 0 ∷ L)) ≡ Less
    by Less e ih = refl
    by Equal e ih = ih e
    by Greater e ih = cc

after_same : (n a b : List ℕ) → slice_cmp nat_cmp (n ++ a) (n ++ b) ≡ slice_cmp nat_cmp a b
after_same [] a b = refl
after_same (x ∷ n) a b = ap (λ (o : Ordering). ordering_then o (slice_cmp nat_cmp (n ++ a) (n ++ b))) (tied_itself nat_cmp_total x) ∙ after_same n a b

none_less : (m L : List ℕ) → slice_cmp nat_cmp [] (m ++ 0 ∷ L) ≡ Less
none_less [] L = refl
none_less (b ∷ m) L = refl

-- the keys of paths are in the order of the paths
pub key_less : (p q : Path) → AreNames p → AreNames q → path_cmp p q ≡ Less → key_cmp (key_of p) (key_of q) ≡ Less
key_less [] [] hp hq h = cc
key_less [] (m ∷ q) hp hq h = ap (slice_cmp nat_cmp []) (key_of-cons m q) ∙ none_less m (key_of q)
key_less (n ∷ p) [] hp hq h = cc
key_less (n ∷ p) (m ∷ q) hp hq h =
    ap (λ (k : List ℕ). slice_cmp nat_cmp k (key_of (m ∷ q))) (key_of-cons n p) ∙ ap (slice_cmp nat_cmp (n ++ 0 ∷ key_of p)) (key_of-cons m q)
    ∙ by (name_cmp n m) refl h (key_less p q (AreNames-cons n p hp).1 (AreNames-cons m q hq).1)
  where
    by : (o : Ordering) → name_cmp n m ≡ o → ordering_then o (path_cmp p q) ≡ Less → (path_cmp p q ≡ Less → key_cmp (key_of p) (key_of q) ≡ Less) → slice_cmp nat_cmp (n ++ 0 ∷ key_of p) (m ++ 0 ∷ key_of q) ≡ Less
    by Less is e ih = bytes_less n m (key_of p) (key_of q) is (name_bytes m (is_name-bytes m (AreNames-cons m q hq).0))
    by Equal is e ih =
        let same : n ≡ m = slice_cmp-IsAntisymmetric nat_cmp-IsAntisymmetric n m is in
        ap (λ (k : List ℕ). slice_cmp nat_cmp (k ++ 0 ∷ key_of p) (m ++ 0 ∷ key_of q)) same ∙ after_same m (0 ∷ key_of p) (0 ∷ key_of q) ∙ ih e
    by Greater is e ih = cc

-- ---- the parent of the next path

pub front_less : (p : Path) (n : Name) → path_cmp p (p ++ n ∷ []) ≡ Less
front_less p n = ap (λ (q : Path). path_cmp q (p ++ n ∷ [])) (sym (append-nil p)) ∙ path_cmp-front p [] (n ∷ [])

le_cases : (o : Ordering) → is_le o ≡ true → (o ≡ Less) ⊎ (o ≡ Equal)
le_cases Less h = inl refl
le_cases Equal h = inr refl
le_cases Greater h = cc

not_above : (p q : Path) → path_cmp p q ≡ Less → is_le (path_cmp q p) ≡ false
not_above p q h = ap is_le (paths_total.antisymm q p) ∙ ap (λ (o : Ordering). is_le (ordering_reverse o)) h

-- a path between a directory and what stands in it is the directory or below it
under_parent : (parent last : Path) (n : Name) → is_le (path_cmp parent last) ≡ true → path_cmp last (parent ++ n ∷ []) ≡ Less → is_under parent last ≡ true
under_parent parent last n le h = by (is_under parent last) refl (le_cases (path_cmp parent last) le)
  where
    by : (u : Bool) → is_under parent last ≡ u → (path_cmp parent last ≡ Less) ⊎ (path_cmp parent last ≡ Equal) → u ≡ true
    by true is c = refl
    by false is (inl e) =
        let out : past parent last ≡ true = ap (λ (o : Ordering). is_lt o && not (is_under parent last)) e ∙ ap not is in
        let over : from (parent ++ n ∷ []) last ≡ true = from_in parent last n ∙ ap (λ (b : Bool). b || begins_with (is_from n) (Rattle.bd_names.specs.Names.rest_below parent last)) out in
        let no = not_above last (parent ++ n ∷ []) h in
        cc
    by false is (inr e) =
        let same : parent ≡ last = same_path-true parent last (ap is_eq e) in
        let yes : is_under parent last ≡ true = subst (λ (q : Path). is_under parent q ≡ true) same (is_under-refl parent) in
        cc

dir_there : (t : Tree) (top last parent : Path) (x : Entry) → get t (top ++ last) ≡ Some x → has_directory (get t (top ++ parent)) ≡ true → last ≡ parent → is_directory x ≡ true
dir_there t top last parent x there dir same = sym (ap has_directory there) ∙ ap (λ (q : Path). has_directory (get t (top ++ q))) same ∙ dir

both_are : (a b : Bool) → a ≡ true → b ≡ true → (a && b) ≡ true
both_are true b e f = f
both_are false b e f = cc

or_not : (a v : Bool) → (v ≡ true → a ≡ true) → (a || not v) ≡ true
or_not true v h = refl
or_not false true h = h refl
or_not false false h = refl

some_of : (o : Option Entry) → has_directory o ≡ true → (x : Entry) × (o ≡ Some x)
some_of None h = cc
some_of (Some x) h = (x, refl)

-- every path of the tree below the exported one comes not after the last entry, or is still to come
Cover : Tree → Path → Path → List Placed → Type 0
Cover t top last es = (p : Path) (x : Entry) → get t (top ++ p) ≡ Some x → (is_le (path_cmp p last) ≡ true) ⊎ (find path_cmp p es ≡ Some x)

names_at : (t : Tree) → IsTree t → (top p : Path) (x : Entry) → get t (top ++ p) ≡ Some x → AreNames p
names_at t tree top p x there = (AreNames-parts top p (tree.names (top ++ p) (ap is_some there))).1

follows_by : (t : Tree) → IsTree t → (top last : Path) (x : Entry) (e : Placed) (es : List Placed) → get t (top ++ last) ≡ Some x → get t (top ++ e.0) ≡ Some e.1 → path_cmp last e.0 ≡ Less → T (below_all path_cmp e.0 es) → Cover t top last (e ∷ es) → (o : Option Path) → parent_of e.0 ≡ o → (has_parent o last (is_directory x) && is_lt (key_cmp (key_of last) (key_of e.0))) ≡ true
unfolding Cover
follows_by t tree top last x e es there next lt below cover None above =
    absurd (let root : e.0 ≡ [] = parent_of-none e.0 above in let low : is_le (path_cmp [] last) ≡ true = from_root last in let no : is_le (path_cmp e.0 last) ≡ false = not_above last e.0 lt in let same : is_le (path_cmp e.0 last) ≡ is_le (path_cmp [] last) = ap (λ (q : Path). is_le (path_cmp q last)) root in cc)
follows_by t tree top last x e es there next lt below cover (Some parent) above =
    let cut = parent_of-some e.0 parent above in
    let child : IsSome (get t ((top ++ parent) ++ cut.0 ∷ [])) = subst (λ (q : Path). IsSome (get t q)) (ap (λ (q : Path). top ++ q) cut.1 ∙ sym (append_assoc top parent (cut.0 ∷ []))) (ap is_some next) in
    let dir : has_directory (get t (top ++ parent)) ≡ true = tree.parents (top ++ parent) cut.0 child in
    let found = some_of (get t (top ++ parent)) dir in
    let up : path_cmp parent e.0 ≡ Less = ap (path_cmp parent) cut.1 ∙ front_less parent cut.0 in
    let le : is_le (path_cmp parent last) ≡ true = by up (cover parent found.0 found.1) in
    let under : is_under parent last ≡ true = under_parent parent last cut.0 le (ap (path_cmp last) (sym cut.1) ∙ lt) in
    let keys : is_lt (key_cmp (key_of last) (key_of e.0)) ≡ true = ap is_lt (key_less last e.0 (names_at t tree top last x there) (names_at t tree top e.0 e.1 next) lt) in
    both_are (is_under parent last && (is_directory x || not (is_under last parent))) (is_lt (key_cmp (key_of last) (key_of e.0)))
    (both_are (is_under parent last) (is_directory x || not (is_under last parent)) under (or_not (is_directory x) (is_under last parent) (λ v. dir_there t top last parent x there dir (is_under-antisym last parent v under)))) keys
  where
    by : path_cmp parent e.0 ≡ Less → {y : Entry} → (is_le (path_cmp parent last) ≡ true) ⊎ (find path_cmp parent (e ∷ es) ≡ Some y) → is_le (path_cmp parent last) ≡ true
    by up (inl h) = h
    by up (inr h) =
        absurd (let none : find path_cmp parent (e ∷ es) ≡ None = not_found parent (e ∷ es) (both (is_lt (path_cmp parent e.0)) (below_all path_cmp parent es) (subst (λ (o : Ordering). T (is_lt o)) (sym up) tt) (all_above parent e es up below)) in cc)

cover_next : (t : Tree) (top last : Path) (e : Placed) (es : List Placed) → path_cmp last e.0 ≡ Less → Cover t top last (e ∷ es) → Cover t top e.0 es
unfolding Cover
cover_next t top last e es lt cover p x there = by (cover p x there)
  where
    chain : (o : Ordering) → path_cmp p last ≡ o → is_le o ≡ true → is_le (path_cmp p e.0) ≡ true
    chain Less is h = ap is_le (paths_total.trans p last e.0 is lt)
    chain Equal is h = (let same : p ≡ last = same_path-true p last (ap is_eq is) in ap is_le (ap (λ (q : Path). path_cmp q e.0) same ∙ lt))
    chain Greater is h = cc

    split : (o : Ordering) → path_cmp p e.0 ≡ o → cond (is_eq o) (Some e.1) (find path_cmp p es) ≡ Some x → (is_le (path_cmp p e.0) ≡ true) ⊎ (find path_cmp p es ≡ Some x)
    split Less is h = inr h
    split Equal is h = inl (ap is_le is)
    split Greater is h = inr h

    by : (is_le (path_cmp p last) ≡ true) ⊎ (find path_cmp p (e ∷ es) ≡ Some x) → (is_le (path_cmp p e.0) ≡ true) ⊎ (find path_cmp p es ≡ Some x)
    by (inl h) = inl (chain (path_cmp p last) refl h)
    by (inr h) = split (path_cmp p e.0) refl h

order_from : (t : Tree) → IsTree t → (top last : Path) (x : Entry) (es : List Placed) → get t (top ++ last) ≡ Some x → T (below_all path_cmp last es) → T (is_sorted path_cmp es) → AllByRecursion (λ f. get t (top ++ f.0) ≡ Some f.1) es → Cover t top last es → AreInOrder Next last (is_directory x) es
order_from t tree top last x [] there below sorted all cover = tt
order_from t tree top last x (e ∷ es) there below sorted all cover =
    let lt : path_cmp last e.0 ≡ Less = less (path_cmp last e.0) (first (is_lt (path_cmp last e.0)) (below_all path_cmp last es) below) in
    let high = first (below_all path_cmp e.0 es) (is_sorted path_cmp es) sorted in (
      follows_by t tree top last x e es there all.0 lt high cover (parent_of e.0) refl,
      order_from t tree top e.0 e.1 es all.0 high (second (below_all path_cmp e.0 es) (is_sorted path_cmp es) sorted) all.1 (cover_next t top last e es lt cover),
    )

-- ---- all entries at a path

all_from : (es : List Placed) → filter (λ (e : Placed). from [] e.0) es ≡ es
all_from [] = refl
all_from (e ∷ es) = ap (λ (b : Bool). cond b (e ∷ filter (λ (f : Placed). from [] f.0) es) (filter (λ (f : Placed). from [] f.0) es)) (from_root e.0) ∙ ap (λ (l : List Placed). e ∷ l) (all_from es)

-- the first entry is that of the exported path
pub root_first : (t : Tree) (top : Path) (x : Entry) → get t top ≡ Some x → (es : List Placed) × (entries_at t top ≡ ([], x) ∷ es)
root_first t top x there =
    let found : find path_cmp [] (entries_at t top) ≡ Some x = found_at t top [] ∙ ap (get t) (append-nil top) ∙ there in
    (filter (λ (e : Placed). beyond [] e.0) (entries_at t top), sym (all_from (entries_at t top)) ∙ split_at [] x (entries_at t top) (at_sorted t top) found)

pub at_order : (t : Tree) (top : Path) (x : Entry) → IsTree t → get t top ≡ Some x → AreInOrder First [] true (entries_at t top)
unfolding Cover
at_order t top x tree there =
    let head = root_first t top x there in
    let es = head.0 in
    let sorted : T (is_sorted path_cmp (([], x) ∷ es)) = subst (λ (l : List Placed). T (is_sorted path_cmp l)) head.1 (at_sorted t top) in
    let all : AllByRecursion (λ f. get t (top ++ f.0) ≡ Some f.1) (([], x) ∷ es) = subst (λ (l : List Placed). AllByRecursion (λ f. get t (top ++ f.0) ≡ Some f.1) l) head.1 (at_there t top) in
    let cover : (p : Path) (y : Entry) → get t (top ++ p) ≡ Some y → (is_le (path_cmp p []) ≡ true) ⊎ (find path_cmp p es ≡ Some y) = λ p y h. by p y es (ap (find path_cmp p) (sym head.1) ∙ found_at t top p ∙ h) in
    subst (AreInOrder First [] true) (sym head.1) (refl, order_from t tree top [] x es all.0 (first (below_all path_cmp [] es) (is_sorted path_cmp es) sorted) (second (below_all path_cmp [] es) (is_sorted path_cmp es) sorted) all.1 cover)
  where
    by : (p : Path) (y : Entry) (es : List Placed) → find path_cmp p (([], x) ∷ es) ≡ Some y → (is_le (path_cmp p []) ≡ true) ⊎ (find path_cmp p es ≡ Some y)
    by [] y es h = inl refl
    by (n ∷ p) y es h = inr h

head_of_entry : (p : Path) (x : Entry) → Rattle.bd_command.specs.Command.IsShortPath p → IsEntry x → IsHead (head_at (p, x))
head_of_entry p (Directory mode) short fits = record { path = short; mode = fits; len = tt }
head_of_entry p (FileWith mode bytes) short fits = record { path = short; mode = fits.2; len = fits.0 }

each_fits : (t : Tree) → IsTree t → (top target : Path) → AreNames target → ((p : Path) (x : Entry) → get t (top ++ p) ≡ Some x → length (path_text (target ++ p)) ≤ path_limit) → (es : List Placed) → AllByRecursion (λ f. get t (top ++ f.0) ≡ Some f.1) es → AllByRecursion (FitsBelow target) es
each_fits t tree top target names short [] all = tt
each_fits t tree top target names short (e ∷ es) all =
    let are = names_at t tree top e.0 e.1 all.0 in
    let size = short e.0 e.1 all.0 in (
      record {
        head = head_of_entry e.0 e.1 (are, omega (arith, size, text_by target e.0)) (subst (λ (o : Option Entry). IfSome o IsEntry) all.0 (tree.entries (top ++ e.0)));
        path = (AreNames-append target e.0 names are, size);
      },
      each_fits t tree top target names short es all.1,
    )

-- the entries at a path of a tree are those of a stream
pub at_stream : (t : Tree) (top target : Path) (x : Entry) → IsTree t → get t top ≡ Some x → AreNames target → ((p : Path) (y : Entry) → get t (top ++ p) ≡ Some y → length (path_text (target ++ p)) ≤ path_limit) → IsStreamFor target (entries_at t top)
at_stream t top target x tree there names short =
    let head = root_first t top x there in
    record {
      some = λ e. (let clash : ([], x) ∷ head.0 ≡ [] = sym head.1 ∙ e in cc);
      order = at_order t top x tree there;
      each = each_fits t tree top target names short (entries_at t top) (at_there t top);
    }
