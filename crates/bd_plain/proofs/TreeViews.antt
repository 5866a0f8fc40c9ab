-- What edits of entries in order make of the map that they are seen as.
use Rattle.std.proofs.Common.{◌≡◌, ℕ, Bool, true, false, T, cond, List, [], ◌∷◌, ◌++◌, not, Option, None, Equal, Result, Ok, Err, OnOk, OnErr, IsTrue, refl, sym, ap, subst, ◌∙◌}
use Rattle.std.specs.List.{filter, filter_map}
use Rattle.std.specs.FinMap.{get, find, put, insert, entries, from_sorted, from_entries, is_sorted, entries-from_sorted, entries-insert, get-from_sorted, get-from_entries, get-entries, get-retain_keys, same_map, same_entries_map}
use Rattle.std.specs.FinMap.Entries.{is_sorted-put, is_sorted-where_key, find-where_key}
use Rattle.bd_names.specs.Names.{is_under, rest_below}
use Rattle.bd_model.specs.Tree.{Entry, Tree, path_cmp, root_only, Directory}
use Rattle.bd_model.specs.Step.{without, children, moved, moved_entry, child_of}
use Rattle.bd_model.proofs.PathOrder.{paths_total, paths_exact}
use Rattle.bd_model.proofs.TreeGets.{Entries}

abbrev pub IsInOrder : Entries → Type 0
IsInOrder es = IsTrue (is_sorted path_cmp es)

abbrev pub seen : Entries → Tree
seen es = from_sorted es

is_true : (b : Bool) → T b → IsTrue b
is_true true h = refl
is_true false h = absurd h

test : {b : Bool} → IsTrue b → T b
test e = subst T (sym e) tt

-- each question about the map is one about the list
pub entries_seen : (es : Entries) → IsInOrder es → entries (seen es) ≡ es
entries_seen es sorted = entries-from_sorted path_cmp es (test sorted)

pub get_seen : (es : Entries) (path : List (List ℕ)) → IsInOrder es → get (seen es) path ≡ find path_cmp path es
get_seen es path sorted = get-from_sorted path_cmp es path (test sorted)

pub children_seen : (es : Entries) (path : List (List ℕ)) → IsInOrder es → children path (seen es) ≡ filter_map (λ (e : List (List ℕ) × Entry). child_of (rest_below path e.0) e.1) es
children_seen es path sorted = ap (filter_map (λ (e : List (List ℕ) × Entry). child_of (rest_below path e.0) e.1)) (entries_seen es sorted)

pub moved_seen : (es : Entries) (a b : List (List ℕ)) → IsInOrder es → moved a b (seen es) ≡ filter_map (moved_entry a b) es
moved_seen es a b sorted = ap (filter_map (moved_entry a b)) (entries_seen es sorted)

pub root_seen : seen (([], Directory 0) ∷ []) ≡ root_only
root_seen = same_map paths_total paths_exact _ _ (λ q. get_seen (([], Directory 0) ∷ []) q refl ∙ sym (get-from_entries paths_total (([], Directory 0) ∷ []) q))

pub put_in_order : (es : Entries) (path : List (List ℕ)) (e : Entry) → IsInOrder es → IsInOrder (put path_cmp path e es)
put_in_order es path e sorted = is_true _ (is_sorted-put path_cmp paths_total path e es (test sorted))

pub put_seen : (es : Entries) (path : List (List ℕ)) (e : Entry) → IsInOrder es → seen (put path_cmp path e es) ≡ insert (seen es) path e
put_seen es path e sorted = same_entries_map _ _ (entries_seen _ (put_in_order es path e sorted) ∙ ap (put path_cmp path e) (sym (entries_seen es sorted)) ∙ sym (entries-insert paths_total (seen es) path e))

abbrev pub kept : List (List ℕ) → Entries → Entries
kept path es = filter (λ (e : List (List ℕ) × Entry). not (is_under path e.0)) es

pub kept_in_order : (es : Entries) (path : List (List ℕ)) → IsInOrder es → IsInOrder (kept path es)
kept_in_order es path sorted = is_true _ (is_sorted-where_key path_cmp (λ q. not (is_under path q)) es (test sorted))

alike : (path q x : List (List ℕ)) → path_cmp q x ≡ Equal → not (is_under path x) ≡ not (is_under path q)
alike path q x tie = ap (λ (p : List (List ℕ)). not (is_under path p)) (sym (paths_exact q x tie))

pub kept_seen : (es : Entries) (path : List (List ℕ)) → IsInOrder es → seen (kept path es) ≡ without path (seen es)
kept_seen es path sorted = same_map paths_total paths_exact _ _ (λ q.
    get_seen (kept path es) q (kept_in_order es path sorted)
    ∙ find-where_key path_cmp (λ p. not (is_under path p)) q (alike path q) es
    ∙ ap (λ (found : Option Entry). cond (not (is_under path q)) found None) (sym (get_seen es q sorted))
    ∙ sym (get-retain_keys (seen es) (λ p. not (is_under path p)) q (alike path q)))

-- an entry is put, or else all stays
pub put_stays : {A E : Type 0} (r : Result A E) (es new : Entries) (path : List (List ℕ)) (e : Entry) → OnOk r (new ≡ put path_cmp path e es) → OnErr r (new ≡ es) → IsInOrder es → IsInOrder new
put_stays (Ok x) es new path e ok err sorted = subst IsInOrder (sym ok) (put_in_order es path e sorted)
put_stays (Err x) es new path e ok err sorted = subst IsInOrder (sym err) sorted

pub put_done : {A E : Type 0} (r : Result A E) (es new : Entries) (path : List (List ℕ)) (e : Entry) → OnOk r (new ≡ put path_cmp path e es) → IsInOrder es → OnOk r (seen new ≡ insert (seen es) path e)
put_done (Ok x) es new path e ok sorted = ap seen ok ∙ put_seen es path e sorted
put_done (Err x) es new path e ok sorted = tt

-- a map is made of its entries
remade : (t : Tree) → from_entries (entries t) ≡ t
remade t = same_map paths_total paths_exact _ _ (λ q. get-from_entries paths_total (entries t) q ∙ sym (get-entries t q))

-- entries are put over a map from the last to the first
pub put_all_none : (t : Tree) → from_entries ([] ++ entries t) ≡ t
put_all_none t = remade t

pub put_all_more : (es : Entries) (e : List (List ℕ) × Entry) (t : Tree) → from_entries {R = path_cmp} ((es ++ e ∷ []) ++ entries t) ≡ from_entries (es ++ entries (insert t e.0 e.1))
put_all_more [] e t = ap (λ (m : Tree). insert m e.0 e.1) (remade t) ∙ sym (remade (insert t e.0 e.1))
put_all_more (x ∷ es) e t = ap (λ (m : Tree). insert m x.0 x.1) (put_all_more es e t)
