-- What stands where, after each change of a tree.
use Rattle.std.proofs.Common.{◌≡◌, ◌≢◌, ℕ, Bool, true, false, cond, not, List, [], ◌∷◌, ◌++◌, Option, None, Some, refl, sym, ap, ◌∙◌}
use Rattle.std.specs.List.{filter_map, cons_option}
use Rattle.std.specs.Option.{option_or, option_map}
use Rattle.std.specs.FinMap.{get, insert, find, entries, from_entries, get-entries, get-insert, get-retain_keys, get-from_entries}
use Rattle.bd_names.specs.Names.{rest_below, is_under}
use Rattle.bd_names.proofs.NamesLaws.{rest_below-append, rest_below-some, is_under-append}
use Rattle.bd_model.specs.Tree.{Entry, Tree, path_cmp}
use Rattle.bd_model.specs.Step.{moved_entry, moved, without}
use Rattle.bd_model.proofs.PathOrder.{paths_total, paths_exact, same_path, same_path-refl, same_path-false, same_path-fronts}

-- ---- one entry

pub get-insert-at : (t : Tree) (p : List (List ℕ)) (e : Entry) → get (insert t p e) p ≡ Some e
get-insert-at t p e = get-insert paths_total t p e p ∙ ap (λ b. cond b (Some e) (get t p)) (same_path-refl p)

pub get-insert-other : (t : Tree) (p : List (List ℕ)) (e : Entry) (q : List (List ℕ)) → q ≢ p → get (insert t p e) q ≡ get t q
get-insert-other t p e q n = get-insert paths_total t p e q ∙ ap (λ b. cond b (Some e) (get t q)) (same_path-false q p n)

-- ---- without a path and all below it

pub get-without : (p : List (List ℕ)) (t : Tree) (q : List (List ℕ)) → get (without p t) q ≡ cond (not (is_under p q)) (get t q) None
get-without p t q = get-retain_keys t (λ x. not (is_under p x)) q (λ x tie. ap (λ (r : List (List ℕ)). not (is_under p r)) (sym (paths_exact q x tie)))

pub get-without-under : (p : List (List ℕ)) (t : Tree) (q : List (List ℕ)) → is_under p q ≡ true → get (without p t) q ≡ None
get-without-under p t q h = get-without p t q ∙ ap (λ b. cond (not b) (get t q) None) h

pub get-without-other : (p : List (List ℕ)) (t : Tree) (q : List (List ℕ)) → is_under p q ≡ false → get (without p t) q ≡ get t q
get-without-other p t q h = get-without p t q ∙ ap (λ b. cond (not b) (get t q) None) h

-- ---- moved entries

-- paths with what stands there
abbrev pub Entries : Type 0
Entries = List (List (List ℕ) × Entry)

find-append-lists : (q : List (List ℕ)) (xs ys : Entries) → find path_cmp q (xs ++ ys) ≡ option_or (find path_cmp q xs) (find path_cmp q ys)
find-append-lists q [] ys = refl
find-append-lists q (x ∷ xs) ys = by (same_path q x.0) (find-append-lists q xs ys)
  where
    by : (b : Bool) → find path_cmp q (xs ++ ys) ≡ option_or (find path_cmp q xs) (find path_cmp q ys) → cond b (Some x.1) (find path_cmp q (xs ++ ys)) ≡ option_or (cond b (Some x.1) (find path_cmp q xs)) (find path_cmp q ys)
    by true h = refl
    by false h = h

-- what stood at `a ++ r` is found at `b ++ r`
find-moved : (a b r : List (List ℕ)) (es : Entries) → find path_cmp (b ++ r) (filter_map (moved_entry a b) es) ≡ find path_cmp (a ++ r) es
find-moved a b r [] = refl
find-moved a b r (e ∷ es) = by (rest_below a e.0) refl (find-moved a b r es)
  where
    by : (o : Option (List (List ℕ))) → rest_below a e.0 ≡ o → find path_cmp (b ++ r) (filter_map (moved_entry a b) es) ≡ find path_cmp (a ++ r) es
        → find path_cmp (b ++ r) (cons_option (option_map (λ (rest : List (List ℕ)). (b ++ rest, e.1)) o) (filter_map (moved_entry a b) es)) ≡ cond (same_path (a ++ r) e.0) (Some e.1) (find path_cmp (a ++ r) es)
    by None h ih =
        ih ∙ ap (λ t. cond t (Some e.1) (find path_cmp (a ++ r) es)) (sym (same_path-false (a ++ r) e.0 (λ same. apart same)))
      where
        apart : (a ++ r ≡ e.0) → ⊥
        apart same = let found : Some r ≡ None = sym (rest_below-append a r) ∙ ap (rest_below a) same ∙ h in cc
    by (Some s) h ih =
        ap (λ (o : Option Entry). cond (same_path (b ++ r) (b ++ s)) (Some e.1) o) ih
        ∙ ap (λ t. cond t (Some e.1) (find path_cmp (a ++ r) es)) (same_path-fronts a b r s ∙ ap (same_path (a ++ r)) (sym (rest_below-some a e.0 s h)))

-- and nothing moved elsewhere
find-moved-other : (a b q : List (List ℕ)) (es : Entries) → is_under b q ≡ false → find path_cmp q (filter_map (moved_entry a b) es) ≡ None
find-moved-other a b q [] out = refl
find-moved-other a b q (e ∷ es) out = by (rest_below a e.0) (find-moved-other a b q es out)
  where
    by : (o : Option (List (List ℕ))) → find path_cmp q (filter_map (moved_entry a b) es) ≡ None
        → find path_cmp q (cons_option (option_map (λ (rest : List (List ℕ)). (b ++ rest, e.1)) o) (filter_map (moved_entry a b) es)) ≡ None
    by None ih = ih
    by (Some s) ih = ap (λ t. cond t (Some e.1) (find path_cmp q (filter_map (moved_entry a b) es))) (same_path-false q (b ++ s) (λ same. apart same)) ∙ ih
      where
        apart : (q ≡ b ++ s) → ⊥
        apart same = let in_it : false ≡ true = sym out ∙ ap (is_under b) same ∙ is_under-append b s in cc

-- the entries that move from `a` to `b` stand before those of `u`
pub get-moved : (a b : List (List ℕ)) (t u : Tree) (r : List (List ℕ)) → get (from_entries {R = path_cmp} (moved a b t ++ entries u)) (b ++ r) ≡ option_or (get t (a ++ r)) (get u (b ++ r))
get-moved a b t u r =
    get-from_entries paths_total (moved a b t ++ entries u) (b ++ r) ∙ find-append-lists (b ++ r) (moved a b t) (entries u)
    ∙ ap (λ (o : Option Entry). option_or o (find path_cmp (b ++ r) (entries u))) (find-moved a b r (entries t) ∙ sym (get-entries t (a ++ r)))
    ∙ ap (λ (o : Option Entry). option_or (get t (a ++ r)) o) (sym (get-entries u (b ++ r)))

pub get-moved-other : (a b : List (List ℕ)) (t u : Tree) (q : List (List ℕ)) → is_under b q ≡ false → get (from_entries {R = path_cmp} (moved a b t ++ entries u)) q ≡ get u q
get-moved-other a b t u q out =
    get-from_entries paths_total (moved a b t ++ entries u) q ∙ find-append-lists q (moved a b t) (entries u)
    ∙ ap (λ (o : Option Entry). option_or o (find path_cmp q (entries u))) (find-moved-other a b q (entries t) out)
    ∙ sym (get-entries u q)
