-- What a tree has where it accepts a command.
use Rattle.std.proofs.Common.{◌≡◌, ◌≢◌, ◌⊎◌, inl, inr, ℕ, ◌≤◌, Bool, true, false, cond, List, [], ◌∷◌, ◌++◌, Option, None, Some, refl, sym, ap, subst, ◌∙◌, append_assoc}
use Rattle.std.proofs.lemmas.Bool.{leb-true, both_ways as contradict}
use Rattle.std.proofs.lemmas.List.{append-nil}
use Rattle.std.specs.Prelude.{is_some, nat_le}
use Rattle.std.specs.Option.{option_or, option_and_then}
use Rattle.std.specs.FinMap.{get}
use Rattle.bd_command.specs.declared.Command.{Command}
use Rattle.bd_command.specs.declared.refusal.Refusal.{Refusal}
use Rattle.bd_command.specs.declared.refusal.Refusal.TheVariants.{Inside, TooBig}
use Rattle.bd_limits.specs.Limits.{file_limit}
use Rattle.bd_names.specs.Names.{is_under, parent_of}
use Rattle.bd_names.proofs.NamesLaws.{parent_of-some, is_under-append, is_under-rest}
use Rattle.bd_model.specs.Tree.{Entry, Directory, FileWith, has_directory, Tree, IsTree}
use Rattle.bd_model.specs.Step.{absent_refusal, file_refusal, parent_refusal, place_refusal, new_refusal, target_refusal, is_taken, root_refusal, size_refusal, inside_refusal, refusal_of, changed, stepped}
use Rattle.bd_model.specs.Laws.{Accepts, after}

pub after-accepted : (t : Tree) (c : Command) → Accepts t c → after t c ≡ changed t c
after-accepted t c ok = ap (λ r. (stepped t c r).0) ok

pub after-refused : (t : Tree) (c : Command) (r : Refusal) → refusal_of t c ≡ Some r → after t c ≡ t
after-refused t c r refused = ap (λ r. (stepped t c r).0) refused

-- ---- nothing is below what is no directory

no_child_by : (t : Tree) → IsTree t → (p : List (List ℕ)) (n : List ℕ) → has_directory (get t p) ≡ false → (o : Option Entry) → get t (p ++ n ∷ []) ≡ o → o ≡ None
no_child_by t tree p n other None e = refl
no_child_by t tree p n other (Some x) e = absurd (contradict (has_directory (get t p)) other (tree.parents p n (ap is_some e)))

pub no_child : (t : Tree) → IsTree t → (p : List (List ℕ)) (n : List ℕ) → has_directory (get t p) ≡ false → get t (p ++ n ∷ []) ≡ None
no_child t tree p n other = no_child_by t tree p n other (get t (p ++ n ∷ [])) refl

pub absent_below : (t : Tree) → IsTree t → (p r : List (List ℕ)) → get t p ≡ None → get t (p ++ r) ≡ None
absent_below t tree p [] none = ap (get t) (append-nil p) ∙ none
absent_below t tree p (n ∷ r) none =
    ap (get t) (sym (append_assoc p (n ∷ []) r))
    ∙ absent_below t tree (p ++ n ∷ []) r (no_child t tree p n (ap has_directory none))

-- below what is no directory there is nothing at all
pub empty_below : (t : Tree) → IsTree t → (p : List (List ℕ)) (n : List ℕ) (r : List (List ℕ)) → has_directory (get t p) ≡ false → get t (p ++ n ∷ r) ≡ None
empty_below t tree p n r other =
    ap (get t) (sym (append_assoc p (n ∷ []) r)) ∙ absent_below t tree (p ++ n ∷ []) r (no_child t tree p n other)

-- ---- the refusals, one by one

pub accepted_first : (x y : Option Refusal) → option_or x y ≡ None → x ≡ None
accepted_first None y h = refl
accepted_first (Some r) y h = cc

pub accepted_second : (x y : Option Refusal) → option_or x y ≡ None → y ≡ None
accepted_second None y h = h
accepted_second (Some r) y h = cc

pub not_root : (p : List (List ℕ)) → root_refusal p ≡ None → p ≢ []
not_root [] h e = cc
not_root (n ∷ ns) h e = cc

pub there_if_accepted : (o : Option Entry) → absent_refusal o ≡ None → (x : Entry) × (o ≡ Some x)
there_if_accepted None h = cc
there_if_accepted (Some x) h = (x, refl)

pub file_if_accepted : (o : Option Entry) → file_refusal o ≡ None → (mode : ℕ) × (bytes : List ℕ) × (o ≡ Some (FileWith mode bytes))
file_if_accepted None h = cc
file_if_accepted (Some (Directory mode)) h = cc
file_if_accepted (Some (FileWith mode bytes)) h = (mode, bytes, refl)

pub size_if_accepted : (size : ℕ) → size_refusal size ≡ None → size ≤ file_limit
size_if_accepted size h = leb-true size file_limit (by (nat_le size file_limit) h)
  where
    by : (b : Bool) → cond b None (Some TooBig) ≡ None → b ≡ true
    by true h = refl
    by false h = cc

pub outside_if_accepted : (a b : List (List ℕ)) → inside_refusal a b ≡ None → is_under a b ≡ false
outside_if_accepted a b h = by (is_under a b) h
  where
    by : (u : Bool) → cond u (Some Inside) None ≡ None → u ≡ false
    by true h = cc
    by false h = refl

-- no directory is at a path, and one is its parent
pub record CanMake (t : Tree) (p : List (List ℕ)) : Type 0 where
  pub free : has_directory (get t p) ≡ false
  pub front : List (List ℕ)
  pub name : List ℕ
  pub is : p ≡ front ++ name ∷ []
  pub parent : has_directory (get t front) ≡ true

directory_if_accepted : (t : Tree) (o : Option (List (List ℕ))) → parent_refusal (option_and_then (get t) o) ≡ None → (front : List (List ℕ)) × (o ≡ Some front) × (has_directory (get t front) ≡ true)
directory_if_accepted t None h = cc
directory_if_accepted t (Some front) h = (front, refl, by (get t front) h)
  where
    by : (x : Option Entry) → parent_refusal x ≡ None → has_directory x ≡ true
    by None h = cc
    by (Some (Directory mode)) h = refl
    by (Some (FileWith mode bytes)) h = cc

-- a path that isn't taken has no directory
can_place : (t : Tree) (p : List (List ℕ)) (taken : Bool) → (taken ≡ false → has_directory (get t p) ≡ false) → place_refusal taken t p ≡ None → CanMake t p
can_place t p true free h = cc
can_place t p false free h =
    let found = directory_if_accepted t (parent_of p) h in
    let cut = parent_of-some p found.0 found.1 in
    record { free = free refl; front = found.0; name = cut.0; is = cut.1; parent = found.2 }

absent_free : (o : Option Entry) → is_some o ≡ false → has_directory o ≡ false
absent_free None h = refl
absent_free (Some x) h = cc

pub can_make : (t : Tree) (p : List (List ℕ)) → new_refusal t p ≡ None → CanMake t p
can_make t p h = can_place t p (is_some (get t p)) (absent_free (get t p)) h

-- where a new entry can be made there is nothing
pub absent_if_made : (t : Tree) (p : List (List ℕ)) → new_refusal t p ≡ None → get t p ≡ None
absent_if_made t p h = by (get t p) h
  where
    by : (o : Option Entry) → place_refusal (is_some o) t p ≡ None → o ≡ None
    by None h = refl
    by (Some x) h = cc

not_taken_free : (moved there : Option Entry) → is_taken moved there ≡ false → has_directory there ≡ false
not_taken_free moved None h = refl
not_taken_free moved (Some (FileWith mode bytes)) h = refl
not_taken_free None (Some (Directory mode)) h = cc
not_taken_free (Some (Directory m)) (Some (Directory mode)) h = cc
not_taken_free (Some (FileWith m bytes)) (Some (Directory mode)) h = cc

pub can_take : (t : Tree) (a b : List (List ℕ)) → target_refusal t a b ≡ None → CanMake t b
can_take t a b h = can_place t b (is_taken (get t a) (get t b)) (not_taken_free (get t a) (get t b)) h

-- ---- two paths above one

-- of two paths above a third one, one is above the other
pub one_above : (a b q : List (List ℕ)) → is_under a q ≡ true → is_under b q ≡ true → (is_under a b ≡ true) ⊎ (is_under b a ≡ true)
one_above a b q h k =
    let u = is_under-rest a q h in
    let v = is_under-rest b q k in
    fronts a b u.0 v.0 (sym u.1 ∙ v.1)
  where
    longer : (n : List ℕ) (x y : List (List ℕ)) → (is_under x y ≡ true) → is_under (n ∷ x) (n ∷ y) ≡ true
    longer n x y h = let rest = is_under-rest x y h in subst (λ (z : List (List ℕ)). is_under (n ∷ x) (n ∷ z) ≡ true) (sym rest.1) (is_under-append (n ∷ x) rest.0)

    fronts : (x y r s : List (List ℕ)) → x ++ r ≡ y ++ s → (is_under x y ≡ true) ⊎ (is_under y x ≡ true)
    fronts [] y r s e = inl refl
    fronts (n ∷ x) [] r s e = inr refl
    fronts (n ∷ x) (m ∷ y) r s e =
        let heads : n ≡ m = cc in
        let tails : x ++ r ≡ y ++ s = cc in
        subst (λ (k : List ℕ). (is_under (n ∷ x) (k ∷ y) ≡ true) ⊎ (is_under (k ∷ y) (n ∷ x) ≡ true)) heads (by (fronts x y r s tails))
      where
        by : (is_under x y ≡ true) ⊎ (is_under y x ≡ true) → (is_under (n ∷ x) (n ∷ y) ≡ true) ⊎ (is_under (n ∷ y) (n ∷ x) ≡ true)
        by (inl g) = inl (longer n x y g)
        by (inr g) = inr (longer n y x g)
