-- What the tree after an accepted command has at each path.
use Rattle.std.proofs.Common.{◌≡◌, ◌≢◌, ◌⊎◌, inl, inr, ℕ, ◌+◌, Bool, true, false, cond, List, [], ◌∷◌, ◌++◌, length, append-nil, Option, None, Some, refl, sym, ap, ◌∙◌}
use Rattle.std.proofs.lemmas.Bool.{both_ways as contradict}
use Rattle.std.specs.Prelude.{is_some}
use Rattle.std.specs.Option.{option_or, option_and_then}
use Rattle.std.specs.FinMap.{get, insert}
use Rattle.bd_command.specs.declared.Command.{Command}
use Rattle.bd_command.specs.declared.Command.TheVariants.{Write, Truncate, Remove, Rename, Clone, Chmod, Read, Stat, List as Ls}
use Rattle.bd_command.specs.Command.{writes}
use Rattle.bd_names.specs.Names.{is_under, parent_of}
use Rattle.bd_names.proofs.NamesLaws.{is_under-append, is_under-rest, parent_of-some, parent_of-none}
use Rattle.bd_model.specs.Tree.{Entry, Directory, FileWith, has_directory, Tree, IsTree}
use Rattle.bd_keys.specs.Edits.{resized, overwritten}
use Rattle.bd_model.specs.Step.{absent_refusal, file_refusal, parent_refusal, place_refusal, is_taken, new_refusal, target_refusal, root_refusal, size_refusal, inside_refusal, file_bytes, with_bytes, with_mode, without, cloned, renamed, changed, stepped, refusal_of}
use Rattle.bd_command.specs.declared.refusal.Refusal.{Refusal}
use Rattle.bd_command.specs.declared.refusal.Refusal.TheVariants.{Inside}
use Rattle.bd_model.specs.Laws.{Accepts, after}
use Rattle.bd_model.proofs.TreeGets.{get-insert-at, get-insert-other, get-without-under, get-without-other, get-moved, get-moved-other}
use Rattle.bd_model.proofs.Accepted.{after-accepted, absent_if_made, empty_below, accepted_first, accepted_second, not_root, there_if_accepted, file_if_accepted, outside_if_accepted, CanMake, can_make, can_take, one_above}

-- ---- a clone, and a rename

-- what `rename` and `clone` ask for
pub record CanMove (t : Tree) (a b : List (List ℕ)) : Type 0 where
  pub entry : Entry
  pub there : get t a ≡ Some entry
  pub free : CanMake t b

pub can_clone : (t : Tree) (a b : List (List ℕ)) → Accepts t (Clone a b) → CanMove t a b
can_clone t a b ok =
    let found = there_if_accepted (get t a) (accepted_first (absent_refusal (get t a)) (new_refusal t b) ok) in
    record { entry = found.0; there = found.1; free = can_make t b (accepted_second (absent_refusal (get t a)) (new_refusal t b) ok) }

rename_parts : (t : Tree) (a b : List (List ℕ)) → Accepts t (Rename a b) → (absent_refusal (get t a) ≡ None) × (inside_refusal a b ≡ None) × (target_refusal t a b ≡ None)
rename_parts t a b ok =
    let rest = accepted_second (root_refusal a) (option_or (absent_refusal (get t a)) (option_or (inside_refusal a b) (target_refusal t a b))) ok in
    let last = accepted_second (absent_refusal (get t a)) (option_or (inside_refusal a b) (target_refusal t a b)) rest in
    (accepted_first (absent_refusal (get t a)) (option_or (inside_refusal a b) (target_refusal t a b)) rest, accepted_first (inside_refusal a b) (target_refusal t a b) last, accepted_second (inside_refusal a b) (target_refusal t a b) last)

pub can_rename : (t : Tree) (a b : List (List ℕ)) → Accepts t (Rename a b) → CanMove t a b
can_rename t a b ok =
    let parts = rename_parts t a b ok in
    let found = there_if_accepted (get t a) parts.0 in
    record { entry = found.0; there = found.1; free = can_take t a b parts.2 }

pub rename_outside : (t : Tree) (a b : List (List ℕ)) → Accepts t (Rename a b) → is_under a b ≡ false
rename_outside t a b ok = outside_if_accepted a b (rename_parts t a b ok).1

pub rename_not_root : (t : Tree) (a b : List (List ℕ)) → Accepts t (Rename a b) → a ≢ []
rename_not_root t a b ok = not_root a (accepted_first (root_refusal a) (option_or (absent_refusal (get t a)) (option_or (inside_refusal a b) (target_refusal t a b))) ok)

or_none : (o x : Option Entry) → x ≡ None → option_or o x ≡ o
or_none None x e = e
or_none (Some y) x e = refl

or_some : (o x : Option Entry) (e : Entry) → o ≡ Some e → option_or o x ≡ o
or_some None x e h = cc
or_some (Some y) x e h = refl

-- nothing stood below the place that something was moved to, and what is moved stands at it
moved_first : (t : Tree) → IsTree t → (a b : List (List ℕ)) → CanMove t a b → (r : List (List ℕ)) (x : Option Entry) → (get t (b ++ r) ≡ None → x ≡ None) → option_or (get t (a ++ r)) x ≡ get t (a ++ r)
moved_first t tree a b can [] x gone = or_some (get t (a ++ [])) x can.entry (ap (get t) (append-nil a) ∙ can.there)
moved_first t tree a b can (n ∷ r) x gone = or_none (get t (a ++ n ∷ r)) x (gone (empty_below t tree b n r can.free.free))

pub get-cloned-at : (t : Tree) → IsTree t → (a b : List (List ℕ)) → CanMove t a b → (r : List (List ℕ)) → get (cloned a b t) (b ++ r) ≡ get t (a ++ r)
get-cloned-at t tree a b can r = get-moved a b t t r ∙ moved_first t tree a b can r (get t (b ++ r)) (λ none. none)

pub get-cloned-other : (t : Tree) (a b q : List (List ℕ)) → is_under b q ≡ false → get (cloned a b t) q ≡ get t q
get-cloned-other t a b q out = get-moved-other a b t t q out

without_stays_absent : (a : List (List ℕ)) (t : Tree) (q : List (List ℕ)) → get t q ≡ None → get (without a t) q ≡ None
without_stays_absent a t q none = by (is_under a q) refl
  where
    by : (u : Bool) → is_under a q ≡ u → get (without a t) q ≡ None
    by true h = get-without-under a t q h
    by false h = get-without-other a t q h ∙ none

pub get-renamed-at : (t : Tree) → IsTree t → (a b : List (List ℕ)) → CanMove t a b → (r : List (List ℕ)) → get (renamed a b t) (b ++ r) ≡ get t (a ++ r)
get-renamed-at t tree a b can r =
    get-moved a b t (without a t) r
    ∙ moved_first t tree a b can r (get (without a t) (b ++ r)) (without_stays_absent a t (b ++ r))

pub get-renamed-other : (t : Tree) (a b q : List (List ℕ)) → is_under a q ≡ false → is_under b q ≡ false → get (renamed a b t) q ≡ get t q
get-renamed-other t a b q from to = get-moved-other a b t (without a t) q to ∙ get-without-other a t q from

pub get-renamed-gone : (t : Tree) (a b q : List (List ℕ)) → is_under b q ≡ false → is_under a q ≡ true → get (renamed a b t) q ≡ None
get-renamed-gone t a b q to from = get-moved-other a b t (without a t) q to ∙ get-without-under a t q from

-- what is moved doesn't stand below the place that it is moved to
moved_same : (t : Tree) → IsTree t → (a b : List (List ℕ)) → CanMove t a b → is_under b a ≡ true → a ≡ b
moved_same t tree a b can under = let rest = is_under-rest b a under in by rest.0 rest.1
  where
    by : (r : List (List ℕ)) → a ≡ b ++ r → a ≡ b
    by [] is = is ∙ append-nil b
    by (n ∷ r) is = absurd (let e : Some can.entry ≡ None = sym can.there ∙ ap (get t) is ∙ empty_below t tree b n r can.free.free in cc)

-- the two places are apart
pub apart_from_new : (t : Tree) → IsTree t → (a b : List (List ℕ)) → CanMove t a b → is_under a b ≡ false → (q : List (List ℕ)) → is_under a q ≡ true → is_under b q ≡ false
apart_from_new t tree a b can out q from = by (is_under b q) refl
  where
    clash : (is_under a b ≡ true) ⊎ (is_under b a ≡ true) → ⊥
    clash (inl h) = let e : true ≡ false = sym h ∙ out in cc
    clash (inr h) = let e : true ≡ false = sym (is_under-append a []) ∙ ap (is_under a) (append-nil a ∙ moved_same t tree a b can h) ∙ out in cc

    by : (u : Bool) → is_under b q ≡ u → is_under b q ≡ false
    by true to = absurd (clash (one_above a b q from to))
    by false h = h

-- ---- the tree after a command

pub after-made : (t : Tree) (c : Command) (p : List (List ℕ)) (e : Entry) → Accepts t c → changed t c ≡ insert t p e → get (after t c) p ≡ Some e
after-made t c p e ok is = ap (λ (u : Tree). get u p) (after-accepted t c ok ∙ is) ∙ get-insert-at t p e

-- refused or accepted: what the changed tree has as before, the tree after has as before
as_before : (t : Tree) (c : Command) (q : List (List ℕ)) → get (changed t c) q ≡ get t q → get (after t c) q ≡ get t q
as_before t c q same = by (refusal_of t c)
  where
    by : (o : Option Refusal) → get (stepped t c o).0 q ≡ get t q
    by None = same
    by (Some r) = refl

pub after-others : (t : Tree) (c : Command) (p : List (List ℕ)) (e : Entry) (q : List (List ℕ)) → changed t c ≡ insert t p e → q ≢ p → get (after t c) q ≡ get t q
after-others t c p e q is differ = as_before t c q (ap (λ (u : Tree). get u q) is ∙ get-insert-other t p e q differ)

pub after-reading : (t : Tree) (c : Command) → writes c ≡ false → after t c ≡ t
after-reading t c h = by (refusal_of t c) (unchanged c h)
  where
    unchanged : (d : Command) → writes d ≡ false → changed t d ≡ t
    unchanged (Read path off len) h = refl
    unchanged (Stat path) h = refl
    unchanged (Ls path from) h = refl
    unchanged d h = absurd (let e : true ≡ false = h in cc)

    by : (o : Option Refusal) → changed t c ≡ t → (stepped t c o).0 ≡ t
    by None is = is
    by (Some r) is = refl

-- the file that an accepted `write` or `truncate` finds
pub file_written : (t : Tree) (p : List (List ℕ)) (off : ℕ) (bytes : List ℕ) → Accepts t (Write p off bytes) → (mode : ℕ) × (old : List ℕ) × (get t p ≡ Some (FileWith mode old))
file_written t p off bytes ok = file_if_accepted (get t p) (accepted_first (file_refusal (get t p)) (size_refusal (off + length bytes)) ok)

pub file_truncated : (t : Tree) (p : List (List ℕ)) (len : ℕ) → Accepts t (Truncate p len) → (mode : ℕ) × (old : List ℕ) × (get t p ≡ Some (FileWith mode old))
file_truncated t p len ok = file_if_accepted (get t p) (accepted_first (file_refusal (get t p)) (size_refusal len) ok)

pub after-written : (t : Tree) (p : List (List ℕ)) (off : ℕ) (bytes : List ℕ) → Accepts t (Write p off bytes) → (mode : ℕ) × (old : List ℕ) × (get t p ≡ Some (FileWith mode old)) × (get (after t (Write p off bytes)) p ≡ Some (FileWith mode (overwritten old off bytes)))
after-written t p off bytes ok =
    let file = file_written t p off bytes ok in
    (file.0, file.1, file.2, after-made t (Write p off bytes) p (with_bytes (overwritten (file_bytes (get t p)) off bytes) (get t p)) ok refl ∙ ap (λ (o : Option Entry). Some (with_bytes (overwritten (file_bytes o) off bytes) o)) file.2)

pub after-truncated : (t : Tree) (p : List (List ℕ)) (len : ℕ) → Accepts t (Truncate p len) → (mode : ℕ) × (old : List ℕ) × (get t p ≡ Some (FileWith mode old)) × (get (after t (Truncate p len)) p ≡ Some (FileWith mode (resized old len)))
after-truncated t p len ok =
    let file = file_truncated t p len ok in
    (file.0, file.1, file.2, after-made t (Truncate p len) p (with_bytes (resized (file_bytes (get t p)) len) (get t p)) ok refl ∙ ap (λ (o : Option Entry). Some (with_bytes (resized (file_bytes o) len) o)) file.2)

-- a `chmod` is accepted where something is
pub after-chmod : (t : Tree) (p : List (List ℕ)) (new : ℕ) (e : Entry) → get t p ≡ Some e → get (after t (Chmod p new)) p ≡ Some (with_mode new (Some e))
after-chmod t p new e there =
    after-made t (Chmod p new) p (with_mode new (get t p)) (ap absent_refusal there) refl ∙ ap (λ (o : Option Entry). Some (with_mode new o)) there

pub after-removed : (t : Tree) (p q : List (List ℕ)) → Accepts t (Remove p) → is_under p q ≡ true → get (after t (Remove p)) q ≡ None
after-removed t p q ok h = ap (λ (u : Tree). get u q) (after-accepted t (Remove p) ok) ∙ get-without-under p t q h

pub after-remove-others : (t : Tree) (p q : List (List ℕ)) → is_under p q ≡ false → get (after t (Remove p)) q ≡ get t q
after-remove-others t p q h = as_before t (Remove p) q (get-without-other p t q h)

pub after-cloned : (t : Tree) (a b rest : List (List ℕ)) → IsTree t → Accepts t (Clone a b) → get (after t (Clone a b)) (b ++ rest) ≡ get t (a ++ rest)
after-cloned t a b rest tree ok = ap (λ (u : Tree). get u (b ++ rest)) (after-accepted t (Clone a b) ok) ∙ get-cloned-at t tree a b (can_clone t a b ok) rest

pub after-clone-others : (t : Tree) (a b q : List (List ℕ)) → is_under b q ≡ false → get (after t (Clone a b)) q ≡ get t q
after-clone-others t a b q h = as_before t (Clone a b) q (get-cloned-other t a b q h)

-- where a clone is made nothing stood, so it stands beside what it is made of, or within
pub clone_apart : (t : Tree) (a b : List (List ℕ)) → IsTree t → Accepts t (Clone a b) → is_under b a ≡ false
clone_apart t a b tree ok = by (is_under b a) refl (can_clone t a b ok)
  where
    by : (u : Bool) → is_under b a ≡ u → CanMove t a b → is_under b a ≡ false
    by true h can = absurd (let e : Some can.entry ≡ None = sym can.there ∙ ap (get t) (moved_same t tree a b can h) ∙ absent_if_made t b (accepted_second (absent_refusal (get t a)) (new_refusal t b) ok) in cc)
    by false h can = h

pub after-renamed : (t : Tree) (a b rest : List (List ℕ)) → IsTree t → Accepts t (Rename a b) → get (after t (Rename a b)) (b ++ rest) ≡ get t (a ++ rest)
after-renamed t a b rest tree ok = ap (λ (u : Tree). get u (b ++ rest)) (after-accepted t (Rename a b) ok) ∙ get-renamed-at t tree a b (can_rename t a b ok) rest

pub after-rename-gone : (t : Tree) (a b rest : List (List ℕ)) → IsTree t → Accepts t (Rename a b) → get (after t (Rename a b)) (a ++ rest) ≡ None
after-rename-gone t a b rest tree ok =
    let under = is_under-append a rest in
    let beside = apart_from_new t tree a b (can_rename t a b ok) (rename_outside t a b ok) (a ++ rest) under in
    ap (λ (u : Tree). get u (a ++ rest)) (after-accepted t (Rename a b) ok) ∙ get-renamed-gone t a b (a ++ rest) beside under

pub after-rename-others : (t : Tree) (a b q : List (List ℕ)) → is_under a q ≡ false → is_under b q ≡ false → get (after t (Rename a b)) q ≡ get t q
after-rename-others t a b q from to = as_before t (Rename a b) q (get-renamed-other t a b q from to)

-- ---- a file takes the place of another one

no_root : (t : Tree) → IsTree t → (p : List (List ℕ)) → has_directory (get t p) ≡ false → root_refusal p ≡ None
no_root t tree [] other = absurd (contradict (has_directory (get t [])) other tree.root)
no_root t tree (n ∷ p) other = refl

outside_file : (t : Tree) → IsTree t → (a b : List (List ℕ)) (e : Entry) → has_directory (get t a) ≡ false → get t b ≡ Some e → a ≢ b → is_under a b ≡ false
outside_file t tree a b e other there differ = by (is_under a b) refl
  where
    rest_is : (r : List (List ℕ)) → b ≡ a ++ r → ⊥
    rest_is [] is = differ (sym (is ∙ append-nil a))
    rest_is (n ∷ r) is = let both : Some e ≡ None = sym there ∙ ap (get t) is ∙ empty_below t tree a n r other in cc

    by : (u : Bool) → is_under a b ≡ u → is_under a b ≡ false
    by true h = let rest = is_under-rest a b h in absurd (rest_is rest.0 rest.1)
    by false h = h

has_parent : (t : Tree) → IsTree t → (b : List (List ℕ)) (e : Entry) → get t b ≡ Some e → has_directory (get t b) ≡ false → parent_refusal (option_and_then (get t) (parent_of b)) ≡ None
has_parent t tree b e there other = by (parent_of b) refl
  where
    parent_is : (o : Option Entry) → has_directory o ≡ true → parent_refusal o ≡ None
    parent_is None h = cc
    parent_is (Some (Directory mode)) h = refl
    parent_is (Some (FileWith mode bytes)) h = cc

    by : (o : Option (List (List ℕ))) → parent_of b ≡ o → parent_refusal (option_and_then (get t) o) ≡ None
    by None root = absurd (contradict (has_directory (get t b)) other (ap (λ (q : List (List ℕ)). has_directory (get t q)) (parent_of-none b root) ∙ tree.root))
    by (Some front) above =
        let cut = parent_of-some b front above in
        parent_is (get t front) (tree.parents front cut.0 (ap is_some (ap (get t) (sym cut.1) ∙ there)))

pub rename_over : (t : Tree) (a b : List (List ℕ)) (m n : ℕ) (xs ys : List ℕ) → IsTree t → get t a ≡ Some (FileWith m xs) → get t b ≡ Some (FileWith n ys) → a ≢ b → Accepts t (Rename a b)
rename_over t a b m n xs ys tree from to differ =
    ap (λ (r : Option Refusal). option_or r (option_or (absent_refusal (get t a)) (option_or (inside_refusal a b) (target_refusal t a b)))) (no_root t tree a (ap has_directory from))
    ∙ ap (λ (r : Option Refusal). option_or r (option_or (inside_refusal a b) (target_refusal t a b))) (ap absent_refusal from)
    ∙ ap (λ (u : Bool). option_or (cond u (Some Inside) None) (target_refusal t a b)) (outside_file t tree a b (FileWith n ys) (ap has_directory from) to differ)
    ∙ ap (λ (o : Option Entry). place_refusal (is_taken o (get t b)) t b) from
    ∙ ap (λ (o : Option Entry). place_refusal (is_taken (Some (FileWith m xs)) o) t b) to
    ∙ has_parent t tree b (FileWith n ys) to (ap has_directory to)
