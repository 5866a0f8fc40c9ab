-- A tree stays a tree.
use Rattle.std.proofs.Common.{◌≡◌, ◌≢◌, ◌⊎◌, inl, inr, ℕ, ◌+◌, ◌≤◌, Bool, true, false, List, [], ◌∷◌, ◌++◌, length, Option, None, Some, refl, sym, ap, subst, ◌∙◌, arith, append_assoc, length-append}
use Rattle.std.proofs.lemmas.Bool.{cases_Bool, false_from_ne_true, both_ways as contradict}
use Rattle.std.proofs.lemmas.List.{append-nil, same_from_push}
use Rattle.std.specs.Prelude.{IsSome, IfSome, is_some}
use Rattle.std.specs.FinMap.{get, insert, get-from_entries}
use Rattle.bd_limits.specs.Limits.{mode_limit}
use Rattle.bd_command.specs.declared.Command.{Command}
use Rattle.bd_command.specs.declared.Command.TheVariants.{Mkdir, Create, Write, Truncate, Remove, Rename, Clone, Chmod, Read, Stat, List as Ls}
use Rattle.bd_command.specs.declared.refusal.Refusal.{Refusal}
use Rattle.bd_command.specs.Command.{IsCommand}
use Rattle.bd_names.specs.Names.{AreNames, is_under, parent_of}
use Rattle.bd_names.proofs.NamesLaws.{AreNames-append, AreNames-parts, is_under-append, is_under-rest, is_under-trans, parent_of-some, parent_of-none}
use Rattle.bd_model.specs.Tree.{Entry, Directory, FileWith, is_directory, has_directory, Tree, IsTree, IsEntry, root_only}
use Rattle.bd_keys.specs.Edits.{resized, overwritten}
use Rattle.bd_model.specs.Step.{without, cloned, renamed, changed, stepped, refusal_of, file_refusal, size_refusal, root_refusal, absent_refusal, file_bytes, with_bytes, with_mode}
use Rattle.bd_model.specs.Laws.{Accepts, after}
use Rattle.bd_model.proofs.PathOrder.{paths_total, one_or_apart}
use Rattle.bd_model.proofs.TreeGets.{get-insert-at, get-insert-other, get-without-under, get-without-other}
use Rattle.bd_model.proofs.Accepted.{no_child, there_if_accepted, accepted_first, accepted_second, not_root, size_if_accepted, CanMake, can_make}
use Rattle.bd_model.proofs.TreeLaws.{can_clone, can_rename, rename_outside, rename_not_root, get-cloned-at, get-cloned-other, get-renamed-at, get-renamed-other, get-renamed-gone, file_written, file_truncated}
use Rattle.bd_keys.proofs.EditLemmas.{length-resized, length-overwritten, bytes-resized, bytes-overwritten}

some_not_none : (o : Option Entry) → IsSome o → o ≡ None → ⊥
some_not_none None h e = contradict false refl h
some_not_none (Some x) h e = cc

entry_at : (o : Option Entry) (x : Entry) → o ≡ Some x → IfSome o IsEntry → IsEntry x
entry_at o x e h = subst (λ (p : Option Entry). IfSome p IsEntry) e h

if_entry : (o : Option Entry) (x : Entry) → o ≡ Some x → IsEntry x → IfSome o IsEntry
if_entry o x e h = subst (λ (p : Option Entry). IfSome p IsEntry) (sym e) h

if_as : (o p : Option Entry) → o ≡ p → IfSome p IsEntry → IfSome o IsEntry
if_as o p e h = subst (λ (q : Option Entry). IfSome q IsEntry) (sym e) h

is_some_as : (o p : Option Entry) → o ≡ p → IsSome o → IsSome p
is_some_as o p e h = ap is_some (sym e) ∙ h

no_front : (p : List (List ℕ)) (n : List ℕ) → p ++ n ∷ [] ≢ []
no_front p n e = absurd (omega (arith, length-append p (n ∷ []), ap length e))

no_loop : (p : List (List ℕ)) (n : List ℕ) → p ≢ p ++ n ∷ []
no_loop p n e = absurd (omega (arith, length-append p (n ∷ []), ap length e))

under_root : (q : List (List ℕ)) → q ≢ [] → is_under q [] ≡ false
under_root [] differ = absurd (differ refl)
under_root (n ∷ ns) differ = refl

-- ---- one entry

-- an entry can stand at a path, in the place of what may be there
record CanPut (t : Tree) (p : List (List ℕ)) (e : Entry) : Type 0 where
  root : p ≡ [] → is_directory e ≡ true
  parent : (front : List (List ℕ)) (name : List ℕ) → p ≡ front ++ name ∷ [] → has_directory (get t front) ≡ true
  names : AreNames p
  bytes : IsEntry e
  below : (n : List ℕ) → IsSome (get t (p ++ n ∷ [])) → is_directory e ≡ true

put_parent : (t : Tree) → IsTree t → (p : List (List ℕ)) (e : Entry) → CanPut t p e → (path : List (List ℕ)) (n : List ℕ) → IsSome (get (insert t p e) (path ++ n ∷ [])) → has_directory (get (insert t p e) path) ≡ true
put_parent t tree p e can path n h = at (one_or_apart (path ++ n ∷ []) p)
  where
    beside : has_directory (get t path) ≡ true → path ≢ p → has_directory (get (insert t p e) path) ≡ true
    beside is differ = ap has_directory (get-insert-other t p e path differ) ∙ is

    at : (path ++ n ∷ [] ≡ p) ⊎ (path ++ n ∷ [] ≢ p) → has_directory (get (insert t p e) path) ≡ true
    at (inl same) = beside (can.parent path n (sym same)) (λ loop. no_loop path n (loop ∙ sym same))
    at (inr differ) = under (one_or_apart path p) (is_some_as (get (insert t p e) (path ++ n ∷ [])) (get t (path ++ n ∷ [])) (get-insert-other t p e (path ++ n ∷ []) differ) h)
      where
        under : (path ≡ p) ⊎ (path ≢ p) → IsSome (get t (path ++ n ∷ [])) → has_directory (get (insert t p e) path) ≡ true
        under (inl same) there =
            ap has_directory (ap (get (insert t p e)) same ∙ get-insert-at t p e)
            ∙ can.below n (subst (λ (q : List (List ℕ)). IsSome (get t (q ++ n ∷ []))) same there)
        under (inr apart) there = beside (tree.parents path n there) apart

put_root : (t : Tree) → IsTree t → (p : List (List ℕ)) (e : Entry) → CanPut t p e → has_directory (get (insert t p e) []) ≡ true
put_root t tree p e can = by (one_or_apart [] p)
  where
    by : ([] ≡ p) ⊎ ([] ≢ p) → has_directory (get (insert t p e) []) ≡ true
    by (inl same) = ap has_directory (ap (get (insert t p e)) same ∙ get-insert-at t p e) ∙ can.root (sym same)
    by (inr differ) = ap has_directory (get-insert-other t p e [] differ) ∙ tree.root

put_names : (t : Tree) → IsTree t → (p : List (List ℕ)) (e : Entry) → CanPut t p e → (path : List (List ℕ)) → IsSome (get (insert t p e) path) → AreNames path
put_names t tree p e can path h = by (one_or_apart path p)
  where
    by : (path ≡ p) ⊎ (path ≢ p) → AreNames path
    by (inl same) = subst AreNames (sym same) can.names
    by (inr differ) = tree.names path (is_some_as (get (insert t p e) path) (get t path) (get-insert-other t p e path differ) h)

put_entries : (t : Tree) → IsTree t → (p : List (List ℕ)) (e : Entry) → CanPut t p e → (path : List (List ℕ)) → IfSome (get (insert t p e) path) IsEntry
put_entries t tree p e can path = by (one_or_apart path p)
  where
    by : (path ≡ p) ⊎ (path ≢ p) → IfSome (get (insert t p e) path) IsEntry
    by (inl same) = if_entry (get (insert t p e) path) e (ap (get (insert t p e)) same ∙ get-insert-at t p e) can.bytes
    by (inr differ) = if_as (get (insert t p e) path) (get t path) (get-insert-other t p e path differ) (tree.entries path)

put_stays : (t : Tree) → IsTree t → (p : List (List ℕ)) (e : Entry) → CanPut t p e → IsTree (insert t p e)
put_stays t tree p e can = record {
  root = put_root t tree p e can;
  parents = put_parent t tree p e can;
  names = put_names t tree p e can;
  entries = put_entries t tree p e can;
}

-- a new entry
made_stays : (t : Tree) → IsTree t → (p : List (List ℕ)) (e : Entry) → AreNames p → IsEntry e → CanMake t p → IsTree (insert t p e)
made_stays t tree p e names bytes can = put_stays t tree p e (record {
  root = λ root. absurd (no_front can.front can.name (sym can.is ∙ root));
  parent = λ front name is. ap (λ (q : List (List ℕ)). has_directory (get t q)) (same_from_push front can.front name can.name (sym is ∙ can.is)).0 ∙ can.parent;
  names = names;
  bytes = bytes;
  below = λ n some. absurd (some_not_none (get t (p ++ n ∷ [])) some (no_child t tree p n can.free));
})

-- an entry of the same kind in place of another
replaced_stays : (t : Tree) → IsTree t → (p : List (List ℕ)) (old new : Entry) → get t p ≡ Some old → is_directory new ≡ is_directory old → IsEntry new → IsTree (insert t p new)
replaced_stays t tree p old new there kind bytes = put_stays t tree p new (record {
  root = λ root. kind ∙ ap has_directory (sym there ∙ ap (get t) root) ∙ tree.root;
  parent = λ front name is. tree.parents front name (subst (λ (q : List (List ℕ)). IsSome (get t q)) is (ap is_some there));
  names = tree.names p (ap is_some there);
  bytes = bytes;
  below = λ n some. kind ∙ ap has_directory (sym there) ∙ tree.parents p n some;
})

-- ---- without a path and all below it

without_stays : (t : Tree) → IsTree t → (p : List (List ℕ)) → p ≢ [] → IsTree (without p t)
without_stays t tree p differ = record {
  root = ap has_directory (get-without-other p t [] (under_root p differ)) ∙ tree.root;
  parents = λ path n h. let out = kept (path ++ n ∷ []) h in
      ap has_directory (get-without-other p t path (false_from_ne_true (is_under p path) (λ under. contradict (is_under p (path ++ n ∷ [])) out (is_under-trans p path (path ++ n ∷ []) under (is_under-append path (n ∷ []))))))
      ∙ tree.parents path n (before (path ++ n ∷ []) h);
  names = λ path h. tree.names path (before path h);
  entries = λ path. entry path (cases_Bool (is_under p path));
}
  where
    kept : (q : List (List ℕ)) → IsSome (get (without p t) q) → is_under p q ≡ false
    kept q h = false_from_ne_true (is_under p q) (λ under. some_not_none (get (without p t) q) h (get-without-under p t q under))

    before : (q : List (List ℕ)) → IsSome (get (without p t) q) → IsSome (get t q)
    before q h = is_some_as (get (without p t) q) (get t q) (get-without-other p t q (kept q h)) h

    entry : (q : List (List ℕ)) → (is_under p q ≡ true) ⊎ (is_under p q ≡ false) → IfSome (get (without p t) q) IsEntry
    entry q (inl under) = if_as (get (without p t) q) None (get-without-under p t q under) tt
    entry q (inr out) = if_as (get (without p t) q) (get t q) (get-without-other p t q out) (tree.entries q)

-- ---- moved entries

-- `u` has below `b` what `t` has below `a`, nothing where it is gone, and else what `t` has
record IsMoved (t u : Tree) (a b : List (List ℕ)) (gone : List (List ℕ) → Bool) : Type 0 where
  moved : (r : List (List ℕ)) → get u (b ++ r) ≡ get t (a ++ r)
  others : (q : List (List ℕ)) → is_under b q ≡ false → gone q ≡ false → get u q ≡ get t q
  nothing : (q : List (List ℕ)) → is_under b q ≡ false → gone q ≡ true → get u q ≡ None
  below : (q : List (List ℕ)) (n : List ℕ) → gone q ≡ true → gone (q ++ n ∷ []) ≡ true
  root : gone [] ≡ false
  above : (front : List (List ℕ)) (name : List ℕ) → b ≡ front ++ name ∷ [] → gone front ≡ false

not_under_front : (front : List (List ℕ)) (name : List ℕ) (b : List (List ℕ)) → b ≡ front ++ name ∷ [] → is_under b front ≡ false
not_under_front front name b is = false_from_ne_true (is_under b front) shorter
  where
    shorter : is_under b front ≡ true → ⊥
    shorter h =
        let rest = is_under-rest b front h in
        omega (arith, ap length rest.1, length-append b rest.0, ap length is, length-append front (name ∷ []))

-- where a path stood before: moved, kept, or gone
data Source (t u : Tree) (a b : List (List ℕ)) (q : List (List ℕ)) : Type 0 where
  Moved : (r : List (List ℕ)) → q ≡ b ++ r → get u q ≡ get t (a ++ r) → Source t u a b q
  Kept : is_under b q ≡ false → get u q ≡ get t q → Source t u a b q
  Gone : get u q ≡ None → Source t u a b q

source : (t u : Tree) (a b : List (List ℕ)) (gone : List (List ℕ) → Bool) → IsMoved t u a b gone → (q : List (List ℕ)) → Source t u a b q
source t u a b gone m q = by (cases_Bool (is_under b q)) (cases_Bool (gone q))
  where
    by : (is_under b q ≡ true) ⊎ (is_under b q ≡ false) → (gone q ≡ true) ⊎ (gone q ≡ false) → Source t u a b q
    by (inl under) g = let rest = is_under-rest b q under in Moved rest.0 rest.1 (ap (get u) rest.1 ∙ m.moved rest.0)
    by (inr out) (inl g) = Gone (m.nothing q out g)
    by (inr out) (inr g) = Kept out (m.others q out g)

moved_parent : (t u : Tree) (a b : List (List ℕ)) (gone : List (List ℕ) → Bool) → IsTree t → CanMake t b → IsMoved t u a b gone
    → (path : List (List ℕ)) (n : List ℕ) → IsSome (get u (path ++ n ∷ [])) → has_directory (get u path) ≡ true
moved_parent t u a b gone tree can m path n h = by (source t u a b gone m (path ++ n ∷ []))
  where
    from_front : (r : List (List ℕ)) → path ++ n ∷ [] ≡ b ++ r → IsSome (get t (a ++ r)) → (o : Option (List (List ℕ))) → parent_of r ≡ o → has_directory (get u path) ≡ true
    from_front r is there None none =
        let at_b : path ++ n ∷ [] ≡ can.front ++ can.name ∷ [] = is ∙ ap (λ (s : List (List ℕ)). b ++ s) (parent_of-none r none) ∙ append-nil b ∙ can.is in
        ap has_directory (ap (get u) (same_from_push path can.front n can.name at_b).0
        ∙ m.others can.front (not_under_front can.front can.name b can.is) (m.above can.front can.name can.is))
        ∙ can.parent
    from_front r is there (Some s) above =
        let cut = parent_of-some r s above in
        let at : path ++ n ∷ [] ≡ (b ++ s) ++ cut.0 ∷ [] = is ∙ ap (λ (k : List (List ℕ)). b ++ k) cut.1 ∙ sym (append_assoc b s (cut.0 ∷ [])) in
        ap has_directory (ap (get u) (same_from_push path (b ++ s) n cut.0 at).0 ∙ m.moved s)
        ∙ tree.parents (a ++ s) cut.0 (subst (λ (k : List (List ℕ)). IsSome (get t k)) (ap (λ (k : List (List ℕ)). a ++ k) cut.1 ∙ sym (append_assoc a s (cut.0 ∷ []))) there)

    kept_front : is_under b (path ++ n ∷ []) ≡ false → is_under b path ≡ false
    kept_front out = false_from_ne_true (is_under b path) (λ under. contradict (is_under b (path ++ n ∷ [])) out (is_under-trans b path (path ++ n ∷ []) under (is_under-append path (n ∷ []))))

    stays : is_under b (path ++ n ∷ []) ≡ false → gone path ≡ false
    stays out = false_from_ne_true (gone path) (λ g. some_not_none (get u (path ++ n ∷ [])) h (m.nothing (path ++ n ∷ []) out (m.below path n g)))

    by : Source t u a b (path ++ n ∷ []) → has_directory (get u path) ≡ true
    by (Moved r is e) = from_front r is (is_some_as (get u (path ++ n ∷ [])) (get t (a ++ r)) e h) (parent_of r) refl
    by (Kept out e) = ap has_directory (m.others path (kept_front out) (stays out)) ∙ tree.parents path n (is_some_as (get u (path ++ n ∷ [])) (get t (path ++ n ∷ [])) e h)
    by (Gone e) = absurd (some_not_none (get u (path ++ n ∷ [])) h e)

moved_names : (t u : Tree) (a b : List (List ℕ)) → IsTree t → AreNames b → (path : List (List ℕ)) → Source t u a b path → IsSome (get u path) → AreNames path
moved_names t u a b tree names path (Moved r is e) h =
    subst AreNames (sym is) (AreNames-append b r names (AreNames-parts a r (tree.names (a ++ r) (is_some_as (get u path) (get t (a ++ r)) e h))).1)
moved_names t u a b tree names path (Kept out e) h = tree.names path (is_some_as (get u path) (get t path) e h)
moved_names t u a b tree names path (Gone e) h = absurd (some_not_none (get u path) h e)

moved_entries : (t u : Tree) (a b : List (List ℕ)) → IsTree t → (path : List (List ℕ)) → Source t u a b path → IfSome (get u path) IsEntry
moved_entries t u a b tree path (Moved r is e) = if_as (get u path) (get t (a ++ r)) e (tree.entries (a ++ r))
moved_entries t u a b tree path (Kept out e) = if_as (get u path) (get t path) e (tree.entries path)
moved_entries t u a b tree path (Gone e) = if_as (get u path) None e tt

moved_stays : (t u : Tree) (a b : List (List ℕ)) (gone : List (List ℕ) → Bool) → IsTree t → CanMake t b → AreNames b → IsMoved t u a b gone → IsTree u
moved_stays t u a b gone tree can names m = record {
  root = ap has_directory (m.others [] (under_root b (λ root. no_front can.front can.name (sym can.is ∙ root))) m.root) ∙ tree.root;
  parents = moved_parent t u a b gone tree can m;
  names = λ path h. moved_names t u a b tree names path (source t u a b gone m path) h;
  entries = λ path. moved_entries t u a b tree path (source t u a b gone m path);
}

-- ---- the commands

mkdir_stays : (t : Tree) → IsTree t → (p : List (List ℕ)) → IsCommand (Mkdir p) → Accepts t (Mkdir p) → IsTree (insert t p (Directory 0))
mkdir_stays t tree p limits ok = made_stays t tree p (Directory 0) limits.0 (omega arith) (can_make t p ok)

create_stays : (t : Tree) → IsTree t → (p : List (List ℕ)) → IsCommand (Create p) → Accepts t (Create p) → IsTree (insert t p (FileWith 0 []))
create_stays t tree p limits ok = made_stays t tree p (FileWith 0 []) limits.0 (omega arith, tt, omega arith) (can_make t p ok)

write_stays : (t : Tree) → IsTree t → (p : List (List ℕ)) (off : ℕ) (bytes : List ℕ) → IsCommand (Write p off bytes) → Accepts t (Write p off bytes) → IsTree (insert t p (with_bytes (overwritten (file_bytes (get t p)) off bytes) (get t p)))
write_stays t tree p off bytes limits ok =
    let file = file_written t p off bytes ok in
    let old = entry_at (get t p) (FileWith file.0 file.1) file.2 (tree.entries p) in
    let size = size_if_accepted (off + length bytes) (accepted_second (file_refusal (get t p)) (size_refusal (off + length bytes)) ok) in
    subst (λ (o : Option Entry). IsTree (insert t p (with_bytes (overwritten (file_bytes o) off bytes) o))) (sym file.2)
    (replaced_stays t tree p (FileWith file.0 file.1) (FileWith file.0 (overwritten file.1 off bytes)) file.2 refl
    (omega (arith, length-overwritten file.1 off bytes, size, old.0), bytes-overwritten file.1 off bytes old.1 limits.2.2, old.2))

truncate_stays : (t : Tree) → IsTree t → (p : List (List ℕ)) (len : ℕ) → Accepts t (Truncate p len) → IsTree (insert t p (with_bytes (resized (file_bytes (get t p)) len) (get t p)))
truncate_stays t tree p len ok =
    let file = file_truncated t p len ok in
    let old = entry_at (get t p) (FileWith file.0 file.1) file.2 (tree.entries p) in
    let size = size_if_accepted len (accepted_second (file_refusal (get t p)) (size_refusal len) ok) in
    subst (λ (o : Option Entry). IsTree (insert t p (with_bytes (resized (file_bytes o) len) o))) (sym file.2)
    (replaced_stays t tree p (FileWith file.0 file.1) (FileWith file.0 (resized file.1 len)) file.2 refl
    (omega (arith, length-resized file.1 len, size), bytes-resized file.1 len old.1, old.2))

-- what another mode makes of an entry
with_mode_kind : (new : ℕ) (e : Entry) → is_directory (with_mode new (Some e)) ≡ is_directory e
with_mode_kind new (Directory mode) = refl
with_mode_kind new (FileWith mode bytes) = refl

with_mode_entry : (new : ℕ) (e : Entry) → new ≤ mode_limit → IsEntry e → IsEntry (with_mode new (Some e))
with_mode_entry new (Directory mode) small entry = small
with_mode_entry new (FileWith mode bytes) small entry = (entry.0, entry.1, small)

chmod_stays : (t : Tree) → IsTree t → (p : List (List ℕ)) (new : ℕ) → IsCommand (Chmod p new) → Accepts t (Chmod p new) → IsTree (insert t p (with_mode new (get t p)))
chmod_stays t tree p new limits ok =
    let found = there_if_accepted (get t p) ok in
    subst (λ (o : Option Entry). IsTree (insert t p (with_mode new o))) (sym found.1)
    (replaced_stays t tree p found.0 (with_mode new (Some found.0)) found.1 (with_mode_kind new found.0)
    (with_mode_entry new found.0 limits.1 (entry_at (get t p) found.0 found.1 (tree.entries p))))

clone_stays : (t : Tree) → IsTree t → (a b : List (List ℕ)) → IsCommand (Clone a b) → Accepts t (Clone a b) → IsTree (cloned a b t)
clone_stays t tree a b limits ok =
    let can = can_clone t a b ok in
    moved_stays t (cloned a b t) a b (λ q. false) tree can.free limits.1.0 (record {
      moved = get-cloned-at t tree a b can;
      others = λ q out _. get-cloned-other t a b q out;
      nothing = λ q out h. absurd (contradict false refl h);
      below = λ q n h. h;
      root = refl;
      above = λ front name is. refl;
    })

rename_stays : (t : Tree) → IsTree t → (a b : List (List ℕ)) → IsCommand (Rename a b) → Accepts t (Rename a b) → IsTree (renamed a b t)
rename_stays t tree a b limits ok =
    let can = can_rename t a b ok in
    moved_stays t (renamed a b t) a b (is_under a) tree can.free limits.1.0 (record {
      moved = get-renamed-at t tree a b can;
      others = λ q out kept. get-renamed-other t a b q kept out;
      nothing = λ q out h. get-renamed-gone t a b q out h;
      below = λ q n h. is_under-trans a q (q ++ n ∷ []) h (is_under-append q (n ∷ []));
      root = under_root a (rename_not_root t a b ok);
      above = λ front name is. false_from_ne_true (is_under a front) (λ h. inside front name is h);
    })
  where
    inside : (front : List (List ℕ)) (name : List ℕ) → b ≡ front ++ name ∷ [] → is_under a front ≡ true → ⊥
    inside front name is h = contradict (is_under a b) (rename_outside t a b ok) (ap (is_under a) is ∙ is_under-trans a front (front ++ name ∷ []) h (is_under-append front (name ∷ [])))

changed_stays : (t : Tree) → IsTree t → (c : Command) → IsCommand c → Accepts t c → IsTree (changed t c)
changed_stays t tree (Mkdir p) limits ok = mkdir_stays t tree p limits ok
changed_stays t tree (Create p) limits ok = create_stays t tree p limits ok
changed_stays t tree (Write p off bytes) limits ok = write_stays t tree p off bytes limits ok
changed_stays t tree (Truncate p len) limits ok = truncate_stays t tree p len ok
changed_stays t tree (Remove p) limits ok = without_stays t tree p (not_root p (accepted_first (root_refusal p) (absent_refusal (get t p)) ok))
changed_stays t tree (Rename a b) limits ok = rename_stays t tree a b limits ok
changed_stays t tree (Clone a b) limits ok = clone_stays t tree a b limits ok
changed_stays t tree (Chmod p new) limits ok = chmod_stays t tree p new limits ok
changed_stays t tree (Read p off len) limits ok = tree
changed_stays t tree (Stat p) limits ok = tree
changed_stays t tree (Ls p from) limits ok = tree

pub after_stays : (t : Tree) (c : Command) → IsTree t → IsCommand c → IsTree (after t c)
after_stays t c tree limits = by (refusal_of t c) refl
  where
    by : (o : Option Refusal) → refusal_of t c ≡ o → IsTree (stepped t c o).0
    by None ok = changed_stays t tree c limits ok
    by (Some r) refused = tree

-- ---- the tree of `/` alone

get-root_only : (q : List (List ℕ)) → q ≢ [] → get root_only q ≡ None
get-root_only [] differ = absurd (differ refl)
get-root_only (n ∷ q) differ = get-from_entries paths_total (([], Directory 0) ∷ []) (n ∷ q)

get-root_only-root : get root_only [] ≡ Some (Directory 0)
get-root_only-root = get-from_entries paths_total (([], Directory 0) ∷ []) []

root_names : (q : List (List ℕ)) → IsSome (get root_only q) → AreNames q
root_names [] h = refl
root_names (n ∷ q) h = absurd (some_not_none (get root_only (n ∷ q)) h (get-from_entries paths_total (([], Directory 0) ∷ []) (n ∷ q)))

root_entries : (q : List (List ℕ)) → IfSome (get root_only q) IsEntry
root_entries [] = if_entry (get root_only []) (Directory 0) get-root_only-root (omega arith)
root_entries (n ∷ q) = if_as (get root_only (n ∷ q)) None (get-from_entries paths_total (([], Directory 0) ∷ []) (n ∷ q)) tt

pub root_only_is_tree : IsTree root_only
root_only_is_tree = record {
  root = ap has_directory get-root_only-root;
  parents = λ path n h. absurd (some_not_none (get root_only (path ++ n ∷ [])) h (get-root_only (path ++ n ∷ []) (no_front path n)));
  names = root_names;
  entries = root_entries;
}
