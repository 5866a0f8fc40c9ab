-- A tree with one entry more, or with another entry in the place of one.
use Rattle.std.proofs.Common.{◌≡◌, ◌≢◌, ◌⊎◌, inl, inr, ℕ, ◌<◌, ◌≤◌, Bool, true, false, List, [], ◌∷◌, ◌++◌, length, Option, None, Some, refl, sym, ap, subst, ◌∙◌, arith, append_assoc, length-append}
use Rattle.std.specs.Prelude.{IsSome, IfSome, is_some}
use Rattle.std.specs.FinMap.{get, insert, empty, get-empty}
use Rattle.std.specs.List.{AllByRecursion}
use Rattle.std.proofs.lemmas.List.{append-nil, same_from_push}
use Rattle.bd_limits.specs.Limits.{file_limit}
use Rattle.bd_keys.specs.Edits.{resized}
use Rattle.bd_keys.specs.Keys.{IsKey, IsAtLeast}
use Rattle.bd_keys.proofs.Order.{IsKey-rest, not_below_itself}
use Rattle.bd_keys.proofs.EditLemmas.{length-resized, bytes-resized}
use Rattle.bd_names.specs.Names.{AreNames}
use Rattle.bd_model.specs.Tree.{Entry, Directory, FileWith, is_directory, has_directory, Tree, IsTree, IsEntry, path_cmp}
use Rattle.bd_model.specs.Step.{mode_at}
use Rattle.bd_model.proofs.PathOrder.{one_or_apart}
use Rattle.bd_model.proofs.TreeGets.{get-insert-at, get-insert-other}
use Rattle.bd_records.specs.declared.Record.{Record}
use Rattle.bd_records.specs.declared.Record.TheVariants.{Dir, File}
use Rattle.bd_records.specs.Records.{IsRecord}
use Rattle.bd_represent.specs.EntryKeys.{record_key}
use Rattle.bd_represent.specs.Represents.{record_of}
use Rattle.bd_entries.specs.Fronts.{AllowsMode, AllowsModes}
use Rattle.bd_entries.specs.Marks.{mode_of, is_dir}

-- ---- entries

pub absent : (o : Option Entry) → IsSome o → o ≡ None → ⊥
absent None some e = let no : IsSome {T = Entry} None = some in cc
absent (Some x) some e = cc

pub some_is : (o : Option Entry) → IsSome o → (e : Entry) × (o ≡ Some e)
some_is None h = absurd (let no : false ≡ true = h in cc)
some_is (Some e) h = (e, refl)

pub directory_some : (o : Option Entry) → has_directory o ≡ true → IsSome o
directory_some None h = h
directory_some (Some e) h = refl

-- the entry of a new record: a file has zeros until its blocks come
unfoldable pub entry_of : Record → Entry
entry_of (Dir mode) = Directory mode
entry_of (File len mode) = FileWith mode (resized [] len)

pub record_of-entry_of : (r : Record) → record_of (entry_of r) ≡ r
unfolding entry_of
record_of-entry_of (Dir mode) = refl
record_of-entry_of (File len mode) = ap (λ (n : ℕ). File n mode) (length-resized [] len)

pub mode_at-entry_of : (r : Record) → mode_at (Some (entry_of r)) ≡ mode_of r
unfolding entry_of
mode_at-entry_of (Dir mode) = refl
mode_at-entry_of (File len mode) = refl

pub IsEntry-entry_of : (r : Record) → IsRecord r → IsEntry (entry_of r)
unfolding entry_of
IsEntry-entry_of (Dir mode) h = h
IsEntry-entry_of (File len mode) h = (subst (λ (n : ℕ). n ≤ file_limit) (sym (length-resized [] len)) h.0, bytes-resized [] len tt, h.1)

pub is_directory-entry_of : (r : Record) → is_directory (entry_of r) ≡ is_dir r
unfolding entry_of
is_directory-entry_of (Dir mode) = refl
is_directory-entry_of (File len mode) = refl

pub is_dir-record_of : (e : Entry) → is_dir (record_of e) ≡ is_directory e
is_dir-record_of (Directory mode) = refl
is_dir-record_of (FileWith mode bytes) = refl

-- the bytes of a key are bytes
pub all_bytes : (k : List ℕ) → IsKey k → AllByRecursion (λ b. b < 256) k
all_bytes [] h = tt
all_bytes (b ∷ k) h = (h 0, all_bytes k (IsKey-rest b k h))

-- ---- trees

-- what stands above an entry is there
pub above : (t : Tree) → IsTree t → (p below : List (List ℕ)) → IsSome (get t (p ++ below)) → IsSome (get t p)
above t tree p [] h = subst (λ (q : List (List ℕ)). IsSome (get t q)) (append-nil p) h
above t tree p (n ∷ below) h =
    let up = above t tree (p ++ n ∷ []) below (subst (λ (q : List (List ℕ)). IsSome (get t q)) (sym (append_assoc p (n ∷ []) below)) h) in
    directory_some (get t p) (tree.parents p n up)

-- and is a directory
pub directory_above : (t : Tree) → IsTree t → (p : List (List ℕ)) (n : List ℕ) (below : List (List ℕ)) → IsSome (get t (p ++ n ∷ below)) → has_directory (get t p) ≡ true
directory_above t tree p n below h =
    tree.parents p n (above t tree (p ++ n ∷ []) below (subst (λ (q : List (List ℕ)). IsSome (get t q)) (sym (append_assoc p (n ∷ []) below)) h))

-- a tree but for `/`
pub record IsGrown (t : Tree) : Type 0 where
  pub parents : (path : List (List ℕ)) (name : List ℕ) → IsSome (get t (path ++ name ∷ [])) → has_directory (get t path) ≡ true
  pub names : (path : List (List ℕ)) → IsSome (get t path) → AreNames path
  pub entries : (path : List (List ℕ)) → IfSome (get t path) IsEntry

pub tree_grown : (t : Tree) → IsTree t → IsGrown t
tree_grown t tree = record { parents = tree.parents; names = tree.names; entries = tree.entries }

-- the tree without paths, which isn't one
abbrev pub no_paths : Tree
no_paths = empty

pub get-no_paths : (path : List (List ℕ)) → get no_paths path ≡ None
get-no_paths path = get-empty path_cmp path

pub empty_grown : IsGrown no_paths
empty_grown = record {
  parents = λ path name some. absurd (absent (get no_paths (path ++ name ∷ [])) some (get-no_paths (path ++ name ∷ [])));
  names = λ path some. absurd (absent (get no_paths path) some (get-no_paths path));
  entries = λ path. subst (λ (o : Option Entry). IfSome o IsEntry) (sym (get-no_paths path)) tt;
}

-- an entry can stand at a path, in the place of what may be there
pub record CanStand (t : Tree) (p : List (List ℕ)) (e : Entry) : Type 0 where
  pub root : ([] ≡ p → is_directory e ≡ true) × ([] ≢ p → has_directory (get t []) ≡ true)
  pub parent : (front : List (List ℕ)) (name : List ℕ) → p ≡ front ++ name ∷ [] → has_directory (get t front) ≡ true
  pub names : AreNames p
  pub bytes : IsEntry e
  pub below : (n : List ℕ) → IsSome (get t (p ++ n ∷ [])) → is_directory e ≡ true

no_loop : (p : List (List ℕ)) (n : List ℕ) → p ≢ p ++ n ∷ []
no_loop p n e = absurd (omega (arith, length-append p (n ∷ []), ap length e))

no_front : (p : List (List ℕ)) (n : List ℕ) → [] ≡ p ++ n ∷ [] → ⊥
no_front p n e = absurd (omega (arith, length-append p (n ∷ []), ap length e))

module _ (t : Tree) (grown : IsGrown t) (p : List (List ℕ)) (e : Entry) (can : CanStand t p e) where
  there : get (insert t p e) p ≡ Some e
  there = get-insert-at t p e

  beside : (q : List (List ℕ)) → q ≢ p → get (insert t p e) q ≡ get t q
  beside q differ = get-insert-other t p e q differ

  put_parent : (path : List (List ℕ)) (n : List ℕ) → IsSome (get (insert t p e) (path ++ n ∷ [])) → has_directory (get (insert t p e) path) ≡ true
  put_parent path n h = at (one_or_apart (path ++ n ∷ []) p) (one_or_apart path p)
    where
      at : (path ++ n ∷ [] ≡ p) ⊎ (path ++ n ∷ [] ≢ p) → (path ≡ p) ⊎ (path ≢ p) → has_directory (get (insert t p e) path) ≡ true
      at (inl same) (inl loop) = absurd (no_loop path n (loop ∙ sym same))
      at (inl same) (inr apart) = ap has_directory (beside path apart) ∙ can.parent path n (sym same)
      at (inr differ) (inl same) =
          ap has_directory (ap (get (insert t p e)) same ∙ there)
          ∙ can.below n (subst (λ (q : List (List ℕ)). IsSome (get t (q ++ n ∷ []))) same (subst IsSome (beside (path ++ n ∷ []) differ) h))
      at (inr differ) (inr apart) = ap has_directory (beside path apart) ∙ grown.parents path n (subst IsSome (beside (path ++ n ∷ []) differ) h)

  put_root : has_directory (get (insert t p e) []) ≡ true
  put_root = by (one_or_apart [] p)
    where
      by : ([] ≡ p) ⊎ ([] ≢ p) → has_directory (get (insert t p e) []) ≡ true
      by (inl same) = ap has_directory (ap (get (insert t p e)) same ∙ there) ∙ can.root.0 same
      by (inr differ) = ap has_directory (beside [] differ) ∙ can.root.1 differ

  put_names : (path : List (List ℕ)) → IsSome (get (insert t p e) path) → AreNames path
  put_names path h = by (one_or_apart path p)
    where
      by : (path ≡ p) ⊎ (path ≢ p) → AreNames path
      by (inl same) = subst AreNames (sym same) can.names
      by (inr differ) = grown.names path (subst IsSome (beside path differ) h)

  put_entries : (path : List (List ℕ)) → IfSome (get (insert t p e) path) IsEntry
  put_entries path = by (one_or_apart path p)
    where
      by : (path ≡ p) ⊎ (path ≢ p) → IfSome (get (insert t p e) path) IsEntry
      by (inl same) = subst (λ (o : Option Entry). IfSome o IsEntry) (sym (ap (get (insert t p e)) same ∙ there)) can.bytes
      by (inr differ) = subst (λ (o : Option Entry). IfSome o IsEntry) (sym (beside path differ)) (grown.entries path)

  -- the tree with the entry
  pub tree_with : IsTree (insert t p e)
  tree_with = record { root = put_root; parents = put_parent; names = put_names; entries = put_entries }

-- a new entry below a directory
pub can_stand_below : (t : Tree) → IsTree t → (front : List (List ℕ)) (name : List ℕ) (e : Entry) → AreNames (front ++ name ∷ []) → IsEntry e → has_directory (get t front) ≡ true
    → get t (front ++ name ∷ []) ≡ None → CanStand t (front ++ name ∷ []) e
can_stand_below t tree front name e names bytes directory free = record {
  root = ((λ root. absurd (no_front front name root)), λ differ. tree.root);
  parent = λ other last is. subst (λ (q : List (List ℕ)). has_directory (get t q) ≡ true) (same_from_push front other name last is).0 directory;
  names = names;
  bytes = bytes;
  below = λ n some. absurd (absent (get t (front ++ name ∷ [])) (directory_some (get t (front ++ name ∷ [])) (tree.parents (front ++ name ∷ []) n some)) free);
}

-- an entry of the same kind in the place of another
pub can_replace : (t : Tree) → IsTree t → (p : List (List ℕ)) (old new : Entry) → get t p ≡ Some old → is_directory new ≡ is_directory old → IsEntry new → CanStand t p new
can_replace t tree p old new there kind bytes = record {
  root = ((λ root. kind ∙ ap has_directory (sym there ∙ ap (get t) (sym root)) ∙ tree.root), λ differ. tree.root);
  parent = λ front name is. tree.parents front name (subst (λ (q : List (List ℕ)). IsSome (get t q)) is (ap is_some there));
  names = tree.names p (ap is_some there);
  bytes = bytes;
  below = λ n some. kind ∙ ap has_directory (sym there) ∙ tree.parents p n some;
}

-- `/` alone
pub can_begin : (e : Entry) → is_directory e ≡ true → IsEntry e → CanStand no_paths [] e
can_begin e directory bytes = record {
  root = ((λ root. directory), λ differ. absurd (differ refl));
  parent = λ front name is. absurd (no_front front name is);
  names = refl;
  bytes = bytes;
  below = λ n some. directory;
}

-- ---- modes and marks

pub modes_with : (has_modes : Bool) (t : Tree) (p : List (List ℕ)) (e : Entry) → AllowsModes has_modes t → AllowsMode has_modes (mode_at (Some e)) → AllowsModes has_modes (insert t p e)
modes_with has_modes t p e modes mode q = by (one_or_apart q p)
  where
    by : (q ≡ p) ⊎ (q ≢ p) → AllowsMode has_modes (mode_at (get (insert t p e) q))
    by (inl same) = subst (λ (o : Option Entry). AllowsMode has_modes (mode_at o)) (sym (ap (get (insert t p e)) same ∙ get-insert-at t p e)) mode
    by (inr differ) = subst (λ (o : Option Entry). AllowsMode has_modes (mode_at o)) (sym (get-insert-other t p e q differ)) (modes q)

pub empty_modes : (has_modes : Bool) → AllowsModes has_modes no_paths
empty_modes has_modes q never = ap mode_at (get-no_paths q)

-- where a path is the last one of all others, it is the last one with its entry
pub last_with : (t : Tree) (p : List (List ℕ)) (e : Entry) → ((q : List (List ℕ)) → q ≢ p → IsSome (get t q) → IsAtLeast (record_key p) (record_key q))
    → (q : List (List ℕ)) → IsSome (get (insert t p e) q) → IsAtLeast (record_key p) (record_key q)
last_with t p e last q some = by (one_or_apart q p)
  where
    by : (q ≡ p) ⊎ (q ≢ p) → IsAtLeast (record_key p) (record_key q)
    by (inl same) = subst (λ (r : List (List ℕ)). IsAtLeast (record_key p) (record_key r)) (sym same) (not_below_itself (record_key p))
    by (inr differ) = last q differ (subst IsSome (get-insert-other t p e q differ) some)
