-- Where a tree has what stands in a map, each entry is one that a pass takes.
use Rattle.std.proofs.Common.{◌≡◌, ℕ, zero, suc, ◌*◌, ◌+◌, ◌^◌, ◌<◌, ◌≤◌, ◌⊎◌, inl, inr, Bool, true, List, [], ◌∷◌, ◌++◌, length, Option, None, Some, refl, sym, ap, subst, ◌∙◌, arith, append-nil}
use Rattle.std.specs.Prelude.{IsSome, IfSome, is_some}
use Rattle.std.specs.Int.{w32}
use Rattle.std.specs.Option.{option_map}
use Rattle.std.specs.FinMap.{get}
use Rattle.bd_limits.specs.Limits.{block_limit}
use Rattle.bd_wire.specs.Numbers.{be}
use Rattle.bd_keys.specs.Keys.{IsKey, IsBelow, IsAtLeast}
use Rattle.bd_keys.proofs.Order.{IsKey-cons, IsKey-nil, first_less, first_same, not_below_nil}
use Rattle.bd_names.specs.Names.{is_name, AreNames, key_of, parent_of}
use Rattle.bd_names.proofs.NamesLaws.{AreNames-parts, AreNames-cons, parent_of-some, parent_of-none}
use Rattle.bd_model.specs.Tree.{Entry, Directory, FileWith, has_directory, Tree, IsEntry}
use Rattle.bd_model.specs.Step.{file_bytes, mode_at}
use Rattle.bd_records.specs.declared.Record.{Record}
use Rattle.bd_records.specs.Records.{IsRecord, IsBlock, record_bytes}
use Rattle.bd_records.proofs.Lengths.{one_record}
use Rattle.bd_message.specs.KeyMaps.{At, IsNextEntry}
use Rattle.bd_represent.specs.EntryKeys.{record_key, block_key, IsEntryKey}
use Rattle.bd_represent.specs.Represents.{record_of, record_value, IsBlockOf, Represents}
use Rattle.bd_files.proofs.Records.{IsRecord-record_of}
use Rattle.bd_dirs.proofs.ChildOrder.{record_least}
use Rattle.bd_entries.specs.declared.mark.Mark.{Mark}
use Rattle.bd_entries.specs.Fronts.{AllowsMode, IsTreeOf, before}
use Rattle.bd_entries.specs.Marks.{mode_of, is_dir, IsBlockAt, IsChildOf, IsSeen}
use Rattle.bd_entries.proofs.KeyOrder.{below_or_from, one_least, record_before, parent_before, alone_between, below_between}
use Rattle.bd_entries.proofs.Below.{before_below, next_least}
use Rattle.bd_entries.proofs.Growing.{some_is, directory_some, is_dir-record_of}
use Rattle.bd_entries.proofs.Steps.{before_it, was_below}

-- ---- what stands at an entry's key

-- the record of a path, of a map that has what a tree has
pub record IsRecordAt (has_modes : Bool) (t : Tree) (path : List (List ℕ)) (value : List ℕ) : Type 0 where
  pub entry : Entry
  pub has : get t path ≡ Some entry
  pub value_is : value ≡ record_value entry
  pub within : IsRecord (record_of entry)
  pub allowed : AllowsMode has_modes (mode_of (record_of entry))

mode_in : (e : Entry) → mode_of (record_of e) ≡ mode_at (Some e)
mode_in (Directory mode) = refl
mode_in (FileWith mode bytes) = refl

of_entry : (o : Option Entry) (value : List ℕ) → Some value ≡ option_map record_value o → (e : Entry) × (o ≡ Some e) × (value ≡ record_value e)
of_entry None value h = absurd (let no : Some value ≡ None = h in cc)
of_entry (Some e) value h = let same : Some value ≡ Some (record_value e) = h in (e, refl, cc)

pub record_at : (has_modes : Bool) (at : At) (t : Tree) (path : List (List ℕ)) (value : List ℕ) → IsTreeOf has_modes at t → AreNames path → at (record_key path) ≡ Some value → IsRecordAt has_modes t path value
record_at has_modes at t path value of names is =
    let found = of_entry (get t path) value (sym is ∙ of.represents.records path names) in
    let entry : IsEntry found.0 = subst (λ (o : Option Entry). IfSome o IsEntry) found.1 (of.tree.entries path) in
    record {
      entry = found.0;
      has = found.1;
      value_is = found.2;
      within = IsRecord-record_of found.0 entry;
      allowed = subst (AllowsMode has_modes) (sym (mode_in found.0)) (subst (λ (o : Option Entry). AllowsMode has_modes (mode_at o)) found.1 (of.modes path));
    }

-- a block of a file
pub record IsFilesBlock (t : Tree) (path : List (List ℕ)) (i : ℕ) (value : List ℕ) : Type 0 where
  pub mode : ℕ
  pub bytes : List ℕ
  pub has : get t path ≡ Some (FileWith mode bytes)
  pub block : IsBlock value
  pub inside : block_limit * i + length value ≤ length bytes

of_file : (o : Option Entry) (i : ℕ) (value : List ℕ) → IsBlockOf (file_bytes o) i value → (mode : ℕ) × (bytes : List ℕ) × (o ≡ Some (FileWith mode bytes)) × (block_limit * i + length value ≤ length bytes)
of_file None i value h = absurd (omega (arith, h.0.0, h.1))
of_file (Some (Directory mode)) i value h = absurd (omega (arith, h.0.0, h.1))
of_file (Some (FileWith mode bytes)) i value h = (mode, bytes, refl, h.1)

pub block_at : (at : At) (t : Tree) (path : List (List ℕ)) (i : ℕ) (value : List ℕ) → Represents at t → AreNames path → i < 2 ^ 32 → at (block_key path i) ≡ Some value → IsFilesBlock t path i value
block_at at t path i value rep names small is =
    let shape : IsBlockOf (file_bytes (get t path)) i value = subst (λ (o : Option (List ℕ)). IfSome o (IsBlockOf (file_bytes (get t path)) i)) is ((rep.files path names).blocks i small) in
    let file = of_file (get t path) i value shape in
    record { mode = file.0; bytes = file.1; has = file.2; block = shape.0; inside = file.3 }

-- what a tree has at a path has its record in the map
record_there : (at : At) (t : Tree) (path : List (List ℕ)) → Represents at t → AreNames path → IsSome (get t path) → IsSome (at (record_key path))
record_there at t path rep names some =
    let e = some_is (get t path) some in
    subst IsSome (sym (rep.records path names ∙ ap (option_map record_value) e.1)) refl

-- ---- the first entry

-- no entry's key is less than that of the record of `/`
root_least : (k : List ℕ) → IsEntryKey k → IsAtLeast k (record_key [])
root_least k (path, names, inl e) = subst (λ (l : List ℕ). IsAtLeast l (record_key [])) (sym e) (record_least [] path (0 ∷ []) refl names (path, names, inl refl))
root_least k (path, names, inr (i, small, e)) = subst (λ (l : List ℕ). IsAtLeast l (record_key [])) (sym e) (record_least [] path (1 ∷ be w32 i) refl names (path, names, inr (i, small, refl)))

-- what is no greater than the key of the record of `/` is a list of bytes
least_keys : (k : List ℕ) → IsAtLeast (0 ∷ 0 ∷ []) k → IsKey k
least_keys [] h = IsKey-nil
least_keys (zero ∷ []) h = IsKey-cons 0 [] (omega arith) IsKey-nil
least_keys (zero ∷ zero ∷ []) h = IsKey-cons 0 (0 ∷ []) (omega arith) (IsKey-cons 0 [] (omega arith) IsKey-nil)
least_keys (zero ∷ zero ∷ b ∷ k) h = absurd (h refl)
least_keys (zero ∷ suc c ∷ k) h = absurd (h (first_same 0 (0 ∷ []) (suc c ∷ k) ∙ first_less 0 (suc c) [] k (omega arith)))
least_keys (suc b ∷ k) h = absurd (h (first_less 0 (suc b) (0 ∷ []) k (omega arith)))

pub record IsFirst (has_modes : Bool) (key value : List ℕ) : Type 0 where
  pub key_is : key ≡ record_key []
  pub entry : Record
  pub within : IsRecord entry
  pub allowed : AllowsMode has_modes (mode_of entry)
  pub value_is : value ≡ record_bytes entry
  pub directory : is_dir entry ≡ true

pub first_is : (has_modes : Bool) (at : At) (key value : List ℕ) (u : Tree) → IsTreeOf has_modes at u → IsNextEntry at [] [] (Some (key, value)) → IsFirst has_modes key value
first_is has_modes at key value u of next =
    let root = record_there at u [] of.represents refl (directory_some (get u []) of.tree.root) in
    let least : IsAtLeast (record_key []) key = next_least at [] key value next (record_key []) root (not_below_nil (record_key [])) in
    let same : key ≡ record_key [] = one_least key (record_key []) (root_least key (of.represents.only key (least_keys key least) next.0.0.0)) least in
    let found = record_at has_modes at u [] value of refl (ap at (sym same) ∙ next.1) in
    record {
      key_is = same;
      entry = record_of found.entry;
      within = found.within;
      allowed = found.allowed;
      value_is = found.value_is;
      directory = is_dir-record_of found.entry ∙ ap has_directory (sym found.has) ∙ of.tree.root;
    }

-- ---- the next entry

pub record IsChildAt (has_modes : Bool) (path : List (List ℕ)) (entry : Record) (key value : List ℕ) : Type 0 where
  pub child : List (List ℕ)
  pub is_child : IsChildOf path entry child
  pub key_is : key ≡ record_key child
  pub new : Record
  pub within : IsRecord new
  pub allowed : AllowsMode has_modes (mode_of new)
  pub value_is : value ≡ record_bytes new

module _ (has_modes : Bool) (at : At) (low key value : List ℕ) (mark : Mark) (u : Tree) (of : IsTreeOf has_modes at u) (seen : IsSeen has_modes at low mark) (next : IsNextEntry at low [] (Some (key, value))) where
  -- what the tree of what was seen has at a path
  seen_names : AreNames seen.marked.path
  seen_names = seen.is.tree.names seen.marked.path (ap is_some seen.marked.has)

  mark_below : IsBelow (record_key seen.marked.path) low
  mark_below = was_below at low seen.tree seen.is.represents seen.marked.path seen_names (ap is_some seen.marked.has)

  mark_before : IsBelow (record_key seen.marked.path) key
  mark_before = before_it at low key value seen.tree next seen.is.represents seen.marked.path seen_names (ap is_some seen.marked.has)

  -- below the next key both trees have the same records
  same_records : (p : List (List ℕ)) → AreNames p → IsBelow (record_key p) low → option_map record_value (get seen.tree p) ≡ option_map record_value (get u p)
  same_records p names below = sym (seen.is.represents.records p names) ∙ before_below at low (record_key p) below ∙ of.represents.records p names

  -- a record of the whole tree that stands before the next key was seen
  was_seen : (p : List (List ℕ)) → AreNames p → IsSome (get u p) → IsBelow (record_key p) key → IsBelow (record_key p) low
  was_seen p names some before = by (below_or_from (record_key p) low)
    where
      by : (IsBelow (record_key p) low) ⊎ (IsAtLeast (record_key p) low) → IsBelow (record_key p) low
      by (inl below) = below
      by (inr from) = absurd (next_least at low key value next (record_key p) (record_there at u p of.represents names some) from before)

  -- so the mark isn't before it
  mark_from : (p : List (List ℕ)) → AreNames p → IsSome (get u p) → IsBelow (record_key p) key → IsAtLeast (record_key seen.marked.path) (record_key p)
  mark_from p names some before =
      let e = some_is (get u p) some in
      let found = of_entry (get seen.tree p) (record_value e.0) (sym (ap (option_map record_value) e.1) ∙ sym (same_records p names (was_seen p names some before))) in
      seen.marked.last p (ap is_some found.1)

  -- the mark's record is that of the whole tree
  mark_entry : (e : Entry) → get u seen.marked.path ≡ Some e → mark.entry ≡ record_of e
  mark_entry e has =
      let seen_entry : IsEntry seen.marked.entry = subst (λ (o : Option Entry). IfSome o IsEntry) seen.marked.has (seen.is.tree.entries seen.marked.path) in
      let entry : IsEntry e = subst (λ (o : Option Entry). IfSome o IsEntry) has (of.tree.entries seen.marked.path) in
      let both : Some (record_value seen.marked.entry) ≡ Some (record_value e) =
      sym (ap (option_map record_value) seen.marked.has) ∙ same_records seen.marked.path seen_names mark_below ∙ ap (option_map record_value) has in
      let values : record_value seen.marked.entry ≡ record_value e = cc in
      seen.marked.entry_is ∙ one_record (record_of seen.marked.entry) (record_of e) (IsRecord-record_of seen.marked.entry seen_entry) (IsRecord-record_of e entry) values

  block_next : (q : List (List ℕ)) (i : ℕ) → AreNames q → i < 2 ^ 32 → key ≡ block_key q i → IsBlockAt mark key value
  block_next q i names small is =
      let found = block_at at u q i value of.represents names small (ap at (sym is) ∙ next.1) in
      let some : IsSome (get u q) = ap is_some found.has in
      let before : IsBelow (record_key q) key = subst (λ (k : List ℕ). IsBelow (record_key q) k) (sym is) (record_before q i) in
      let same : seen.marked.path ≡ q = alone_between q seen.marked.path i names seen_names (mark_from q names some before) (subst (λ (k : List ℕ). IsBelow (record_key seen.marked.path) k) is mark_before) in
      record {
        len = length found.bytes;
        mode = found.mode;
        file = mark_entry (FileWith found.mode found.bytes) (ap (get u) same ∙ found.has);
        number = i;
        small = small;
        key_is = is ∙ ap (λ (k : List ℕ). k ++ 0 ∷ 1 ∷ be w32 i) (ap key_of (sym same) ∙ sym seen.marked.key_is);
        block = found.block;
        inside = found.inside;
      }

  child_next : (parent : List (List ℕ)) (n : List ℕ) → AreNames (parent ++ n ∷ []) → key ≡ record_key (parent ++ n ∷ []) → IsChildAt has_modes seen.marked.path mark.entry key value
  child_next parent n names is =
      let found = record_at has_modes at u (parent ++ n ∷ []) value of names (ap at (sym is) ∙ next.1) in
      let parts = AreNames-parts parent (n ∷ []) names in
      let named : is_name n ≡ true = (AreNames-cons n [] parts.1).0 in
      let directory : has_directory (get u parent) ≡ true = of.tree.parents parent n (ap is_some found.has) in
      let before : IsBelow (record_key parent) key = subst (λ (k : List ℕ). IsBelow (record_key parent) k) (sym is) (parent_before parent n named) in
      let under = below_between parent seen.marked.path n parts.0 seen_names (mark_from parent parts.0 (directory_some (get u parent) directory) before) (subst (λ (k : List ℕ). IsBelow (record_key seen.marked.path) k) is mark_before) in
      record {
        child = parent ++ n ∷ [];
        is_child = record {
          parent = parent;
          name = n;
          below = under.0;
          child_is = refl;
          path_is = under.1;
          named = named;
          kind = λ none. kind (under.1 ∙ ap (λ (b : List (List ℕ)). parent ++ b) none ∙ append-nil parent) directory;
        };
        key_is = is;
        new = record_of found.entry;
        within = found.within;
        allowed = found.allowed;
        value_is = found.value_is;
      }
    where
      kind : seen.marked.path ≡ parent → has_directory (get u parent) ≡ true → is_dir mark.entry ≡ true
      kind same directory =
          let e = some_is (get u parent) (directory_some (get u parent) directory) in
          ap is_dir (mark_entry e.0 (ap (get u) same ∙ e.1)) ∙ is_dir-record_of e.0 ∙ ap has_directory (sym e.1) ∙ directory

  -- the next entry is a block of the file at the mark, or the record of a child of a directory at the
  -- mark or above it
  pub next_is : IsKey key → (IsBlockAt mark key value) ⊎ (IsChildAt has_modes seen.marked.path mark.entry key value)
  next_is is_key = by (of.represents.only key is_key next.0.0.0)
    where
      not_root : key ≡ record_key [] → ⊥
      not_root is = seen.marked.last [] (directory_some (get seen.tree []) seen.is.tree.root) (subst (λ (k : List ℕ). IsBelow (record_key seen.marked.path) k) is mark_before)

      placed : (q : List (List ℕ)) → AreNames q → key ≡ record_key q → (o : Option (List (List ℕ))) → parent_of q ≡ o → IsChildAt has_modes seen.marked.path mark.entry key value
      placed q names is None none = absurd (not_root (is ∙ ap record_key (parent_of-none q none)))
      placed q names is (Some parent) some =
          let cut = parent_of-some q parent some in
          child_next parent cut.0 (subst (λ (p : List (List ℕ)). AreNames p) cut.1 names) (is ∙ ap record_key cut.1)

      by : IsEntryKey key → (IsBlockAt mark key value) ⊎ (IsChildAt has_modes seen.marked.path mark.entry key value)
      by (q, names, inl is) = inr (placed q names is (parent_of q) refl)
      by (q, names, inr (i, small, is)) = inl (block_next q i names small is)
