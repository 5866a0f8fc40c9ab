-- What stands below the next key is what a tree has that grew by its entry.
use Rattle.std.proofs.Common.{◌≡◌, ◌≢◌, ℕ, ◌+◌, ◌*◌, ◌^◌, ◌<◌, ◌⊎◌, inl, inr, Bool, true, List, [], ◌∷◌, ◌++◌, length, Option, None, Some, refl, sym, ap, subst, ◌∙◌, arith, append-nil}
use Rattle.std.specs.Prelude.{IsSome, IfSome, is_some, slice_index}
use Rattle.std.specs.Int.{w32}
use Rattle.std.specs.Option.{option_map, unwrap_or}
use Rattle.std.specs.FinMap.{get, insert}
use Rattle.std.proofs.lemmas.Bool.{and_from}
use Rattle.std.proofs.lemmas.List.{ext_get_or}
use Rattle.bd_limits.specs.Limits.{block_limit}
use Rattle.bd_wire.specs.Numbers.{be}
use Rattle.bd_keys.specs.Edits.{overwritten}
use Rattle.bd_keys.specs.Keys.{IsKey, IsBelow, IsAtLeast}
use Rattle.bd_keys.proofs.Order.{below_from}
use Rattle.bd_keys.proofs.EditLemmas.{length-overwritten, overwritten-new, bytes-overwritten}
use Rattle.bd_names.specs.Names.{is_name, AreNames, key_of}
use Rattle.bd_names.proofs.NamesLaws.{AreNames-append, AreNames-parts}
use Rattle.bd_model.specs.Tree.{Entry, Directory, FileWith, is_directory, has_directory, Tree, IsTree, IsEntry}
use Rattle.bd_model.specs.Step.{file_bytes, mode_at}
use Rattle.bd_model.proofs.TreeGets.{get-insert-at}
use Rattle.bd_records.specs.declared.Record.{Record}
use Rattle.bd_records.specs.declared.Record.TheVariants.{Dir, File}
use Rattle.bd_records.specs.Records.{IsRecord, record_bytes}
use Rattle.bd_message.specs.KeyMaps.{At, IsNextEntry}
use Rattle.bd_represent.specs.EntryKeys.{record_key, block_key, IsEntryKey}
use Rattle.bd_represent.specs.Represents.{record_of, record_value, stored, IsBlockOf, HasBytes, HasOnlyEntries, IsSameBeside, Represents}
use Rattle.bd_represent.proofs.KeyLemmas.{record_key-injective, record_key-block_key, block_key-injective}
use Rattle.bd_represent.proofs.FileLemmas.{HasBytes-longer, HasBytes-patched}
use Rattle.bd_represent.proofs.TreeLemmas.{Represents-insert}
use Rattle.bd_entries.specs.declared.mark.Mark.{Mark}
use Rattle.bd_entries.specs.Fronts.{AllowsMode, before}
use Rattle.bd_entries.specs.Marks.{mode_of, is_dir, IsBlockAt, IsChildOf, IsSeen}
use Rattle.bd_entries.proofs.KeyOrder.{below_or_from, one_or_other, from_above, record_before}
use Rattle.bd_entries.proofs.Below.{before_from, next_from, seen_here, same_other, none_later, not_yet}
use Rattle.bd_entries.proofs.Growing.{absent, no_paths, get-no_paths, entry_of, record_of-entry_of, mode_at-entry_of, IsEntry-entry_of, is_directory-entry_of, is_dir-record_of, all_bytes, directory_above, tree_grown, empty_grown, CanStand, tree_with, can_stand_below, can_replace, can_begin, modes_with, empty_modes, last_with}

-- ---- the records of a tree stand below the key

no_record : (o : Option Entry) → IsSome o → option_map record_value o ≡ None → ⊥
no_record None some e = absent None some refl
no_record (Some x) some e = cc

pub was_below : (at : At) (low : List ℕ) (t : Tree) → Represents (before at low) t → (p : List (List ℕ)) → AreNames p → IsSome (get t p) → IsBelow (record_key p) low
was_below at low t rep p names some = by (below_or_from (record_key p) low)
  where
    by : (IsBelow (record_key p) low) ⊎ (IsAtLeast (record_key p) low) → IsBelow (record_key p) low
    by (inl below) = below
    by (inr from) = absurd (no_record (get t p) some (sym (rep.records p names) ∙ before_from at low (record_key p) from))

-- so they are below the next one
pub before_it : (at : At) (low key value : List ℕ) (t : Tree) → IsNextEntry at low [] (Some (key, value)) → Represents (before at low) t → (p : List (List ℕ)) → AreNames p → IsSome (get t p) → IsBelow (record_key p) key
before_it at low key value t next rep p names some = below_from (record_key p) low key (was_below at low t rep p names some) (next_from at low key value next)

-- where no block is stored, there are no bytes
no_blocks : (at : At) (path : List (List ℕ)) → ((i : ℕ) → i < 2 ^ 32 → at (block_key path i) ≡ None) → HasBytes at path []
no_blocks at path none = record {
  blocks = λ i hi. subst (λ (o : Option (List ℕ)). IfSome o (IsBlockOf [] i)) (sym (none i hi)) tt;
  bytes = λ i j hi hj. subst (λ (o : Option (List ℕ)). slice_index [] (block_limit * i + j) ≡ slice_index (unwrap_or o []) j) (sym (none i hi)) refl;
}

-- nothing stands below the least key
pub empty_front : (at : At) → Represents (before at []) no_paths
empty_front at = record {
  records = λ path names. none (record_key path) ∙ sym (ap (option_map record_value) (get-no_paths path));
  files = λ path names. subst (λ (o : Option Entry). HasBytes (before at []) path (file_bytes o)) (sym (get-no_paths path)) (no_blocks (before at []) path (λ i hi. none (block_key path i)));
  only = λ k key some. let none_at : before at [] k ≡ None = none k in absurd (let no : IsSome {T = List ℕ} None = subst IsSome none_at some in cc);
}
  where
    none : (k : List ℕ) → before at [] k ≡ None
    none [] = refl
    none (b ∷ k) = refl

-- ---- a new record

-- a file without blocks has zeros
no_blocks_yet : (at : At) (path : List (List ℕ)) (r : Record) → ((i : ℕ) → i < 2 ^ 32 → at (block_key path i) ≡ None) → HasBytes at path (file_bytes (Some (entry_of r)))
unfolding entry_of
no_blocks_yet at path (Dir mode) none = no_blocks at path none
no_blocks_yet at path (File len mode) none = HasBytes-longer at path [] len (omega arith) (no_blocks at path none)

pub record_seen : (at : At) (low value : List ℕ) (q : List (List ℕ)) (r : Record) (t : Tree) → AreNames q → IsNextEntry at low [] (Some (record_key q, value)) → value ≡ record_bytes r
    → Represents (before at low) t → Represents (before at (record_key q ++ 0 ∷ [])) (insert t q (entry_of r))
record_seen at low value q r t names next is rep =
    Represents-insert (before at low) new t q (entry_of r) rep beside here (no_blocks_yet new q r (λ i hi. none_later at low (record_key q) value next (block_key q i) (record_before q i))) only
  where
    new : At
    new = before at (record_key q ++ 0 ∷ [])

    same : (k : List ℕ) → k ≢ record_key q → before at (record_key q ++ 0 ∷ []) k ≡ before at low k
    same k other = same_other at low (record_key q) value next k other

    beside : IsSameBeside q (before at low) (before at (record_key q ++ 0 ∷ []))
    beside = record {
      records = λ p hp other. same (record_key p) (λ e. other (record_key-injective p q hp names e));
      blocks = λ p i hp other hi. same (block_key p i) (λ e. record_key-block_key q p i names hp (sym e));
    }

    here : before at (record_key q ++ 0 ∷ []) (record_key q) ≡ Some (record_value (entry_of r))
    here = seen_here at low (record_key q) value next ∙ ap Some (is ∙ ap record_bytes (sym (record_of-entry_of r)))

    only : HasOnlyEntries (before at (record_key q ++ 0 ∷ []))
    only k key some = by (one_or_other k (record_key q))
      where
        by : (k ≡ record_key q) ⊎ (k ≢ record_key q) → IsEntryKey k
        by (inl is_it) = (q, names, inl is_it)
        by (inr other) = rep.only k key (subst IsSome (same k other) some)

-- ---- the first record

pub root_seen : (has_modes : Bool) (at : At) (value : List ℕ) (r : Record) (mark : Mark) → IsNextEntry at [] [] (Some (record_key [], value)) → IsRecord r → AllowsMode has_modes (mode_of r) → is_dir r ≡ true
    → value ≡ record_bytes r → mark.path ≡ [] → mark.entry ≡ r → IsSeen has_modes at (record_key [] ++ 0 ∷ []) mark
root_seen has_modes at value r mark next within allowed directory is path_is entry_is = record {
  tree = insert no_paths [] (entry_of r);
  is = record {
    tree = tree_with no_paths empty_grown [] (entry_of r) (can_begin (entry_of r) (is_directory-entry_of r ∙ directory) (IsEntry-entry_of r within));
    modes = modes_with has_modes no_paths [] (entry_of r) (empty_modes has_modes) (subst (AllowsMode has_modes) (sym (mode_at-entry_of r)) allowed);
    represents = record_seen at [] value [] r no_paths refl next is (empty_front at);
  };
  marked = record {
    path = [];
    entry = entry_of r;
    has = get-insert-at no_paths [] (entry_of r);
    key_is = path_is;
    entry_is = entry_is ∙ sym (record_of-entry_of r);
    last = last_with no_paths [] (entry_of r) (λ q differ some. absurd (absent (get no_paths q) some (get-no_paths q)));
  };
}

-- ---- a child

-- the directory of a child is there
parent_there : (t : Tree) (path : List (List ℕ)) (e : Entry) (r : Record) (child : List (List ℕ)) → IsTree t → get t path ≡ Some e → r ≡ record_of e → (c : IsChildOf path r child) → has_directory (get t c.parent) ≡ true
parent_there t path e r child tree has is c = by c.below c.path_is c.kind
  where
    by : (below : List (List ℕ)) → path ≡ c.parent ++ below → (below ≡ [] → is_dir r ≡ true) → has_directory (get t c.parent) ≡ true
    by [] path_is kind =
        let here : path ≡ c.parent = path_is ∙ append-nil c.parent in
        ap has_directory (ap (get t) (sym here) ∙ has) ∙ sym (is_dir-record_of e) ∙ ap is_dir (sym is) ∙ kind refl
    by (n ∷ below) path_is kind = directory_above t tree c.parent n below (subst (λ (q : List (List ℕ)). IsSome (get t q)) path_is (ap is_some has))

pub child_names : (path : List (List ℕ)) (r : Record) (child : List (List ℕ)) → AreNames path → IsChildOf path r child → AreNames child
child_names path r child names c =
    let parent = (AreNames-parts c.parent c.below (subst (λ (q : List (List ℕ)). AreNames q) c.path_is names)).0 in
    let last : AreNames (c.name ∷ []) = and_from (is_name c.name) true c.named refl in
    subst (λ (q : List (List ℕ)). AreNames q) (sym c.child_is) (AreNames-append c.parent (c.name ∷ []) parent last)

pub child_seen : (has_modes : Bool) (at : At) (low value : List ℕ) (mark new : Mark) (child : List (List ℕ)) (r : Record) → (seen : IsSeen has_modes at low mark) → IsChildOf seen.marked.path mark.entry child
    → IsNextEntry at low [] (Some (record_key child, value)) → IsRecord r → AllowsMode has_modes (mode_of r) → value ≡ record_bytes r → new.path ≡ key_of child → new.entry ≡ r
    → IsSeen has_modes at (record_key child ++ 0 ∷ []) new
child_seen has_modes at low value mark new child r seen c next within allowed is path_is entry_is = record {
  tree = insert t child (entry_of r);
  is = record {
    tree = tree_with t (tree_grown t tree) child (entry_of r) stands;
    modes = modes_with has_modes t child (entry_of r) seen.is.modes (subst (AllowsMode has_modes) (sym (mode_at-entry_of r)) allowed);
    represents = record_seen at low value child r t names next is rep;
  };
  marked = record {
    path = child;
    entry = entry_of r;
    has = get-insert-at t child (entry_of r);
    key_is = path_is;
    entry_is = entry_is ∙ sym (record_of-entry_of r);
    last = last_with t child (entry_of r) (λ q differ some. from_above (record_key q) (record_key child) (before_it at low (record_key child) value t next rep q (tree.names q some) some));
  };
}
  where
    t : Tree
    t = seen.tree

    tree : IsTree seen.tree
    tree = seen.is.tree

    rep : Represents (before at low) seen.tree
    rep = seen.is.represents

    names : AreNames child
    names = child_names seen.marked.path mark.entry child (seen.is.tree.names seen.marked.path (ap is_some seen.marked.has)) c

    free : get seen.tree child ≡ None
    free = by (get seen.tree child) refl
      where
        by : (o : Option Entry) → get seen.tree child ≡ o → get seen.tree child ≡ None
        by None e = e
        by (Some x) e =
            let below = was_below at low seen.tree rep child names (ap is_some e) in
            absurd (next_from at low (record_key child) value next below)

    stands : CanStand seen.tree child (entry_of r)
    stands =
        subst (λ (q : List (List ℕ)). CanStand seen.tree q (entry_of r)) (sym c.child_is)
        (can_stand_below seen.tree tree c.parent c.name (entry_of r) (subst (λ (q : List (List ℕ)). AreNames q) c.child_is names) (IsEntry-entry_of r within)
        (parent_there seen.tree seen.marked.path seen.marked.entry mark.entry child tree seen.marked.has seen.marked.entry_is c)
        (ap (get seen.tree) (sym c.child_is) ∙ free))

-- ---- a block

overwritten-nothing : (bytes : List ℕ) → overwritten [] 0 bytes ≡ bytes
overwritten-nothing bytes =
    let long : length (overwritten [] 0 bytes) ≡ length bytes = omega (arith, length-overwritten [] 0 bytes) in
    ext_get_or 0 (overwritten [] 0 bytes) bytes long (λ i h.
    let place : i ≡ 0 + i = omega arith in
    ap (λ (n : ℕ). slice_index (overwritten [] 0 bytes) n) place ∙ overwritten-new [] 0 bytes i (omega arith))

-- the file that stands where a block is seen
pub record FileAt (e : Entry) (len mode : ℕ) : Type 0 where
  pub bytes : List ℕ
  pub is : e ≡ FileWith mode bytes
  pub long : length bytes ≡ len

pub file_at : (e : Entry) (len mode : ℕ) → record_of e ≡ File len mode → FileAt e len mode
file_at (Directory m) len mode h = absurd (let no : Dir m ≡ File len mode = h in cc)
file_at (FileWith m bytes) len mode h =
    let same : m ≡ mode = cc in
    record { bytes = bytes; is = ap (λ (k : ℕ). FileWith k bytes) same; long = cc }

pub block_seen : (has_modes : Bool) (at : At) (low key value : List ℕ) (mark : Mark) → IsKey value → IsSeen has_modes at low mark → IsBlockAt mark key value → IsNextEntry at low [] (Some (key, value))
    → IsSeen has_modes at (key ++ 0 ∷ []) mark
block_seen has_modes at low key value mark is_bytes seen block next = record {
  tree = insert t p new;
  is = record {
    tree = tree_with t (tree_grown t tree) p new (can_replace t tree p e new seen.marked.has (ap is_directory (sym file.is)) entry);
    modes = modes_with has_modes t p new seen.is.modes (subst (λ (o : Option Entry). AllowsMode has_modes (mode_at o)) (seen.marked.has ∙ ap Some file.is) (seen.is.modes p));
    represents = Represents-insert (before at low) (before at (key ++ 0 ∷ [])) t p new rep beside here bytes only;
  };
  marked = record {
    path = p;
    entry = new;
    has = get-insert-at t p new;
    key_is = seen.marked.key_is;
    entry_is = block.file ∙ ap (λ (n : ℕ). File n block.mode) (sym long);
    last = last_with t p new (λ q differ some. seen.marked.last q some);
  };
}
  where
    t : Tree
    t = seen.tree

    tree : IsTree seen.tree
    tree = seen.is.tree

    rep : Represents (before at low) seen.tree
    rep = seen.is.represents

    p : List (List ℕ)
    p = seen.marked.path

    e : Entry
    e = seen.marked.entry

    names : AreNames seen.marked.path
    names = seen.is.tree.names seen.marked.path (ap is_some seen.marked.has)

    file : FileAt seen.marked.entry block.len block.mode
    file = file_at seen.marked.entry block.len block.mode (sym seen.marked.entry_is ∙ block.file)

    -- the old bytes with those of the block
    later : List ℕ
    later = overwritten file.bytes (block_limit * block.number + 0) value

    new : Entry
    new = FileWith block.mode (overwritten file.bytes (block_limit * block.number + 0) value)

    long : length (overwritten file.bytes (block_limit * block.number + 0) value) ≡ block.len
    long = omega (arith, length-overwritten file.bytes (block_limit * block.number + 0) value, file.long, block.inside)

    old : IsEntry (FileWith block.mode file.bytes)
    old = subst (λ (o : Option Entry). IfSome o IsEntry) (seen.marked.has ∙ ap Some file.is) (seen.is.tree.entries seen.marked.path)

    entry : IsEntry (FileWith block.mode (overwritten file.bytes (block_limit * block.number + 0) value))
    entry = (omega (arith, long, file.long, old.0), bytes-overwritten file.bytes (block_limit * block.number + 0) value old.1 (all_bytes value is_bytes), old.2)

    here_key : key ≡ block_key seen.marked.path block.number
    here_key = block.key_is ∙ ap (λ (k : List ℕ). k ++ 0 ∷ 1 ∷ be w32 block.number) seen.marked.key_is

    same : (k : List ℕ) → k ≢ key → before at (key ++ 0 ∷ []) k ≡ before at low k
    same k other = same_other at low key value next k other

    beside : IsSameBeside seen.marked.path (before at low) (before at (key ++ 0 ∷ []))
    beside = record {
      records = λ q hq other. same (record_key q) (λ is. record_key-block_key q seen.marked.path block.number hq names (is ∙ here_key));
      blocks = λ q i hq other hi. same (block_key q i) (λ is. other (block_key-injective q seen.marked.path i block.number hq names hi block.small (is ∙ here_key)).0);
    }

    here : before at (key ++ 0 ∷ []) (record_key seen.marked.path) ≡ Some (record_value (FileWith block.mode (overwritten file.bytes (block_limit * block.number + 0) value)))
    here =
        same (record_key seen.marked.path) (λ is. record_key-block_key seen.marked.path seen.marked.path block.number names names (is ∙ here_key))
        ∙ seen.is.represents.records seen.marked.path names ∙ ap (option_map record_value) (seen.marked.has ∙ ap Some file.is)
        ∙ ap (λ (n : ℕ). Some (record_bytes (File n block.mode))) (file.long ∙ sym long)

    had : HasBytes (before at low) seen.marked.path file.bytes
    had = subst (λ (o : Option Entry). HasBytes (before at low) seen.marked.path (file_bytes o)) (seen.marked.has ∙ ap Some file.is) (seen.is.represents.files seen.marked.path names)

    none : stored (before at low) seen.marked.path block.number ≡ []
    none = ap (λ (o : Option (List ℕ)). unwrap_or o []) (ap (before at low) (sym here_key) ∙ not_yet at low key value next)

    patched : before at (key ++ 0 ∷ []) (block_key seen.marked.path block.number) ≡ Some (overwritten (stored (before at low) seen.marked.path block.number) 0 value)
    patched =
        ap (before at (key ++ 0 ∷ [])) (sym here_key) ∙ seen_here at low key value next
        ∙ ap Some (sym (ap (λ (old : List ℕ). overwritten old 0 value) none ∙ overwritten-nothing value))

    bytes : HasBytes (before at (key ++ 0 ∷ [])) seen.marked.path (overwritten file.bytes (block_limit * block.number + 0) value)
    bytes =
        HasBytes-patched (before at low) (before at (key ++ 0 ∷ [])) seen.marked.path file.bytes value block.number 0 block.block.0 (omega (arith, block.block.1)) block.small patched
        (λ i hi other. same (block_key seen.marked.path i) (λ is. other (block_key-injective seen.marked.path seen.marked.path i block.number names names hi block.small (is ∙ here_key)).1)) had

    only : HasOnlyEntries (before at (key ++ 0 ∷ []))
    only k is_key some = by (one_or_other k key)
      where
        by : (k ≡ key) ⊎ (k ≢ key) → IsEntryKey k
        by (inl is_it) = (seen.marked.path, names, inr (block.number, block.small, is_it ∙ here_key))
        by (inr other) = seen.is.represents.only k is_key (subst IsSome (same k other) some)
