-- The key after a child's is that of the next child or of what is below it.
use Rattle.std.proofs.Common.{◌≡◌, ℕ, ◌+◌, Bool, true, false, cond, List, [], ◌∷◌, ◌++◌, inl, inr, Ordering, Less, Equal, Greater, length, take, drop, refl, sym, ap, subst, ◌∙◌, arith, append_assoc, append-nil}
use Rattle.std.specs.Prelude.{Option, Some, None, IsSome, IfSome, not, ◌==◌, nat_eq}
use Rattle.std.specs.Option.{option_map}
use Rattle.std.specs.FinMap.{get}
use Rattle.std.specs.List.{Contains, list_all, prefix_len}
use Rattle.std.specs.Ordering.{ordering_reverse}
use Rattle.std.specs.Cmp.Lexicographic.{pointwise}
use Rattle.std.specs.Int.{w32}
use Rattle.std.proofs.lemmas.List.{take-append-drop}
use Rattle.std.proofs.Math.Seq.{take-append_seam, drop-append_seam}
use Rattle.std.proofs.lemmas.Bool.{and_parts}
use Rattle.std.proofs.lemmas.Cmp.{nat_list_cmp_total as total}
use Rattle.bd_wire.specs.Numbers.{be}
use Rattle.bd_keys.specs.Keys.{IsKey, IsBelow, IsAtLeast, key_cmp}
use Rattle.bd_names.specs.Names.{is_name, is_name_byte, AreNames, key_of}
use Rattle.bd_names.proofs.NamesLaws.{AreNames-parts, AreNames-cons, is_name-zero, key_of-cons}
use Rattle.bd_command.specs.declared.reply.Listed.{Listed}
use Rattle.bd_model.specs.Tree.{Entry, is_directory, has_directory, Tree, IsTree}
use Rattle.bd_model.specs.Step.{file_bytes, children, those_after}
use Rattle.bd_model.proofs.Listing.{names_each, names_only, names_rise}
use Rattle.bd_message.specs.KeyMaps.{At, IsFound, IsNext, IsNextEntry}
use Rattle.bd_message.proofs.Finds.{tied}
use Rattle.bd_represent.specs.EntryKeys.{record_key, block_key, IsEntryKey}
use Rattle.bd_represent.specs.Represents.{record_of, record_value, IsBlockOf, Represents}
use Rattle.bd_represent.proofs.KeyLemmas.{key_of-under}
use Rattle.bd_records.specs.declared.Record.{Record}
use Rattle.bd_records.specs.Records.{IsReadAs}
use Rattle.bd_files.proofs.Records.{record-found}
use Rattle.bd_dirs.specs.Listings.{first_of, lower, key_after}
use Rattle.bd_dirs.proofs.ChildOrder.{child_key, name_from, from_name, names_as_keys, zero_below, above_nil, record_least}
use Rattle.bd_dirs.proofs.Listings.{those-has, those-first, first-least}
use Rattle.bd_keys.proofs.Order.{key_cmp-front}

some_entry : (o : Option Entry) → IsSome (option_map record_value o) → IsSome o
some_entry None h = h
some_entry (Some e) h = refl

some_map : (o : Option Entry) (e : Entry) → o ≡ Some e → IsSome (option_map record_value o)
some_map None e h = cc
some_map (Some x) e h = refl

some_is : (o : Option Entry) → IsSome o → (e : Entry) × (o ≡ Some e)
some_is None h = absurd (let no : false ≡ true = h in cc)
some_is (Some e) h = (e, refl)

has_file : (o : Option Entry) (b : Option (List ℕ)) (i : ℕ) → IsSome b → IfSome b (IsBlockOf (file_bytes o) i) → IsSome o
has_file (Some e) b i h k = refl
has_file None None i h k = h
has_file None (Some block) i h k = absurd (omega (arith, k.0, k.1))

directory_some : (o : Option Entry) → has_directory o ≡ true → IsSome o
directory_some None h = h
directory_some (Some e) h = refl

-- what stands above an entry is there
above : (t : Tree) → IsTree t → (p below : List (List ℕ)) → IsSome (get t (p ++ below)) → IsSome (get t p)
above t tree p [] h = subst (λ (q : List (List ℕ)). IsSome (get t q)) (append-nil p) h
above t tree p (n ∷ below) h =
    let up = above t tree (p ++ n ∷ []) below (subst (λ (q : List (List ℕ)). IsSome (get t q)) (sym (append_assoc p (n ∷ []) below)) h) in
    directory_some (get t p) (tree.parents p n up)

-- an entry's key is of a path of the tree
of_path : (at : At) (t : Tree) (k : List ℕ) → Represents at t → IsKey k → IsSome (at k) → (q : List (List ℕ)) × (x : List ℕ) × AreNames q × (k ≡ key_of q ++ 0 ∷ x) × IsSome (get t q)
of_path at t k rep key some = by (rep.only k key some)
  where
    by : IsEntryKey k → (q : List (List ℕ)) × (x : List ℕ) × AreNames q × (k ≡ key_of q ++ 0 ∷ x) × IsSome (get t q)
    by (q, names, inl e) = (q, 0 ∷ [], names, e, some_entry (get t q) (subst IsSome (ap at e ∙ rep.records q names) some))
    by (q, names, inr (i, hi, e)) = (q, 1 ∷ be w32 i, names, e, has_file (get t q) (at (block_key q i)) i (subst IsSome (ap at e) some) ((rep.files q names).blocks i hi))

-- the record of a child that comes after a name is found after its key
child_there : (at : At) (t : Tree) (path : List (List ℕ)) (after : Option (List ℕ)) (n : List ℕ) (e : Entry) → IsTree t → Represents at t → is_name n ≡ true → IsBelow (lower after) n → get t (path ++ n ∷ []) ≡ Some e
    → IsFound at (key_after path after) (key_of path) (key_of path ++ (n ++ 0 ∷ 0 ∷ 0 ∷ []))
child_there at t path after n e tree rep named later has =
    let names : AreNames (path ++ n ∷ []) = tree.names (path ++ n ∷ []) (subst IsSome (sym has) refl) in
    let stored : IsSome (at (record_key (path ++ n ∷ []))) = subst IsSome (sym (rep.records (path ++ n ∷ []) names)) (some_map (get t (path ++ n ∷ [])) e has) in (
      subst (λ (k : List ℕ). IsSome (at k)) (child_key path n (0 ∷ 0 ∷ [])) stored,
      λ less. from_name (lower after) n (0 ∷ 0 ∷ 0 ∷ []) named later (sym (key_cmp-front (key_of path) (n ++ 0 ∷ 0 ∷ 0 ∷ []) (lower after ++ 1 ∷ [])) ∙ less),
      take-append_seam (key_of path) (n ++ 0 ∷ 0 ∷ 0 ∷ []),
    )

-- two keys that are each at least the other are one
one_least : (k l : List ℕ) → IsAtLeast k l → IsAtLeast l k → k ≡ l
one_least k l from upto = by (key_cmp k l) refl
  where
    by : (o : Ordering) → key_cmp k l ≡ o → k ≡ l
    by Less e = absurd (from e)
    by Equal e = tied k l e
    by Greater e = absurd (upto (total.antisymm l k ∙ ap ordering_reverse e))

-- the least key within a directory, after a child's, is of the record of a child that comes after it
pub record IsChildKey (t : Tree) (path : List (List ℕ)) (after : Option (List ℕ)) (k : List ℕ) : Type 0 where
  pub name : List ℕ
  pub entry : Entry
  pub is : k ≡ key_of path ++ (name ++ 0 ∷ 0 ∷ 0 ∷ [])
  pub named : is_name name ≡ true
  pub later : IsBelow (lower after) name
  pub has : get t (path ++ name ∷ []) ≡ Some entry

pub child_found : (at : At) (t : Tree) (path : List (List ℕ)) (after : Option (List ℕ)) (k : List ℕ) → IsTree t → Represents at t → AreNames path → list_all is_name_byte (lower after) ≡ true → IsKey k
    → IsNext at (key_after path after) (key_of path) (Some k) → IsChildKey t path after k
child_found at t path after k tree rep names bytes key ((some, from, begins), least) =
    by under.0 under.1 under.2
  where
    place : (q : List (List ℕ)) × (x : List ℕ) × AreNames q × (k ≡ key_of q ++ 0 ∷ x) × IsSome (get t q)
    place = of_path at t k rep key some

    front : k ≡ key_of path ++ drop (length (key_of path)) k
    front = sym (take-append-drop (length (key_of path)) k) ∙ ap (λ (f : List ℕ). f ++ drop (length (key_of path)) k) begins

    under : (below : List (List ℕ)) × (place.0 ≡ path ++ below) × (drop (length (key_of path)) k ≡ key_of below ++ 0 ∷ place.1)
    under = key_of-under path place.0 (drop (length (key_of path)) k) place.1 names place.2 (sym place.3 ∙ front)

    from_rest : (y : List ℕ) → drop (length (key_of path)) k ≡ y → IsAtLeast y (lower after ++ 1 ∷ [])
    from_rest y e less =
        from (ap (λ (l : List ℕ). key_cmp l (key_after path after)) (front ∙ ap (λ (r : List ℕ). key_of path ++ r) e) ∙ key_cmp-front (key_of path) y (lower after ++ 1 ∷ []) ∙ less)

    by : (below : List (List ℕ)) → place.0 ≡ path ++ below → drop (length (key_of path)) k ≡ key_of below ++ 0 ∷ place.1 → IsChildKey t path after k
    by [] at_path e = absurd (from_rest (0 ∷ place.1) e (zero_below (lower after) place.1 bytes))
    by (n ∷ below) at_path e =
        let all : AreNames (path ++ n ∷ below) = subst (λ (q : List (List ℕ)). AreNames q) at_path place.2 in
        let named = (AreNames-cons n below (AreNames-parts path (n ∷ below) all).1).0 in
        let rest : drop (length (key_of path)) k ≡ n ++ 0 ∷ (key_of below ++ 0 ∷ place.1) = e ∙ ap (λ (l : List ℕ). l ++ 0 ∷ place.1) (key_of-cons n below) ∙ append_assoc n (0 ∷ key_of below) (0 ∷ place.1) in
        let later = name_from (lower after) n (key_of below ++ 0 ∷ place.1) bytes named (from_rest (n ++ 0 ∷ (key_of below ++ 0 ∷ place.1)) rest) in
        let apart : place.0 ≡ (path ++ n ∷ []) ++ below = at_path ∙ sym (append_assoc path (n ∷ []) below) in
        let parts = AreNames-parts (path ++ n ∷ []) below (subst (λ (q : List (List ℕ)). AreNames q) apart place.2) in
        let there : IsSome (get t ((path ++ n ∷ []) ++ below)) = subst (λ (q : List (List ℕ)). IsSome (get t q)) apart place.4 in
        let entry = some_is (get t (path ++ n ∷ [])) (above t tree (path ++ n ∷ []) below there) in
        let at_key : k ≡ key_of ((path ++ n ∷ []) ++ below) ++ 0 ∷ place.1 = place.3 ∙ ap (λ (q : List (List ℕ)). key_of q ++ 0 ∷ place.1) apart in
        let first = record_least (path ++ n ∷ []) below place.1 parts.0 parts.1 (subst IsEntryKey at_key (rep.only k key some)) in
        record {
          name = n;
          entry = entry.0;
          is = one_least k (key_of path ++ (n ++ 0 ∷ 0 ∷ 0 ∷ []))
              (subst (λ (l : List ℕ). IsAtLeast k l) (child_key path n (0 ∷ 0 ∷ [])) (subst (λ (l : List ℕ). IsAtLeast l (record_key (path ++ n ∷ []))) (sym at_key) first))
              (least (key_of path ++ (n ++ 0 ∷ 0 ∷ 0 ∷ [])) (child_there at t path after n entry.0 tree rep named later entry.1));
          named = named;
          later = later;
          has = entry.1;
        }

-- a listed name that comes after another
record IsListed (t : Tree) (path : List (List ℕ)) (after : Option (List ℕ)) (l : Listed) : Type 0 where
  entry : Entry
  named : is_name l.name ≡ true
  later : IsBelow (lower after) l.name
  has : get t (path ++ l.name ∷ []) ≡ Some entry

listed_first : (t : Tree) (path : List (List ℕ)) (after : Option (List ℕ)) (l : Listed) (rest : List Listed) → IsTree t → those_after after (children path t) ≡ l ∷ rest → IsListed t path after l
listed_first t path after l rest tree is =
    let first = those-first after (children path t) l rest is in
    let found = names_only t path l first.0 in
    let names : AreNames (path ++ l.name ∷ []) = tree.names (path ++ l.name ∷ []) (subst IsSome (sym found.1) refl) in
    let named = (AreNames-cons l.name [] (AreNames-parts path (l.name ∷ []) names).1).0 in
    record { entry = found.0; named = named; later = first.1 (above_nil l.name named); has = found.1 }

-- where no key is found, no child comes after
pub none_listed : (at : At) (t : Tree) (path : List (List ℕ)) (after : Option (List ℕ)) → IsTree t → Represents at t → IsNext at (key_after path after) (key_of path) None → first_of (those_after after (children path t)) ≡ None
none_listed at t path after tree rep none = by (those_after after (children path t)) refl
  where
    by : (fs : List Listed) → those_after after (children path t) ≡ fs → first_of fs ≡ None
    by [] is = refl
    by (l ∷ rest) is =
        let listed = listed_first t path after l rest tree is in
        absurd (none (key_of path ++ (l.name ++ 0 ∷ 0 ∷ 0 ∷ [])) (child_there at t path after l.name listed.entry tree rep listed.named listed.later listed.has))

-- the child of the least key is the first that comes after
pub next_listed : (at : At) (t : Tree) (path : List (List ℕ)) (after : Option (List ℕ)) (k : List ℕ) → IsTree t → Represents at t → IsNext at (key_after path after) (key_of path) (Some k)
    → (child : IsChildKey t path after k) → first_of (those_after after (children path t)) ≡ Some (record { name = child.name; is_dir = is_directory child.entry })
next_listed at t path after k tree rep next child = by (those_after after (children path t)) refl (those-has after (children path t) l (names_each t path child.name child.entry child.has) child.later)
  where
    l : Listed
    l = record { name = child.name; is_dir = is_directory child.entry }

    by : (fs : List Listed) → those_after after (children path t) ≡ fs → Contains fs l → first_of fs ≡ Some l
    by [] is (i, h, e) = absurd (omega arith)
    by (x ∷ rest) is at_list =
        let listed = listed_first t path after x rest tree is in
        let least = next.1 (key_of path ++ (x.name ++ 0 ∷ 0 ∷ 0 ∷ [])) (child_there at t path after x.name listed.entry tree rep listed.named listed.later listed.has) in
        ap Some (first-least after (children path t) l x rest (names_rise t path) is at_list
        (λ less. names_as_keys x.name child.name (0 ∷ 0 ∷ []) (0 ∷ 0 ∷ 0 ∷ []) child.named
        (λ below. least (ap (key_cmp (key_of path ++ (x.name ++ 0 ∷ 0 ∷ 0 ∷ []))) child.is ∙ key_cmp-front (key_of path) (x.name ++ 0 ∷ 0 ∷ 0 ∷ []) (child.name ++ 0 ∷ 0 ∷ 0 ∷ []) ∙ below)) less))

-- the text before the first zero byte
zero_free : (n rest : List ℕ) → list_all (λ b. not (b == 0)) n ≡ true → prefix_len (λ b. not (b == 0)) (n ++ 0 ∷ rest) ≡ length n
zero_free [] rest h = refl
zero_free (b ∷ n) rest h = by (not (b == 0)) (and_parts (not (b == 0)) (list_all (λ b. not (b == 0)) n) h).0 (zero_free n rest (and_parts (not (b == 0)) (list_all (λ b. not (b == 0)) n) h).1)
  where
    by : (t : Bool) → t ≡ true → prefix_len (λ b. not (b == 0)) (n ++ 0 ∷ rest) ≡ length n → cond t (1 + prefix_len (λ b. not (b == 0)) (n ++ 0 ∷ rest)) 0 ≡ length (b ∷ n)
    by true e ih = omega arith
    by false e ih = cc

pub first_name_is : (n rest text : List ℕ) (len : ℕ) → is_name n ≡ true → text ≡ n ++ 0 ∷ rest → len ≡ prefix_len (λ b. not (b == 0)) text → take len text ≡ n
first_name_is n rest text len named is e =
    let long : len ≡ length n = e ∙ ap (prefix_len (λ b. not (b == 0))) is ∙ zero_free n rest (is_name-zero n named) in
    ap (λ (i : ℕ). take i text) long ∙ ap (take (length n)) is ∙ take-append_seam n (0 ∷ rest)

-- the record that is read of what stands at its key is that of the child
child_record : (at : At) (t : Tree) (path : List (List ℕ)) (n k value : List ℕ) (e : Entry) → IsTree t → Represents at t → get t (path ++ n ∷ []) ≡ Some e → k ≡ key_of path ++ (n ++ 0 ∷ 0 ∷ 0 ∷ []) → at k ≡ Some value
    → (read : Option Record) → IsReadAs value read → read ≡ Some (record_of e)
child_record at t path n k value e tree rep has key stored read reads =
    record-found at t (path ++ n ∷ []) value read (tree.names (path ++ n ∷ []) (subst IsSome (sym has) refl)) tree rep (sym stored ∙ ap at (key ∙ sym (child_key path n (0 ∷ 0 ∷ [])))) reads ∙ ap (option_map record_of) has

-- the child whose record is the least entry found, by the bytes after the directory's key
pub child_listed : (at : At) (t : Tree) (path : List (List ℕ)) (after : Option (List ℕ)) (k value within : List ℕ) → IsTree t → Represents at t → AreNames path → list_all is_name_byte (lower after) ≡ true → IsKey k → within ≡ key_of path
    → IsNextEntry at (key_after path after) (key_of path) (Some (k, value))
    → (name : List ℕ) × (e : Entry) × (is_name name ≡ true) × (drop (length within) k ≡ name ++ 0 ∷ 0 ∷ 0 ∷ []) × ((read : Option Record) → IsReadAs value read → read ≡ Some (record_of e))
    × (first_of (those_after after (children path t)) ≡ Some (record { name = name; is_dir = is_directory e }))
child_listed at t path after k value within tree rep names bytes key is (next, stored) =
    let child = child_found at t path after k tree rep names bytes key next in
    let text : drop (length within) k ≡ child.name ++ 0 ∷ 0 ∷ 0 ∷ [] = ap (λ (w : List ℕ). drop (length w) k) is ∙ ap (drop (length (key_of path))) child.is ∙ drop-append_seam (key_of path) (child.name ++ 0 ∷ 0 ∷ 0 ∷ []) in
    (child.name, child.entry, child.named, text, child_record at t path child.name k value child.entry tree rep child.has child.is stored, next_listed at t path after k tree rep next child)

-- what follows the child's name there is what was looked for
pub is_end : (name text found rest end : List ℕ) → text ≡ name ++ 0 ∷ 0 ∷ 0 ∷ [] → found ≡ name → rest ≡ drop (length found) text → end ≡ 0 ∷ 0 ∷ 0 ∷ [] → pointwise nat_eq rest end ≡ true
is_end name text found rest end is same after zeros =
    let left : rest ≡ 0 ∷ 0 ∷ 0 ∷ [] = after ∙ ap (λ (n : List ℕ). drop (length n) text) same ∙ ap (drop (length name)) is ∙ drop-append_seam name (0 ∷ 0 ∷ 0 ∷ []) in
    ap (λ (l : List ℕ). pointwise nat_eq l end) left ∙ ap (pointwise nat_eq (0 ∷ 0 ∷ 0 ∷ [])) zeros

-- what is there isn't none
pub none_there : (found : Option Listed) → IsSome found → found ≡ None → ⊥
none_there found some none = absurd (let no : false ≡ true = subst IsSome none some in cc)
