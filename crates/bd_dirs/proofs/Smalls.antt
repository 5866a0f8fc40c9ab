-- Files of at most one block: at which keys one stands, and that messages graft it.
use Rattle.std.proofs.Common.{◌≡◌, ℕ, ◌*◌, ◌+◌, ◌≤◌, ◌<◌, ◌^◌, List, [], ◌∷◌, ◌++◌, ◌⊎◌, inl, inr, length, Bool, true, false, cond, ◌&&◌, refl, sym, ap, subst, ◌∙◌, arith, append-nil}
use Rattle.std.specs.Prelude.{Option, Some, None, IsSome, IfSome, nat_le}
use Rattle.std.specs.Option.{option_map}
use Rattle.std.specs.FinMap.{get}
use Rattle.std.specs.Int.{w32}
use Rattle.std.proofs.lemmas.Bool.{cases_Bool, leb-true, and_from, false_from_ne_true}
use Rattle.bd_limits.specs.Limits.{block_limit}
use Rattle.bd_wire.specs.Numbers.{be}
use Rattle.bd_keys.specs.Keys.{IsKey}
use Rattle.bd_names.specs.Names.{AreNames, key_of, is_under}
use Rattle.bd_names.proofs.NamesLaws.{is_under-rest}
use Rattle.bd_command.specs.declared.Command.TheVariants.{Rename, Clone}
use Rattle.bd_model.specs.Tree.{Entry, Directory, FileWith, has_directory, Tree, IsTree}
use Rattle.bd_model.specs.Step.{file_bytes, mode_at, refusal_of, cloned, renamed, absent_refusal, new_refusal}
use Rattle.bd_model.proofs.Accepted.{absent_if_made, accepted_second, empty_below}
use Rattle.bd_model.proofs.TreeLaws.{rename_outside}
use Rattle.bd_records.specs.declared.Record.TheVariants.{File}
use Rattle.bd_records.specs.Records.{record_bytes}
use Rattle.bd_message.specs.declared.message.Message.{Message}
use Rattle.bd_message.specs.declared.message.Message.TheVariants.{Del}
use Rattle.bd_message.specs.KeyMaps.{At, SameAt, IsApplied, IsGrafted, grafted}
use Rattle.bd_message.specs.Effect.{act, acts, no_nodes, same_key, begins, rest}
use Rattle.bd_message.proofs.Finds.{same_key-true, same_key-refl, begins-is, begins-append, not_both}
use Rattle.bd_message.proofs.Prefixes.{rest-append, same_key-apart}
use Rattle.bd_represent.specs.EntryKeys.{record_key, block_key, IsEntryKey}
use Rattle.bd_represent.specs.Represents.{record_value, IsBlockOf, HasBytes, Represents}
use Rattle.bd_represent.specs.Plans.{Makes}
use Rattle.bd_represent.proofs.ActLemmas.{IsKey-append, IsKey-rest, IsKey-key_of}
use Rattle.bd_represent.proofs.SubtreeLemmas.{begins-under}
use Rattle.bd_files.specs.Sends.{put_length}
use Rattle.bd_files.specs.FilePlans.{size_at}
use Rattle.bd_files.specs.Smalls.{is_small, has_little, IsSmallAt, put_first, copied, carried}
use Rattle.bd_files.specs.declared.small.SmallFile.{SmallFile}
use Rattle.bd_dirs.specs.Sendings.{Sending, Batch, Move, sending}
use Rattle.bd_dirs.specs.Plans.{IsPlan, IsCarriedAt}
use Rattle.bd_dirs.specs.declared.plan.Plan.TheVariants.{Apply, Graft}
use Rattle.bd_dirs.proofs.Makes.{makes_clone, makes_rename}

-- ---- what little is

pub little_if_small : (o : Option Entry) → is_small o ≡ true → has_little o ≡ true
little_if_small None h = refl
little_if_small (Some e) h = h

no_directory : (o : Option Entry) → has_little o ≡ true → has_directory o ≡ false
no_directory None h = refl
no_directory (Some (Directory mode)) h = cc
no_directory (Some (FileWith mode bytes)) h = refl

few_bytes : (o : Option Entry) → has_little o ≡ true → length (file_bytes o) ≤ block_limit
few_bytes None h = omega arith
few_bytes (Some (Directory mode)) h = omega arith
few_bytes (Some (FileWith mode bytes)) h = leb-true (length bytes) block_limit h

small_record : (o : Option Entry) → is_small o ≡ true → option_map record_value o ≡ Some (record_bytes (File (length (file_bytes o)) (mode_at o)))
small_record None h = cc
small_record (Some (Directory mode)) h = cc
small_record (Some (FileWith mode bytes)) h = refl

-- ---- the keys of what is little

-- of so few bytes there is at most the first block
first_block : (file : List ℕ) (i : ℕ) (o : Option (List ℕ)) → length file ≤ block_limit → IfSome o (IsBlockOf file i) → IsSome o → i ≡ 0
first_block file i None few shape some = cc
first_block file i (Some block) few shape some = omega (arith, few, shape.0.0, shape.1)

no_block : (i : ℕ) (o : Option (List ℕ)) → IfSome o (IsBlockOf [] i) → IsSome o → ⊥
no_block i None shape some = cc
no_block i (Some block) shape some = omega (arith, shape.0.0, shape.1)

no_value : (o : Option (List ℕ)) → o ≡ None → IsSome o → ⊥
no_value None e some = cc
no_value (Some v) e some = cc

module _ (at : At) (t : Tree) (p : List (List ℕ)) (names : AreNames p) (tree : IsTree t) (r : Represents at t) (little : has_little (get t p) ≡ true) where
  -- what begins with its key and is named is it, or isn't there
  it_or_none : (q : List (List ℕ)) (x k : List ℕ) → AreNames q → k ≡ key_of q ++ 0 ∷ x → begins k (key_of p) ≡ true → (q ≡ p) ⊎ (get t q ≡ None)
  it_or_none q x k hq is inside = by below.0 below.1
    where
      below : (rest : List (List ℕ)) × (q ≡ p ++ rest)
      below = is_under-rest p q (sym (begins-under p q x names hq) ∙ ap (λ (l : List ℕ). begins l (key_of p)) (sym is) ∙ inside)

      by : (rest : List (List ℕ)) → q ≡ p ++ rest → (q ≡ p) ⊎ (get t q ≡ None)
      by [] e = inl (e ∙ append-nil p)
      by (n ∷ rest) e = inr (ap (get t) e ∙ empty_below t tree p n rest (no_directory (get t p) little))

  -- nothing stands at its keys but a record and a block
  pub its_keys : (k : List ℕ) → IsKey k → begins k (key_of p) ≡ true → IsSome (at k) → (k ≡ record_key p) ⊎ (k ≡ block_key p 0)
  its_keys k key inside some = by (r.only k key some)
    where
      by : IsEntryKey k → (k ≡ record_key p) ⊎ (k ≡ block_key p 0)
      by (q, hq, inl e) = elim (it_or_none q (0 ∷ []) k hq e inside) [
        | inl same ↦ inl (e ∙ ap record_key same)
        | inr none ↦ absurd (no_value (at k) (ap at e ∙ r.records q hq ∙ ap (option_map record_value) none) some)
      ]
      by (q, hq, inr (i, hi, e)) =
          let there : IsSome (at (block_key q i)) = subst (λ (l : List ℕ). IsSome (at l)) e some in
          elim (it_or_none q (1 ∷ be w32 i) k hq e inside) [
            | inl same ↦
                let few : length (file_bytes (get t q)) ≤ block_limit = subst (λ (s : List (List ℕ)). length (file_bytes (get t s)) ≤ block_limit) (sym same) (few_bytes (get t p) little) in
                let first : i ≡ 0 = first_block (file_bytes (get t q)) i (at (block_key q i)) few ((r.files q hq).blocks i hi) there in
                inr (e ∙ ap (λ (s : List (List ℕ)). block_key s i) same ∙ ap (block_key p) first)
            | inr none ↦
                let has : HasBytes at q [] = subst (λ (o : Option Entry). HasBytes at q (file_bytes o)) none (r.files q hq) in
                absurd (no_block i (at (block_key q i)) (has.blocks i hi) there)
          ]

  -- and so nothing at the others
  pub others_none : (k : List ℕ) → IsKey k → begins k (key_of p) ≡ true → (k ≡ record_key p → ⊥) → (k ≡ block_key p 0 → ⊥) → at k ≡ None
  others_none k key inside record_not block_not = by (at k) refl
    where
      by : (o : Option (List ℕ)) → at k ≡ o → at k ≡ None
      by None e = e
      by (Some v) e = absurd (elim (its_keys k key inside (subst IsSome (sym e) refl)) [ inl is ↦ record_not is | inr is ↦ block_not is ])

-- ---- what the messages leave

first_acts : (b : List (List ℕ)) (o : Option (List ℕ)) (k : List ℕ) (old : Option (List ℕ)) → act no_nodes (put_first b o) k old ≡ cond (same_key k (block_key b 0)) o old
first_acts b None k old = refl
first_acts b (Some block) k old = refl

copied_acts : (b : List (List ℕ)) (mode len : ℕ) (o : Option (List ℕ)) (k : List ℕ) (old : Option (List ℕ))
    → acts no_nodes (copied b mode len o) k old ≡ cond (same_key k (block_key b 0)) o (cond (same_key k (record_key b)) (Some (record_bytes (File len mode))) old)
copied_acts b mode len o k old = first_acts b o k (act no_nodes (put_length b mode len) k old)

differ : (k l : List ℕ) → same_key k l ≡ false → k ≡ l → ⊥
differ k l other is = not_both (ap (same_key k) (sym is) ∙ same_key-refl k) other

-- no key outside a prefix is one that begins with it
same_key-within : (s x k : List ℕ) → begins k s ≡ false → same_key k (s ++ x) ≡ false
same_key-within s x k out =
    false_from_ne_true (same_key k (s ++ x)) (λ same. not_both (ap (λ (l : List ℕ). begins l s) (same_key-true k (s ++ x) same) ∙ begins-append s x) out)

module _ (at : At) (t : Tree) (a b : List (List ℕ)) (ha : AreNames a) (hb : AreNames b) (tree : IsTree t) (r : Represents at t) (small : is_small (get t a) ≡ true) (little : has_little (get t b) ≡ true) where
  abbrev value : List ℕ
  value = record_bytes (File (size_at t a) (mode_at (get t a)))

  here : at (record_key a) ≡ Some value
  here = r.records a ha ∙ small_record (get t a) small

  -- what a copy leaves
  abbrev target : At
  target k = cond (begins k (key_of b)) (at (key_of a ++ rest (key_of b) k)) (at k)

  at_target : (x : List ℕ) → target (key_of b ++ x) ≡ at (key_of a ++ x)
  at_target x =
      ap (λ (c : Bool). cond c (at (key_of a ++ rest (key_of b) (key_of b ++ x))) (at (key_of b ++ x))) (begins-append (key_of b) x)
      ∙ ap (λ (y : List ℕ). at (key_of a ++ y)) (rest-append (key_of b) x)

  -- the same follows the key of `a` and that of `b`
  back : (k x : List ℕ) → k ≡ key_of b ++ rest (key_of b) k → key_of a ++ rest (key_of b) k ≡ key_of a ++ x → k ≡ key_of b ++ x
  back k x is e =
      is ∙ ap (λ (y : List ℕ). key_of b ++ y) (sym (rest-append (key_of a) (rest (key_of b) k)) ∙ ap (rest (key_of a)) e ∙ rest-append (key_of a) x)

  lands : (k : List ℕ) → IsKey k → cond (same_key k (block_key b 0)) (at (block_key a 0)) (cond (same_key k (record_key b)) (Some value) (at k)) ≡ target k
  lands k key = by (same_key k (block_key b 0)) (same_key k (record_key b)) (begins k (key_of b)) refl refl refl
    where
      by : (x y z : Bool) → same_key k (block_key b 0) ≡ x → same_key k (record_key b) ≡ y → begins k (key_of b) ≡ z → cond x (at (block_key a 0)) (cond y (Some value) (at k)) ≡ target k
      by true y z ex ey ez = sym (ap target (same_key-true k (block_key b 0) ex) ∙ at_target (0 ∷ 1 ∷ be w32 0))
      by false true z ex ey ez = sym (ap target (same_key-true k (record_key b) ey) ∙ at_target (0 ∷ 0 ∷ []) ∙ here)
      by false false true ex ey ez =
          let is : k ≡ key_of b ++ rest (key_of b) k = begins-is k (key_of b) ez in
          let from : IsKey (key_of a ++ rest (key_of b) k) = IsKey-append (key_of a) (rest (key_of b) k) (IsKey-key_of a ha) (IsKey-rest (key_of b) (rest (key_of b) k) (subst IsKey is key)) in
          let none : at k ≡ None = others_none at t b hb tree r little k key ez (differ k (record_key b) ey) (differ k (block_key b 0) ex) in
          let none_from : at (key_of a ++ rest (key_of b) k) ≡ None =
          others_none at t a ha tree r (little_if_small (get t a) small) (key_of a ++ rest (key_of b) k) from (begins-append (key_of a) (rest (key_of b) k))
          (λ e. differ k (record_key b) ey (back k (0 ∷ 0 ∷ []) is e)) (λ e. differ k (block_key b 0) ex (back k (0 ∷ 1 ∷ be w32 0) is e)) in
          none ∙ sym (ap (λ (c : Bool). cond c (at (key_of a ++ rest (key_of b) k)) (at k)) ez ∙ none_from)
      by false false false ex ey ez = sym (ap (λ (c : Bool). cond c (at (key_of a ++ rest (key_of b) k)) (at k)) ez)

  abbrev copies : List Message
  copies = copied b (mode_at (get t a)) (size_at t a) (at (block_key a 0))

  abbrev carries : List Message
  carries = carried a b (mode_at (get t a)) (size_at t a) (at (block_key a 0))

  copies_graft : (new : At) → IsApplied at copies new → IsGrafted at (key_of a) (key_of b) true new
  copies_graft new applied = λ k key. applied k key ∙ copied_acts b (mode_at (get t a)) (size_at t a) (at (block_key a 0)) k (at k) ∙ lands k key

  -- what stands after what is taken away
  abbrev left : At
  left k = cond (same_key k (block_key a 0)) None (cond (same_key k (record_key a)) None (at k))

  left_inside : (k : List ℕ) → IsKey k → begins k (key_of a) ≡ true → left k ≡ None
  left_inside k key inside = by (same_key k (block_key a 0)) (same_key k (record_key a)) refl refl
    where
      by : (x y : Bool) → same_key k (block_key a 0) ≡ x → same_key k (record_key a) ≡ y → cond x None (cond y None (at k)) ≡ None
      by true y ex ey = refl
      by false true ex ey = refl
      by false false ex ey = others_none at t a ha tree r (little_if_small (get t a) small) k key inside (differ k (record_key a) ey) (differ k (block_key a 0) ex)

  left_outside : (k : List ℕ) → begins k (key_of a) ≡ false → left k ≡ at k
  left_outside k out =
      ap (λ (x : Bool). cond x None (cond (same_key k (record_key a)) None (at k))) (same_key-within (key_of a) (0 ∷ 1 ∷ be w32 0) k out)
      ∙ ap (λ (x : Bool). cond x None (at k)) (same_key-within (key_of a) (0 ∷ 0 ∷ []) k out)

  carries_graft : is_under a b ≡ false → (new : At) → IsApplied at carries new → IsGrafted at (key_of a) (key_of b) false new
  carries_graft out new applied = λ k key. applied k key ∙ copied_acts b (mode_at (get t a)) (size_at t a) (at (block_key a 0)) k (left k) ∙ by k key (begins k (key_of a)) refl
    where
      by : (k : List ℕ) → IsKey k → (inside : Bool) → begins k (key_of a) ≡ inside
          → cond (same_key k (block_key b 0)) (at (block_key a 0)) (cond (same_key k (record_key b)) (Some value) (left k)) ≡ grafted at (key_of a) (key_of b) false k
      by k key true e =
          let block_out : same_key k (block_key b 0) ≡ false = same_key-apart (key_of a) (block_key b 0) k e (begins-under a b (1 ∷ be w32 0) ha hb ∙ out) in
          let record_out : same_key k (record_key b) ≡ false = same_key-apart (key_of a) (record_key b) k e (begins-under a b (0 ∷ []) ha hb ∙ out) in
          ap (λ (x : Bool). cond x (at (block_key a 0)) (cond (same_key k (record_key b)) (Some value) (left k))) block_out
          ∙ ap (λ (x : Bool). cond x (Some value) (left k)) record_out
          ∙ left_inside k key e
          ∙ sym (ap (λ (c : Bool). cond c None (target k)) e)
      by k key false e =
          ap (λ (o : Option (List ℕ)). cond (same_key k (block_key b 0)) (at (block_key a 0)) (cond (same_key k (record_key b)) (Some value) o)) (left_outside k e)
          ∙ lands k key
          ∙ sym (ap (λ (c : Bool). cond c None (target k)) e)

-- ---- the plans

-- the file that was found is the one that the tree has
found_copied : (at : At) (o : Option Entry) (a b : List (List ℕ)) (file : SmallFile) → IsSmallAt at a o (Some file)
    → copied b (mode_at o) (length (file_bytes o)) (at (block_key a 0)) ≡ copied b file.mode file.len file.block
found_copied at o a b file h =
    ap (λ (n : ℕ). copied b n (length (file_bytes o)) (at (block_key a 0))) (sym h.2)
    ∙ ap (λ (n : ℕ). copied b file.mode n (at (block_key a 0))) (sym h.1)
    ∙ ap (λ (x : Option (List ℕ)). copied b file.mode file.len x) (sym h.3)

clone_little : (t : Tree) (a b : List (List ℕ)) → refusal_of t (Clone a b) ≡ None → has_little (get t b) ≡ true
clone_little t a b free = ap has_little (absent_if_made t b (accepted_second (absent_refusal (get t a)) (new_refusal t b) free))

pub small_clone : (at : At) (t : Tree) (a b : List (List ℕ)) (file : SmallFile) (list : List Message) → AreNames a → AreNames b → IsTree t → Represents at t → refusal_of t (Clone a b) ≡ None
    → IsSmallAt at a (get t a) (Some file) → list ≡ copied b file.mode file.len file.block → IsPlan at t (Clone a b) (Apply list)
small_clone at t a b file list ha hb tree r free found is =
    let little : has_little (get t b) ≡ true = clone_little t a b free in
    let same : copied b (mode_at (get t a)) (size_at t a) (at (block_key a 0)) ≡ list = found_copied at (get t a) a b file found ∙ sym is in (
      free,
      subst (λ (ms : List Message). Makes at ms (cloned a b t)) same
          (λ new applied. makes_clone at t a b (key_of a) (key_of b) ha hb tree r free refl refl new (copies_graft at t a b ha hb tree r found.0 little new applied)),
      ap (λ (x : Bool). cond x (Batch (copied b (mode_at (get t a)) (size_at t a) (at (block_key a 0)))) (Move (key_of a) (key_of b) true)) found.0 ∙ ap Batch same,
    )

pub small_rename : (at : At) (t : Tree) (a b : List (List ℕ)) (file : SmallFile) (list : List Message) → AreNames a → AreNames b → IsTree t → Represents at t → refusal_of t (Rename a b) ≡ None
    → IsCarriedAt at t a b (Some file) → list ≡ carried a b file.mode file.len file.block → IsPlan at t (Rename a b) (Apply list)
small_rename at t a b file list ha hb tree r free found is =
    let small : is_small (get t a) ≡ true = found.0.0 in
    let same : carried a b (mode_at (get t a)) (size_at t a) (at (block_key a 0)) ≡ list = found_carried ∙ sym is in (
      free,
      subst (λ (ms : List Message). Makes at ms (renamed a b t)) same
          (λ new applied. makes_rename at t a b (key_of a) (key_of b) ha hb tree r free refl refl new (carries_graft at t a b ha hb tree r small found.1 (rename_outside t a b free) new applied)),
      ap (λ (x : Bool). cond x (Batch (carried a b (mode_at (get t a)) (size_at t a) (at (block_key a 0)))) (Move (key_of a) (key_of b) false)) (and_from (is_small (get t a)) (has_little (get t b)) small found.1) ∙ ap Batch same,
    )
  where
    found_carried : carried a b (mode_at (get t a)) (size_at t a) (at (block_key a 0)) ≡ carried a b file.mode file.len file.block
    found_carried = ap (λ (ms : List Message). Del (record_key a) ∷ Del (block_key a 0) ∷ ms) (found_copied at (get t a) a b file found.0)

-- where it isn't small, a graft is sent
pub clone_sent : (at : At) (t : Tree) (a b : List (List ℕ)) → is_small (get t a) ≡ false → sending at t (Clone a b) ≡ Move (key_of a) (key_of b) true
clone_sent at t a b other = ap (λ (x : Bool). cond x (Batch (copied b (mode_at (get t a)) (size_at t a) (at (block_key a 0)))) (Move (key_of a) (key_of b) true)) other

pub rename_sent : (at : At) (t : Tree) (a b : List (List ℕ)) → (is_small (get t a) && has_little (get t b)) ≡ false → sending at t (Rename a b) ≡ Move (key_of a) (key_of b) false
rename_sent at t a b other = ap (λ (x : Bool). cond x (Batch (carried a b (mode_at (get t a)) (size_at t a) (at (block_key a 0)))) (Move (key_of a) (key_of b) false)) other

-- ---- what is found

-- the same is found where the map has the same
pub small_along : (old new : At) (a : List (List ℕ)) (o : Option Entry) (found : Option SmallFile) → SameAt old new → IsSmallAt new a o found → IsSmallAt old a o found
small_along old new a o None same h = h
small_along old new a o (Some file) same h = (h.0, h.1, h.2, h.3 ∙ same (block_key a 0))

-- a file that is found takes the place of what is little
pub carried_found : (at : At) (t : Tree) (a b : List (List ℕ)) (found : Option SmallFile) → has_little (get t b) ≡ true → IsSmallAt at a (get t a) found → IsCarriedAt at t a b found
carried_found at t a b None little h = ap (λ (x : Bool). x && has_little (get t b)) h
carried_found at t a b (Some file) little h = (h, little)
