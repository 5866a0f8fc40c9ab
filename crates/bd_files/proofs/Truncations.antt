-- What the messages of a truncation make of the tree.
use Rattle.std.proofs.Common.{◌≡◌, ◌≢◌, ℕ, zero, suc, ◌-◌, ◌*◌, ◌/◌, ◌%◌, ◌<◌, ◌≤◌, ◌^◌, List, [], ◌∷◌, ◌++◌, ◌⊎◌, inl, inr, length, take, true, false, Bool, cond, refl, sym, ap, subst, ◌∙◌, arith, append_assoc}
use Rattle.std.specs.Prelude.{Option, Some, None, IsSome, IfSome, nat_lt, not, ◌&&◌}
use Rattle.std.specs.Option.{option_or, unwrap_or}
use Rattle.std.specs.FinMap.{get, insert}
use Rattle.std.specs.Ordering.{is_lt}
use Rattle.std.specs.Int.{w32}
use Rattle.std.proofs.lemmas.Bool.{cases_lt, cases_Bool, ltb-true, lt-ltb, le-ltb, le-leb, and_parts, and_from, false_from_ne_true}
use Rattle.std.proofs.lemmas.List.{take_all}
use Rattle.std.proofs.Math.Seq.{drop-append_seam}
use Rattle.bd_limits.specs.Limits.{block_limit, file_limit}
use Rattle.bd_wire.specs.Numbers.{be}
use Rattle.bd_keys.specs.Edits.{resized}
use Rattle.bd_keys.specs.Keys.{IsKey, key_cmp}
use Rattle.bd_keys.proofs.EditLemmas.{length-resized}
use Rattle.bd_names.specs.Names.{AreNames, key_of}
use Rattle.bd_command.specs.declared.refusal.Refusal.TheVariants.{TooBig}
use Rattle.bd_command.specs.declared.Command.TheVariants.{Truncate}
use Rattle.bd_model.specs.Tree.{Entry, FileWith, Tree}
use Rattle.bd_model.specs.Step.{file_bytes, with_bytes, mode_at, file_refusal, size_refusal, refusal_of, changed}
use Rattle.bd_records.specs.declared.Record.TheVariants.{File}
use Rattle.bd_records.specs.Records.{record_bytes}
use Rattle.bd_message.specs.declared.message.Message.{Message}
use Rattle.bd_message.specs.declared.message.Message.TheVariants.{Put, Cut}
use Rattle.bd_message.specs.KeyMaps.{At}
use Rattle.bd_message.specs.Effect.{act, no_nodes, same_key, begins, rest, is_cut}
use Rattle.bd_message.proofs.Finds.{same_key-true, begins-is, begins-append}
use Rattle.bd_represent.specs.EntryKeys.{record_key, blocks_prefix, block_key, IsEntryKey}
use Rattle.bd_represent.specs.Represents.{stored, kept_block, IsBlockOf, HasBytes, HasOnlyEntries, Represents}
use Rattle.bd_represent.specs.Plans.{after, Makes}
use Rattle.bd_represent.proofs.KeyLemmas.{key_of-apart, record_key-block_key, block_key-injective}
use Rattle.bd_represent.proofs.ActLemmas.{put-here, put-other}
use Rattle.bd_represent.proofs.FileLemmas.{HasBytes-along, HasBytes-longer, HasBytes-cut}
use Rattle.bd_represent.proofs.NumberOrder.{be-below, be-from}
use Rattle.bd_represent.proofs.TreeLemmas.{Represents-along, Represents-insert}
use Rattle.bd_files.specs.Sends.{put_length, first_past, cut_past, shortened, truncated}
use Rattle.bd_files.specs.FilePlans.{size_at}
use Rattle.bd_files.proofs.Writes.{put_at, put_only, put_beside, put_blocks}

bytes_at : (at : At) (t : Tree) (path : List (List ℕ)) (mode : ℕ) (file : List ℕ) → AreNames path → Represents at t → get t path ≡ Some (FileWith mode file) → HasBytes at path file
bytes_at at t path mode file names r found = subst (λ (o : Option Entry). HasBytes at path (file_bytes o)) found (r.files path names)

-- ---- a file that gets no shorter

pub longer_makes : (path : List (List ℕ)) (mode len : ℕ) (at : At) (t : Tree) (file : List ℕ) → AreNames path → Represents at t → get t path ≡ Some (FileWith mode file) → length file ≤ len
    → Makes at (put_length path mode len ∷ []) (insert t path (FileWith mode (resized file len)))
longer_makes path mode len at t file names r found long new applied =
    let mid : At = put_at path (record_bytes (File len mode)) at in
    Represents-along mid new (insert t path (FileWith mode (resized file len))) applied
    (Represents-insert at mid t path (FileWith mode (resized file len)) r (put_beside path (record_bytes (File len mode)) at names)
    (put-here (record_key path) (record_bytes (File len mode)) (at (record_key path)) ∙ ap (λ (n : ℕ). Some (record_bytes (File n mode))) (sym (length-resized file len)))
    (HasBytes-longer mid path file len long (HasBytes-along at mid path file (λ i hi. put_blocks path (record_bytes (File len mode)) at i names) (bytes_at at t path mode file names r found)))
    (put_only path (record_bytes (File len mode)) at names r.only))

-- ---- the cut of the blocks past the end

cut_at : List (List ℕ) → ℕ → At → At
cut_at path first at k = act no_nodes (Cut (blocks_prefix path) (be w32 first)) k (at k)

block_cut : (path : List (List ℕ)) (first i : ℕ) → is_cut (blocks_prefix path) (be w32 first) (block_key path i) ≡ not (is_lt (key_cmp (be w32 i) (be w32 first)))
block_cut path first i =
    let key : block_key path i ≡ blocks_prefix path ++ be w32 i = sym (append_assoc (key_of path) (0 ∷ 1 ∷ []) (be w32 i)) in
    ap (is_cut (blocks_prefix path) (be w32 first)) key
    ∙ ap (λ b. b && not (is_lt (key_cmp (rest (blocks_prefix path) (blocks_prefix path ++ be w32 i)) (be w32 first)))) (begins-append (blocks_prefix path) (be w32 i))
    ∙ ap (λ (k : List ℕ). not (is_lt (key_cmp k (be w32 first)))) (drop-append_seam (blocks_prefix path) (be w32 i))

unfolding_cut : (path : List (List ℕ)) (first : ℕ) (k : List ℕ) (b : Bool) (at : At) → is_cut (blocks_prefix path) (be w32 first) k ≡ b → act no_nodes (Cut (blocks_prefix path) (be w32 first)) k (at k) ≡ cond b None (at k)
unfolding_cut path first k b at e = ap (λ c. cond c None (at k)) e

cut-from : (path : List (List ℕ)) (first i : ℕ) (at : At) → first < 2 ^ 32 → i < 2 ^ 32 → first ≤ i → act no_nodes (Cut (blocks_prefix path) (be w32 first)) (block_key path i) (at (block_key path i)) ≡ None
cut-from path first i at hf hi from = unfolding_cut path first (block_key path i) true at (block_cut path first i ∙ ap not (be-from i first hi hf from))

cut-below : (path : List (List ℕ)) (first i : ℕ) (at : At) → first < 2 ^ 32 → i < 2 ^ 32 → i < first → act no_nodes (Cut (blocks_prefix path) (be w32 first)) (block_key path i) (at (block_key path i)) ≡ at (block_key path i)
cut-below path first i at hf hi below = unfolding_cut path first (block_key path i) false at (block_cut path first i ∙ ap not (be-below i first hi hf below))

-- a key that isn't that of one of these blocks stays
cut-other : (path q : List (List ℕ)) (x : List ℕ) (first : ℕ) (at : At) → AreNames path → AreNames q → ((r : List ℕ) → q ≡ path → x ≢ 1 ∷ r)
    → act no_nodes (Cut (blocks_prefix path) (be w32 first)) (key_of q ++ 0 ∷ x) (at (key_of q ++ 0 ∷ x)) ≡ at (key_of q ++ 0 ∷ x)
cut-other path q x first at names hq other =
    unfolding_cut path first k false at (ap (λ b. b && not (is_lt (key_cmp (rest (blocks_prefix path) k) (be w32 first)))) none)
  where
    k : List ℕ
    k = key_of q ++ 0 ∷ x

    none : begins k (blocks_prefix path) ≡ false
    none = false_from_ne_true (begins k (blocks_prefix path)) (λ h.
        let is : key_of q ++ 0 ∷ x ≡ key_of path ++ 0 ∷ 1 ∷ rest (blocks_prefix path) k = begins-is k (blocks_prefix path) h ∙ append_assoc (key_of path) (0 ∷ 1 ∷ []) (rest (blocks_prefix path) k) in
        let parts = key_of-apart q path x (1 ∷ rest (blocks_prefix path) k) hq names is in
        other (rest (blocks_prefix path) k) parts.0 parts.1)

cut_only : (path : List (List ℕ)) (first : ℕ) (at : At) (k : List ℕ) → IsKey k → HasOnlyEntries at → IsSome (act no_nodes (Cut (blocks_prefix path) (be w32 first)) k (at k)) → IsEntryKey k
cut_only path first at k key only some = by (cases_Bool (is_cut (blocks_prefix path) (be w32 first) k))
  where
    by : (is_cut (blocks_prefix path) (be w32 first) k ≡ true) ⊎ (is_cut (blocks_prefix path) (be w32 first) k ≡ false) → IsEntryKey k
    by (inl gone) = let none : false ≡ true = subst IsSome (unfolding_cut path first k true at gone) some in cc
    by (inr stays) = only k key (subst IsSome (unfolding_cut path first k false at stays) some)

-- ---- the last block

block_only : (path : List (List ℕ)) (b : ℕ) (value : List ℕ) (at : At) (k : List ℕ) → AreNames path → b < 2 ^ 32 → (IsSome (at k) → IsEntryKey k) → IsSome (act no_nodes (Put (block_key path b) value) k (at k)) → IsEntryKey k
block_only path b value at k names hb only some = by (cases_Bool (same_key k (block_key path b)))
  where
    by : (same_key k (block_key path b) ≡ true) ⊎ (same_key k (block_key path b) ≡ false) → IsEntryKey k
    by (inl here) = (path, names, inr (b, hb, same_key-true k (block_key path b) here))
    by (inr other) = only (rw other at some)

-- a block that stores no more than is kept is kept
kept_same : (left : ℕ) (o : Option (List ℕ)) → 0 < left → IfSome o (λ s. length s ≤ left) → o ≡ kept_block left o
kept_same zero o some h = absurd (omega arith)
kept_same (suc n) None some h = refl
kept_same (suc n) (Some s) some h = ap Some (sym (take_all (suc n) s h))

kept_last : (left : ℕ) (o : Option (List ℕ)) (last : List ℕ) → 0 < left → last ≡ unwrap_or o [] → left < length last → Some (take left last) ≡ kept_block left o
kept_last zero o last some is long = absurd (omega arith)
kept_last (suc n) None last some is long = absurd (omega (arith, ap length is))
kept_last (suc n) (Some s) last some is long = ap (λ (l : List ℕ). Some (take (suc n) l)) is

short : (o : Option (List ℕ)) (n : ℕ) → length (unwrap_or o []) ≤ n → IfSome o (λ s. length s ≤ n)
short None n h = tt
short (Some s) n h = h

shape_short : (file : List ℕ) (i left : ℕ) (o : Option (List ℕ)) → IfSome o (IsBlockOf file i) → block_limit ≤ left → IfSome o (λ s. length s ≤ left)
shape_short file i left None h some = tt
shape_short file i left (Some s) h some = omega (arith, h.0.1)

no_left : (n : ℕ) (o : Option (List ℕ)) → n ≡ 0 → None ≡ kept_block n o
no_left n o e = sym (ap (λ (m : ℕ). kept_block m o) e)

-- ---- a file that gets shorter

pub shorter_makes : (path : List (List ℕ)) (mode len : ℕ) (last : List ℕ) (at : At) (t : Tree) (file : List ℕ) → AreNames path → Represents at t → get t path ≡ Some (FileWith mode file) → len ≤ length file → len ≤ file_limit
    → last ≡ stored at path (len / block_limit) → Makes at (put_length path mode len ∷ cut_past path len ∷ shortened path len last) (insert t path (FileWith mode (resized file len)))
shorter_makes path mode len last at t file names r found short_of limit is new applied = by (cases_Bool test)
  where
    first : ℕ
    first = first_past len

    b : ℕ
    b = len / block_limit

    o : ℕ
    o = len % block_limit

    value : List ℕ
    value = record_bytes (File len mode)

    test : Bool
    test = nat_lt 0 o && nat_lt o (length last)

    hf : first < 2 ^ 32
    hf = omega arith

    hb : b < 2 ^ 32
    hb = omega arith

    has : HasBytes at path file
    has = bytes_at at t path mode file names r found

    mid : At
    mid = put_at path value at

    cut : At
    cut k = act no_nodes (Cut (blocks_prefix path) (be w32 first)) k (mid k)

    cut_record : (q : List (List ℕ)) → AreNames q → cut (record_key q) ≡ mid (record_key q)
    cut_record q hq = cut-other path q (0 ∷ []) first mid names hq (λ x e d. (cc))

    cut_beside : (q : List (List ℕ)) (i : ℕ) → AreNames q → q ≢ path → cut (block_key q i) ≡ mid (block_key q i)
    cut_beside q i hq other = cut-other path q (1 ∷ be w32 i) first mid names hq (λ x e d. other e)

    cut_block : (i : ℕ) → i < 2 ^ 32 → (first ≤ i → cut (block_key path i) ≡ None) × (i < first → cut (block_key path i) ≡ at (block_key path i))
    cut_block i hi = (λ from. cut-from path first i mid hf hi from, λ below. cut-below path first i mid hf hi below ∙ put_blocks path value at i names)

    finish : (final : At) → ((q : List (List ℕ)) → AreNames q → final (record_key q) ≡ cut (record_key q)) → ((q : List (List ℕ)) (i : ℕ) → AreNames q → q ≢ path → i < 2 ^ 32 → final (block_key q i) ≡ cut (block_key q i))
        → ((i : ℕ) → i < 2 ^ 32 → final (block_key path i) ≡ kept_block (len - block_limit * i) (at (block_key path i))) → HasOnlyEntries final → Represents final (insert t path (FileWith mode (resized file len)))
    finish final records blocks kept only =
        Represents-insert at final t path (FileWith mode (resized file len)) r
        (record {
          records = λ q hq other. records q hq ∙ cut_record q hq ∙ (put_beside path value at names).records q hq other;
          blocks = λ q i hq other hi. blocks q i hq other hi ∙ cut_beside q i hq other ∙ (put_beside path value at names).blocks q i hq other hi;
        })
        (records path names ∙ cut_record path names ∙ put-here (record_key path) value (at (record_key path)) ∙ ap (λ (n : ℕ). Some (record_bytes (File n mode))) (sym (length-resized file len)))
        (HasBytes-cut at final path file len short_of kept has) only

    before : (i : ℕ) → i < 2 ^ 32 → i < b → at (block_key path i) ≡ kept_block (len - block_limit * i) (at (block_key path i))
    before i hi below = kept_same (len - block_limit * i) (at (block_key path i)) (omega arith) (shape_short file i (len - block_limit * i) (at (block_key path i)) (has.blocks i hi) (omega arith))

    by : (test ≡ true) ⊎ (test ≡ false) → Represents new (insert t path (FileWith mode (resized file len)))
    by (inl cuts) =
        let parts = and_parts (nat_lt 0 o) (nat_lt o (length last)) cuts in
        let some : 0 < o = ltb-true 0 o parts.0 in
        let long : o < length last = ltb-true o (length last) parts.1 in
        let m : Message = Put (block_key path b) (take o last) in
        let final : At = λ k. act no_nodes m k (cut k) in
        let only : HasOnlyEntries final = λ k key is_some. block_only path b (take o last) cut k names hb (λ s. cut_only path first mid k key (put_only path value at names r.only) s) is_some in
        Represents-along final new (insert t path (FileWith mode (resized file len)))
        (λ k key. applied k key ∙ ap (λ c. after (put_length path mode len ∷ cut_past path len ∷ cond c (m ∷ []) []) at k) cuts)
        (finish final
        (λ q hq. put-other (block_key path b) (take o last) (record_key q) (cut (record_key q)) (λ e. record_key-block_key q path b hq names e))
        (λ q i hq other hi. put-other (block_key path b) (take o last) (block_key q i) (cut (block_key q i)) (λ e. other (block_key-injective q path i b hq names hi hb e).0))
        (λ i hi. elim (cases_lt i b) [
          | inl below ↦ put-other (block_key path b) (take o last) (block_key path i) (cut (block_key path i)) (λ e. omega (arith, (block_key-injective path path i b names names hi hb e).1)) ∙ (cut_block i hi).1 (omega arith) ∙ before i hi below
          | inr from ↦ elim (cases_lt b i) [
            | inl past ↦ put-other (block_key path b) (take o last) (block_key path i) (cut (block_key path i)) (λ e. omega (arith, (block_key-injective path path i b names names hi hb e).1)) ∙ (cut_block i hi).0 (omega arith) ∙ no_left (len - block_limit * i) (at (block_key path i)) (omega arith)
            | inr to ↦
                let same : b ≡ i = omega arith in
                let here : final (block_key path b) ≡ kept_block (len - block_limit * b) (at (block_key path b)) =
                put-here (block_key path b) (take o last) (cut (block_key path b)) ∙ kept_last o (at (block_key path b)) last some is long ∙ ap (λ (n : ℕ). kept_block n (at (block_key path b))) (omega arith) in
                subst (λ (n : ℕ). final (block_key path n) ≡ kept_block (len - block_limit * n) (at (block_key path n))) same here
          ]
        ])
        only)
    by (inr stays) =
        let only : HasOnlyEntries cut = λ k key is_some. cut_only path first mid k key (put_only path value at names r.only) is_some in
        let enough : 0 < o → length last ≤ o = λ some. elim (cases_lt o (length last)) [ inl long ↦ absurd (both test (and_from (nat_lt 0 o) (nat_lt o (length last)) (lt-ltb 0 o some) (lt-ltb o (length last) long)) stays) | inr fits ↦ fits ] in
        Represents-along cut new (insert t path (FileWith mode (resized file len)))
        (λ k key. applied k key ∙ ap (λ c. after (put_length path mode len ∷ cut_past path len ∷ cond c (Put (block_key path b) (take o last) ∷ []) []) at k) stays)
        (finish cut (λ q hq. refl) (λ q i hq other hi. refl)
        (λ i hi. elim (cases_lt i first) [
          | inl below ↦ (cut_block i hi).1 below ∙ elim (cases_lt i b) [
            | inl under ↦ before i hi under
            | inr from ↦
                let same : b ≡ i = omega arith in
                let some : 0 < o = omega arith in
                let here : at (block_key path b) ≡ kept_block (len - block_limit * b) (at (block_key path b)) =
                kept_same (len - block_limit * b) (at (block_key path b)) (omega arith) (short (at (block_key path b)) (len - block_limit * b) (omega (arith, enough some, ap length is))) in
                subst (λ (n : ℕ). at (block_key path n) ≡ kept_block (len - block_limit * n) (at (block_key path n))) same here
          ]
          | inr past ↦ (cut_block i hi).0 past ∙ no_left (len - block_limit * i) (at (block_key path i)) (omega arith)
        ])
        only)
      where
        both : (x : Bool) → x ≡ true → x ≡ false → ⊥
        both x p q = cc

-- ---- the plan

pub truncate_planned : (at : At) (t : Tree) (path : List (List ℕ)) (mode len : ℕ) (file : List ℕ) (items list : List Message) → get t path ≡ Some (FileWith mode file) → len ≤ file_limit → list ≡ items
    → Makes at items (insert t path (FileWith mode (resized file len))) → items ≡ truncated at path mode (length file) len
    → (refusal_of t (Truncate path len) ≡ None) × Makes at list (changed t (Truncate path len)) × (list ≡ truncated at path (mode_at (get t path)) (size_at t path) len)
truncate_planned at t path mode len file items list found fits is makes sent = (
  ap (λ (o : Option Entry). option_or (file_refusal o) (size_refusal len)) found ∙ ap (λ b. cond b None (Some TooBig)) (le-leb len file_limit fits),
  subst (λ (ms : List Message). Makes at ms (insert t path (with_bytes (resized (file_bytes (get t path)) len) (get t path)))) (sym is)
      (subst (λ (o : Option Entry). Makes at items (insert t path (with_bytes (resized (file_bytes o) len) o))) (sym found) makes),
  is ∙ sent ∙ ap (λ (o : Option Entry). truncated at path (mode_at o) (length (file_bytes o)) len) (sym found),
)

-- a file that gets no shorter, and one that does
pub longer_sent : (at : At) (path : List (List ℕ)) (mode size len : ℕ) → size ≤ len → put_length path mode len ∷ [] ≡ truncated at path mode size len
longer_sent at path mode size len h =
    sym (ap (λ (b : Bool). put_length path mode len ∷ cond b (cut_past path len ∷ shortened path len (stored at path (len / block_limit))) []) (le-ltb len size h))

pub shorter_sent : (at : At) (path : List (List ℕ)) (mode size len : ℕ) (last : List ℕ) → len < size → last ≡ stored at path (len / block_limit)
    → put_length path mode len ∷ cut_past path len ∷ shortened path len last ≡ truncated at path mode size len
shorter_sent at path mode size len last h is =
    ap (λ (x : List ℕ). put_length path mode len ∷ cut_past path len ∷ shortened path len x) is
    ∙ sym (ap (λ (b : Bool). put_length path mode len ∷ cond b (cut_past path len ∷ shortened path len (stored at path (len / block_limit))) []) (lt-ltb len size h))
