-- What the messages of a write make of the tree.
use Rattle.std.proofs.Common.{◌≡◌, ℕ, ◌+◌, ◌<◌, ◌≤◌, List, [], ◌∷◌, ◌++◌, ◌⊎◌, inl, inr, length, true, false, cond, refl, sym, ap, subst, ◌∙◌, arith}
use Rattle.std.specs.Prelude.{slice_index, max, Option, Some, None, nat_lt}
use Rattle.std.specs.Option.{option_map, option_or}
use Rattle.std.specs.FinMap.{get, insert}
use Rattle.std.proofs.lemmas.Bool.{cases_lt, cases_Bool, ltb-true, ltb-false, le-leb}
use Rattle.bd_keys.specs.Edits.{resized, overwritten}
use Rattle.bd_keys.proofs.EditLemmas.{length-resized, length-overwritten}
use Rattle.bd_names.specs.Names.{AreNames}
use Rattle.bd_model.specs.Tree.{Entry, FileWith, Tree}
use Rattle.bd_model.specs.Step.{file_bytes, with_bytes, mode_at, file_refusal, size_refusal, refusal_of, changed}
use Rattle.bd_command.specs.declared.refusal.Refusal.TheVariants.{TooBig}
use Rattle.bd_command.specs.declared.Command.TheVariants.{Write}
use Rattle.bd_limits.specs.Limits.{file_limit}
use Rattle.bd_records.specs.declared.Record.TheVariants.{File}
use Rattle.bd_records.specs.Records.{record_bytes}
use Rattle.bd_message.specs.declared.message.Message.{Message}
use Rattle.bd_message.specs.declared.message.Message.TheVariants.{Put}
use Rattle.bd_message.specs.KeyMaps.{At}
use Rattle.bd_message.specs.Effect.{act, no_nodes, same_key}
use Rattle.bd_message.proofs.Finds.{same_key-true}
use Rattle.bd_represent.specs.EntryKeys.{record_key, block_key, IsEntryKey}
use Rattle.bd_represent.specs.Represents.{IsSameBeside, record_value, HasBytes, HasOnlyEntries, Represents}
use Rattle.bd_represent.specs.Plans.{after, Makes}
use Rattle.bd_represent.proofs.KeyLemmas.{record_key-injective, record_key-block_key, block_key-injective}
use Rattle.bd_represent.proofs.ActLemmas.{put-here, put-other}
use Rattle.bd_represent.proofs.FileLemmas.{longer, beside, within, HasBytes-along, HasBytes-same, HasBytes-longer}
use Rattle.bd_represent.proofs.TreeLemmas.{Represents-along, Represents-insert}
use Rattle.bd_files.specs.Sends.{put_length, growth, IsOverwriting, written}
use Rattle.bd_files.specs.FilePlans.{size_at}
use Rattle.bd_files.proofs.Overwriting.{acts-append}

-- ---- a record that is put

-- what stands after one message
abbrev pub put_at : List (List ℕ) → List ℕ → At → At
put_at path value at k = act no_nodes (Put (record_key path) value) k (at k)

pub put_only : (path : List (List ℕ)) (value : List ℕ) (at : At) → AreNames path → HasOnlyEntries at → HasOnlyEntries (put_at path value at)
put_only path value at names only k key some = by (cases_Bool (same_key k (record_key path)))
  where
    by : (same_key k (record_key path) ≡ true) ⊎ (same_key k (record_key path) ≡ false) → IsEntryKey k
    by (inl here) = (path, names, inl (same_key-true k (record_key path) here))
    by (inr other) = only k key (rw other at some)

pub put_beside : (path : List (List ℕ)) (value : List ℕ) (at : At) → AreNames path → IsSameBeside path at (put_at path value at)
put_beside path value at names =
    record {
      records = λ q hq other. put-other (record_key path) value (record_key q) (at (record_key q)) (λ same. other (record_key-injective q path hq names same));
      blocks = λ q i hq other hi. put-other (record_key path) value (block_key q i) (at (block_key q i)) (λ same. record_key-block_key path q i names hq (sym same));
    }

pub put_blocks : (path : List (List ℕ)) (value : List ℕ) (at : At) (i : ℕ) → AreNames path → put_at path value at (block_key path i) ≡ at (block_key path i)
put_blocks path value at i names = put-other (record_key path) value (block_key path i) (at (block_key path i)) (λ same. record_key-block_key path path i names names (sym same))

-- ---- bytes overwritten in a file that was made longer first

overwritten_longer : (file : List ℕ) (long off : ℕ) (bytes : List ℕ) (n : ℕ) → length file ≤ long → slice_index (overwritten file off bytes) n ≡ slice_index (overwritten (resized file long) off bytes) n
overwritten_longer file long off bytes n h = by (cases_lt n off) (cases_lt n (off + length bytes))
  where
    by : (n < off) ⊎ (off ≤ n) → (n < off + length bytes) ⊎ (off + length bytes ≤ n) → slice_index (overwritten file off bytes) n ≡ slice_index (overwritten (resized file long) off bytes) n
    by (inl before) any = beside file off bytes n (inl before) ∙ sym (longer file long n h) ∙ sym (beside (resized file long) off bytes n (inl before))
    by (inr from) (inl below) = within file off bytes n from below ∙ sym (within (resized file long) off bytes n from below)
    by (inr from) (inr past) = beside file off bytes n (inr past) ∙ sym (longer file long n h) ∙ sym (beside (resized file long) off bytes n (inr past))

-- ---- the tree

-- a map whose record is the new one, and whose file has room, has the bytes after the messages
overwrites : (path : List (List ℕ)) (mode off end : ℕ) (bytes file long : List ℕ) (list : List Message) (at mid : At) (t : Tree) → AreNames path → Represents at t → IsSameBeside path at mid → HasOnlyEntries mid
    → mid (record_key path) ≡ Some (record_bytes (File end mode)) → HasBytes mid path long → off + length bytes ≤ length long
    → length (overwritten file off bytes) ≡ end → length (overwritten file off bytes) ≡ length (overwritten long off bytes) → ((n : ℕ) → slice_index (overwritten file off bytes) n ≡ slice_index (overwritten long off bytes) n)
    → IsOverwriting path off bytes list → Represents (after list mid) (insert t path (FileWith mode (overwritten file off bytes)))
overwrites path mode off end bytes file long list at mid t names r same only here has fits ends lengths each writes =
    Represents-insert at (after list mid) t path (FileWith mode (overwritten file off bytes)) r
    (record {
      records = λ q hq other. writes.beside mid (record_key q) (λ i hi e. record_key-block_key q path i hq names e) ∙ same.records q hq other;
      blocks = λ q i hq other hi. writes.beside mid (block_key q i) (λ j hj e. other (block_key-injective q path i j hq names hi hj e).0) ∙ same.blocks q i hq other hi;
    })
    (writes.beside mid (record_key path) (λ i hi e. record_key-block_key path path i names names e) ∙ here ∙ ap (λ (n : ℕ). Some (record_bytes (File n mode))) (sym ends))
    (HasBytes-same (after list mid) path (overwritten long off bytes) (overwritten file off bytes) lengths each (writes.file mid long fits has))
    (writes.only mid only)

pub write_makes : (path : List (List ℕ)) (mode off len end : ℕ) (bytes : List ℕ) (list patches : List Message) → AreNames path → end ≡ off + length bytes → list ≡ growth path mode len end ++ patches → IsOverwriting path off bytes patches
    → (at : At) (t : Tree) (file : List ℕ) → Represents at t → get t path ≡ Some (FileWith mode file) → len ≡ length file → Makes at list (insert t path (FileWith mode (overwritten file off bytes)))
write_makes path mode off len end bytes list patches names ends is writes at t file r found long new applied = by (cases_Bool (nat_lt len end))
  where
    bytes_at : HasBytes at path file
    bytes_at = subst (λ (o : Option Entry). HasBytes at path (file_bytes o)) found (r.files path names)

    all : length (overwritten file off bytes) ≡ max (length file) (off + length bytes)
    all = length-overwritten file off bytes

    by : (nat_lt len end ≡ true) ⊎ (nat_lt len end ≡ false) → Represents new (insert t path (FileWith mode (overwritten file off bytes)))
    by (inl grows) =
        let under : len < end = ltb-true len end grows in
        let mid : At = put_at path (record_bytes (File end mode)) at in
        let list_is : list ≡ (put_length path mode end ∷ []) ++ patches = is ∙ ap (λ b. cond b (put_length path mode end ∷ []) [] ++ patches) grows in
        let made = overwrites path mode off end bytes file (resized file end) patches at mid t names r (put_beside path (record_bytes (File end mode)) at names) (put_only path (record_bytes (File end mode)) at names r.only)
        (put-here (record_key path) (record_bytes (File end mode)) (at (record_key path)))
        (HasBytes-longer mid path file end (omega (arith, long, under)) (HasBytes-along at mid path file (λ i hi. put_blocks path (record_bytes (File end mode)) at i names) bytes_at))
        (omega (arith, ends, length-resized file end)) (omega (arith, all, ends, long, under))
        (omega (arith, all, ends, long, under, length-overwritten (resized file end) off bytes, length-resized file end))
        (λ n. overwritten_longer file end off bytes n (omega (arith, long, under))) writes in
        Represents-along (after patches mid) new (insert t path (FileWith mode (overwritten file off bytes)))
        (λ k key. applied k key ∙ ap (λ (ms : List Message). after ms at k) list_is ∙ acts-append (put_length path mode end ∷ []) patches k (at k)) made
    by (inr stays) =
        let over : end ≤ len = ltb-false len end stays in
        let list_is : list ≡ patches = is ∙ ap (λ b. cond b (put_length path mode end ∷ []) [] ++ patches) stays in
        let record_at : at (record_key path) ≡ Some (record_bytes (File (length file) mode)) = r.records path names ∙ ap (option_map record_value) found in
        let made = overwrites path mode off len bytes file file patches at at t names r (record { records = λ q hq other. refl; blocks = λ q i hq other hi. refl }) r.only
        (record_at ∙ ap (λ (n : ℕ). Some (record_bytes (File n mode))) (sym long)) bytes_at (omega (arith, ends, long, over)) (omega (arith, all, ends, long, over)) refl (λ n. refl) writes in
        Represents-along (after patches at) new (insert t path (FileWith mode (overwritten file off bytes)))
        (λ k key. applied k key ∙ ap (λ (ms : List Message). after ms at k) list_is) made

-- ---- the plan

pub write_planned : (at : At) (t : Tree) (path : List (List ℕ)) (mode off len : ℕ) (bytes file : List ℕ) (items list : List Message) → get t path ≡ Some (FileWith mode file) → off + length bytes ≤ file_limit → list ≡ items
    → Makes at items (insert t path (FileWith mode (overwritten file off bytes))) → len ≡ length file → items ≡ written path mode len off bytes
    → (refusal_of t (Write path off bytes) ≡ None) × Makes at list (changed t (Write path off bytes)) × (list ≡ written path (mode_at (get t path)) (size_at t path) off bytes)
write_planned at t path mode off len bytes file items list found fits is makes long sent = (
  ap (λ (o : Option Entry). option_or (file_refusal o) (size_refusal (off + length bytes))) found ∙ ap (λ b. cond b None (Some TooBig)) (le-leb (off + length bytes) file_limit fits),
  subst (λ (ms : List Message). Makes at ms (insert t path (with_bytes (overwritten (file_bytes (get t path)) off bytes) (get t path)))) (sym is)
      (subst (λ (o : Option Entry). Makes at items (insert t path (with_bytes (overwritten (file_bytes o) off bytes) o))) (sym found) makes),
  is ∙ sent ∙ ap (λ (n : ℕ). written path mode n off bytes) (long ∙ ap (λ (o : Option Entry). length (file_bytes o)) (sym found))
      ∙ ap (λ (o : Option Entry). written path (mode_at o) (size_at t path) off bytes) (sym found),
)
