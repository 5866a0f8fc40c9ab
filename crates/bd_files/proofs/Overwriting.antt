-- What the messages that overwrite bytes do, one more at a time.
use Rattle.std.proofs.Common.{take, drop, ◌≡◌, ◌≢◌, ℕ, ◌+◌, ◌-◌, ◌*◌, ◌/◌, ◌%◌, ◌<◌, ◌≤◌, ◌^◌, List, [], ◌∷◌, ◌++◌, ◌⊎◌, inl, inr, length, true, false, refl, sym, ap, subst, ◌∙◌, arith, length-append}
use Rattle.std.specs.Prelude.{slice_index, min, Option, IsSome}
use Rattle.std.proofs.lemmas.List.{get_or_append_left, get_or-append_right}
use Rattle.std.proofs.lemmas.List.{length-take, length-drop}
use Rattle.std.proofs.Math.Seq.{take-add}
use Rattle.std.proofs.lemmas.Bool.{cases_lt, cases_Bool}
use Rattle.bd_limits.specs.Limits.{block_limit, file_limit}
use Rattle.bd_keys.specs.Edits.{overwritten}
use Rattle.bd_keys.specs.Keys.{IsKey}
use Rattle.bd_keys.proofs.EditLemmas.{length-overwritten}
use Rattle.bd_names.specs.Names.{AreNames}
use Rattle.bd_message.specs.declared.message.Message.{Message}
use Rattle.bd_message.specs.declared.message.Message.TheVariants.{Patch}
use Rattle.bd_message.specs.KeyMaps.{At}
use Rattle.bd_message.specs.Effect.{act, acts, no_nodes, same_key}
use Rattle.bd_message.proofs.Finds.{same_key-true}
use Rattle.bd_represent.specs.EntryKeys.{block_key, IsEntryKey}
use Rattle.bd_represent.specs.Represents.{HasBytes, HasOnlyEntries}
use Rattle.bd_represent.specs.Plans.{after}
use Rattle.bd_represent.proofs.KeyLemmas.{block_key-injective}
use Rattle.bd_represent.proofs.ActLemmas.{patch-here, patch-other}
use Rattle.bd_represent.proofs.FileLemmas.{beside, within, HasBytes-same, HasBytes-patched}
use Rattle.bd_files.specs.Sends.{IsOverwriting}

-- ---- messages one after the other

pub acts-append : (xs ys : List Message) (k : List ℕ) (old : Option (List ℕ)) → acts no_nodes (xs ++ ys) k old ≡ acts no_nodes ys k (acts no_nodes xs k old)
acts-append [] ys k old = refl
acts-append (x ∷ xs) ys k old = acts-append xs ys k (act no_nodes x k old)

-- ---- bytes overwritten twice

twice : (file : List ℕ) (off : ℕ) (x y : List ℕ) (n : ℕ) → slice_index (overwritten file off (x ++ y)) n ≡ slice_index (overwritten (overwritten file off x) (off + length x) y) n
twice file off x y n = by (cases_lt n off) (cases_lt n (off + length x)) (cases_lt n (off + length x + length y))
  where
    whole : length (x ++ y) ≡ length x + length y
    whole = length-append x y

    by : (n < off) ⊎ (off ≤ n) → (n < off + length x) ⊎ (off + length x ≤ n) → (n < off + length x + length y) ⊎ (off + length x + length y ≤ n)
        → slice_index (overwritten file off (x ++ y)) n ≡ slice_index (overwritten (overwritten file off x) (off + length x) y) n
    by (inl before) any more =
        beside file off (x ++ y) n (inl before) ∙ sym (beside file off x n (inl before)) ∙ sym (beside (overwritten file off x) (off + length x) y n (inl (omega arith)))
    by (inr from) (inl first) more =
        within file off (x ++ y) n from (omega (arith, whole)) ∙ get_or_append_left x y 0 (n - off) (omega arith)
        ∙ sym (within file off x n from first) ∙ sym (beside (overwritten file off x) (off + length x) y n (inl first))
    by (inr from) (inr past) (inl second) =
        within file off (x ++ y) n from (omega (arith, whole)) ∙ get_or-append_right x y (length x) (n - off) 0 refl (omega arith)
        ∙ ap (slice_index y) (omega arith) ∙ sym (within (overwritten file off x) (off + length x) y n past second)
    by (inr from) (inr past) (inr over) =
        beside file off (x ++ y) n (inr (omega (arith, whole))) ∙ sym (beside file off x n (inr past)) ∙ sym (beside (overwritten file off x) (off + length x) y n (inr over))

length-twice : (file : List ℕ) (off : ℕ) (x y : List ℕ) → length (overwritten file off (x ++ y)) ≡ length (overwritten (overwritten file off x) (off + length x) y)
length-twice file off x y =
    let whole = length-append x y in
    let left = length-overwritten file off (x ++ y) in
    let first = length-overwritten file off x in
    let second = length-overwritten (overwritten file off x) (off + length x) y in
    omega (arith, whole, left, first, second)

-- ---- no message yet, and one more

pub IsOverwriting-none : (path : List (List ℕ)) (off : ℕ) → IsOverwriting path off [] []
IsOverwriting-none path off =
    record {
      file = λ old file fits has. HasBytes-same old path file (overwritten file off []) (omega (arith, length-overwritten file off [])) (λ n. beside file off [] n (nothing n (cases_lt n off))) has;
      beside = λ old k other. refl;
      only = λ old only. only;
    }
  where
    nothing : (n : ℕ) → (n < off) ⊎ (off ≤ n) → (n < off) ⊎ (off + length (let none : List ℕ = [] in none) ≤ n)
    nothing n (inl before) = inl before
    nothing n (inr from) = inr (omega arith)

patched_only : (path : List (List ℕ)) (b o : ℕ) (piece : List ℕ) (old : At) (k : List ℕ) → AreNames path → b < 2 ^ 32 → IsKey k → HasOnlyEntries old
    → IsSome (act no_nodes (Patch (block_key path b) o piece) k (old k)) → IsEntryKey k
patched_only path b o piece old k names hb key only some = by (cases_Bool (same_key k (block_key path b)))
  where
    by : (same_key k (block_key path b) ≡ true) ⊎ (same_key k (block_key path b) ≡ false) → IsEntryKey k
    by (inl here) = (path, names, inr (b, hb, same_key-true k (block_key path b) here))
    by (inr other) = only k key (rw other at some)

pub IsOverwriting-more : (path : List (List ℕ)) (off : ℕ) (x piece : List ℕ) (list : List Message) (b o : ℕ) → AreNames path → b < 2 ^ 32 → 1 ≤ length piece → o + length piece ≤ block_limit
    → off + length x ≡ block_limit * b + o → IsOverwriting path off x list → IsOverwriting path off (x ++ piece) (list ++ Patch (block_key path b) o piece ∷ [])
IsOverwriting-more path off x piece list b o names hb some fits place sofar =
    record { file = bytes; beside = others; only = only }
  where
    m : Message
    m = Patch (block_key path b) o piece

    step : (old : At) (k : List ℕ) → after (list ++ m ∷ []) old k ≡ act no_nodes m k (after list old k)
    step old k = acts-append list (m ∷ []) k (old k)

    bytes : (old : At) (file : List ℕ) → off + length (x ++ piece) ≤ length file → HasBytes old path file → HasBytes (after (list ++ m ∷ []) old) path (overwritten file off (x ++ piece))
    bytes old file room has =
        let long = length-append x piece in
        let before : HasBytes (after list old) path (overwritten file off x) = sofar.file old file (omega (arith, long, room)) has in
        let made : HasBytes (after (list ++ m ∷ []) old) path (overwritten (overwritten file off x) (block_limit * b + o) piece) =
        HasBytes-patched (after list old) (after (list ++ m ∷ []) old) path (overwritten file off x) piece b o some fits hb
        (step old (block_key path b) ∙ patch-here (block_key path b) o piece (after list old (block_key path b)))
        (λ i hi other. step old (block_key path i) ∙ patch-other (block_key path b) o piece (block_key path i) (after list old (block_key path i)) (λ same. other (block_key-injective path path i b names names hi hb same).1))
        before in
        HasBytes-same (after (list ++ m ∷ []) old) path (overwritten (overwritten file off x) (off + length x) piece) (overwritten file off (x ++ piece))
        (length-twice file off x piece) (twice file off x piece)
        (subst (λ (n : ℕ). HasBytes (after (list ++ m ∷ []) old) path (overwritten (overwritten file off x) n piece)) (sym place) made)

    others : (old : At) (k : List ℕ) → ((i : ℕ) → i < 2 ^ 32 → k ≢ block_key path i) → after (list ++ m ∷ []) old k ≡ old k
    others old k other = step old k ∙ patch-other (block_key path b) o piece k (after list old k) (other b hb) ∙ sofar.beside old k other

    only : (old : At) → HasOnlyEntries old → HasOnlyEntries (after (list ++ m ∷ []) old)
    only old all k key is = patched_only path b o piece (after list old) k names hb key (sofar.only old all) (subst IsSome (step old k) is)

-- ---- one turn of the loop

pub next_patch : (path : List (List ℕ)) (off : ℕ) (bytes : List ℕ) (list made : List Message) (m : Message) (d n : ℕ) → AreNames path → off + length bytes ≤ file_limit → d + n ≤ length bytes → 1 ≤ n
    → (off + d) % block_limit + n ≤ block_limit
    → m ≡ Patch (block_key path ((off + d) / block_limit)) ((off + d) % block_limit) (take n (drop d bytes)) → made ≡ list ++ m ∷ []
    → IsOverwriting path off (take d bytes) list → IsOverwriting path off (take (d + n) bytes) made
next_patch path off bytes list made m d n names fits inside some room is pushed sofar =
    let long : length (take n (drop d bytes)) ≡ n = omega (arith, length-take n (drop d bytes), length-drop d bytes) in
    let done : length (take d bytes) ≡ d = omega (arith, length-take d bytes) in
    let more : IsOverwriting path off (take d bytes ++ take n (drop d bytes)) (list ++ Patch (block_key path ((off + d) / block_limit)) ((off + d) % block_limit) (take n (drop d bytes)) ∷ []) =
    IsOverwriting-more path off (take d bytes) (take n (drop d bytes)) list ((off + d) / block_limit) ((off + d) % block_limit) names (omega arith) (omega (arith, long)) (omega (arith, long)) (omega (arith, done)) sofar in
    let list_is : made ≡ list ++ Patch (block_key path ((off + d) / block_limit)) ((off + d) % block_limit) (take n (drop d bytes)) ∷ [] = pushed ∙ ap (λ (x : Message). list ++ x ∷ []) is in
    subst (λ (ms : List Message). IsOverwriting path off (take (d + n) bytes) ms) (sym list_is)
    (subst (λ (x : List ℕ). IsOverwriting path off x (list ++ Patch (block_key path ((off + d) / block_limit)) ((off + d) % block_limit) (take n (drop d bytes)) ∷ [])) (sym (take-add d n bytes)) more)

-- where bytes are left after a piece, the piece ends where a block does
pub next_first : (off d n long : ℕ) → n ≡ min (long - d) (block_limit - (off + d) % block_limit) → d + n < long → (off + (d + n)) % block_limit ≡ 0
next_first off d n long least left =
    let whole : n + (off + d) % block_limit ≡ block_limit = omega arith in
    omega (arith, whole)

pub next_more : (off d n long count more : ℕ) → n ≡ min (long - d) (block_limit - (off + d) % block_limit) → d + n < long → more ≡ count + 1 → block_limit * count ≤ d + 1023
    → (d ≡ 0) ⊎ ((off + d) % block_limit ≡ 0) → 1 ≤ n → block_limit * more ≤ d + n + 1023
next_more off d n long count more least left one sofar (inl none) some = omega arith
next_more off d n long count more least left one sofar (inr even) some = omega arith
