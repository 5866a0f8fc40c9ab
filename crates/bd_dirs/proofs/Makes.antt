-- What changes of directories make of the tree.
use Rattle.std.proofs.Common.{take, drop, length, ◌≡◌, ℕ, List, [], ◌∷◌, ◌++◌, Bool, true, false, cond, refl, sym, ap, subst, ◌∙◌}
use Rattle.std.specs.Prelude.{Option, Some, None, is_some, IsTrue}
use Rattle.std.specs.Option.{option_map, option_and_then, option_or}
use Rattle.std.specs.FinMap.{get, insert}
use Rattle.std.proofs.lemmas.List.{take-append-drop}
use Rattle.bd_keys.specs.Keys.{IsKey, Begins}
use Rattle.bd_names.specs.Names.{AreNames, key_of, is_under, rest_below}
use Rattle.bd_names.proofs.NamesLaws.{rest_below-some, is_under-append, key_of-front}
use Rattle.bd_command.specs.declared.refusal.Refusal.{Refusal}
use Rattle.bd_command.specs.declared.Command.TheVariants.{Rename, Clone}
use Rattle.bd_model.specs.Tree.{Entry, Directory, FileWith, Tree, IsTree}
use Rattle.bd_model.specs.Step.{file_bytes, with_mode, refusal_of, cloned, renamed, without, new_refusal, root_refusal}
use Rattle.bd_model.proofs.Accepted.{absent_if_made}
use Rattle.bd_model.proofs.TreeLaws.{CanMove, can_clone, can_rename, rename_outside, get-cloned-at, get-cloned-other, get-renamed-at, get-renamed-other, get-renamed-gone, apart_from_new}
use Rattle.bd_records.specs.declared.Record.{Record}
use Rattle.bd_records.specs.Records.{record_bytes}
use Rattle.bd_message.specs.declared.message.Message.{Message}
use Rattle.bd_message.specs.declared.message.Message.TheVariants.{Put, Cut}
use Rattle.bd_message.specs.KeyMaps.{At, grafted}
use Rattle.bd_message.specs.Effect.{acts, no_nodes}
use Rattle.bd_represent.specs.EntryKeys.{record_key}
use Rattle.bd_represent.specs.Represents.{record_of, HasBytes, Represents}
use Rattle.bd_represent.specs.Plans.{Makes, source, source_of}
use Rattle.bd_represent.proofs.ActLemmas.{put-here}
use Rattle.bd_represent.proofs.FileLemmas.{HasBytes-along}
use Rattle.bd_represent.proofs.TreeLemmas.{Represents-along, Represents-insert}
use Rattle.bd_represent.proofs.SubtreeLemmas.{Represents-without, Represents-grafted}
use Rattle.bd_files.proofs.Writes.{put_at, put_only, put_beside, put_blocks}
use Rattle.bd_dirs.specs.Plans.{MakesByGraft}
use Rattle.bd_message.proofs.Prefixes.{is_cut-all}

-- ---- a new entry

-- a record that is put, where the bytes are those of its entry
makes_record : (at : At) (t : Tree) (path : List (List ℕ)) (r : Record) (list : List Message) → AreNames path → Represents at t → list ≡ Put (record_key path) (record_bytes r) ∷ []
    → (e : Entry) → record_of e ≡ r → HasBytes at path (file_bytes (Some e)) → Makes at list (insert t path e)
makes_record at t path r list names rep is e same has new applied =
    let value = record_bytes r in
    let mid : At = put_at path value at in
    let bytes : HasBytes mid path (file_bytes (Some e)) = HasBytes-along at mid path (file_bytes (Some e)) (λ i hi. put_blocks path value at i names) has in
    Represents-along mid new (insert t path e) (subst (λ (ms : List Message). (k : List ℕ) → IsKey k → new k ≡ acts no_nodes ms k (at k)) is applied)
    (Represents-insert at mid t path e rep (put_beside path value at names) (put-here (record_key path) value (at (record_key path)) ∙ ap (λ (x : Record). Some (record_bytes x)) (sym same)) bytes (put_only path value at names rep.only))

pub makes_entry : (at : At) (t : Tree) (path : List (List ℕ)) (r : Record) (list : List Message) → AreNames path → Represents at t → new_refusal t path ≡ None → list ≡ Put (record_key path) (record_bytes r) ∷ []
    → (e : Entry) → record_of e ≡ r → file_bytes (Some e) ≡ [] → Makes at list (insert t path e)
makes_entry at t path r list names rep free is e same empty new applied =
    let none : HasBytes at path [] = subst (λ (o : Option Entry). HasBytes at path (file_bytes o)) (absent_if_made t path free) (rep.files path names) in
    makes_record at t path r list names rep is e same (subst (λ (file : List ℕ). HasBytes at path file) (sym empty) none) new applied

-- what a record with another mode makes
pub makes_chmod : (at : At) (t : Tree) (path : List (List ℕ)) (mode : ℕ) (r : Record) (list : List Message) (e : Entry) → AreNames path → Represents at t → get t path ≡ Some e → record_of (with_mode mode (Some e)) ≡ r → list ≡ Put (record_key path) (record_bytes r) ∷ []
    → Makes at list (insert t path (with_mode mode (get t path)))
makes_chmod at t path mode r list e names rep there same is =
    let has : HasBytes at path (file_bytes (Some e)) = subst (λ (o : Option Entry). HasBytes at path (file_bytes o)) there (rep.files path names) in
    subst (λ (o : Option Entry). Makes at list (insert t path (with_mode mode o))) (sym there)
    (makes_record at t path r list names rep is (with_mode mode (Some e)) same (subst (λ (file : List ℕ). HasBytes at path file) (bytes e) has))
  where
    bytes : (x : Entry) → file_bytes (Some x) ≡ file_bytes (Some (with_mode mode (Some x)))
    bytes (Directory m) = refl
    bytes (FileWith m file) = refl

-- ---- a subtree that goes

pub makes_without : (at : At) (t : Tree) (path : List (List ℕ)) (list : List Message) → AreNames path → Represents at t → list ≡ Cut (key_of path) [] ∷ [] → Makes at list (without path t)
makes_without at t path list names rep is new applied =
    let cut : (k : List ℕ) → IsKey k → new k ≡ acts no_nodes (Cut (key_of path) [] ∷ []) k (at k) = subst (λ (ms : List Message). (k : List ℕ) → IsKey k → new k ≡ acts no_nodes ms k (at k)) is applied in
    Represents-without at new t path names rep (λ k key. cut k key ∙ ap (λ b. cond b None (at k)) (is_cut-all (key_of path) k))

-- ---- a subtree that is copied or moved

cloned_source : (t : Tree) (a b : List (List ℕ)) → IsTree t → CanMove t a b → (q : List (List ℕ)) → get (cloned a b t) q ≡ option_and_then (get t) (source a b true q)
cloned_source t a b tree can q = by (rest_below b q) refl
  where
    by : (o : Option (List (List ℕ))) → rest_below b q ≡ o → get (cloned a b t) q ≡ option_and_then (get t) (source_of q (option_map (λ below. a ++ below) o))
    by None e = get-cloned-other t a b q (ap is_some e)
    by (Some below) e = ap (get (cloned a b t)) (rest_below-some b q below e) ∙ get-cloned-at t tree a b can below

renamed_source : (t : Tree) (a b : List (List ℕ)) → IsTree t → CanMove t a b → is_under a b ≡ false → (q : List (List ℕ)) → get (renamed a b t) q ≡ option_and_then (get t) (source a b false q)
renamed_source t a b tree can out q = by (is_under a q) (rest_below b q) refl refl
  where
    by : (gone : Bool) (o : Option (List (List ℕ))) → is_under a q ≡ gone → rest_below b q ≡ o → get (renamed a b t) q ≡ option_and_then (get t) (cond gone None (source_of q (option_map (λ below. a ++ below) o)))
    by true o h e = get-renamed-gone t a b q (apart_from_new t tree a b can out q h) h
    by false None h e = get-renamed-other t a b q h (ap is_some e)
    by false (Some below) h e = ap (get (renamed a b t)) (rest_below-some b q below e) ∙ get-renamed-at t tree a b can below

pub makes_clone : (at : At) (t : Tree) (a b : List (List ℕ)) (sk dk : List ℕ) → AreNames a → AreNames b → IsTree t → Represents at t → refusal_of t (Clone a b) ≡ None → sk ≡ key_of a → dk ≡ key_of b → MakesByGraft at sk dk true (cloned a b t)
makes_clone at t a b sk dk ha hb tree rep free es ed new graft =
    Represents-grafted at new t (cloned a b t) a b true ha hb rep (λ q hq. cloned_source t a b tree (can_clone t a b free) q)
    (λ k key. graft k key ∙ ap (λ (x : List ℕ). grafted at x dk true k) es ∙ ap (λ (x : List ℕ). grafted at (key_of a) x true k) ed)

pub makes_rename : (at : At) (t : Tree) (a b : List (List ℕ)) (sk dk : List ℕ) → AreNames a → AreNames b → IsTree t → Represents at t → refusal_of t (Rename a b) ≡ None → sk ≡ key_of a → dk ≡ key_of b → MakesByGraft at sk dk false (renamed a b t)
makes_rename at t a b sk dk ha hb tree rep free es ed new graft =
    Represents-grafted at new t (renamed a b t) a b false ha hb rep (λ q hq. renamed_source t a b tree (can_rename t a b free) (rename_outside t a b free) q)
    (λ k key. graft k key ∙ ap (λ (x : List ℕ). grafted at x dk false k) es ∙ ap (λ (x : List ℕ). grafted at (key_of a) x false k) ed)

-- ---- refusals in order

pub both_free : (x y : Option Refusal) → x ≡ None → y ≡ None → option_or x y ≡ None
both_free None y e f = f
both_free (Some x) y e f = cc

pub second_of : (x y r : Option Refusal) → x ≡ None → y ≡ r → option_or x y ≡ r
second_of None y r e f = f
second_of (Some x) y r e f = cc

pub root_free : (p : List (List ℕ)) (b : Bool) → b ≡ false → (p ≡ [] → IsTrue b) → root_refusal p ≡ None
root_free [] b e h = let is : IsTrue false = subst IsTrue e (h refl) in absurd_true is
  where
    absurd_true : IsTrue false → root_refusal [] ≡ None
    absurd_true i = cc
root_free (n ∷ p) b e h = refl

-- the key of a target that isn't at or below the source doesn't begin with the source's
pub not_inside : (a b : List (List ℕ)) (s d : List ℕ) → AreNames a → AreNames b → is_under a b ≡ false → s ≡ key_of a → d ≡ key_of b → ¬ Begins d s
not_inside a b s d ha hb out es ed begins =
    let at : take (length (key_of a)) (key_of b) ≡ key_of a = sym (ap (λ (x : List ℕ). take (length x) (key_of b)) es) ∙ sym (ap (take (length s)) ed) ∙ begins ∙ es in
    let split : key_of b ≡ key_of a ++ drop (length (key_of a)) (key_of b) = sym (take-append-drop (length (key_of a)) (key_of b)) ∙ ap (λ (x : List ℕ). x ++ drop (length (key_of a)) (key_of b)) at in
    let below = key_of-front a b (drop (length (key_of a)) (key_of b)) ha hb split in
    let under : is_under a b ≡ true = ap (is_under a) below.1 ∙ is_under-append a below.0 in
    apart (is_under a b) under out
  where
    apart : (x : Bool) → x ≡ true → x ≡ false → ⊥
    apart x p q = cc
