-- What is found in lists of entries.
use Rattle.std.proofs.Common.{◌≡◌, ℕ, Bool, true, false, cond, not, ◌&&◌, List, [], ◌∷◌, ◌++◌, length, drop, refl, sym, ap, subst, ◌∙◌, Option, None, Some, Equal, get_or, ◌+◌, ◌<◌, OnOk, Result, Ok, Err}
use Rattle.std.specs.Option.{option_or, unwrap_or}
use Rattle.std.specs.List.{filter, filter_map}
use Rattle.std.specs.Ordering.{eq_by_cmp}
use Rattle.std.specs.Cmp.{unsigned_Decides}
use Rattle.std.specs.Cmp.Lexicographic.{texts_ties, same_text}
use Rattle.std.specs.FinMap.{find, nat_cmp-IsAntisymmetric, slice_cmp-IsAntisymmetric}
use Rattle.std.specs.FinMap.Entries.{find-where_key, find-append}
use Rattle.std.proofs.lemmas.Cmp.{nat_list_cmp_total}
use Rattle.std.proofs.lemmas.Slice.Eq.{starts_is}
use Rattle.bd_keys.specs.Keys.{key_cmp}
use Rattle.std.proofs.lemmas.List.{drop_more}
use Rattle.bd_message.specs.declared.message.Message.{Message}
use Rattle.bd_message.specs.declared.message.Message.TheVariants.{Put, Del, Patch, Cut}
use Rattle.bd_message.specs.KeyMaps.{grafted}
use Rattle.bd_message.specs.Effect.{same_key, begins, rest, is_cut, act, acts, no_nodes}
use Rattle.bd_keys.specs.Edits.{overwritten}
use Rattle.bd_message.specs.Entries.{moved_entry}

abbrev pub Entry : Type 0
Entry = List ℕ × List ℕ

abbrev pub found : List ℕ → List Entry → Option (List ℕ)
found k es = find key_cmp k es

-- keys that tie are equal
pub tied : (k l : List ℕ) → key_cmp k l ≡ Equal → k ≡ l
tied = slice_cmp-IsAntisymmetric nat_cmp-IsAntisymmetric

-- the two tests of keys are one
pub ties_same : (k l : List ℕ) → eq_by_cmp key_cmp k l ≡ same_key k l
ties_same k l = sym (texts_ties k l)

pub same_key-true : (k l : List ℕ) → same_key k l ≡ true → k ≡ l
same_key-true k l e = same_text k l (sym e)

pub same_key-refl : (k : List ℕ) → same_key k k ≡ true
same_key-refl [] = refl
same_key-refl (b ∷ k) = rw ((unsigned_Decides b b).1 refl) (same_key-refl k)

-- after the same bytes the rest decides
pub same_key-after : (p k l : List ℕ) → same_key (p ++ k) (p ++ l) ≡ same_key k l
same_key-after [] k l = refl
same_key-after (b ∷ p) k l = rw ((unsigned_Decides b b).1 refl) (same_key-after p k l)

-- a key that begins with a prefix is it and the rest
pub begins-is : (k p : List ℕ) → begins k p ≡ true → k ≡ p ++ rest p k
begins-is k p e = (starts_is unsigned_Decides k p (begins k p) refl).0 e

pub begins-append : (p x : List ℕ) → begins (p ++ x) p ≡ true
begins-append p x = (starts_is unsigned_Decides (p ++ x) p (begins (p ++ x) p) refl).1 x refl

pub not_both : {b : Bool} → b ≡ true → b ≡ false → ⊥
not_both p q = cc

-- keys that differ, asked the other way round
different_back : (k l : List ℕ) → same_key k l ≡ false → same_key l k ≡ false
different_back k l other =
    elim (same_key l k) as (λ b. same_key l k ≡ b → b ≡ false) [
      | true ↦ λ same. absurd (not_both (ap (same_key k) (same_key-true l k same) ∙ same_key-refl k) other)
      | false ↦ λ _. refl
    ] refl

flipped : {A : Type 0} (b : Bool) (x y : A) → cond (not b) x y ≡ cond b y x
flipped true x y = refl
flipped false x y = refl

-- what is found when the keys that pass a test are dropped
pub find-without : (p : List ℕ → Bool) (k : List ℕ) (es : List Entry) → found k (filter (λ (e : Entry). not (p e.0)) es) ≡ cond (p k) None (found k es)
find-without p k es =
    find-where_key key_cmp (λ x. not (p x)) k (λ x tie. ap (λ (l : List ℕ). not (p l)) (sym (tied k x tie))) es
    ∙ flipped (p k) (found k es) None

-- what is found when the entries of a key are replaced by one
put_cases : (b : Bool) (v old : Option (List ℕ)) → cond b v (cond b None old) ≡ cond b v old
put_cases true v old = refl
put_cases false v old = refl

pub find-put : (key v k : List ℕ) (es : List Entry) → found k (filter (λ (e : Entry). not (same_key e.0 key)) es ++ (key, v) ∷ []) ≡ cond (same_key k key) (Some v) (found k es)
find-put key v k es =
    let p : List ℕ → Bool = λ l. same_key l key in
    let left : List Entry = filter (λ (e : Entry). not (p e.0)) es in
    let none : found key left ≡ None = find-without p key es ∙ ap (λ b. cond b None (found key es)) (same_key-refl key) in
    find-append key_cmp nat_list_cmp_total left key v k none
    ∙ ap (λ b. cond b (Some v) (found k left)) (ties_same k key)
    ∙ ap (λ o. cond (same_key k key) (Some v) o) (find-without p k es)
    ∙ put_cases (same_key k key) (Some v) (found k es)

-- what is found in two lists, one after the other
pub find-both : (k : List ℕ) (es fs : List Entry) → found k (es ++ fs) ≡ option_or (found k es) (found k fs)
find-both k [] fs = refl
find-both k (e ∷ es) fs =
    elim (eq_by_cmp key_cmp k e.0) as (λ b. cond b (Some e.1) (found k (es ++ fs)) ≡ option_or (cond b (Some e.1) (found k es)) (found k fs)) [
      | true ↦ refl
      | false ↦ find-both k es fs
    ]

none_of_none : (b : Bool) → ◌≡◌ {A = Option (List ℕ)} None (cond b None None)
none_of_none true = refl
none_of_none false = refl

-- an entry that isn't moved isn't looked for
not_moved : (s k : List ℕ) (e : Entry) → begins e.0 s ≡ false → eq_by_cmp key_cmp (s ++ k) e.0 ≡ false
not_moved s k e out =
    elim (eq_by_cmp key_cmp (s ++ k) e.0) as (λ b. eq_by_cmp key_cmp (s ++ k) e.0 ≡ b → b ≡ false) [
      | true ↦ λ t. absurd (not_both (subst (λ (l : List ℕ). begins l s ≡ true) (same_key-true (s ++ k) e.0 (sym (ties_same (s ++ k) e.0) ∙ t)) (begins-append s k)) out)
      | false ↦ λ t. refl
    ] refl

-- a moved entry is found at the moved key
moved_tie : (s d k : List ℕ) (e : Entry) → begins e.0 s ≡ true → begins k d ≡ true → eq_by_cmp key_cmp k (d ++ rest s e.0) ≡ eq_by_cmp key_cmp (s ++ rest d k) e.0
moved_tie s d k e inside at =
    ties_same k (d ++ rest s e.0)
    ∙ ap (λ l. same_key l (d ++ rest s e.0)) (begins-is k d at)
    ∙ same_key-after d (rest d k) (rest s e.0)
    ∙ sym (same_key-after s (rest d k) (rest s e.0))
    ∙ ap (same_key (s ++ rest d k)) (sym (begins-is e.0 s inside))
    ∙ sym (ties_same (s ++ rest d k) e.0)

-- and at no other
moved_apart : (d k x : List ℕ) → begins k d ≡ false → eq_by_cmp key_cmp k (d ++ x) ≡ false
moved_apart d k x out =
    elim (eq_by_cmp key_cmp k (d ++ x)) as (λ b. eq_by_cmp key_cmp k (d ++ x) ≡ b → b ≡ false) [
      | true ↦ λ t. absurd (not_both (subst (λ (l : List ℕ). begins l d ≡ true) (sym (same_key-true k (d ++ x) (sym (ties_same k (d ++ x)) ∙ t))) (begins-append d x)) out)
      | false ↦ λ t. refl
    ] refl

abbrev pub moved : List ℕ → List ℕ → List Entry → List Entry
moved s d es = filter_map (moved_entry s d) es

-- what is found among the moved entries
pub find-moved : (s d k : List ℕ) (es : List Entry) → found k (moved s d es) ≡ cond (begins k d) (found (s ++ rest d k) es) None
find-moved s d k [] = none_of_none (begins k d)
find-moved s d k (e ∷ es) =
    let later = find-moved s d k es in
    elim (begins e.0 s) as (λ b. begins e.0 s ≡ b → found k (filter_map (moved_entry s d) (e ∷ es)) ≡ cond (begins k d) (found (s ++ rest d k) (e ∷ es)) None) [
      | false ↦ λ out.
          rw out (later ∙ ap (λ b. cond (begins k d) (cond b (Some e.1) (found (s ++ rest d k) es)) None) (sym (not_moved s (rest d k) e out)))
      | true ↦ λ inside.
          rw inside (elim (begins k d) as (λ b. begins k d ≡ b → found k (moved s d es) ≡ cond b (found (s ++ rest d k) es) None
          → cond (eq_by_cmp key_cmp k (d ++ rest s e.0)) (Some e.1) (found k (moved s d es)) ≡ cond b (found (s ++ rest d k) (e ∷ es)) None) [
            | true ↦ λ at more. rw (moved_tie s d k e inside at, more)
            | false ↦ λ out more. rw (moved_apart d k (rest s e.0) out) more
          ] refl later)
    ] refl

-- what is found when what begins with `d` is replaced by what is moved there
grafted_cases : (b : Bool) (old new : Option (List ℕ)) → option_or (cond b None old) (cond b new None) ≡ cond b new old
grafted_cases true old new = refl
grafted_cases false None new = refl
grafted_cases false (Some v) new = refl

pub find-grafted : (s d k : List ℕ) (es : List Entry) → found k (filter (λ (e : Entry). not (begins e.0 d)) es ++ moved s d es) ≡ cond (begins k d) (found (s ++ rest d k) es) (found k es)
find-grafted s d k es =
    let left : List Entry = filter (λ (e : Entry). not (begins e.0 d)) es in
    find-both k left (moved s d es)
    ∙ ap (λ o. option_or o (found k (moved s d es))) (find-without (λ l. begins l d) k es)
    ∙ ap (option_or (cond (begins k d) None (found k es))) (find-moved s d k es)
    ∙ grafted_cases (begins k d) (found k es) (found (s ++ rest d k) es)

-- ---- a search from the front on

-- the entry at a place is found where its key is the one that is asked for
pub find_here : (es : List Entry) (i : ℕ) (item : Entry) (at key : List ℕ) → i < length es → item ≡ get_or es i item → at ≡ item.0 → same_key at key ≡ true → found key (drop i es) ≡ Some item.1
find_here es i item at key lt is key_is same =
    ap (found key) (drop_more es i item lt ∙ ap (λ (x : Entry). x ∷ drop (i + 1) es) (sym is))
    ∙ ap (λ b. cond b (Some item.1) (found key (drop (i + 1) es)))
    (ties_same key item.0 ∙ ap (λ l. same_key l item.0) (sym (same_key-true at key same) ∙ key_is) ∙ same_key-refl item.0)

-- else it is found after it
pub find_past : (es : List Entry) (i : ℕ) (item : Entry) (at key : List ℕ) → i < length es → item ≡ get_or es i item → at ≡ item.0 → same_key at key ≡ false → found key (drop (i + 1) es) ≡ found key (drop i es)
find_past es i item at key lt is key_is other =
    sym (ap (found key) (drop_more es i item lt ∙ ap (λ (x : Entry). x ∷ drop (i + 1) es) (sym is))
    ∙ ap (λ b. cond b (Some item.1) (found key (drop (i + 1) es)))
    (ties_same key item.0 ∙ ap (same_key key) (sym key_is) ∙ different_back at key other))

-- ---- what messages do

pub acted_put : (m : Message) (es new : List Entry) (key v : List ℕ) → m ≡ Put key v → new ≡ filter (λ (e : Entry). not (same_key e.0 key)) es ++ (key, v) ∷ [] → (k : List ℕ) → found k new ≡ act no_nodes m k (found k es)
acted_put m es new key v is new_is k =
    ap (found k) new_is ∙ find-put key v k es ∙ ap (λ (n : Message). act no_nodes n k (found k es)) (sym is)

pub acted_del : (m : Message) (es new : List Entry) (key : List ℕ) → m ≡ Del key → new ≡ filter (λ (e : Entry). not (same_key e.0 key)) es → (k : List ℕ) → found k new ≡ act no_nodes m k (found k es)
acted_del m es new key is new_is k =
    ap (found k) new_is ∙ find-without (λ l. same_key l key) k es ∙ ap (λ (n : Message). act no_nodes n k (found k es)) (sym is)

pub acted_cut : (m : Message) (es new : List Entry) (prefix from : List ℕ) → m ≡ Cut prefix from → new ≡ filter (λ (e : Entry). not (is_cut prefix from e.0)) es → (k : List ℕ) → found k new ≡ act no_nodes m k (found k es)
acted_cut m es new prefix from is new_is k =
    ap (found k) new_is ∙ find-without (is_cut prefix from) k es ∙ ap (λ (n : Message). act no_nodes n k (found k es)) (sym is)

patch_case : (b : Bool) (v : List ℕ) (old at_key : Option (List ℕ)) (off : ℕ) (bytes : List ℕ) → (b ≡ true → old ≡ at_key) → v ≡ overwritten (unwrap_or at_key []) off bytes
    → cond b (Some v) old ≡ cond b (Some (overwritten (unwrap_or old []) off bytes)) old
patch_case true v old at_key off bytes same is = ap Some (is ∙ ap (λ o. overwritten (unwrap_or o []) off bytes) (sym (same refl)))
patch_case false v old at_key off bytes same is = refl

pub acted_patch : (es new : List Entry) (key v : List ℕ) (off : ℕ) (bytes : List ℕ) → v ≡ overwritten (unwrap_or (found key es) []) off bytes
    → new ≡ filter (λ (e : Entry). not (same_key e.0 key)) es ++ (key, v) ∷ [] → (k : List ℕ) → found k new ≡ act no_nodes (Patch key off bytes) k (found k es)
acted_patch es new key v off bytes v_is new_is k =
    ap (found k) new_is ∙ find-put key v k es
    ∙ patch_case (same_key k key) v (found k es) (found key es) off bytes (λ same. ap (λ l. found l es) (same_key-true k key same)) v_is

-- one message was followed by those that are left
pub acts_more : (list : List Message) (i : ℕ) (m : Message) (k : List ℕ) (old new : Option (List ℕ)) → i < length list → m ≡ get_or list i m → new ≡ act no_nodes m k old
    → acts no_nodes (drop (i + 1) list) k new ≡ acts no_nodes (drop i list) k old
acts_more list i m k old new lt is new_is =
    ap (acts no_nodes (drop (i + 1) list) k) new_is
    ∙ ap (λ (ms : List Message). acts no_nodes ms k old) (sym (drop_more list i m lt ∙ ap (λ (x : Message). x ∷ drop (i + 1) list) (sym is)))

-- ---- grafts

abbrev pub with_moved : List ℕ → List ℕ → List Entry → List Entry
with_moved s d es = filter (λ (e : Entry). not (begins e.0 d)) es ++ moved s d es

pub grafted_kept : (s d k : List ℕ) (keep : Bool) (es new : List Entry) → keep ≡ true → new ≡ with_moved s d es → found k new ≡ grafted (λ l. found l es) s d keep k
grafted_kept s d k keep es new kept is =
    ap (found k) is ∙ find-grafted s d k es
    ∙ ap (λ b. cond (not b && begins k s) None (cond (begins k d) (found (s ++ rest d k) es) (found k es))) (sym kept)

pub grafted_moved : (s d k : List ℕ) (keep : Bool) (es new : List Entry) → keep ≡ false → new ≡ filter (λ (e : Entry). not (begins e.0 s)) (with_moved s d es) → found k new ≡ grafted (λ l. found l es) s d keep k
grafted_moved s d k keep es new kept is =
    ap (found k) is ∙ find-without (λ l. begins l s) k (with_moved s d es)
    ∙ ap (cond (begins k s) None) (find-grafted s d k es)
    ∙ ap (λ b. cond (not b && begins k s) None (cond (begins k d) (found (s ++ rest d k) es) (found k es))) (sym kept)

pub on_ok : {A E P Q : Type 0} (r : Result A E) → (P → Q) → OnOk r P → OnOk r Q
on_ok (Ok x) f h = f h
on_ok (Err x) f h = tt
