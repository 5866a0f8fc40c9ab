-- What a cut of a subtree and a graft do to the represented tree.
use Rattle.std.proofs.Common.{◌≡◌, ℕ, ◌+◌, ◌*◌, ◌<◌, ◌^◌, List, [], ◌∷◌, ◌++◌, ◌⊎◌, inl, inr, true, false, Bool, cond, refl, sym, ap, subst, ◌∙◌, arith, append_assoc}
use Rattle.std.specs.Prelude.{Option, Some, None, IsSome, IfSome, not, ◌&&◌, is_some, slice_index}
use Rattle.std.specs.Option.{option_map, option_and_then, unwrap_or}
use Rattle.std.specs.FinMap.{get}
use Rattle.std.specs.Ordering.{is_lt}
use Rattle.std.specs.Int.{w32}
use Rattle.std.proofs.lemmas.Bool.{cases_Bool, false_from_ne_true}
use Rattle.std.proofs.lemmas.List.{get_or_past}
use Rattle.std.proofs.Math.Seq.{drop-append_seam}
use Rattle.bd_limits.specs.Limits.{block_limit}
use Rattle.bd_wire.specs.Numbers.{be}
use Rattle.bd_keys.specs.Keys.{IsKey, key_cmp}
use Rattle.bd_names.specs.Names.{AreNames, key_of, is_under, rest_below}
use Rattle.bd_names.proofs.NamesLaws.{AreNames-append, AreNames-parts, key_of-append, is_under-append, is_under-rest, rest_below-some}
use Rattle.bd_model.specs.Tree.{Entry, Tree}
use Rattle.bd_model.specs.Step.{file_bytes, without}
use Rattle.bd_model.proofs.TreeGets.{get-without}
use Rattle.bd_message.specs.KeyMaps.{At, grafted}
use Rattle.bd_message.specs.Effect.{begins, rest, is_cut}
use Rattle.bd_message.proofs.Finds.{begins-is, begins-append}
use Rattle.bd_represent.specs.EntryKeys.{record_key, block_key, IsEntryKey}
use Rattle.bd_represent.specs.Represents.{record_value, IsBlockOf, HasBytes, HasOnlyEntries, Represents}
use Rattle.bd_represent.specs.Plans.{source, source_of}
use Rattle.bd_represent.proofs.KeyLemmas.{key_of-under}
use Rattle.bd_represent.proofs.ActLemmas.{IsKey-append, IsKey-rest, IsKey-key_of, IsKey-record_key, IsKey-block_key}
use Rattle.bd_represent.proofs.FileLemmas.{HasBytes-along}

-- ---- the keys of a subtree

below_key : (p below : List (List ℕ)) (x : List ℕ) → key_of (p ++ below) ++ x ≡ key_of p ++ (key_of below ++ x)
below_key p below x = ap (λ k. k ++ x) (key_of-append p below) ∙ append_assoc (key_of p) (key_of below) x

-- the keys of a path begin with the key of another exactly where it is that one or below it
pub begins-under : (p q : List (List ℕ)) (x : List ℕ) → AreNames p → AreNames q → begins (key_of q ++ 0 ∷ x) (key_of p) ≡ is_under p q
begins-under p q x hp hq = by (cases_Bool (is_under p q))
  where
    k : List ℕ
    k = key_of q ++ 0 ∷ x

    by : (is_under p q ≡ true) ⊎ (is_under p q ≡ false) → begins k (key_of p) ≡ is_under p q
    by (inl h) =
        let below = is_under-rest p q h in
        let key : k ≡ key_of p ++ (key_of below.0 ++ 0 ∷ x) = ap (λ (r : List (List ℕ)). key_of r ++ 0 ∷ x) below.1 ∙ below_key p below.0 (0 ∷ x) in
        ap (λ (l : List ℕ). begins l (key_of p)) key ∙ begins-append (key_of p) (key_of below.0 ++ 0 ∷ x) ∙ sym h
    by (inr h) =
        false_from_ne_true (begins k (key_of p)) (λ at.
        let below = key_of-under p q (rest (key_of p) k) x hp hq (begins-is k (key_of p) at) in
        let under : is_under p q ≡ true = ap (is_under p) below.1 ∙ is_under-append p below.0 in
        apart (is_under p q) under h) ∙ sym h
      where
        apart : (b : Bool) → b ≡ true → b ≡ false → ⊥
        apart b s t = cc

-- no block is no byte
pub HasBytes-none : (at : At) (path : List (List ℕ)) → ((i : ℕ) → i < 2 ^ 32 → at (block_key path i) ≡ None) → HasBytes at path []
HasBytes-none at path none =
    record {
      blocks = λ i hi. subst (λ (o : Option (List ℕ)). IfSome o (IsBlockOf [] i)) (sym (none i hi)) tt;
      bytes = λ i j hi hj. get_or_past [] (block_limit * i + j) 0 (omega arith) ∙ sym (get_or_past [] j 0 (omega arith)) ∙ ap (λ (o : Option (List ℕ)). slice_index (unwrap_or o []) j) (sym (none i hi));
    }

-- ---- a cut of a subtree

pub Represents-without : (old new : At) (t : Tree) (path : List (List ℕ)) → AreNames path → Represents old t → ((k : List ℕ) → IsKey k → new k ≡ cond (begins k (key_of path)) None (old k)) → Represents new (without path t)
Represents-without old new t path names r cut =
    record { records = λ q hq. records q hq (cases_Bool (is_under path q)); files = λ q hq. files q hq (cases_Bool (is_under path q)); only = only }
  where
    at_key : (q : List (List ℕ)) (x : List ℕ) → AreNames q → IsKey (key_of q ++ 0 ∷ x) → new (key_of q ++ 0 ∷ x) ≡ cond (is_under path q) None (old (key_of q ++ 0 ∷ x))
    at_key q x hq key = cut (key_of q ++ 0 ∷ x) key ∙ ap (λ b. cond b None (old (key_of q ++ 0 ∷ x))) (begins-under path q x names hq)

    records : (q : List (List ℕ)) → AreNames q → (is_under path q ≡ true) ⊎ (is_under path q ≡ false) → new (record_key q) ≡ option_map record_value (get (without path t) q)
    records q hq (inl h) = at_key q (0 ∷ []) hq (IsKey-record_key q hq) ∙ ap (λ b. cond b None (old (record_key q))) h ∙ sym (ap (option_map record_value) (get-without path t q ∙ ap (λ b. cond (not b) (get t q) None) h))
    records q hq (inr h) = at_key q (0 ∷ []) hq (IsKey-record_key q hq) ∙ ap (λ b. cond b None (old (record_key q))) h ∙ r.records q hq ∙ sym (ap (option_map record_value) (get-without path t q ∙ ap (λ b. cond (not b) (get t q) None) h))

    files : (q : List (List ℕ)) → AreNames q → (is_under path q ≡ true) ⊎ (is_under path q ≡ false) → HasBytes new q (file_bytes (get (without path t) q))
    files q hq (inl h) =
        subst (λ (o : Option Entry). HasBytes new q (file_bytes o)) (sym (get-without path t q ∙ ap (λ b. cond (not b) (get t q) None) h))
        (HasBytes-none new q (λ i hi. at_key q (1 ∷ be w32 i) hq (IsKey-block_key q i hq) ∙ ap (λ b. cond b None (old (block_key q i))) h))
    files q hq (inr h) =
        subst (λ (o : Option Entry). HasBytes new q (file_bytes o)) (sym (get-without path t q ∙ ap (λ b. cond (not b) (get t q) None) h))
        (HasBytes-along old new q (file_bytes (get t q)) (λ i hi. at_key q (1 ∷ be w32 i) hq (IsKey-block_key q i hq) ∙ ap (λ b. cond b None (old (block_key q i))) h) (r.files q hq))

    only : HasOnlyEntries new
    only k key some = by (cases_Bool (begins k (key_of path)))
      where
        by : (begins k (key_of path) ≡ true) ⊎ (begins k (key_of path) ≡ false) → IsEntryKey k
        by (inl h) = let none : false ≡ true = subst IsSome (cut k key ∙ ap (λ b. cond b None (old k)) h) some in cc
        by (inr h) = r.only k key (subst IsSome (cut k key ∙ ap (λ b. cond b None (old k)) h) some)

-- ---- a graft

-- what stands at a key of a path after a graft stood at the key of its source
grafted_key : (old : At) (a b q : List (List ℕ)) (x : List ℕ) (keep : Bool) → AreNames a → AreNames b → AreNames q
    → grafted old (key_of a) (key_of b) keep (key_of q ++ 0 ∷ x) ≡ option_and_then (λ p. old (key_of p ++ 0 ∷ x)) (source a b keep q)
grafted_key old a b q x keep ha hb hq =
    ap (λ c. cond (not keep && c) None (cond (begins k (key_of b)) (old (key_of a ++ rest (key_of b) k)) (old k))) (begins-under a q x ha hq)
    ∙ by (not keep && is_under a q) (rest_below b q) refl
  where
    k : List ℕ
    k = key_of q ++ 0 ∷ x

    by : (gone : Bool) (found : Option (List (List ℕ))) → rest_below b q ≡ found
        → cond gone None (cond (begins k (key_of b)) (old (key_of a ++ rest (key_of b) k)) (old k)) ≡ option_and_then (λ p. old (key_of p ++ 0 ∷ x)) (cond gone None (source_of q (option_map (λ below. a ++ below) found)))
    by true found e = refl
    by false None e = ap (λ c. cond c (old (key_of a ++ rest (key_of b) k)) (old k)) (begins-under b q x hb hq ∙ ap is_some e)
    by false (Some below) e =
        let at : q ≡ b ++ below = rest_below-some b q below e in
        let key : k ≡ key_of b ++ (key_of below ++ 0 ∷ x) = ap (λ (r : List (List ℕ)). key_of r ++ 0 ∷ x) at ∙ below_key b below (0 ∷ x) in
        let left : rest (key_of b) k ≡ key_of below ++ 0 ∷ x = ap (rest (key_of b)) key ∙ drop-append_seam (key_of b) (key_of below ++ 0 ∷ x) in
        ap (λ c. cond c (old (key_of a ++ rest (key_of b) k)) (old k)) (begins-under b q x hb hq ∙ ap is_some e)
        ∙ ap old (ap (λ (r : List ℕ). key_of a ++ r) left ∙ sym (below_key a below (0 ∷ x)))

source_names : (a b q : List (List ℕ)) (keep : Bool) (p : List (List ℕ)) → AreNames a → AreNames q → source a b keep q ≡ Some p → AreNames p
source_names a b q keep p ha hq e = by (not keep && is_under a q) (rest_below b q) refl e
  where
    by : (gone : Bool) (found : Option (List (List ℕ))) → rest_below b q ≡ found → cond gone None (source_of q (option_map (λ below. a ++ below) found)) ≡ Some p → AreNames p
    by true found at is = cc
    by false None at is = let same : q ≡ p = cc in subst (λ (r : List (List ℕ)). AreNames r) same hq
    by false (Some below) at is =
        let same : a ++ below ≡ p = cc in
        let split : q ≡ b ++ below = rest_below-some b q below at in
        let names : AreNames (b ++ below) = subst (λ (r : List (List ℕ)). AreNames r) split hq in
        subst (λ (r : List (List ℕ)). AreNames r) same (AreNames-append a below ha (AreNames-parts b below names).1)

pub Represents-grafted : (old new : At) (t u : Tree) (a b : List (List ℕ)) (keep : Bool) → AreNames a → AreNames b → Represents old t
    → ((q : List (List ℕ)) → AreNames q → get u q ≡ option_and_then (get t) (source a b keep q))
    → ((k : List ℕ) → IsKey k → new k ≡ grafted old (key_of a) (key_of b) keep k) → Represents new u
Represents-grafted old new t u a b keep ha hb r tree graft =
    record { records = λ q hq. records q hq (source a b keep q) refl; files = λ q hq. files q hq (source a b keep q) refl; only = only }
  where
    at_key : (q : List (List ℕ)) (x : List ℕ) → AreNames q → IsKey (key_of q ++ 0 ∷ x) → new (key_of q ++ 0 ∷ x) ≡ option_and_then (λ p. old (key_of p ++ 0 ∷ x)) (source a b keep q)
    at_key q x hq key = graft (key_of q ++ 0 ∷ x) key ∙ grafted_key old a b q x keep ha hb hq

    records : (q : List (List ℕ)) → AreNames q → (o : Option (List (List ℕ))) → source a b keep q ≡ o → new (record_key q) ≡ option_map record_value (get u q)
    records q hq None e = at_key q (0 ∷ []) hq (IsKey-record_key q hq) ∙ ap (option_and_then (λ p. old (key_of p ++ 0 ∷ 0 ∷ []))) e ∙ sym (ap (option_map record_value) (tree q hq ∙ ap (option_and_then (get t)) e))
    records q hq (Some p) e =
        at_key q (0 ∷ []) hq (IsKey-record_key q hq) ∙ ap (option_and_then (λ p. old (key_of p ++ 0 ∷ 0 ∷ []))) e ∙ r.records p (source_names a b q keep p ha hq e)
        ∙ sym (ap (option_map record_value) (tree q hq ∙ ap (option_and_then (get t)) e))

    files : (q : List (List ℕ)) → AreNames q → (o : Option (List (List ℕ))) → source a b keep q ≡ o → HasBytes new q (file_bytes (get u q))
    files q hq None e =
        subst (λ (o : Option Entry). HasBytes new q (file_bytes o)) (sym (tree q hq ∙ ap (option_and_then (get t)) e))
        (HasBytes-none new q (λ i hi. at_key q (1 ∷ be w32 i) hq (IsKey-block_key q i hq) ∙ ap (option_and_then (λ p. old (key_of p ++ 0 ∷ 1 ∷ be w32 i))) e))
    files q hq (Some p) e =
        subst (λ (o : Option Entry). HasBytes new q (file_bytes o)) (sym (tree q hq ∙ ap (option_and_then (get t)) e))
        (HasBytes-from old new p q (file_bytes (get t p)) (λ i hi. at_key q (1 ∷ be w32 i) hq (IsKey-block_key q i hq) ∙ ap (option_and_then (λ p. old (key_of p ++ 0 ∷ 1 ∷ be w32 i))) e) (r.files p (source_names a b q keep p ha hq e)))
      where
        HasBytes-from : (old new : At) (p q : List (List ℕ)) (file : List ℕ) → ((i : ℕ) → i < 2 ^ 32 → new (block_key q i) ≡ old (block_key p i)) → HasBytes old p file → HasBytes new q file
        HasBytes-from old new p q file same has =
            record {
              blocks = λ i hi. subst (λ (o : Option (List ℕ)). IfSome o (IsBlockOf file i)) (sym (same i hi)) (has.blocks i hi);
              bytes = λ i j hi hj. has.bytes i j hi hj ∙ ap (λ (o : Option (List ℕ)). slice_index (unwrap_or o []) j) (sym (same i hi));
            }

    -- the entry at the source is one at the target
    moved : (k : List ℕ) (p : List (List ℕ)) (x : List ℕ) → AreNames p → k ≡ key_of b ++ rest (key_of b) k → key_of a ++ rest (key_of b) k ≡ key_of p ++ 0 ∷ x → (below : List (List ℕ)) × AreNames (b ++ below) × (k ≡ key_of (b ++ below) ++ 0 ∷ x)
    moved k p x hp is e =
        let under = key_of-under a p (rest (key_of b) k) x ha hp (sym e) in
        let names : AreNames (a ++ under.0) = subst (λ (r : List (List ℕ)). AreNames r) under.1 hp in
        (under.0, AreNames-append b under.0 hb (AreNames-parts a under.0 names).1, is ∙ ap (λ (r : List ℕ). key_of b ++ r) under.2 ∙ sym (below_key b under.0 (0 ∷ x)))

    entry : (k : List ℕ) → k ≡ key_of b ++ rest (key_of b) k → IsEntryKey (key_of a ++ rest (key_of b) k) → IsEntryKey k
    entry k is (p, names, inl e) = let m = moved k p (0 ∷ []) names is e in (b ++ m.0, m.1, inl m.2)
    entry k is (p, names, inr (i, hi, e)) = let m = moved k p (1 ∷ be w32 i) names is e in (b ++ m.0, m.1, inr (i, hi, m.2))

    only : HasOnlyEntries new
    only k key some = by (cases_Bool (not keep && begins k (key_of a))) (cases_Bool (begins k (key_of b)))
      where
        value : (g : Bool) (d : Bool) → (not keep && begins k (key_of a)) ≡ g → begins k (key_of b) ≡ d → IsSome (cond g None (cond d (old (key_of a ++ rest (key_of b) k)) (old k)))
        value g d eg ed = subst IsSome (graft k key ∙ ap (λ c. cond c None (cond (begins k (key_of b)) (old (key_of a ++ rest (key_of b) k)) (old k))) eg ∙ ap (λ c. cond g None (cond c (old (key_of a ++ rest (key_of b) k)) (old k))) ed) some

        by : ((not keep && begins k (key_of a)) ≡ true) ⊎ ((not keep && begins k (key_of a)) ≡ false) → (begins k (key_of b) ≡ true) ⊎ (begins k (key_of b) ≡ false) → IsEntryKey k
        by (inl gone) (inl in_b) = let none : false ≡ true = value true true gone in_b in cc
        by (inl gone) (inr out) = let none : false ≡ true = value true false gone out in cc
        by (inr stays) (inl in_b) =
            let is = begins-is k (key_of b) in_b in
            let bytes : IsKey (rest (key_of b) k) = IsKey-rest (key_of b) (rest (key_of b) k) (subst IsKey is key) in
            entry k is (r.only (key_of a ++ rest (key_of b) k) (IsKey-append (key_of a) (rest (key_of b) k) (IsKey-key_of a ha) bytes) (value false true stays in_b))
        by (inr stays) (inr out) = r.only k key (value false false stays out)
