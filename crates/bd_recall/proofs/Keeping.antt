-- What is kept after a key was put or removed.
use Rattle.std.proofs.Common.{◌≡◌, ◌⊎◌, ℕ, zero, suc, Bool, true, false, cond, not, ◌||◌, List, [], ◌∷◌, ◌++◌, length, drop, get_or, ◌+◌, ◌<◌, inl, inr, refl, sym, ap, ◌∙◌, subst, Ordering, Less, Equal, Greater}
use Rattle.std.specs.Prelude.{Option, Some, None, IfSome, IsSome, is_some}
use Rattle.std.specs.BTreeMap.{is_at}
use Rattle.std.specs.BTreeSet.{BTreeSet, insert_key, replace_key, IsKeyInRange, IsKeyRangeOf}
use Rattle.std.specs.List.{find, list_any, slice_get}
use Rattle.std.specs.declared.ops.Bound.TheVariants.{Included, Unbounded}
use Rattle.std.specs.Set.{remove_key}
use Rattle.std.specs.Ordering.{is_eq, is_gt, match_ordering, ordering_reverse}
use Rattle.std.specs.Option.{option_map}
use Rattle.std.proofs.lemmas.List.{append-nil}
use Rattle.std.proofs.lemmas.Cmp.{nat_list_cmp_total as total}
use Rattle.bd_keys.specs.Keys.{key_cmp}
use Rattle.bd_keys.proofs.Order.{key_cmp-front}
use Rattle.bd_message.specs.Effect.{act, acts, begins, no_nodes, rest, same_key}
use Rattle.bd_message.specs.declared.message.Message.{Message}
use Rattle.bd_message.proofs.Finds.{ties_same, tied, begins-is, begins-append, not_both, acts_more}
use Rattle.bd_message.proofs.Prefixes.{joined_other}
use Rattle.bd_recall.specs.Kept.{Found, Findings, kept_for, KeepsFewer, KeepsOthers, KeepsOne, KeepsInstead, KeepsWritten}

-- whether what was found was found at a key
abbrev pub at_key : List ℕ → Found → Bool
at_key k = is_at (λ f. key_cmp k f.0)

-- what is found in a table at a key
abbrev pub found_in : Findings → List ℕ → Option Found
found_in fs k = find (at_key k) fs

-- a table with what was found added, where nothing is found at its key
abbrev pub add_in : Findings → Found → Findings
add_in fs f = insert_key (λ (a b : Found). key_cmp a.0 b.0) fs f

-- a table with what was found put in, in place of what is found at its key
abbrev pub put_in : Findings → Found → Findings
put_in fs f = replace_key (λ (a b : Found). key_cmp a.0 b.0) fs f

pub same_order : (o : Ordering) → is_eq o ≡ true → o ≡ Equal
same_order Less h = cc
same_order Equal h = refl
same_order Greater h = cc

pub turned : (b : Bool) → not b ≡ true → b ≡ false
turned true h = cc
turned false h = refl

-- a key is found where it stands in the table
found_alike : (fs : Findings) (k : List ℕ) → is_some (found_in fs k) ≡ list_any (at_key k) fs
found_alike [] k = refl
found_alike (e ∷ fs) k = by (is_eq (key_cmp k e.0)) (found_alike fs k)
  where
    by : (b : Bool) → is_some (found_in fs k) ≡ list_any (at_key k) fs → is_some (cond b (Some e) (found_in fs k)) ≡ (b || list_any (at_key k) fs)
    by true later = refl
    by false later = later

none_of : {A : Type 0} (o : Option A) → is_some o ≡ false → o ≡ None
none_of None h = refl
none_of (Some x) h = cc

-- nothing is found at a key that doesn't stand in the table
pub not_found : (fs : Findings) (k : List ℕ) → list_any (at_key k) fs ≡ false → found_in fs k ≡ None
not_found fs k none = none_of (found_in fs k) (found_alike fs k ∙ none)

-- ---- one put in

-- at each key is found what was found before, or what is put in
module _ (f : Found) (q : List ℕ) where
  -- the key that is put in isn't the one that stands first
  above : (e : Found) → key_cmp f.0 e.0 ≡ Greater → (now was : Option Found) (b : Bool) → is_eq (key_cmp q f.0) ≡ b → now ≡ cond b (Some f) was
      → cond (is_eq (key_cmp q e.0)) (Some e) now ≡ cond b (Some f) (cond (is_eq (key_cmp q e.0)) (Some e) was)
  above e is now was true same later =
      let key : q ≡ f.0 = tied q f.0 (same_order (key_cmp q f.0) same) in
      ap (λ (b : Bool). cond b (Some e) now) (ap (λ (l : List ℕ). is_eq (key_cmp l e.0)) key ∙ ap is_eq is) ∙ later
  above e is now was false other later = ap (cond (is_eq (key_cmp q e.0)) (Some e)) later

  -- it is the one that stands first
  first : (e : Found) → key_cmp f.0 e.0 ≡ Equal → (was : Option Found) (b : Bool) → is_eq (key_cmp q f.0) ≡ b
      → cond b (Some f) was ≡ cond b (Some f) (cond (is_eq (key_cmp q e.0)) (Some e) was)
  first e is was true same = refl
  first e is was false other =
      let key : f.0 ≡ e.0 = tied f.0 e.0 is in
      sym (ap (λ (b : Bool). cond b (Some e) was) (ap (λ (l : List ℕ). is_eq (key_cmp q l)) (sym key) ∙ other))

  found_put : (fs : Findings) → found_in (put_in fs f) q ≡ cond (is_eq (key_cmp q f.0)) (Some f) (found_in fs q)
  found_put [] = refl
  found_put (e ∷ fs) = by (key_cmp f.0 e.0) refl (found_put fs)
    where
      by : (o : Ordering) → key_cmp f.0 e.0 ≡ o → found_in (put_in fs f) q ≡ cond (is_eq (key_cmp q f.0)) (Some f) (found_in fs q)
          → found_in (match_ordering o (f ∷ e ∷ fs) (f ∷ fs) (e ∷ put_in fs f)) q ≡ cond (is_eq (key_cmp q f.0)) (Some f) (cond (is_eq (key_cmp q e.0)) (Some e) (found_in fs q))
      by Less is later = refl
      by Equal is later = first e is (found_in fs q) (is_eq (key_cmp q f.0)) refl
      by Greater is later = above e is (found_in (put_in fs f) q) (found_in fs q) (is_eq (key_cmp q f.0)) refl later

  found_added : (fs : Findings) → (found_in (add_in fs f) q ≡ found_in fs q) ⊎ (found_in (add_in fs f) q ≡ cond (is_eq (key_cmp q f.0)) (Some f) (found_in fs q))
  found_added [] = inr refl
  found_added (e ∷ fs) = by (key_cmp f.0 e.0) refl (found_added fs)
    where
      by : (o : Ordering) → key_cmp f.0 e.0 ≡ o → (found_in (add_in fs f) q ≡ found_in fs q) ⊎ (found_in (add_in fs f) q ≡ cond (is_eq (key_cmp q f.0)) (Some f) (found_in fs q))
          → (found_in (match_ordering o (f ∷ e ∷ fs) (e ∷ fs) (e ∷ add_in fs f)) q ≡ cond (is_eq (key_cmp q e.0)) (Some e) (found_in fs q))
          ⊎ (found_in (match_ordering o (f ∷ e ∷ fs) (e ∷ fs) (e ∷ add_in fs f)) q ≡ cond (is_eq (key_cmp q f.0)) (Some f) (cond (is_eq (key_cmp q e.0)) (Some e) (found_in fs q)))
      by Less is later = inr refl
      by Equal is later = inl refl
      by Greater is (inl stays) = inl (ap (cond (is_eq (key_cmp q e.0)) (Some e)) stays)
      by Greater is (inr later) = inr (above e is (found_in (add_in fs f) q) (found_in fs q) (is_eq (key_cmp q f.0)) refl later)

-- after a value was put in
kept_put : (old : Findings) (k : List ℕ) (v : Option (List ℕ)) → KeepsInstead old k v (put_in old (k, v))
kept_put old k v q = by (is_eq (key_cmp q k)) refl (found_put (k, v) q old)
  where
    P : Option (List ℕ) → Type 0
    P found = ((kept_for old q ≡ Some found) × (same_key q k ≡ false)) ⊎ ((q ≡ k) × (found ≡ v))

    was : same_key q k ≡ false → (o : Option Found) → found_in old q ≡ o → IfSome (option_map (λ (f : Found). f.1) o) P
    was other None there = tt
    was other (Some f) there = inl (ap (option_map (λ (x : Found). x.1)) there, other)

    by : (b : Bool) → is_eq (key_cmp q k) ≡ b → found_in (put_in old (k, v)) q ≡ cond b (Some (k, v)) (found_in old q) → IfSome (kept_for (put_in old (k, v)) q) P
    by true same put = subst (λ (o : Option Found). IfSome (option_map (λ (f : Found). f.1) o) P) (sym put) (inr (tied q k (same_order (key_cmp q k) same), refl))
    by false other put = subst (λ (o : Option Found). IfSome (option_map (λ (f : Found). f.1) o) P) (sym put) (was (sym (ties_same q k) ∙ other) (found_in old q) refl)

-- ---- one removed

found_other : (fs : Findings) (k q : List ℕ) → is_eq (key_cmp q k) ≡ false → found_in (remove_key (at_key k) fs) q ≡ found_in fs q
found_other [] k q other = refl
found_other (e ∷ fs) k q other = by (is_eq (key_cmp k e.0)) refl (found_other fs k q other)
  where
    left : Findings
    left = remove_key (at_key k) fs

    by : (b : Bool) → is_eq (key_cmp k e.0) ≡ b → found_in left q ≡ found_in fs q → found_in (cond b fs (e ∷ left)) q ≡ cond (is_eq (key_cmp q e.0)) (Some e) (found_in fs q)
    by true same later =
        let key : k ≡ e.0 = tied k e.0 (same_order (key_cmp k e.0) same) in
        sym (ap (λ (b : Bool). cond b (Some e) (found_in fs q)) (ap (λ (l : List ℕ). is_eq (key_cmp q l)) (sym key) ∙ other))
    by false apart later = ap (cond (is_eq (key_cmp q e.0)) (Some e)) later

-- after a key was removed
pub kept_removed : (old new : Findings) (k : List ℕ) → new ≡ remove_key (at_key k) old → list_any (at_key k) new ≡ false → KeepsOthers old k new
kept_removed old new k out none q = by (is_eq (key_cmp q k)) refl
  where
    P : Option (List ℕ) → Type 0
    P found = (kept_for old q ≡ Some found) × (same_key q k ≡ false)

    was : same_key q k ≡ false → (o : Option Found) → found_in old q ≡ o → IfSome (option_map (λ (f : Found). f.1) o) P
    was other None there = tt
    was other (Some f) there = (ap (option_map (λ (x : Found). x.1)) there, other)

    by : (b : Bool) → is_eq (key_cmp q k) ≡ b → IfSome (kept_for new q) P
    by true same =
        let gone : found_in new q ≡ None = ap (found_in new) (tied q k (same_order (key_cmp q k) same)) ∙ not_found new k none in
        subst (λ (o : Option Found). IfSome (option_map (λ (f : Found). f.1) o) P) (sym gone) tt
    by false other =
        let stays : found_in new q ≡ found_in old q = ap (λ (fs : Findings). found_in fs q) out ∙ found_other old k q other in
        subst (λ (o : Option Found). IfSome (option_map (λ (f : Found). f.1) o) P) (sym stays) (was (sym (ties_same q k) ∙ other) (found_in old q) refl)

-- ---- one after the other

-- what a part of what is kept has is what is kept
if_some : {A : Type 0} (o : Option A) (P : A → Type 0) (x : A) → o ≡ Some x → IfSome o P → P x
if_some None P x is h = cc
if_some (Some y) P x is h = subst P (let e : y ≡ x = cc in e) h

each : (fs : Findings) (k : List ℕ) (P : Option (List ℕ) → Type 0) → ((found : Option (List ℕ)) → kept_for fs k ≡ Some found → P found) → IfSome (kept_for fs k) P
each fs k P h = by (kept_for fs k) refl
  where
    by : (o : Option (Option (List ℕ))) → kept_for fs k ≡ o → IfSome o P
    by None is = tt
    by (Some found) is = h found is

-- one that is stored where some was forgotten before
pub instead_after : (a b c : Findings) (k : List ℕ) (value : Option (List ℕ)) → KeepsFewer a b → KeepsInstead b k value c → KeepsInstead a k value c
instead_after a b c k value fewer h q = each c q Has (λ found is. by found (if_some (kept_for c q) Had found is (h q)))
  where
    Has : Option (List ℕ) → Type 0
    Has found = ((kept_for a q ≡ Some found) × (same_key q k ≡ false)) ⊎ ((q ≡ k) × (found ≡ value))

    Had : Option (List ℕ) → Type 0
    Had found = ((kept_for b q ≡ Some found) × (same_key q k ≡ false)) ⊎ ((q ≡ k) × (found ≡ value))

    by : (found : Option (List ℕ)) → Had found → Has found
    by found (inl was) = inl (if_some (kept_for b q) (λ f. kept_for a q ≡ Some f) found was.0 (fewer q), was.1)
    by found (inr is) = inr is

-- one put in where some were forgotten before
pub put_after : (a b c : Findings) (f : Found) (k : List ℕ) (v : Option (List ℕ)) → f ≡ (k, v) → KeepsFewer a b → c ≡ put_in b f → KeepsInstead a k v c
put_after a b c f k v is fewer put =
    let made : c ≡ put_in b (k, v) = put ∙ ap (put_in b) is in
    instead_after a b c k v fewer (subst (KeepsInstead b k v) (sym made) (kept_put b k v))

-- none put in where some were forgotten
pub one_of_fewer : (a b : Findings) (k : List ℕ) (v : Option (List ℕ)) → KeepsFewer a b → KeepsOne a k v b
one_of_fewer a b k v fewer q = each b q (λ found. (kept_for a q ≡ Some found) ⊎ ((q ≡ k) × (found ≡ v))) (λ found is.
    inl (if_some (kept_for b q) (λ f. kept_for a q ≡ Some f) found is (fewer q)))

-- one added where some were forgotten before
pub added_after : (a b c : Findings) (f : Found) (k : List ℕ) (v : Option (List ℕ)) → f ≡ (k, v) → KeepsFewer a b → c ≡ add_in b f → KeepsOne a k v c
added_after a b c f k v is fewer added q = by (found_added (k, v) q b)
  where
    P : Option (List ℕ) → Type 0
    P found = (kept_for a q ≡ Some found) ⊎ ((q ≡ k) × (found ≡ v))

    made : found_in c q ≡ found_in (add_in b (k, v)) q
    made = ap (λ (fs : Findings). found_in fs q) (added ∙ ap (add_in b) is)

    shown : (o : Option Found) → found_in c q ≡ o → IfSome (option_map (λ (x : Found). x.1) o) P → IfSome (kept_for c q) P
    shown o there h = subst (λ (o : Option Found). IfSome (option_map (λ (x : Found). x.1) o) P) (sym there) h

    by : (found_in (add_in b (k, v)) q ≡ found_in b q) ⊎ (found_in (add_in b (k, v)) q ≡ cond (is_eq (key_cmp q k)) (Some (k, v)) (found_in b q)) → IfSome (kept_for c q) P
    by (inl stays) = shown (found_in b q) (made ∙ stays) (one_of_fewer a b k v fewer q)
    by (inr put) = to (is_eq (key_cmp q k)) refl put
      where
        to : (t : Bool) → is_eq (key_cmp q k) ≡ t → found_in (add_in b (k, v)) q ≡ cond t (Some (k, v)) (found_in b q) → IfSome (kept_for c q) P
        to true same put = shown (Some (k, v)) (made ∙ put) (inr (tied q k (same_order (key_cmp q k) same), refl))
        to false other put = shown (found_in b q) (made ∙ put) (one_of_fewer a b k v fewer q)

-- ---- messages

-- what is kept after the first messages, where others are left: what was kept before, which they leave, or what they leave
abbrev pub Follows : Findings → List Message → List Message → Findings → Type 0
Follows old list left new = (k : List ℕ) → IfSome (kept_for new k) (λ found.
    ((kept_for old k ≡ Some found) × ((o : Option (List ℕ)) → acts no_nodes list k o ≡ acts no_nodes left k o))
    ⊎ ((o : Option (List ℕ)) → acts no_nodes list k o ≡ acts no_nodes left k found))

-- the messages that are left act after the first ones
acted : (list : List Message) (i : ℕ) (k : List ℕ) (o : Option (List ℕ)) → (x : Option (List ℕ)) × (acts no_nodes list k o ≡ acts no_nodes (drop i list) k x)
acted list zero k o = (o, refl)
acted [] (suc i) k o = (o, refl)
acted (m ∷ ms) (suc i) k o = acted ms i k (act no_nodes m k o)

pub follows_more : (old now new : Findings) (list : List Message) (i : ℕ) (m : Message) → i < length list → m ≡ get_or list i m
    → Follows old list (drop i list) now → KeepsWritten now (m ∷ []) new → Follows old list (drop (i + 1) list) new
follows_more old now new list i m lt is_m f w k = each new k Has (λ found is. by found (if_some (kept_for new k) Wrote found is (w k)))
  where
    Has : Option (List ℕ) → Type 0
    Has found = ((kept_for old k ≡ Some found) × ((o : Option (List ℕ)) → acts no_nodes list k o ≡ acts no_nodes (drop (i + 1) list) k o)) ⊎ ((o : Option (List ℕ)) → acts no_nodes list k o ≡ acts no_nodes (drop (i + 1) list) k found)

    Had : Option (List ℕ) → Type 0
    Had found = ((kept_for old k ≡ Some found) × ((o : Option (List ℕ)) → acts no_nodes list k o ≡ acts no_nodes (drop i list) k o)) ⊎ ((o : Option (List ℕ)) → acts no_nodes list k o ≡ acts no_nodes (drop i list) k found)

    Wrote : Option (List ℕ) → Type 0
    Wrote found = ((kept_for now k ≡ Some found) × ((o : Option (List ℕ)) → acts no_nodes (m ∷ []) k o ≡ o)) ⊎ ((o : Option (List ℕ)) → acts no_nodes (m ∷ []) k o ≡ found)

    -- the message is the first of those that are left
    step : (o x : Option (List ℕ)) → act no_nodes m k o ≡ x → acts no_nodes (drop i list) k o ≡ acts no_nodes (drop (i + 1) list) k x
    step o x e = sym (acts_more list i m k o x lt is_m (sym e))

    left : (found : Option (List ℕ)) → ((o : Option (List ℕ)) → act no_nodes m k o ≡ o) → Had found → Has found
    left found same (inl was) = inl (was.0, λ o. was.1 o ∙ step o o (same o))
    left found same (inr is) = inr (λ o. is o ∙ step found found (same found))

    by : (found : Option (List ℕ)) → Wrote found → Has found
    by found (inl was) = left found was.1 (if_some (kept_for now k) Had found was.0 (f k))
    by found (inr all) = inr (λ o. let a : (x : Option (List ℕ)) × (acts no_nodes list k o ≡ acts no_nodes (drop i list) k x) = acted list i k o in a.1 ∙ step a.0 found (all a.0))

-- ---- prefixes

-- what doesn't begin with a prefix isn't between it and what does
pub between : (p x q : List ℕ) → is_gt (key_cmp p x) ≡ false → is_gt (key_cmp x q) ≡ false → begins q p ≡ true → begins x p ≡ true
between p x q from upto inside = by (begins x p) refl
  where
    -- it would be above the second where it is above the first
    order : (o : Ordering) → key_cmp p x ≡ o → is_gt o ≡ false → begins x p ≡ false → key_cmp q x ≡ Less
    order Less e h out = ap (λ (l : List ℕ). key_cmp l x) (begins-is q p inside) ∙ joined_other p (rest p q) x out ∙ e
    order Equal e h out = absurd (not_both (subst (λ (l : List ℕ). begins l p ≡ true) (append-nil p ∙ tied p x e) (begins-append p [])) out)
    order Greater e h out = cc

    by : (b : Bool) → begins x p ≡ b → b ≡ true
    by true is = refl
    by false out =
        let above : key_cmp x q ≡ Greater = total.antisymm x q ∙ ap ordering_reverse (order (key_cmp p x) refl from out) in
        absurd (not_both (ap is_gt above) upto)

-- what begins with a prefix isn't below it
pub not_before : (p q : List ℕ) → begins q p ≡ true → is_gt (key_cmp p q) ≡ false
not_before p q inside =
    ap is_gt (ap (λ (l : List ℕ). key_cmp l q) (sym (append-nil p)) ∙ ap (key_cmp (p ++ [])) (begins-is q p inside) ∙ key_cmp-front p [] (rest p q)) ∙ least (rest p q)
  where
    least : (l : List ℕ) → is_gt (key_cmp [] l) ≡ false
    least [] = refl
    least (b ∷ l) = refl

-- what begins with a prefix is at least the first key that isn't below it
pub none_within : (fs : Findings) (p : List ℕ) → ((q : List ℕ) → is_gt (key_cmp p q) ≡ false → IsSome (found_in fs q) → begins q p ≡ true → ⊥)
    → (k : List ℕ) → IfSome (kept_for fs k) (λ _. begins k p ≡ false)
none_within fs p h k = by (found_in fs k) refl
  where
    out : IsSome (found_in fs k) → (b : Bool) → begins k p ≡ b → b ≡ false
    out there true inside = absurd (h k (not_before p k inside) there inside)
    out there false is = refl

    by : (o : Option Found) → found_in fs k ≡ o → IfSome (option_map (λ (f : Found). f.1) o) (λ _. begins k p ≡ false)
    by None is = tt
    by (Some f) is = out (subst (λ (o : Option Found). IsSome o) (sym is) refl) (begins k p) refl

has_value : (o : Option Found) → IsSome o → IsSome (option_map (λ (f : Found). f.1) o)
has_value None there = cc
has_value (Some f) there = refl

-- the table from a prefix on
module _ (m : BTreeSet Found) (p : Found) (r : Findings) (range : IsKeyRangeOf (λ (a b : Found). key_cmp a.0 b.0) (Included p) Unbounded m r) where
  first_is : (e : Found) (t : Findings) → r ≡ e ∷ t → IsKeyInRange (λ (a b : Found). key_cmp a.0 b.0) (Included p) Unbounded m e
  first_is e t is = subst (λ (l : Findings). IfSome (slice_get l 0) (IsKeyInRange (λ (a b : Found). key_cmp a.0 b.0) (Included p) Unbounded m)) is range.1

  -- its first key is kept
  pub first_kept : (e : Found) (t : Findings) → r ≡ e ∷ t → (k : List ℕ) → k ≡ e.0 → IsSome (kept_for m.keys k)
  first_kept e t is k same =
      has_value (found_in m.keys k) (ap (λ (l : List ℕ). is_some (found_in m.keys l)) same ∙ found_alike m.keys e.0 ∙ (first_is e t is).1)

  -- where that doesn't begin with it, none does
  pub first_outside : (e : Found) (t : Findings) → r ≡ e ∷ t → begins e.0 p.0 ≡ false
      → (k : List ℕ) → IfSome (kept_for m.keys k) (λ _. begins k p.0 ≡ false)
  first_outside e t is out =
      none_within m.keys p.0 (λ q from there inside.
      let least : is_gt (key_cmp e.0 q) ≡ false = subst (λ (l : Findings). IfSome (slice_get l 0) (λ x. is_gt (key_cmp x.0 q) ≡ false)) is (range.2 (q, None) (from, tt) (sym (found_alike m.keys q) ∙ there)) in
      not_both (between p.0 e.0 q (first_is e t is).0.0 least inside) out)

  -- nor where it is empty
  pub none_outside : r ≡ [] → (k : List ℕ) → IfSome (kept_for m.keys k) (λ _. begins k p.0 ≡ false)
  none_outside is =
      none_within m.keys p.0 (λ q from there inside.
      let none : list_any (at_key q) m.keys ≡ false = range.5 is (q, None) (from, tt) in
      not_both (sym (found_alike m.keys q) ∙ there) none)
