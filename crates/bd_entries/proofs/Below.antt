-- What stands below a key, and what one key more adds.
use Rattle.std.proofs.Common.{◌≡◌, ◌≢◌, ℕ, cond, List, [], ◌∷◌, ◌++◌, ◌⊎◌, inl, inr, Ordering, Less, Equal, Greater, refl, sym, ap, subst, ◌∙◌}
use Rattle.std.specs.Prelude.{Option, Some, None, IsSome}
use Rattle.std.specs.Ordering.{is_lt}
use Rattle.std.proofs.lemmas.Cmp.{nat_list_cmp_total as total}
use Rattle.bd_keys.specs.Keys.{key_cmp, IsBelow, IsAtLeast}
use Rattle.bd_keys.proofs.Order.{below_from}
use Rattle.bd_message.specs.KeyMaps.{At, IsNextEntry}
use Rattle.bd_dirs.proofs.ChildOrder.{next_key}
use Rattle.bd_entries.specs.Fronts.{before, EndsAt}
use Rattle.bd_entries.proofs.KeyOrder.{below_or_from, one_least, from_both, from_above, below_next, upto_next}

pub before_below : (at : At) (low k : List ℕ) → IsBelow k low → before at low k ≡ at k
before_below at low k below = ap (λ (o : Ordering). cond (is_lt o) (at k) None) below

pub before_from : (at : At) (low k : List ℕ) → IsAtLeast k low → before at low k ≡ None
before_from at low k from = by (key_cmp k low) refl
  where
    by : (o : Ordering) → key_cmp k low ≡ o → before at low k ≡ None
    by Less e = absurd (from e)
    by Equal e = ap (λ (o : Ordering). cond (is_lt o) (at k) None) e
    by Greater e = ap (λ (o : Ordering). cond (is_lt o) (at k) None) e

pub none_there : (o : Option (List ℕ)) → IsSome o → o ≡ None → ⊥
none_there None some e = let no : IsSome {T = List ℕ} None = some in cc
none_there (Some v) some e = cc

-- what has a value below a key has it in the map
pub was_there : (at : At) (low k : List ℕ) → IsSome (before at low k) → IsSome (at k)
was_there at low k some = by (below_or_from k low)
  where
    by : (IsBelow k low) ⊎ (IsAtLeast k low) → IsSome (at k)
    by (inl below) = subst IsSome (before_below at low k below) some
    by (inr from) = absurd (none_there (before at low k) some (before_from at low k from))

-- what stands below a key, of what stands below one that isn't less
pub before_before : (at : At) (low high : List ℕ) → IsAtLeast high low → before (before at high) low ≡ before at low
before_before at low high above = λ i k. each k (below_or_from k low) i
  where
    each : (k : List ℕ) → (IsBelow k low) ⊎ (IsAtLeast k low) → before (before at high) low k ≡ before at low k
    each k (inl below) = before_below (before at high) low k below ∙ before_below at high k (below_from k low high below above) ∙ sym (before_below at low k below)
    each k (inr from) = before_from (before at high) low k from ∙ sym (before_from at low k from)

-- where no key is left, all stands below
pub before_end : (at : At) (low : List ℕ) → EndsAt at low → before at low ≡ at
before_end at low ends = λ i k. each k (below_or_from k low) (at k) refl i
  where
    each : (k : List ℕ) → (IsBelow k low) ⊎ (IsAtLeast k low) → (o : Option (List ℕ)) → at k ≡ o → before at low k ≡ at k
    each k (inl below) o e = before_below at low k below
    each k (inr from) None e = before_from at low k from ∙ sym e
    each k (inr from) (Some v) e = absurd (ends k (subst IsSome (sym e) refl, from, refl))

-- ---- the next entry

module _ (at : At) (low key value : List ℕ) (next : IsNextEntry at low [] (Some (key, value))) where
  pub next_from : IsAtLeast key low
  next_from = next.0.0.1

  -- it is no greater than any other from there on
  pub next_least : (k : List ℕ) → IsSome (at k) → IsAtLeast k low → IsAtLeast k key
  next_least k some from = next.0.1 k (some, from, refl)

  pub seen_here : before at (key ++ 0 ∷ []) key ≡ Some value
  seen_here = before_below at (key ++ 0 ∷ []) key (below_next key) ∙ next.1

  -- at no other key it adds anything
  pub same_other : (k : List ℕ) → k ≢ key → before at (key ++ 0 ∷ []) k ≡ before at low k
  same_other k other = by (below_or_from k low) (below_or_from k (key ++ 0 ∷ [])) (at k) refl
    where
      by : (IsBelow k low) ⊎ (IsAtLeast k low) → (IsBelow k (key ++ 0 ∷ [])) ⊎ (IsAtLeast k (key ++ 0 ∷ [])) → (o : Option (List ℕ)) → at k ≡ o → before at (key ++ 0 ∷ []) k ≡ before at low k
      by (inl below) any o e =
          before_below at (key ++ 0 ∷ []) k (total.trans k key (key ++ 0 ∷ []) (below_from k low key below next_from) (below_next key)) ∙ sym (before_below at low k below)
      by (inr from) (inr past) o e = before_from at (key ++ 0 ∷ []) k past ∙ sym (before_from at low k from)
      by (inr from) (inl upto) None e = before_below at (key ++ 0 ∷ []) k upto ∙ e ∙ sym (before_from at low k from)
      by (inr from) (inl upto) (Some v) e =
          absurd (other (one_least k key (next_least k (subst IsSome (sym e) refl) from) (upto_next key k upto)))

  -- nothing that comes later is seen yet
  pub none_later : (k : List ℕ) → IsBelow key k → before at (key ++ 0 ∷ []) k ≡ None
  none_later k less = before_from at (key ++ 0 ∷ []) k (next_key key k less)

  -- nor was it before itself
  pub not_yet : before at low key ≡ None
  not_yet = before_from at low key next_from

  -- the next key isn't less than the one from which it is the next
  pub further : IsAtLeast (key ++ 0 ∷ []) low
  further = from_both (key ++ 0 ∷ []) key low (from_above key (key ++ 0 ∷ []) (below_next key)) next_from

  -- it is the next one too where nothing stands after it
  pub next_front : IsNextEntry (before at (key ++ 0 ∷ [])) low [] (Some (key, value))
  next_front = (((subst IsSome (sym seen_here) refl, next_from, refl), λ k found. next_least k (was_there at (key ++ 0 ∷ []) k found.0) found.1), seen_here)

  -- a key is left
  pub not_end : EndsAt at low → ⊥
  not_end ends = ends key next.0.0
