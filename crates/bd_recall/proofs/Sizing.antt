-- What is kept counts what was put in, without what was taken out.
use Rattle.std.proofs.Common.{◌≡◌, ℕ, ◌+◌, Bool, true, false, cond, List, [], ◌∷◌, length, arith, ap, refl, ◌∙◌, Ordering, Less, Equal, Greater}
use Rattle.std.specs.Ordering.{is_eq, match_ordering}
use Rattle.std.specs.Prelude.{Option, Some, None, is_some}
use Rattle.std.specs.List.{list_any}
use Rattle.std.specs.Set.{remove_key}
use Rattle.std.proofs.lemmas.List.Sums.{sum_by-cons}
use Rattle.bd_keys.specs.Keys.{key_cmp}
use Rattle.bd_recall.proofs.Keeping.{add_in, at_key, found_in, not_found, put_in}
use Rattle.bd_recall.specs.Sizes.{Found, Findings, bytes_kept, entry_size, size_before}

-- what an entry counts
abbrev size : Found → ℕ
size f = entry_size f.0 f.1

-- one entry more in front
kept-cons : (e : Found) (fs : Findings) → bytes_kept (e ∷ fs) ≡ size e + bytes_kept fs
kept-cons e fs = sum_by-cons size e fs

-- without the entry of a key, where it has one
kept-taken : (k : List ℕ) (fs : Findings) → bytes_kept (remove_key (at_key k) fs) + size_before (found_in fs k) ≡ bytes_kept fs
kept-taken k [] = refl
kept-taken k (e ∷ fs) = by (is_eq (key_cmp k e.0)) (kept-taken k fs)
  where
    left : Findings
    left = remove_key (at_key k) fs

    by : (b : Bool) → bytes_kept left + size_before (found_in fs k) ≡ bytes_kept fs
        → bytes_kept (cond b fs (e ∷ left)) + size_before (cond b (Some e) (found_in fs k)) ≡ bytes_kept (e ∷ fs)
    by true later = omega (arith, kept-cons e fs)
    by false later = omega (arith, later, kept-cons e fs, kept-cons e left)

pub taken_out : (k : List ℕ) (old new : Findings) (was : Option Found) → was ≡ found_in old k → new ≡ remove_key (at_key k) old
    → bytes_kept new + size_before was ≡ bytes_kept old
taken_out k old new was is out = omega (arith, kept-taken k old, ap bytes_kept out, ap size_before is)

-- with one more
kept-added : (fs : Findings) (f : Found) → found_in fs f.0 ≡ None → bytes_kept (add_in fs f) ≡ bytes_kept fs + size f
kept-added [] f none = omega (arith, kept-cons f [])
kept-added (e ∷ fs) f none = by (key_cmp f.0 e.0) (kept-added fs f) none
  where
    by : (o : Ordering) → (found_in fs f.0 ≡ None → bytes_kept (add_in fs f) ≡ bytes_kept fs + size f) → cond (is_eq o) (Some e) (found_in fs f.0) ≡ None
        → bytes_kept (match_ordering o (f ∷ e ∷ fs) (e ∷ fs) (e ∷ add_in fs f)) ≡ bytes_kept (e ∷ fs) + size f
    by Less later none = omega (arith, kept-cons f (e ∷ fs))
    by Equal later none = cc
    by Greater later none = omega (arith, later none, kept-cons e fs, kept-cons e (add_in fs f))

-- with one more for a key that doesn't stand there
pub added_bytes : (old new : Findings) (f : Found) (k : List ℕ) (v : Option (List ℕ)) → f ≡ (k, v) → list_any (at_key f.0) old ≡ false → new ≡ add_in old f
    → bytes_kept new ≡ bytes_kept old + entry_size k v
added_bytes old new f k v is absent added =
    ap bytes_kept added ∙ kept-added old f (not_found old f.0 absent) ∙ ap (λ (x : Found). bytes_kept old + size x) is

-- ---- one in another's place

-- how many a table has more with what is put in, where this stood at its key
abbrev more : Option Found → ℕ
more was = cond (is_some was) 0 1

kept-put : (fs : Findings) (f : Found) → length (put_in fs f) ≡ length fs + more (found_in fs f.0) → bytes_kept (put_in fs f) + size_before (found_in fs f.0) ≡ bytes_kept fs + size f
kept-put [] f count = omega (arith, kept-cons f [])
kept-put (e ∷ fs) f count = by (key_cmp f.0 e.0) (kept-put fs f) count
  where
    -- where it stands in front of what stands first, nothing is found
    new : (was : Option Found) → length (f ∷ e ∷ fs) ≡ length (e ∷ fs) + more was → bytes_kept (f ∷ e ∷ fs) + size_before was ≡ bytes_kept (e ∷ fs) + size f
    new None count = omega (arith, kept-cons f (e ∷ fs))
    new (Some x) count = omega (arith, count)

    by : (o : Ordering) → (length (put_in fs f) ≡ length fs + more (found_in fs f.0) → bytes_kept (put_in fs f) + size_before (found_in fs f.0) ≡ bytes_kept fs + size f)
        → length (match_ordering o (f ∷ e ∷ fs) (f ∷ fs) (e ∷ put_in fs f)) ≡ length (e ∷ fs) + more (cond (is_eq o) (Some e) (found_in fs f.0))
        → bytes_kept (match_ordering o (f ∷ e ∷ fs) (f ∷ fs) (e ∷ put_in fs f)) + size_before (cond (is_eq o) (Some e) (found_in fs f.0)) ≡ bytes_kept (e ∷ fs) + size f
    by Less later count = new (found_in fs f.0) count
    by Equal later count = omega (arith, kept-cons e fs, kept-cons f fs)
    by Greater later count = omega (arith, later (omega (arith, count)), kept-cons e fs, kept-cons e (put_in fs f))

-- with one put in
pub put_bytes : (old new : Findings) (f : Found) (k : List ℕ) (v : Option (List ℕ)) (was : Option Found) → f ≡ (k, v) → was ≡ found_in old f.0 → length new ≡ length old + more was → new ≡ put_in old f
    → bytes_kept new + size_before was ≡ bytes_kept old + entry_size k v
put_bytes old new f k v was is found count put =
    let grown : length (put_in old f) ≡ length old + more (found_in old f.0) = omega (arith, count, ap length put, ap more found) in
    omega (arith, kept-put old f grown, ap bytes_kept put, ap size_before found, ap size is)
