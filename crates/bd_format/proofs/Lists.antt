-- Lists of values: what holds of each, and their encodings one after the other.
use Rattle.std.proofs.Common.{◌≡◌, ℕ, zero, suc, ◌+◌, ◌<◌, List, [], ◌∷◌, ◌++◌, length, take, drop, get_or, refl, sym, ap, subst, ◌∙◌, arith, append_assoc, append-nil, length-append}
use Rattle.std.specs.List.{AllByRecursion, flat_map}
use Rattle.std.proofs.lemmas.List.{drop_more, take_more}
use Rattle.std.proofs.lemmas.List.Concat.{flat_map-append}
use Rattle.bd_wire.specs.Encoding.{IsPrefixFree, BeginsNone}
use Rattle.bd_wire.specs.Reading.{Unread, Reads}
use Rattle.bd_wire.proofs.ReadingLemmas.{Reads-append}
use Rattle.bd_wire.specs.declared.writer.Out.{Out}
use Rattle.bd_wire.specs.Writing.{written, Puts}
use Rattle.bd_wire.proofs.WritingLemmas.{Puts-append}
use Rattle.bd_format.specs.Parts.{AreOf}

-- ---- what holds of each

module _ {A : Type 0} (P : A → Type 0) where
  -- what holds of each holds of the one at a place
  pub all_at : (xs : List A) (i : ℕ) (d : A) → i < length xs → AllByRecursion P xs → P (get_or xs i d)
  all_at [] i d lt h = absurd (omega arith)
  all_at (x ∷ xs) zero d lt h = h.0
  all_at (x ∷ xs) (suc i) d lt h = all_at xs i d (omega arith) h.1

  -- one more of which it holds
  pub all_more : (xs : List A) (i : ℕ) (d : A) → i < length xs → P (get_or xs i d) → (AllByRecursion P (drop i xs) → AllByRecursion P xs) → AllByRecursion P (drop (i + 1) xs) → AllByRecursion P xs
  all_more xs i d lt here back rest = back (subst (AllByRecursion P) (sym (drop_more xs i d lt)) (here, rest))

-- ---- encodings one after the other

module _ {A : Type 0} (fits : A → Type 0) (encoding : A → List ℕ) (alone : IsPrefixFree fits encoding) where
  -- as many values whose encodings begin the same bytes are the same
  pub same_lists : (xs ys : List A) (x y : List ℕ) → length xs ≡ length ys → AllByRecursion fits xs → AllByRecursion fits ys → flat_map encoding xs ++ x ≡ flat_map encoding ys ++ y → (xs ≡ ys) × (x ≡ y)
  same_lists [] [] x y l p q e = (refl, e)
  same_lists [] (b ∷ ys) x y l p q e = absurd (omega arith)
  same_lists (a ∷ xs) [] x y l p q e = absurd (omega arith)
  same_lists (a ∷ xs) (b ∷ ys) x y l p q e =
      let first = alone a b (flat_map encoding xs ++ x) (flat_map encoding ys ++ y) p.0 q.0
      (sym (append_assoc (encoding a) (flat_map encoding xs) x) ∙ e ∙ append_assoc (encoding b) (flat_map encoding ys) y) in
      let rest = same_lists xs ys x y (omega arith) p.1 q.1 first.1 in
      let one : a ≡ b = first.0 in
      let others : xs ≡ ys = rest.0 in
      (cc, rest.1)

  -- where no value follows those that were read, more values don't begin there
  pub none_more : (xs ys : List A) (left y : List ℕ) → length xs < length ys → AllByRecursion fits xs → AllByRecursion fits ys → BeginsNone fits encoding left → flat_map encoding xs ++ left ≡ flat_map encoding ys ++ y → ⊥
  none_more [] [] left y l p q none e = omega arith
  none_more [] (b ∷ ys) left y l p q none e = none b (flat_map encoding ys ++ y) q.0 (e ∙ append_assoc (encoding b) (flat_map encoding ys) y)
  none_more (a ∷ xs) [] left y l p q none e = omega arith
  none_more (a ∷ xs) (b ∷ ys) left y l p q none e =
      let first = alone a b (flat_map encoding xs ++ left) (flat_map encoding ys ++ y) p.0 q.0
      (sym (append_assoc (encoding a) (flat_map encoding xs) left) ∙ e ∙ append_assoc (encoding b) (flat_map encoding ys) y) in
      none_more xs ys left y (omega arith) p.1 q.1 none first.1

  pub IsPrefixFree-lists : (count : ℕ) → IsPrefixFree (AreOf count fits) (flat_map encoding)
  IsPrefixFree-lists count xs ys x y p q e = same_lists xs ys x y (p.0 ∙ sym q.0) p.1 q.1 e

  -- nor do so many begin where the reading began
  pub BeginsNone-lists : (count : ℕ) (xs : List A) (bytes left : List ℕ) → length xs < count → AllByRecursion fits xs → bytes ≡ flat_map encoding xs ++ left → BeginsNone fits encoding left → BeginsNone (AreOf count fits) (flat_map encoding) bytes
  BeginsNone-lists count xs bytes left fewer p read none ys y q e = none_more xs ys left y (omega (arith, fewer, q.0)) p q.1 none (sym read ∙ e)

module _ {A : Type 0} (encoding : A → List ℕ) where
  one_more : (xs : List A) (x : A) → flat_map encoding xs ++ encoding x ≡ flat_map encoding (xs ++ x ∷ [])
  one_more xs x = sym (flat_map-append encoding xs (x ∷ []) ∙ ap (λ r. flat_map encoding xs ++ r) (append-nil (encoding x)))

  -- one more value was read
  pub Reads-more : (a b c : Unread) (xs : List A) (x : A) → Reads a b (flat_map encoding xs) → Reads b c (encoding x) → Reads a c (flat_map encoding (xs ++ x ∷ []))
  Reads-more a b c xs x p q = subst (Reads a c) (one_more xs x) (Reads-append a b c (flat_map encoding xs) (encoding x) p q)

  -- no value was read
  pub Reads-none : (a : Unread) → Reads a a (flat_map encoding [])
  Reads-none a = record { front = refl; place = omega arith }

  -- one more value was written
  pub Puts-more : (a b c : Out) (xs : List A) (i : ℕ) (d : A) → i < length xs → Puts a b (flat_map encoding (take i xs)) → Puts b c (encoding (get_or xs i d)) → Puts a c (flat_map encoding (take (i + 1) xs))
  Puts-more a b c xs i d lt p q =
      subst (λ (ys : List A). Puts a c (flat_map encoding ys)) (sym (take_more xs i d lt))
      (subst (Puts a c) (one_more (take i xs) (get_or xs i d)) (Puts-append a b c (flat_map encoding (take i xs)) (encoding (get_or xs i d)) p q))

  -- no value was written
  pub Puts-none : (a : Out) → Puts a a (flat_map encoding [])
  Puts-none a = record { written = sym (append-nil (written a)); room = refl; array = refl }

  -- how many bytes the values from a place on take
  pub length-rest : (xs : List A) (i : ℕ) (d : A) → i < length xs → length (flat_map encoding (drop i xs)) ≡ length (encoding (get_or xs i d)) + length (flat_map encoding (drop (i + 1) xs))
  length-rest xs i d lt =
      ap (λ (ys : List A). length (flat_map encoding ys)) (drop_more xs i d lt)
      ∙ length-append (encoding (get_or xs i d)) (flat_map encoding (drop (i + 1) xs))
