-- Entries in parts: what they have at a key, their order and their size.
use Rattle.std.proofs.Common.{◌≡◌, ℕ, zero, suc, ◌+◌, ◌<◌, ◌≤◌, true, false, List, [], ◌∷◌, ◌++◌, take, drop, refl, sym, ap, ◌∙◌, None, Some, arith, inl, inr, cond}
use Rattle.std.specs.Prelude.{Bool, Option, slice_get}
use Rattle.std.specs.Option.{option_or}
use Rattle.std.specs.List.{AllByRecursion}
use Rattle.std.specs.Cmp.Lexicographic.{same_text}
use Rattle.std.proofs.lemmas.Bool.{cases_Bool, cond-false}
use Rattle.std.proofs.lemmas.Option.{none-some}
use Rattle.std.proofs.lemmas.List.Sums.{sum_by-append}
use Rattle.bd_keys.specs.Keys.{IsBelow}
use Rattle.bd_message.specs.Effect.{same_key}
use Rattle.bd_node.specs.declared.node.Entry.{Entry}
use Rattle.bd_node.specs.Nodes.{entry_at}
use Rattle.bd_node.specs.Shape.{entry_size, IsEntry, IsRising, IsBelowAll}
use Rattle.bd_node.proofs.Lookup.{each_weaker, each_first, each_second, each_both}
use Rattle.bd_leaf.specs.Leaves.{AreEntries, entries_size}

-- ---- what parts have at a key

pub entry_at-append : (xs ys : List Entry) (k : List ℕ) → entry_at (xs ++ ys) k ≡ option_or (entry_at xs k) (entry_at ys k)
entry_at-append [] ys k = refl
entry_at-append (e ∷ xs) ys k =
    elim (same_key k e.key) as (λ (b : Bool). cond b (Some e.value) (entry_at (xs ++ ys) k) ≡ option_or (cond b (Some e.value) (entry_at xs k)) (entry_at ys k)) [
      | true ↦ refl
      | false ↦ entry_at-append xs ys k
    ]

-- keys that a test tells apart are apart
pub apart : (P : List ℕ → Bool) (b c : Bool) (k l : List ℕ) → P l ≡ b → P k ≡ c → (b ≡ c → ⊥) → same_key k l ≡ false
apart P b c k l at_l at_k other =
    elim (cases_Bool (same_key k l)) [
      | inl same ↦ absurd (other (sym at_l ∙ ap P (sym (same_text k l (sym same))) ∙ at_k))
      | inr differ ↦ differ
    ]

-- entries that a test tells apart from a key have nothing there
pub entry_at-other : (P : List ℕ → Bool) (b c : Bool) (es : List Entry) (k : List ℕ) → AllByRecursion (λ (e : Entry). P e.key ≡ b) es → P k ≡ c → (b ≡ c → ⊥) → entry_at es k ≡ None
entry_at-other P b c [] k each at other = refl
entry_at-other P b c (e ∷ es) k each at other =
    cond-false (same_key k e.key) (Some e.value) (entry_at es k) (apart P b c k e.key each.0 at other) ∙ entry_at-other P b c es k each.1 at other

pub true_false : true ≡ false → ⊥
true_false h = (cc)

pub false_true : false ≡ true → ⊥
false_true h = (cc)

pub or-none : (o : Option (List ℕ)) → option_or o None ≡ o
or-none None = refl
or-none (Some v) = refl

-- entries in the place of others: all of them, and no more, have keys that pass a test
pub exchanged : (P : List ℕ → Bool) (xs old new ys : List Entry) (k : List ℕ) → AllByRecursion (λ (e : Entry). P e.key ≡ false) xs → AllByRecursion (λ (e : Entry). P e.key ≡ true) old → AllByRecursion (λ (e : Entry). P e.key ≡ true) new → AllByRecursion (λ (e : Entry). P e.key ≡ false) ys
    → entry_at (xs ++ (new ++ ys)) k ≡ cond (P k) (entry_at new k) (entry_at (xs ++ (old ++ ys)) k)
exchanged P xs old new ys k before out own after =
    let parts : (zs : List Entry) → entry_at (xs ++ (zs ++ ys)) k ≡ option_or (entry_at xs k) (option_or (entry_at zs k) (entry_at ys k)) =
    λ zs. entry_at-append xs (zs ++ ys) k ∙ ap (λ (o : Option (List ℕ)). option_or (entry_at xs k) o) (entry_at-append zs ys k) in
    elim (P k) as (λ (b : Bool). P k ≡ b → entry_at (xs ++ (new ++ ys)) k ≡ cond b (entry_at new k) (entry_at (xs ++ (old ++ ys)) k)) [
      | true ↦ λ yes.
          parts new
          ∙ ap (λ (o : Option (List ℕ)). option_or o (option_or (entry_at new k) (entry_at ys k))) (entry_at-other P false true xs k before yes false_true)
          ∙ ap (λ (o : Option (List ℕ)). option_or (entry_at new k) o) (entry_at-other P false true ys k after yes false_true)
          ∙ or-none (entry_at new k)
      | false ↦ λ no.
          parts new
          ∙ ap (λ (o : Option (List ℕ)). option_or (entry_at xs k) (option_or o (entry_at ys k))) (entry_at-other P true false new k own no true_false ∙ sym (entry_at-other P true false old k out no true_false))
          ∙ sym (parts old)
    ] refl

-- ---- their order

pub rising-front : (xs ys : List Entry) → IsRising (xs ++ ys) → IsRising xs
rising-front [] ys h = tt
rising-front (e ∷ xs) ys h = (each_first (λ (f : Entry). IsBelow e.key f.key) xs ys h.0, rising-front xs ys h.1)

pub rising-back : (xs ys : List Entry) → IsRising (xs ++ ys) → IsRising ys
rising-back [] ys h = h
rising-back (e ∷ xs) ys h = rising-back xs ys h.1

-- each of the first is below all of the second
pub rising-across : (xs ys : List Entry) → IsRising (xs ++ ys) → AllByRecursion (λ (e : Entry). IsBelowAll e ys) xs
rising-across [] ys h = tt
rising-across (e ∷ xs) ys h = (each_second (λ (f : Entry). IsBelow e.key f.key) xs ys h.0, rising-across xs ys h.1)

pub rising-append : (xs ys : List Entry) → IsRising xs → IsRising ys → AllByRecursion (λ (e : Entry). IsBelowAll e ys) xs → IsRising (xs ++ ys)
rising-append [] ys first second across = second
rising-append (e ∷ xs) ys first second across =
    (each_both (λ (f : Entry). IsBelow e.key f.key) xs ys first.0 across.0, rising-append xs ys first.1 second across.1)

each_two : (P Q : Entry → Type 0) (xs : List Entry) → AllByRecursion P xs → AllByRecursion Q xs → AllByRecursion (λ (e : Entry). P e × Q e) xs
each_two P Q [] first second = tt
each_two P Q (e ∷ xs) first second = ((first.0, second.0), each_two P Q xs first.1 second.1)

-- the first are below what is left of the second
across-left : (xs old ys : List Entry) → IsRising (xs ++ (old ++ ys)) → AllByRecursion (λ (e : Entry). IsBelowAll e ys) xs
across-left xs old ys h =
    each_weaker (λ (e : Entry). IsBelowAll e (old ++ ys)) (λ (e : Entry). IsBelowAll e ys)
    (λ e own. each_second (λ (f : Entry). IsBelow e.key f.key) old ys own) xs (rising-across xs (old ++ ys) h)

-- what is left where the middle part is dropped
pub left_entries : (xs old ys : List Entry) → AreEntries (xs ++ (old ++ ys)) → AreEntries (xs ++ ys)
left_entries xs old ys h = record {
  each = each_both IsEntry xs ys (each_first IsEntry xs (old ++ ys) h.each) (each_second IsEntry old ys (each_second IsEntry xs (old ++ ys) h.each));
  rising = rising-append xs ys (rising-front xs (old ++ ys) h.rising) (rising-back old ys (rising-back xs (old ++ ys) h.rising)) (across-left xs old ys h.rising);
}

-- and where one entry stands in its place
pub placed_entries : (xs old ys : List Entry) (e : Entry) → AreEntries (xs ++ (old ++ ys)) → IsEntry e → AllByRecursion (λ (f : Entry). IsBelow f.key e.key) xs → IsBelowAll e ys → AreEntries (xs ++ e ∷ ys)
placed_entries xs old ys e h own before after = record {
  each = each_both IsEntry xs (e ∷ ys) (each_first IsEntry xs (old ++ ys) h.each) (own, each_second IsEntry old ys (each_second IsEntry xs (old ++ ys) h.each));
  rising =
      rising-append xs (e ∷ ys) (rising-front xs (old ++ ys) h.rising) (after, rising-back old ys (rising-back xs (old ++ ys) h.rising))
      (each_two (λ (f : Entry). IsBelow f.key e.key) (λ (f : Entry). IsBelowAll f ys) xs before (across-left xs old ys h.rising));
}

-- ---- their size

pub size-parts : (xs old ys : List Entry) → entries_size (xs ++ (old ++ ys)) ≡ entries_size xs + (entries_size old + entries_size ys)
size-parts xs old ys = sum_by-append entry_size xs (old ++ ys) ∙ ap (λ (n : ℕ). entries_size xs + n) (sum_by-append entry_size old ys)

-- ---- parts by places

pub front_each : (P : Entry → Type 0) (es : List Entry) (n : ℕ) → ((i : ℕ) (e : Entry) → i < n → slice_get es i ≡ Some e → P e) → AllByRecursion P (take n es)
front_each P [] zero h = tt
front_each P [] (suc n) h = tt
front_each P (e ∷ es) zero h = tt
front_each P (e ∷ es) (suc n) h = (h zero e (omega arith) refl, front_each P es n (λ i f low there. h (suc i) f (omega arith) there))

pub back_each : (P : Entry → Type 0) (es : List Entry) (n : ℕ) → ((i : ℕ) (e : Entry) → n ≤ i → slice_get es i ≡ Some e → P e) → AllByRecursion P (drop n es)
back_each P [] zero h = tt
back_each P [] (suc n) h = tt
back_each P (e ∷ es) zero h = (h zero e (omega arith) refl, back_each P es zero (λ i f high there. h (suc i) f (omega arith) there))
back_each P (e ∷ es) (suc n) h = back_each P es n (λ i f high there. h (suc i) f (omega arith) there)

pub middle_each : (P : Entry → Type 0) (es : List Entry) (a n : ℕ) → ((i : ℕ) (e : Entry) → a ≤ i → i < a + n → slice_get es i ≡ Some e → P e) → AllByRecursion P (take n (drop a es))
middle_each P es zero n h = front_each P es n (λ i e low there. h i e (omega arith) (omega arith) there)
middle_each P [] (suc a) n h = front_each P [] n (λ i e low there. absurd (none-some e there))
middle_each P (e ∷ es) (suc a) n h = middle_each P es a n (λ i f high low there. h (suc i) f (omega arith) (omega arith) there)

nothing-parts : (n m : ℕ) → ◌≡◌ {A = List Entry} [] (take n [] ++ drop m [])
nothing-parts zero zero = refl
nothing-parts zero (suc m) = refl
nothing-parts (suc n) zero = refl
nothing-parts (suc n) (suc m) = refl

two_parts : (es : List Entry) (n : ℕ) → es ≡ take n es ++ drop n es
two_parts [] n = nothing-parts n n
two_parts (e ∷ es) zero = refl
two_parts (e ∷ es) (suc n) = ap (λ (r : List Entry). e ∷ r) (two_parts es n)

pub three_parts : (es : List Entry) (a n b : ℕ) → b ≡ a + n → es ≡ take a es ++ (take n (drop a es) ++ drop b es)
three_parts es zero n b is = two_parts es n ∙ ap (λ (m : ℕ). take n es ++ drop m es) (let e : n ≡ b = omega arith in e)
three_parts [] (suc a) n b is = nothing-parts n b
three_parts (e ∷ es) (suc a) n zero is = absurd (omega arith)
three_parts (e ∷ es) (suc a) n (suc b) is = ap (λ (r : List Entry). e ∷ r) (three_parts es a n b (omega arith))

-- before an entry there are others
pub earlier : (es : List Entry) (i j : ℕ) (e : Entry) → i < j → slice_get es j ≡ Some e → (f : Entry) × (slice_get es i ≡ Some f)
earlier [] i j e low there = absurd (none-some e there)
earlier (f ∷ es) zero j e low there = (f, refl)
earlier (f ∷ es) (suc i) zero e low there = absurd (omega arith)
earlier (f ∷ es) (suc i) (suc j) e low there = earlier es i j e (omega arith) there
