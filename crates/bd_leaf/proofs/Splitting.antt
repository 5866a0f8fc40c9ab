-- A leaf in two parts.
use Rattle.std.proofs.Common.{◌≡◌, ℕ, ◌+◌, ◌-◌, ◌*◌, ◌/◌, ◌^◌, ◌<◌, ◌≤◌, min, true, false, List, [], ◌∷◌, ◌++◌, length, take, drop, sym, ap, subst, ◌∙◌, Some, arith, inl, inr, take-append-drop, length-drop, length-append}
use Rattle.std.specs.Prelude.{Bool, Option, slice_get}
use Rattle.std.specs.Option.{option_or}
use Rattle.std.specs.Ordering.{is_lt}
use Rattle.std.specs.List.{AllByRecursion}
use Rattle.std.proofs.lemmas.Bool.{cases_lt}
use Rattle.std.proofs.lemmas.Option.{same_Some, none-some}
use Rattle.std.proofs.lemmas.List.Sums.{sum_by-cons, sum_by-take-drop}
use Rattle.bd_limits.specs.Limits.{leaf_limit, batch_limit}
use Rattle.bd_keys.specs.Keys.{key_cmp, IsBelow}
use Rattle.bd_node.specs.declared.node.Entry.{Entry}
use Rattle.bd_node.specs.Nodes.{entry_at}
use Rattle.bd_node.specs.Shape.{entry_size, IsEntry, IsRising, IsBelowAll, IsLeaf}
use Rattle.bd_node.proofs.Lookup.{each_weaker, each_first, each_second}
use Rattle.bd_node.proofs.Edges.{less_lt, not_less_lt, not_below_itself}
use Rattle.bd_leaf.specs.Leaves.{AreEntries, entries_size, AreApart, IsMiddle}
use Rattle.bd_leaf.proofs.Parts.{entry_at-append, entry_at-other, or-none, true_false, false_true, rising-front, rising-back, rising-across}
use Rattle.bd_leaf.proofs.Covers.{least_over}

-- ---- sizes

-- entries count at most as much as so many of the largest
few_bytes : (es : List Entry) → AllByRecursion IsEntry es → entries_size es ≤ 1558 * length es
few_bytes [] h = omega arith
few_bytes (e ∷ es) h =
    let sum : entries_size (e ∷ es) ≡ entry_size e + entries_size es = sum_by-cons entry_size e es in
    let key : length e.key ≤ 518 = h.0.key in
    let value : length e.value ≤ 1024 = h.0.value in
    let rest : entries_size es ≤ 1558 * length es = few_bytes es h.1 in
    omega arith

each_drop : (es : List Entry) (n : ℕ) → AllByRecursion IsEntry es → AllByRecursion IsEntry (drop n es)
each_drop es n h = each_second IsEntry (take n es) (drop n es) (subst (λ (zs : List Entry). AllByRecursion IsEntry zs) (sym (take-append-drop n es)) h)

pub middle_done : (es : List Entry) (place before half all : ℕ) → AllByRecursion IsEntry es → all ≡ min (entries_size es) (2 ^ 64 - 1) → half ≡ all / 2 → 1 ≤ place → place < length es → before ≡ entries_size (take place es) → before ≤ half + 1558 → (place + 1 < length es → half ≤ before) → IsMiddle es place
middle_done es place before half all each all_is half_is some within counts few end =
    let parts : entries_size (take place es) + entries_size (drop place es) ≡ entries_size es = sum_by-take-drop entry_size es place in
    record {
      some = some;
      within = within;
      first = λ fits. (let n : entries_size es ≤ 57344 = fits in omega arith);
      second = λ fits.
          let n : entries_size es ≤ 57344 = fits in
          elim (cases_lt (place + 1) (length es)) as (λ _. entries_size (drop place es) ≤ leaf_limit) [
            | inl more ↦ (let high : half ≤ before = end more in omega arith)
            | inr last ↦ (let rest : entries_size (drop place es) ≤ 1558 * length (drop place es) = few_bytes (drop place es) (each_drop es place each) in
                let long : length (drop place es) ≡ length es - place = length-drop place es in
                let one : length (drop place es) ≤ 1 = omega arith in
                omega arith)
          ];
    }

-- ---- what the parts have

pub first_entries : (xs ys : List Entry) → AreEntries (xs ++ ys) → AreEntries xs
first_entries xs ys h = record { each = each_first IsEntry xs ys h.each; rising = rising-front xs ys h.rising }

pub second_entries : (xs ys : List Entry) → AreEntries (xs ++ ys) → AreEntries ys
second_entries xs ys h = record { each = each_second IsEntry xs ys h.each; rising = rising-back xs ys h.rising }

pub leaf_of : (es : List Entry) → AreEntries es → entries_size es ≤ leaf_limit → IsLeaf es
leaf_of es h fits = record { each = h.each; rising = h.rising; size = fits }

-- the first entry's key is that of no later one
at_least_first : (e : Entry) (es : List Entry) → IsBelowAll e es → AllByRecursion (λ (f : Entry). is_lt (key_cmp f.key e.key) ≡ false) (e ∷ es)
at_least_first e es h = (
  not_less_lt (key_cmp e.key e.key) (not_below_itself e.key),
  each_weaker (λ (f : Entry). IsBelow e.key f.key) (λ (f : Entry). is_lt (key_cmp f.key e.key) ≡ false) (λ f below. not_less_lt (key_cmp f.key e.key) (least_over e.key f.key below)) es h,
)

pub apart_at : (xs ys : List Entry) (pivot : Entry) → IsRising (xs ++ ys) → slice_get ys 0 ≡ Some pivot → AreApart pivot.key (xs ++ ys) xs ys
apart_at xs [] pivot h there = absurd (none-some pivot there)
apart_at xs (e ∷ ys) pivot h there =
    subst (λ (p : Entry). AreApart p.key (xs ++ e ∷ ys) xs (e ∷ ys)) (same_Some e pivot there)
    (let across : AllByRecursion (λ (f : Entry). IsBelowAll f (e ∷ ys)) xs = rising-across xs (e ∷ ys) h in
    let below : AllByRecursion (λ (f : Entry). IsBelow f.key e.key) xs = each_weaker (λ (f : Entry). IsBelowAll f (e ∷ ys)) (λ (f : Entry). IsBelow f.key e.key) (λ f own. own.0) xs across in
    let test : List ℕ → Bool = λ l. is_lt (key_cmp l e.key) in
    let low : AllByRecursion (λ (f : Entry). test f.key ≡ true) xs = each_weaker (λ (f : Entry). IsBelow f.key e.key) (λ (f : Entry). test f.key ≡ true) (λ f own. less_lt (key_cmp f.key e.key) own) xs below in
    record {
      low = λ k is.
          sym (entry_at-append xs (e ∷ ys) k
          ∙ ap (λ (o : Option (List ℕ)). option_or (entry_at xs k) o) (entry_at-other test false true (e ∷ ys) k (at_least_first e ys (rising-back xs (e ∷ ys) h).0) (less_lt (key_cmp k e.key) is) false_true)
          ∙ or-none (entry_at xs k));
      high = λ k is.
          sym (entry_at-append xs (e ∷ ys) k
          ∙ ap (λ (o : Option (List ℕ)). option_or o (entry_at (e ∷ ys) k)) (entry_at-other test true false xs k low (not_less_lt (key_cmp k e.key) is) true_false));
      keys = below;
    })

-- the two parts of a leaf at a place
pub record AreParts (es xs ys : List Entry) : Type 0 where
  pub whole : xs ++ ys ≡ es
  pub first : AreEntries xs × (1 ≤ length xs)
  pub second : AreEntries ys × (1 ≤ length ys)
  pub leaves : entries_size es ≤ leaf_limit + batch_limit → IsLeaf xs × IsLeaf ys
  pub apart : (pivot : Entry) → slice_get ys 0 ≡ Some pivot → AreApart pivot.key es xs ys

parts_of : (es : List Entry) (place : ℕ) → AreEntries es → IsMiddle es place → AreParts es (take place es) (drop place es)
parts_of es place h middle =
    let xs : List Entry = take place es in
    let ys : List Entry = drop place es in
    let whole : xs ++ ys ≡ es = take-append-drop place es in
    let all : AreEntries (xs ++ ys) = subst AreEntries (sym whole) h in
    let long : length ys ≡ length es - place = length-drop place es in
    let both : length (xs ++ ys) ≡ length xs + length ys = length-append xs ys in
    let same : length (xs ++ ys) ≡ length es = ap (λ (zs : List Entry). length zs) whole in
    let some : 1 ≤ place = middle.some in
    let within : place < length es = middle.within in
    record {
      whole = whole;
      first = (first_entries xs ys all, omega arith);
      second = (second_entries xs ys all, omega arith);
      leaves = λ fits. (leaf_of xs (first_entries xs ys all) (middle.first fits), leaf_of ys (second_entries xs ys all) (middle.second fits));
      apart = λ pivot there. subst (λ (zs : List Entry). AreApart pivot.key zs xs ys) whole (apart_at xs ys pivot all.rising there);
    }

pub parts_are : (es shown xs ys : List Entry) (place : ℕ) → shown ≡ es → AreEntries es → IsMiddle shown place → xs ≡ take place es → ys ≡ drop place es → AreParts es xs ys
parts_are es shown xs ys place same h middle xs_is ys_is =
    subst (λ (zs : List Entry). AreParts es zs ys) (sym xs_is)
    (subst (λ (zs : List Entry). AreParts es (take place es) zs) (sym ys_is) (parts_of es place h (subst (λ (zs : List Entry). IsMiddle zs place) same middle)))
