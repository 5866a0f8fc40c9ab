-- The halves of a leaf.
use Rattle.std.proofs.Common.{◌≡◌, ℕ, ◌+◌, ◌<◌, ◌≤◌, List, [], ◌∷◌, length, get_or, refl, subst, sym, Some, arith}
use Rattle.std.specs.Prelude.{slice_get}
use Rattle.std.specs.List.{AllByRecursion}
use Rattle.std.proofs.lemmas.Option.{same_Some, none-some, slice_get_read}
use Rattle.std.proofs.lemmas.List.Sums.{sum_by-cons}
use Rattle.bd_limits.specs.Limits.{key_limit, leaf_limit}
use Rattle.bd_keys.specs.Keys.{IsBelow}
use Rattle.bd_keys.proofs.Order.{not_below_nil}
use Rattle.bd_node.specs.declared.node.Entry.{Entry}
use Rattle.bd_node.specs.declared.node.Node.TheVariants.{Leaf}
use Rattle.bd_node.specs.Shape.{entry_size, IsEntry, IsLeaf}
use Rattle.bd_inner.specs.Halves.{AreHalves}
use Rattle.bd_leaf.specs.Leaves.{entries_size, AreApart}

-- more bytes than a leaf has are those of two entries at least
pub two_entries : (es : List Entry) → AllByRecursion IsEntry es → leaf_limit < entries_size es → 2 ≤ length es
two_entries [] h over = absurd (omega arith)
two_entries (e ∷ []) h over =
    let sum : entries_size (e ∷ []) ≡ entry_size e + entries_size [] = sum_by-cons entry_size e [] in
    let key : length e.key ≤ 518 = h.0.key in
    let value : length e.value ≤ 1024 = h.0.value in
    absurd (omega arith)
two_entries (e ∷ f ∷ es) h over = omega arith

above_nil : (k p : List ℕ) → IsBelow k p → IsBelow [] p
above_nil k [] below = absurd (not_below_nil k below)
above_nil k (a ∷ p) below = refl

pivot_short : (ys : List Entry) (pivot : Entry) → AllByRecursion IsEntry ys → slice_get ys 0 ≡ Some pivot → length pivot.key ≤ key_limit
pivot_short [] pivot h there = absurd (none-some pivot there)
pivot_short (y ∷ ys) pivot h there = subst (λ (p : Entry). length p.key ≤ key_limit) (same_Some y pivot there) h.0.key

some_below : (xs : List Entry) (pivot : List ℕ) → 1 ≤ length xs → AllByRecursion (λ (e : Entry). IsBelow e.key pivot) xs → IsBelow [] pivot
some_below [] pivot some h = absurd (omega arith)
some_below (x ∷ xs) pivot some h = above_nil x.key pivot h.0

leaf_halves : (es xs ys : List Entry) (pivot : Entry) → IsLeaf xs × IsLeaf ys → 1 ≤ length xs → slice_get ys 0 ≡ Some pivot → AreApart pivot.key es xs ys → AreHalves (Leaf es) (record { first = Leaf xs; pivot = pivot.key; second = Leaf ys })
leaf_halves es xs ys pivot leaves some there h = record {
  lower = record {
    shape = leaves.0;
    level_is = refl;
    few = omega arith;
    meaning = λ below k own. h.low k own;
    size = omega arith;
    names = λ c. omega arith;
  };
  upper = record {
    shape = leaves.1;
    level_is = refl;
    few = omega arith;
    meaning = λ below k own. h.high k own;
    size = omega arith;
    names = λ c. omega arith;
  };
  some = some_below xs pivot.key some h.keys;
  short = pivot_short ys pivot leaves.1.each there;
  edges = refl;
  gotos = λ c. omega arith;
}

-- the second half's first key is the pivot
pub are_leaf_halves : (es xs ys shown : List Entry) (pivot : Entry) (key : List ℕ) → IsLeaf xs × IsLeaf ys → 1 ≤ length xs → 1 ≤ length ys → ((p : Entry) → slice_get ys 0 ≡ Some p → AreApart p.key es xs ys) → shown ≡ ys → pivot ≡ get_or shown 0 pivot → key ≡ pivot.key
    → AreHalves (Leaf es) (record { first = Leaf xs; pivot = key; second = Leaf ys })
are_leaf_halves es xs ys shown pivot key leaves some more h same read key_is =
    let there : slice_get ys 0 ≡ Some pivot =
    subst (λ (l : List Entry). slice_get l 0 ≡ Some pivot) same
    (slice_get_read shown (length shown) 0 pivot refl (subst (λ (l : List Entry). 0 < length l) (sym same) (omega arith)) read) in
    subst (λ (k : List ℕ). AreHalves (Leaf es) (record { first = Leaf xs; pivot = k; second = Leaf ys })) (sym key_is) (leaf_halves es xs ys pivot leaves some there (h pivot there))
