-- A leaf freed of a prefix.
use Rattle.std.proofs.Common.{◌≡◌, ℕ, ◌+◌, ◌-◌, ◌≤◌, true, List, [], ◌∷◌, ◌++◌, length, take, drop, map, refl, sym, ap, subst, ◌∙◌, Some, arith, cond, length-drop}
use Rattle.std.specs.Prelude.{Bool}
use Rattle.std.specs.List.{AllByRecursion}
use Rattle.std.proofs.lemmas.List.{append-nil}
use Rattle.std.proofs.lemmas.List.Sums.{sum_by-cons}
use Rattle.bd_keys.specs.Keys.{key_cmp}
use Rattle.bd_keys.proofs.Order.{not_below_nil}
use Rattle.bd_message.specs.Effect.{same_key, begins, rest, is_cut}
use Rattle.bd_message.proofs.Finds.{begins-is, begins-append, same_key-after}
use Rattle.bd_node.specs.declared.node.Entry.{Entry}
use Rattle.bd_node.specs.Nodes.{entry_at}
use Rattle.bd_node.specs.Shape.{entry_size, IsEntry, IsRising, IsBelowAll}
use Rattle.bd_node.proofs.Lookup.{each_weaker, each_first, each_second}
use Rattle.bd_leaf.specs.Leaves.{AreEntries, entries_size, without, IsClipped, IsCovered, IsStart, IsEnd}
use Rattle.bd_leaf.proofs.Parts.{exchanged, rising-front, rising-back, size-parts}
use Rattle.bd_leaf.proofs.Cuts.{cmp-after, is_cut-from, is_cut-begun}
use Rattle.bd_leaf.proofs.Covers.{cut_out}

abbrev Begun : List ℕ → List Entry → Type 0
Begun p es = AllByRecursion (λ (e : Entry). begins e.key p ≡ true) es

abbrev all_without : List ℕ → List Entry → List Entry
all_without p es = map (without (length p)) es

-- what is found without the prefix is what is found with it
entry_at-without : (p : List ℕ) (es : List Entry) (k : List ℕ) → Begun p es → entry_at (all_without p es) k ≡ entry_at es (p ++ k)
entry_at-without p [] k h = refl
entry_at-without p (e ∷ es) k h =
    let same : same_key k (rest p e.key) ≡ same_key (p ++ k) e.key = sym (same_key-after p k (rest p e.key)) ∙ ap (same_key (p ++ k)) (sym (begins-is e.key p h.0)) in
    λ i. cond (same i) (Some e.value) (entry_at-without p es k h.1 i)

below-without : (p : List ℕ) (e : Entry) (es : List Entry) → begins e.key p ≡ true → Begun p es → IsBelowAll e es → IsBelowAll (without (length p) e) (all_without p es)
below-without p e [] begun h below = tt
below-without p e (f ∷ es) begun h below = (
  sym (cmp-after p (rest p e.key) (rest p f.key)) ∙ (λ i. key_cmp (sym (begins-is e.key p begun) i) (sym (begins-is f.key p h.0) i)) ∙ below.0,
  below-without p e es begun h.1 below.1,
)

rising-without : (p : List ℕ) (es : List Entry) → Begun p es → IsRising es → IsRising (all_without p es)
rising-without p [] h rising = tt
rising-without p (e ∷ es) h rising = (below-without p e es h.0 h.1 rising.0, rising-without p es h.1 rising.1)

each-without : (p : List ℕ) (es : List Entry) → AllByRecursion IsEntry es → AllByRecursion IsEntry (all_without p es)
each-without p [] h = tt
each-without p (e ∷ es) h = (
  record {
    key = (let long : length (rest p e.key) ≡ length e.key - length p = length-drop (length p) e.key in
        let short : length e.key ≤ 518 = h.0.key in
        omega arith);
    some = h.0.some;
    value = h.0.value;
  },
  each-without p es h.1,
)

size-without : (p : List ℕ) (es : List Entry) → entries_size (all_without p es) ≤ entries_size es
size-without p [] = omega arith
size-without p (e ∷ es) =
    let new : entries_size (all_without p (e ∷ es)) ≡ entry_size (without (length p) e) + entries_size (all_without p es) = sum_by-cons entry_size (without (length p) e) (all_without p es) in
    let was : entries_size (e ∷ es) ≡ entry_size e + entries_size es = sum_by-cons entry_size e es in
    let rest_size : entries_size (all_without p es) ≤ entries_size es = size-without p es in
    let long : length (rest p e.key) ≡ length e.key - length p = length-drop (length p) e.key in
    omega arith

-- a key after the prefix is one that a cut of all of it takes
all_cut : (p k : List ℕ) → is_cut p [] (p ++ k) ≡ true
all_cut p k = is_cut-from p [] (p ++ k) (begins-append p k) (λ less. not_below_nil k (sym (cmp-after p k []) ∙ less))

pub clipped : (es : List Entry) (p : List ℕ) (start n : ℕ) → AreEntries es → IsStart es p start → IsEnd es start p (start + n) → IsClipped es p (all_without p (take n (drop start es)))
clipped es p start n h first last =
    let old : List Entry = take n (drop start es) in
    let parts : IsCovered es p [] old = cut_out es p [] start n h (subst (λ (k : List ℕ). IsStart es k start) (sym (append-nil p)) first) last in
    let xs : List Entry = parts.before in
    let ys : List Entry = parts.after in
    let begun : Begun p old = each_weaker (λ (e : Entry). is_cut p [] e.key ≡ true) (λ (e : Entry). begins e.key p ≡ true) (λ e own. is_cut-begun p [] e.key own) old parts.out in
    let whole : AreEntries (xs ++ (old ++ ys)) = subst AreEntries parts.whole h in
    record {
      entries = record {
        each = each-without p old (each_first IsEntry old ys (each_second IsEntry xs (old ++ ys) whole.each));
        rising = rising-without p old begun (rising-front old ys (rising-back xs (old ++ ys) whole.rising));
      };
      has = λ k.
          entry_at-without p old k begun
          ∙ sym (ap (λ (zs : List Entry). entry_at zs (p ++ k)) parts.whole
          ∙ exchanged (is_cut p []) xs old old ys (p ++ k) parts.kept parts.out parts.out parts.later
          ∙ ap (λ (b : Bool). cond b (entry_at old (p ++ k)) (entry_at (xs ++ (old ++ ys)) (p ++ k))) (all_cut p k));
      size = (let new : entries_size (all_without p old) ≤ entries_size old = size-without p old in
          let was : entries_size es ≡ entries_size xs + (entries_size old + entries_size ys) = ap entries_size parts.whole ∙ size-parts xs old ys in
          omega arith);
    }

-- the same, of the place where the keys end
pub clipped_to : (es new : List Entry) (p : List ℕ) (start end : ℕ) → AreEntries es → IsStart es p start → IsEnd es start p end → new ≡ map (without (length p)) (take (end - start) (drop start es)) → IsClipped es p new
clipped_to es new p start end h first last is =
    let later : start ≤ end = last.later in
    let same : end ≡ start + (end - start) = omega arith in
    subst (λ (zs : List Entry). IsClipped es p zs) (sym is) (clipped es p start (end - start) h first (subst (λ (n : ℕ). IsEnd es start p n) same last))
