-- Where the entries of a prefix begin and end, and which of them a cut drops.
use Rattle.std.proofs.Common.{◌≡◌, ℕ, ◌+◌, ◌-◌, ◌<◌, ◌≤◌, true, false, List, ◌++◌, length, take, drop, refl, sym, ap, subst, ◌∙◌, Some, arith, inl, inr, Ok, Err}
use Rattle.std.specs.Prelude.{slice_get}
use Rattle.std.proofs.lemmas.Bool.{cases_lt}
use Rattle.std.proofs.lemmas.Option.{same_Some, slice_get_within}
use Rattle.std.proofs.lemmas.Cmp.{nat_list_cmp_total as total}
use Rattle.bd_keys.specs.Keys.{IsBelow, IsAtLeast}
use Rattle.bd_message.specs.Effect.{begins, is_cut}
use Rattle.bd_node.specs.declared.node.Entry.{Entry}
use Rattle.bd_node.specs.Shape.{IsRising}
use Rattle.bd_node.proofs.Edges.{not_below_itself}
use Rattle.bd_leaf.specs.Places.{IsPlace}
use Rattle.bd_leaf.specs.Leaves.{AreEntries, IsCovered, IsStart, IsEnd}
use Rattle.bd_leaf.proofs.Finds.{rising_at}
use Rattle.bd_leaf.proofs.Parts.{front_each, back_each, middle_each, three_parts, earlier}
use Rattle.bd_leaf.proofs.Cuts.{is_cut-from, is_cut-outside, is_cut-below, none_begins}

-- ---- where they begin

-- what stands above a key isn't below it
pub least_over : (k l : List ℕ) → IsBelow k l → IsAtLeast l k
least_over k l below less = not_below_itself k (total.trans k l k below less)

pub start_ok : (es : List Entry) (k : List ℕ) (place : ℕ) → IsRising es → IsPlace es k (Ok place) → IsStart es k place
start_ok es k place rising found =
    let e : Entry = found.0 in
    let there : slice_get es place ≡ Some e = found.1 in
    let same : e.key ≡ k = found.2 in
    record {
      within = (let low : place < length es = slice_get_within es place e there in omega arith);
      before = λ i f low at_i. subst (λ (l : List ℕ). IsBelow f.key l) same (rising_at es i place f e rising low at_i there);
      after = λ i f high at_i.
          elim (cases_lt place i) as (λ _. IsAtLeast f.key k) [
            | inl past ↦ least_over k f.key (subst (λ (l : List ℕ). IsBelow l f.key) same (rising_at es place i e f rising past there at_i))
            | inr le ↦ (let here : i ≡ place = omega arith in
                let is : e ≡ f = same_Some e f (sym there ∙ ap (λ (n : ℕ). slice_get es n) (sym here) ∙ at_i) in
                subst (λ (l : List ℕ). IsAtLeast l k) (sym same ∙ ap (λ (d : Entry). d.key) is) (not_below_itself k))
          ];
    }

pub start_err : (es : List Entry) (k : List ℕ) (place : ℕ) → IsPlace es k (Err place) → IsStart es k place
start_err es k place found = record {
  within = found.0;
  before = found.1;
  after = λ i f high at_i. least_over k f.key (found.2 i f high at_i);
}

-- ---- those that a cut drops

pub cut_out : (es : List Entry) (prefix from : List ℕ) (start n : ℕ) → AreEntries es → IsStart es (prefix ++ from) start → IsEnd es start prefix (start + n)
    → IsCovered es prefix from (take n (drop start es))
cut_out es prefix from start n h first last = record {
  before = take start es;
  after = drop (start + n) es;
  whole = three_parts es start n (start + n) refl;
  kept = front_each (λ (e : Entry). is_cut prefix from e.key ≡ false) es start (λ i e low there. is_cut-below prefix from e.key (first.before i e low there));
  out = middle_each (λ (e : Entry). is_cut prefix from e.key ≡ true) es start n (λ i e high low there. is_cut-from prefix from e.key (last.each i e high low there) (first.after i e high there));
  later = back_each (λ (e : Entry). is_cut prefix from e.key ≡ false) es (start + n) (λ i e high there.
      is_cut-outside prefix from e.key
      (elim (cases_lt (start + n) i) as (λ _. begins e.key prefix ≡ false) [
        | inl past ↦ (let found = earlier es (start + n) i e past there in
            none_begins prefix from found.0.key e.key (last.next found.0 found.1) (first.after (start + n) found.0 (omega arith) found.1) (rising_at es (start + n) i found.0 e h.rising past found.1 there))
        | inr here ↦ (let same : i ≡ start + n = omega arith in last.next e (sym (ap (λ (j : ℕ). slice_get es j) same) ∙ there))
      ]));
}

-- the same, of what the code reads
pub covered : (es old : List Entry) (key prefix from : List ℕ) (start end : ℕ) → key ≡ prefix ++ from → AreEntries es → IsStart es key start → IsEnd es start prefix end → old ≡ take (end - start) (drop start es) → IsCovered es prefix from old
covered es old key prefix from start end key_is h first last is =
    let later : start ≤ end = last.later in
    let same : end ≡ start + (end - start) = omega arith in
    subst (λ (zs : List Entry). IsCovered es prefix from zs) (sym is)
    (cut_out es prefix from start (end - start) h (subst (λ (k : List ℕ). IsStart es k start) key_is first) (subst (λ (n : ℕ). IsEnd es start prefix n) same last))
