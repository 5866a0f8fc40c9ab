-- The free slots beside those that are taken.
use Rattle.std.proofs.Common.{◌≡◌, ◌≢◌, ℕ, ◌+◌, ◌-◌, ◌<◌, ◌≤◌, Bool, true, false, List, [], ◌∷◌, ◌++◌, Some, length, take, get_or, All, inl, inr, sym, ap, subst, ◌∙◌, arith, append_assoc, length-append}
use Rattle.std.specs.Prelude.{slice_set, slice_get}
use Rattle.std.proofs.lemmas.Bool.{true≢false, cases_eq}
use Rattle.std.proofs.lemmas.List.{get_or-set_other, get_or-set_same, length-set, get_or-append-add, get_or-take, get_or-map, length-take-le, take-map, take_more, map_push, length-map, get_or_default}
use Rattle.std.proofs.lemmas.List.Elements.{All-push}
use Rattle.std.proofs.lemmas.List.Quantifiers.{all_pairs_push}
use Rattle.std.proofs.lemmas.Option.{get_or_from_slice_get, slice_get-get_or}
use Rattle.std.proofs.Math.Seq.{take-append-add, get_or-append_seam}
use Rattle.std.proofs.Math.ListN.{get_or-append}
use Rattle.bd_slots.specs.Layout.{AreSlots}
use Rattle.bd_slots.specs.Slots.{IsFree}
use Rattle.bd_table.specs.Tables.{AreFreeSlots, slots_of}
use Rattle.bd_table.specs.declared.table.TableEntry.{TableEntry}

-- no slot that is taken is free, once one more is taken
pub hold_free : (slots : ℕ) (taken : List ℕ) (flags : List Bool) (x : ℕ) → x < slots → AreFreeSlots slots taken flags → AreFreeSlots slots (taken ++ x ∷ []) (slice_set flags x false)
hold_free slots taken flags x lt are = record {
  count = length-set flags x false ∙ are.count;
  free = λ k inside. elim (cases_eq k x) [
    | inl same ↦ (
      λ is. absurd (true≢false (sym (get_or_from_slice_get (slice_set flags x false) k true false is) ∙ ap (λ i. get_or (slice_set flags x false) i false) same
          ∙ get_or-set_same flags x false false (omega (arith, lt, are.count)))),
      λ others. absurd (others (length taken) x (omega (arith, length-append taken (x ∷ []))) (get_or-append_seam taken x [] x ∙ sym same)),
    )
    | inr ne ↦
        let there : get_or (slice_set flags x false) k false ≡ get_or flags k false = get_or-set_other flags x k false false ne in
        let old : slice_get flags k ≡ Some (get_or flags k false) = slice_get-get_or flags k false (omega (arith, inside, are.count)) in
        let new : slice_get (slice_set flags x false) k ≡ Some (get_or (slice_set flags x false) k false) =
        slice_get-get_or (slice_set flags x false) k false (omega (arith, inside, are.count, length-set flags x false)) in
        let same : slice_get (slice_set flags x false) k ≡ slice_get flags k = new ∙ ap Some there ∙ sym old in (
          λ is. All-push (λ other. other ≢ k) taken x ((are.free k inside).0 (sym same ∙ is)) (λ e. ne (sym e)),
          λ others. same ∙ (are.free k inside).1 (λ i d before. λ e. others i d (omega (arith, before, length-append taken (x ∷ []))) (get_or-append taken (x ∷ []) d i before ∙ e)),
        )
  ];
}

-- a free one is one more that differs
pub one_more : (slots : ℕ) (taken : List ℕ) (flags : List Bool) (x : ℕ) → x < slots → AreFreeSlots slots taken flags → IsFree flags x → AreSlots slots taken → AreSlots slots (taken ++ x ∷ [])
one_more slots taken flags x lt are free differ = record {
  below = All-push (λ slot. slot < slots) taken x differ.below lt;
  different = all_pairs_push (λ slot other. slot ≢ other) taken x differ.different ((are.free x lt).0 free);
}

-- the slots up to the next entry
pub slots_more : (at : List ℕ) (entries : List TableEntry) (i : ℕ) (d : TableEntry) → i < length entries
    → at ++ slots_of (take (i + 1) entries) ≡ (at ++ slots_of (take i entries)) ++ (get_or entries i d).slot ∷ []
slots_more at entries i d lt =
    ap (λ l. at ++ slots_of l) (take_more entries i d lt) ∙ ap (λ l. at ++ l) (map_push (λ (e : TableEntry). e.slot) (take i entries) (get_or entries i d))
    ∙ sym (append_assoc at (slots_of (take i entries)) ((get_or entries i d).slot ∷ []))

-- the next entry's slot differs from those before it where all differ
pub next_differs : (slots : ℕ) (at : List ℕ) (entries : List TableEntry) (i : ℕ) (d : TableEntry) → i < length entries → AreSlots slots (at ++ slots_of entries)
    → ((get_or entries i d).slot < slots) × All (λ other. other ≢ (get_or entries i d).slot) (at ++ slots_of (take i entries))
next_differs slots at entries i d lt differ =
    let all = at ++ slots_of entries in
    let place = length at + i in
    let x = (get_or entries i d).slot in
    let total : length all ≡ length at + length entries = length-append at (slots_of entries) ∙ omega (arith, length-map entries (λ (e : TableEntry). e.slot)) in
    let here : (z : ℕ) → get_or all place z ≡ x = λ z. get_or-append-add at (slots_of entries) i z ∙ get_or-map (λ (e : TableEntry). e.slot) entries i d z lt in
    let front : at ++ slots_of (take i entries) ≡ take place all =
    ap (λ l. at ++ l) (sym (take-map (λ (e : TableEntry). e.slot) i entries)) ∙ sym (take-append-add at (slots_of entries) i) in (
      subst (λ n. n < slots) (here 0) (differ.below place 0 (omega (arith, lt, total))),
      subst (λ l. All (λ other. other ≢ x) l) (sym front)
          (λ k z before.
          let inside : k < place = omega (arith, before, length-take-le place all (omega (arith, lt, total))) in
          λ e. differ.different k place z inside (omega (arith, lt, total)) (sym (get_or-take place all k z inside) ∙ e ∙ sym (here z))),
    )

-- ids that rise one by one rise
pub rising_more : (entries : List TableEntry) (n : ℕ) (e : TableEntry) → 1 ≤ n → n < length entries
    → ((i j : ℕ) (d : TableEntry) → i < j → j < n → (get_or entries i d).id < (get_or entries j d).id) → (get_or entries (n - 1) e).id < (get_or entries n e).id
    → (i j : ℕ) (d : TableEntry) → i < j → j < n + 1 → (get_or entries i d).id < (get_or entries j d).id
rising_more entries n e first inside so_far next i j d before lt =
    let last : (get_or entries (n - 1) d).id < (get_or entries n d).id =
    subst (λ (x : TableEntry). x.id < (get_or entries n d).id) (get_or_default entries (n - 1) e d (omega (arith, first, inside)))
    (subst (λ (x : TableEntry). (get_or entries (n - 1) e).id < x.id) (get_or_default entries n e d inside) next) in
    elim (cases_eq j n) [
      | inr ne ↦ so_far i j d before (omega (arith, ne, lt))
      | inl is ↦
          subst (λ k. (get_or entries i d).id < (get_or entries k d).id) (sym is)
          (elim (cases_eq i (n - 1)) [
            | inl here ↦ subst (λ k. (get_or entries k d).id < (get_or entries n d).id) (sym here) last
            | inr ne ↦ omega (arith, last, so_far i (n - 1) d (omega (arith, ne, before, is)) (omega (arith, first)))
          ])
    ]
