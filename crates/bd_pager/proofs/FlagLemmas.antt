-- The flags of slots that are free, or taken.
use Rattle.std.proofs.Common.{◌≡◌, ℕ, zero, suc, ◌+◌, ◌-◌, ◌<◌, ◌≤◌, Bool, true, false, List, [], ◌∷◌, ◌++◌, length, take, replicate, get_or, set, slice_get, subst, Some, refl, sym, ap, ◌∙◌, arith, inl, inr, length-append}
use Rattle.std.specs.Prelude.{Contains}
use Rattle.std.proofs.lemmas.Bool.{true≢false, cases_eq, cases_lt}
use Rattle.std.proofs.lemmas.List.{same_lists, get_or-map, length-map, length-replicate, length-take-le, take_all, take_more, get_or-append_right, get_or-replicate, get_or-take, get_or_default}
use Rattle.std.proofs.lemmas.List.Sums.{sum_by-cons}
use Rattle.std.proofs.lemmas.Option.{slice_get-get_or, get_or_from_slice_get}
use Rattle.bd_slots.specs.Layout.{AreSlots}
use Rattle.bd_slots.specs.Slots.{IsFree, IsHeld, free_count}
use Rattle.bd_table.specs.Tables.{AreFreeSlots, slots_of}
use Rattle.bd_table.specs.declared.table.TableEntry.{TableEntry}
use Rattle.bd_table.proofs.FreeLemmas.{hold_free}
use Rattle.bd_pager.proofs.CountingLemmas.{flag, flag_count}

same_flag : (x y : Bool) → (x ≡ true → y ≡ true) → (y ≡ true → x ≡ true) → x ≡ y
same_flag true y to from = sym (to refl)
same_flag false true to from = absurd (true≢false (sym (from refl)))
same_flag false false to from = refl

-- what is taken says all of them
pub same_flags : (slots : ℕ) (taken : List ℕ) (a b : List Bool) → AreFreeSlots slots taken a → AreFreeSlots slots taken b → a ≡ b
same_flags slots taken a b p q =
    same_lists a b (p.count ∙ sym q.count)
    (λ k d lt.
    let low : k < slots = omega (arith, lt, p.count) in
    let low_b : k < length b = omega (arith, low, q.count) in
    same_flag (get_or a k d) (get_or b k d)
    (λ on. get_or_from_slice_get b k true d ((q.free k low).1 ((p.free k low).0 (slice_get-get_or a k d lt ∙ ap Some on))))
    (λ on. get_or_from_slice_get a k true d ((p.free k low).1 ((q.free k low).0 (slice_get-get_or b k d low_b ∙ ap Some on)))))

held_if : (flags : List Bool) (slot : ℕ) (b : Bool) → slice_get flags slot ≡ Some b → ¬ IsFree flags slot → IsHeld flags slot
held_if flags slot true is taken = absurd (taken is)
held_if flags slot false is taken = is

-- a slot that is taken isn't free
pub taken_held : (slots : ℕ) (taken : List ℕ) (flags : List Bool) (slot : ℕ) → AreFreeSlots slots taken flags → slot < slots → Contains taken slot → IsHeld flags slot
taken_held slots taken flags slot h low among =
    held_if flags slot (get_or flags slot true) (slice_get-get_or flags slot true (omega (arith, low, h.count)))
    (λ free. (h.free slot low).0 free among.0 slot among.1 among.2)

-- an entry's slot is one of the table's
abbrev pub entry_slot : (entries : List TableEntry) (e : TableEntry) → Contains entries e → Contains (slots_of entries) e.slot
entry_slot entries e among = (
  among.0,
  omega (arith, among.1, length-map entries (λ (x : TableEntry). x.slot)),
  get_or-map (λ (x : TableEntry). x.slot) entries among.0 e e.slot among.1 ∙ ap (λ (x : TableEntry). x.slot) among.2,
)

-- it stands after those of the table itself
slot_there : (at : List ℕ) (entries : List TableEntry) (e : TableEntry) (among : Contains entries e) (d : ℕ) → get_or (at ++ slots_of entries) (length at + among.0) d ≡ e.slot
slot_there at entries e among d =
    let own : Contains (slots_of entries) e.slot = entry_slot entries e among in
    let index : length at + among.0 - length at ≡ among.0 = omega arith in
    get_or-append_right at (slots_of entries) (length at) (length at + among.0) d refl (omega arith)
    ∙ ap (λ (k : ℕ). get_or (slots_of entries) k d) index
    ∙ get_or_default (slots_of entries) among.0 d e.slot own.1
    ∙ own.2

-- different entries have different slots
pub one_entry : (slots : ℕ) (at : List ℕ) (entries : List TableEntry) (e f : TableEntry) → AreSlots slots (at ++ slots_of entries) → Contains entries e → Contains entries f → e.slot ≡ f.slot → e ≡ f
one_entry slots at entries e f differ p q same =
    let all : List ℕ = at ++ slots_of entries in
    let size : length all ≡ length at + length entries = length-append at (slots_of entries) ∙ ap (λ (k : ℕ). length at + k) (length-map entries (λ (x : TableEntry). x.slot)) in
    elim (cases_eq p.0 q.0) [
      | inl one ↦ sym p.2 ∙ ap (λ (k : ℕ). get_or entries k e) one ∙ get_or_default entries q.0 e f q.1 ∙ q.2
      | inr apart ↦ elim (cases_lt p.0 q.0) [
        | inl lt ↦ absurd (differ.different (length at + p.0) (length at + q.0) 0 (omega (arith, lt)) (omega (arith, q.1, size))
            (slot_there at entries e p 0 ∙ same ∙ sym (slot_there at entries f q 0)))
        | inr le ↦ absurd (differ.different (length at + q.0) (length at + p.0) 0 (omega (arith, le, apart)) (omega (arith, p.1, size))
            (slot_there at entries f q 0 ∙ sym same ∙ sym (slot_there at entries e p 0)))
      ]
    ]

-- ---- how many are free

all_true : (n : ℕ) → free_count (replicate n true) ≡ n
all_true zero = refl
all_true (suc n) = sum_by-cons flag true (replicate n true) ∙ omega (arith, all_true n)

pub all_free : (n : ℕ) → AreFreeSlots n [] (replicate n true)
all_free n = record {
  count = length-replicate {A = Bool} n true;
  free = λ slot lt. (
    λ _. λ k d none. absurd (omega (arith, none)),
    λ _. slice_get-get_or (replicate n true) slot true (omega (arith, lt, length-replicate {A = Bool} n true)) ∙ ap Some (get_or-replicate n slot true true lt),
  );
}

pub blank_free : (n : ℕ) (flags : List Bool) → flags ≡ replicate n true → AreFreeSlots (length flags) [] flags
blank_free n flags is =
    let size : length flags ≡ n = ap length is ∙ length-replicate {A = Bool} n true in
    subst (λ (k : ℕ). AreFreeSlots k [] flags) (sym size) (subst (λ (l : List Bool). AreFreeSlots n [] l) (sym is) (all_free n))

first_taken : (n : ℕ) (taken : List ℕ) → AreSlots n taken → (i : ℕ) → i ≤ length taken → (flags : List Bool) × AreFreeSlots n (take i taken) flags × (free_count flags + i ≡ n)
first_taken n taken differ zero low = (replicate n true, all_free n, omega (arith, all_true n))
first_taken n taken differ (suc i) low =
    let before = first_taken n taken differ i (omega (arith, low)) in
    let x : ℕ = get_or taken i 0 in
    let lt : i < length taken = omega (arith, low) in
    let within : x < n = differ.below i 0 lt in
    let free : IsFree before.0 x = (before.1.free x within).1 (λ k d inside.
    let less : k < i = omega (arith, inside, length-take-le i taken (omega (arith, lt))) in
    λ same. differ.different k i 0 less lt (sym (get_or-take i taken k 0 less) ∙ get_or_default (take i taken) k 0 d inside ∙ same)) in
    let held : AreFreeSlots n (take i taken ++ x ∷ []) (set before.0 x false) = hold_free n (take i taken) before.0 x within before.1 in (
      set before.0 x false,
      (let next : i + 1 ≡ suc i = omega arith in
          subst (λ (k : ℕ). AreFreeSlots n (take k taken) (set before.0 x false)) next (subst (λ (l : List ℕ). AreFreeSlots n l (set before.0 x false)) (sym (take_more taken i 0 lt)) held)),
      omega (arith, flag_count before.0 x true false free, before.2),
    )

-- those that aren't taken
pub free_rest : (n : ℕ) (taken : List ℕ) (flags : List Bool) → AreSlots n taken → AreFreeSlots n taken flags → free_count flags + length taken ≡ n
free_rest n taken flags differ h =
    let found = first_taken n taken differ (length taken) (omega arith) in
    let other : AreFreeSlots n taken found.0 = subst (λ (l : List ℕ). AreFreeSlots n l found.0) (take_all (length taken) taken (omega arith)) found.1 in
    omega (arith, ap free_count (same_flags n taken flags found.0 h other), found.2)

-- so many at most
pub slots_within : (n : ℕ) (taken : List ℕ) → AreSlots n taken → length taken ≤ n
slots_within n taken differ = omega (arith, (first_taken n taken differ (length taken) (omega arith)).2)
