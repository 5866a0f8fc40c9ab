-- The flags of the slots, and how many are free.
use Rattle.std.proofs.Common.{◌≡◌, ◌≢◌, ℕ, zero, suc, ◌+◌, ◌-◌, ◌*◌, ◌<◌, ◌≤◌, List, length, get_or, set, slice_get, Bool, true, false, Some, refl, sym, ap, ◌∙◌, arith, inl, inr, cond, subst, ◌/◌, ltb}
use Rattle.std.specs.Prelude.{replicate}
use Rattle.std.proofs.lemmas.Bool.{cases_eq, cases_lt, lt-ltb, le-ltb}
use Rattle.std.proofs.lemmas.List.{same_lists, length-set, length-replicate, get_or-replicate, get_or-set_same, get_or-set_other}
use Rattle.std.proofs.lemmas.List.FromFn.{length-map-range_with_len, get_or-map-range_with_len}
use Rattle.std.proofs.lemmas.List.Sums.{sum_by-set, sum_by-cons, count_by-le-length}
use Rattle.std.proofs.lemmas.Option.{slice_get-get_or, slice_get_within, get_or_from_slice_get}
use Rattle.bd_slots.specs.Slots.{IsFree, IsHeld, IsFirstFree, free_count}
use Rattle.bd_slots.specs.Words.{has_bit, IsNoneBelow, IsFirstSet, flags, AreCounted}

pub length-flags : (words : List ℕ) (count : ℕ) → length (flags words count) ≡ count
length-flags words count = length-map-range_with_len (has_bit words) 0 count

pub get_or-flags : (words : List ℕ) (count slot : ℕ) (d : Bool) → slot < count → get_or (flags words count) slot d ≡ has_bit words slot
get_or-flags words count slot d h = get_or-map-range_with_len (has_bit words) 0 count slot slot d h (omega arith)

-- a slot that has a flag is one of the slots
pub flag_within : (words : List ℕ) (count slot : ℕ) (flag : Bool) → slice_get (flags words count) slot ≡ Some flag → slot < count
flag_within words count slot flag h = omega (arith, slice_get_within (flags words count) slot flag h, length-flags words count)

-- its flag is its bit
pub flag_is : (words : List ℕ) (count slot : ℕ) (flag : Bool) → slice_get (flags words count) slot ≡ Some flag → has_bit words slot ≡ flag
flag_is words count slot flag h =
    sym (get_or-flags words count slot false (flag_within words count slot flag h)) ∙ get_or_from_slice_get (flags words count) slot flag false h

pub slice_get-flags : (words : List ℕ) (count slot : ℕ) → slot < count → slice_get (flags words count) slot ≡ Some (has_bit words slot)
slice_get-flags words count slot h =
    slice_get-get_or (flags words count) slot false (omega (arith, length-flags words count)) ∙ ap Some (get_or-flags words count slot false h)

-- where one bit became v, so did one flag
pub flags-set : (words words' : List ℕ) (count slot : ℕ) (v : Bool) → slot < count → has_bit words' slot ≡ v
    → ((other : ℕ) → other ≢ slot → has_bit words' other ≡ has_bit words other) → flags words' count ≡ set (flags words count) slot v
flags-set words words' count slot v h now others =
    let before = flags words count in
    same_lists (flags words' count) (set before slot v) (length-flags words' count ∙ sym (length-flags words count) ∙ sym (length-set before slot v))
    (λ k d lt.
    let within : k < count = omega (arith, lt, length-flags words' count) in
    let room : slot < length before = omega (arith, h, length-flags words count) in
    elim (cases_eq k slot) [
      | inl e ↦
          get_or-flags words' count k d within ∙ ap (has_bit words') e ∙ now
          ∙ sym (ap (λ i. get_or (set before slot v) i d) e ∙ get_or-set_same before slot v d room)
      | inr ne ↦
          get_or-flags words' count k d within ∙ others k ne ∙ sym (get_or-flags words count k d within)
          ∙ sym (get_or-set_other before slot k v d ne)
    ])

-- what a flag counts
abbrev weight : Bool → ℕ
weight f = cond f 1 0

-- one more is free where a flag became true
pub free_count-give : (slots : List Bool) (slot : ℕ) → slot < length slots → get_or slots slot false ≡ false → free_count (set slots slot true) ≡ free_count slots + 1
free_count-give slots slot h e =
    let step = sum_by-set weight slots slot true false h in
    let was : weight (get_or slots slot false) ≡ 0 = ap weight e in
    omega (arith, step, was)

-- one fewer where a flag became false
pub free_count-take : (slots : List Bool) (slot : ℕ) → slot < length slots → get_or slots slot false ≡ true → free_count (set slots slot false) + 1 ≡ free_count slots
free_count-take slots slot h e =
    let step = sum_by-set weight slots slot false false h in
    let was : weight (get_or slots slot false) ≡ 1 = ap weight e in
    omega (arith, step, was)

-- where all flags are alike
pub flags-replicate : (words : List ℕ) (count : ℕ) (v : Bool) → ((slot : ℕ) → slot < count → has_bit words slot ≡ v) → flags words count ≡ replicate count v
flags-replicate words count v h =
    same_lists (flags words count) (replicate count v) (length-flags words count ∙ sym (length-replicate count v))
    (λ k d lt.
    let within : k < count = omega (arith, lt, length-flags words count) in
    get_or-flags words count k d within ∙ h k within ∙ sym (get_or-replicate count k v d within))

none_of : (n : ℕ) → free_count (replicate n false) ≡ 0
none_of zero = refl
none_of (suc n) = sum_by-cons weight false (replicate n false) ∙ omega (arith, none_of n)

pub all_of : (n : ℕ) → free_count (replicate n true) ≡ n
all_of zero = refl
all_of (suc n) = sum_by-cons weight true (replicate n true) ∙ omega (arith, all_of n)

-- none is free where no bit is set
pub free_count-none : (words : List ℕ) (count : ℕ) → ((bit : ℕ) → has_bit words bit ≡ false) → free_count (flags words count) ≡ 0
free_count-none words count h = ap free_count (flags-replicate words count false (λ slot _. h slot)) ∙ none_of count

-- a slot that isn't free isn't counted
pub free_below : (slots : List Bool) (slot : ℕ) → IsHeld slots slot → free_count slots < length slots
free_below slots slot h =
    let step = free_count-give slots slot (slice_get_within slots slot false h) (get_or_from_slice_get slots slot false false h) in
    omega (arith, step, count_by-le-length (λ f. f) (set slots slot true), length-set slots slot true)

-- a free slot is counted
pub free_above : (slots : List Bool) (slot : ℕ) → IsFree slots slot → 0 < free_count slots
free_above slots slot h =
    let step = free_count-take slots slot (slice_get_within slots slot true h) (get_or_from_slice_get slots slot true false h) in
    omega (arith, step)

-- what stays where one bit changed
kept_after : (words words' : List ℕ) (count slot : ℕ) → slot < count → ((other : ℕ) → count ≤ other → has_bit words other ≡ false)
    → ((other : ℕ) → other ≢ slot → has_bit words' other ≡ has_bit words other) → (other : ℕ) → count ≤ other → has_bit words' other ≡ false
kept_after words words' count slot h none others other le = others other (λ e. omega (arith, e)) ∙ none other le

-- none of the first bits is set after one was cleared, if none was before
pub none_below-cleared : (words words' : List ℕ) (next slot : ℕ) → IsNoneBelow words next → has_bit words' slot ≡ false
    → ((other : ℕ) → other ≢ slot → has_bit words' other ≡ has_bit words other) → IsNoneBelow words' next
none_below-cleared words words' next slot none now others bit lt =
    elim (cases_eq bit slot) [
      | inl e ↦ ap (has_bit words') e ∙ now
      | inr ne ↦ others bit ne ∙ none bit lt
    ]

-- nor of those before one that was set
pub none_below-set : (words words' : List ℕ) (next slot first : ℕ) → IsNoneBelow words next → first ≤ next → first ≤ slot
    → ((other : ℕ) → other ≢ slot → has_bit words' other ≡ has_bit words other) → IsNoneBelow words' first
none_below-set words words' next slot first none before below others bit lt =
    others bit (λ e. omega (arith, lt, below, e)) ∙ none bit (omega (arith, lt, before))

-- after a slot was given back
pub given : (words words' : List ℕ) (slots : List Bool) (count free slot : ℕ) → AreCounted words count free → flags words count ≡ slots → IsHeld slots slot
    → length words' ≡ length words → has_bit words' slot ≡ true → ((other : ℕ) → other ≢ slot → has_bit words' other ≡ has_bit words other)
    → AreCounted words' count (free + 1) × (flags words' count ≡ set slots slot true)
given words words' slots count free slot known is held same now others =
    let held' : IsHeld (flags words count) slot = subst (λ s. IsHeld s slot) (sym is) held in
    let within = flag_within words count slot false held' in
    let after = flags-set words words' count slot true within now others in
    let step = free_count-give (flags words count) slot (slice_get_within (flags words count) slot false held') (get_or_from_slice_get (flags words count) slot false false held') in (
      record {
        room = same ∙ known.room;
        none_after = kept_after words words' count slot within known.none_after others;
        counted = ap (λ n. n + 1) known.counted ∙ sym step ∙ ap free_count (sym after);
      },
      after ∙ ap (λ s. set s slot true) is,
    )

-- after a free slot was taken
pub taken : (words words' : List ℕ) (slots : List Bool) (count free slot : ℕ) → AreCounted words count free → flags words count ≡ slots → IsFree slots slot
    → length words' ≡ length words → has_bit words' slot ≡ false → ((other : ℕ) → other ≢ slot → has_bit words' other ≡ has_bit words other)
    → AreCounted words' count (free - 1) × (flags words' count ≡ set slots slot false)
taken words words' slots count free slot known is was same now others =
    let free' : IsFree (flags words count) slot = subst (λ s. IsFree s slot) (sym is) was in
    let within = flag_within words count slot true free' in
    let after = flags-set words words' count slot false within now others in
    let step = free_count-take (flags words count) slot (slice_get_within (flags words count) slot true free') (get_or_from_slice_get (flags words count) slot true false free') in
    let fewer : free_count (flags words' count) ≡ free_count (set (flags words count) slot false) = ap free_count after in (
      record {
        room = same ∙ known.room;
        none_after = kept_after words words' count slot within known.none_after others;
        counted = omega (arith, known.counted, step, fewer);
      },
      after ∙ ap (λ s. set s slot false) is,
    )

-- a slot that has a flag has a bit in the words
pub bit_within : (words : List ℕ) (slots : List Bool) (count free slot : ℕ) (flag : Bool) → AreCounted words count free → flags words count ≡ slots → slice_get slots slot ≡ Some flag → slot < 64 * length words
bit_within words slots count free slot flag known is h =
    let within = flag_within words count slot flag (subst (λ s. slice_get s slot ≡ Some flag) (sym is) h) in
    omega (arith, within, known.room)

-- a bit that is set belongs to a slot
set_within : (words : List ℕ) (count free bit : ℕ) → AreCounted words count free → has_bit words bit ≡ true → bit < count
set_within words count free bit known h =
    elim (cases_lt bit count) [ inl lt ↦ lt | inr le ↦ absurd (not_both (sym (known.none_after bit le) ∙ h)) ]
  where
    not_both : false ≡ true → ⊥
    not_both e = cc

-- a bit that is set is a free slot's
pub IsFree-has_bit : (words : List ℕ) (slots : List Bool) (count free bit : ℕ) → AreCounted words count free → flags words count ≡ slots → has_bit words bit ≡ true → IsFree slots bit
IsFree-has_bit words slots count free bit known is h =
    subst (λ s. IsFree s bit) is (slice_get-flags words count bit (set_within words count free bit known h) ∙ ap Some h)

-- the first bit that is set is the first free slot's
pub IsFirstFree-first_set : (words : List ℕ) (slots : List Bool) (count free bit : ℕ) → AreCounted words count free → flags words count ≡ slots → IsFirstSet words bit → IsFirstFree slots bit
IsFirstFree-first_set words slots count free bit known is h =
    let within = set_within words count free bit known h.0 in (
      IsFree-has_bit words slots count free bit known is h.0,
      λ other lt. subst (λ s. IsHeld s other) is (slice_get-flags words count other (omega (arith, lt, within)) ∙ ap Some (h.1 other lt)),
    )

-- where no bit is set, no slot is free
pub none_free : (words : List ℕ) (slots : List Bool) (count : ℕ) → flags words count ≡ slots → ((bit : ℕ) → has_bit words bit ≡ false) → free_count slots ≡ 0
none_free words slots count is h = ap free_count (sym is) ∙ free_count-none words count h

-- where the bits below the count are set, all slots are free
pub AreCounted-all : (words : List ℕ) (count : ℕ) → length words ≡ count / 64 + 1 → ((bit : ℕ) → has_bit words bit ≡ ltb bit count) → AreCounted words count count × (flags words count ≡ replicate count true)
AreCounted-all words count long bits =
    let all = flags-replicate words count true (λ slot lt. bits slot ∙ lt-ltb slot count lt) in (
      record {
        room = long;
        none_after = λ slot le. bits slot ∙ le-ltb slot count le;
        counted = sym (ap free_count all ∙ all_of count);
      },
      all,
    )
