-- What is known of the zeros that slots end in, through reads and writes.
use Rattle.std.proofs.Common.{◌≡◌, ◌≢◌, ℕ, ◌+◌, ◌-◌, ◌*◌, ◌<◌, ◌≤◌, ◌⊎◌, inl, inr, List, ◌++◌, length, take, drop, replicate, min, get_or, set, Option, None, Some, IfSome, sym, ap, subst, ◌∙◌, arith, refl}
use Rattle.std.specs.Prelude.{Contains}
use Rattle.std.proofs.lemmas.Bool.{cases_eq, cases_lt}
use Rattle.std.proofs.lemmas.List.{take-append-drop, get_or-set_same, get_or-set_other, get_or-replicate, get_or_past, get_or_default, length-drop, length-set, length-replicate}
use Rattle.bd_wire.specs.Text.{zeros, AreZeros}
use Rattle.bd_slots.specs.Layout.{slot_block}
use Rattle.bd_device.specs.Blocks.{Image, HasBlocks}
use Rattle.bd_device.specs.Changes.{SameBut, StaysBut, IsBeforeBut, IsInRange, bytes_at}
use Rattle.bd_device.specs.Moments.{Elapses}
use Rattle.bd_device.proofs.Changes.{before_wider}
use Rattle.bd_device.proofs.Moments.{within}
use Rattle.bd_tails.specs.Tails.{slot_bytes, used_at, IsZeroBlock, IsZeroFrom, IsOfSlot, AreTailsAt, AreUsed}
use Rattle.bd_tails.proofs.Blocks.{row_parts, row_zeros, fewer_zeros, zero_block, blocks_zeros}

-- ---- whole slots

-- a slot's bytes are those of its first blocks, and zeros after them
pub slot_parts : (image : Image) (slot used : ℕ) → used ≤ 16 → IsZeroFrom image slot used
    → slot_bytes image slot ≡ bytes_at image (slot_block slot) used ++ zeros ((16 - used) * 4096)
slot_parts image slot used le zero =
    let all : used + (16 - used) ≡ 16 = omega (arith, le) in
    let tail : bytes_at image (slot_block slot + used) (16 - used) ≡ zeros ((16 - used) * 4096) =
    row_zeros image (slot_block slot + used) (16 - used)
    (λ i lt.
    let place : slot_block slot + (used + i) ≡ slot_block slot + used + i = omega arith in
    subst (λ (b : ℕ). IsZeroBlock image b) place (zero (used + i) (omega arith) (omega (arith, lt, le)))) in
    ap (λ (n : ℕ). bytes_at image (slot_block slot) n) (sym all)
    ∙ row_parts image (slot_block slot) used (16 - used)
    ∙ ap (λ (l : List ℕ). bytes_at image (slot_block slot) used ++ l) tail

-- bytes that end in zeros are their front, and zeros after it
pub bytes_parts : (bytes : List ℕ) (used : ℕ) → used ≤ 16 → length bytes ≡ 65536 → AreZeros (drop (used * 4096) bytes) → bytes ≡ take (used * 4096) bytes ++ zeros ((16 - used) * 4096)
bytes_parts bytes used le size zero =
    sym (take-append-drop (used * 4096) bytes)
    ∙ ap (λ (l : List ℕ). take (used * 4096) bytes ++ l) (fewer_zeros bytes (used * 4096) (used * 4096) (omega arith) zero ∙ ap (λ (k : ℕ). zeros k) (omega (arith, size, le)))

-- ---- what is noted

used_same : (used : List ℕ) (slot n : ℕ) → n ≤ 16 → slot < length used → used_at (set used slot n) slot ≡ n
used_same used slot n le lt = omega (arith, le, get_or-set_same used slot n 16 lt)

used_past : (used : List ℕ) (slot n : ℕ) → length used ≤ slot → used_at (set used slot n) slot ≡ 16
used_past used slot n le = ap (min 16) (get_or_past (set used slot n) slot 16 (omega (arith, length-set used slot n, le)))

pub used_full : (used : List ℕ) (slot : ℕ) → used_at (set used slot 16) slot ≡ 16
used_full used slot = elim (cases_lt slot (length used)) [
  | inl lt ↦ used_same used slot 16 (omega arith) lt
  | inr le ↦ used_past used slot 16 le
]

pub used_other : (used : List ℕ) (slot n other : ℕ) → other ≢ slot → used_at (set used slot n) other ≡ used_at used other
used_other used slot n other apart = ap (min 16) (get_or-set_other used slot other n 16 apart)

-- a slot that isn't there is one of which nothing is known
noted : (used : List ℕ) (slot n : ℕ) → n ≤ 16 → (used_at (set used slot n) slot ≡ n) ⊎ (used_at (set used slot n) slot ≡ 16)
noted used slot n le = elim (cases_lt slot (length used)) [
  | inl lt ↦ inl (used_same used slot n le lt)
  | inr past ↦ inr (used_past used slot n past)
]

-- of a slot of which nothing is known nothing is said
none_said : (image : Image) (slot used : ℕ) → used ≡ 16 → IsZeroFrom image slot used
none_said image slot used e = λ i le lt. absurd (omega (arith, e, le, lt))

-- what is noted of a slot is so where it has zeros from there on
noted_zero : (image : Image) (used : List ℕ) (slot n : ℕ) → n ≤ 16 → IsZeroFrom image slot n → IsZeroFrom image slot (used_at (set used slot n) slot)
noted_zero image used slot n le zero = elim (noted used slot n le) [
  | inl same ↦ subst (λ (k : ℕ). IsZeroFrom image slot k) (sym same) zero
  | inr full ↦ none_said image slot (used_at (set used slot n) slot) full
]

-- so many blocks of a slot are noted, where it has zeros after them
pub tails_noted : (contents : Option Image) (used : List ℕ) (slot n : ℕ) → n ≤ 16 → AreTailsAt contents used → IfSome contents (λ image. IsZeroFrom image slot n) → AreTailsAt contents (set used slot n)
tails_noted None used slot n le known zero = tt
tails_noted (Some image) used slot n le known zero = λ other. elim (cases_eq other slot) [
  | inl same ↦ subst (λ (s : ℕ). IsZeroFrom image s (used_at (set used slot n) s)) (sym same) (noted_zero image used slot n le zero)
  | inr apart ↦ subst (λ (k : ℕ). IsZeroFrom image other k) (sym (used_other used slot n other apart)) (known other)
]

-- nothing is known at first
pub none_known : (contents : Option Image) (count : ℕ) → AreTailsAt contents (replicate count 16)
none_known None count = tt
none_known (Some image) count = λ slot. none_said image slot (used_at (replicate count 16) slot) (elim (cases_lt slot count) [
  | inl lt ↦ ap (min 16) (get_or-replicate {A = ℕ} count slot 16 16 lt)
  | inr le ↦ ap (min 16) (get_or_past (replicate {A = ℕ} count 16) slot 16 (omega (arith, length-replicate {A = ℕ} count 16, le)))
])

-- ---- what is learnt

pub tails_learnt : (contents : Option Image) (count : ℕ) (used : List ℕ) (slot n : ℕ) → IfSome contents (HasBlocks count) → slot_block slot + 16 ≤ count → n ≤ 16 → IfSome contents (λ image. AreUsed (slot_bytes image slot) n)
    → AreTailsAt contents used → AreTailsAt contents (set used slot n)
tails_learnt contents count used slot n has fits few are known =
    tails_noted contents used slot n few known (zero_from contents has are)
  where
    zero_from : (c : Option Image) → IfSome c (HasBlocks count) → IfSome c (λ image. AreUsed (slot_bytes image slot) n) → IfSome c (λ image. IsZeroFrom image slot n)
    zero_from None blocks used_is = tt
    zero_from (Some image) blocks used_is = λ i le lt. zero_block count image (slot_block slot) 16 n i (slot_bytes image slot) blocks fits refl used_is.zero le lt

-- the bytes that a slot has are used so
pub used_there : (contents : Option Image) (slot n : ℕ) (bytes : List ℕ) → IfSome contents (λ image. slot_bytes image slot ≡ bytes) → AreUsed bytes n → IfSome contents (λ image. AreUsed (slot_bytes image slot) n)
used_there None slot n bytes held are = tt
used_there (Some image) slot n bytes held are = subst (λ (l : List ℕ). AreUsed l n) (sym held) are

-- what is known of one slot
pub zero_now : (contents : Option Image) (used : List ℕ) (slot n : ℕ) → n ≡ used_at used slot → AreTailsAt contents used → IfSome contents (λ image. IsZeroFrom image slot n)
zero_now None used slot n same known = tt
zero_now (Some image) used slot n same known = subst (λ (k : ℕ). IsZeroFrom image slot k) (sym same) (known slot)

-- ---- what a write keeps

-- a block that isn't written stays zeros
pub zero_stays : (changed : ℕ → Type 0) (old new : Image) (b : ℕ) → SameBut changed old new → (changed b → ⊥) → IsZeroBlock old b → IsZeroBlock new b
zero_stays changed old new b same other was = (omega (arith, was.0, same.size), same.others b other ∙ was.1)

-- the zeros of a slot stay after its first blocks that are written
zero_after : (old new : Image) (slot n : ℕ) → SameBut (IsInRange (slot_block slot) (slot_block slot + n)) old new → IsZeroFrom old slot n → IsZeroFrom new slot n
zero_after old new slot n same zero =
    λ i le lt. zero_stays (IsInRange (slot_block slot) (slot_block slot + n)) old new (slot_block slot + i) same (λ range. omega (arith, range.1, le)) (zero i le lt)

-- and those of other slots
zero_beside : (old new : Image) (slot n other k : ℕ) → n ≤ 16 → other ≢ slot → SameBut (IsInRange (slot_block slot) (slot_block slot + n)) old new → IsZeroFrom old other k → IsZeroFrom new other k
zero_beside old new slot n other k le apart same zero =
    λ i low lt. zero_stays (IsInRange (slot_block slot) (slot_block slot + n)) old new (slot_block other + i) same (λ range. apart (omega (arith, range.0, range.1, le, lt))) (zero i low lt)

-- fewer zeros are known
zero_fewer : (image : Image) (slot from to : ℕ) → from ≤ to → IsZeroFrom image slot from → IsZeroFrom image slot to
zero_fewer image slot from to le zero = λ i low lt. zero i (omega (arith, le, low)) lt

-- a write of a slot's first blocks, up to those that were known to be zeros
pub zero_written : (old new : Option Image) (used : List ℕ) (slot n : ℕ) → used_at used slot ≤ n → StaysBut (IsInRange (slot_block slot) (slot_block slot + n)) old new → AreTailsAt old used
    → IfSome new (λ image. IsZeroFrom image slot n)
zero_written None None used slot n le same known = tt
zero_written (Some old) (Some new) used slot n le same known =
    zero_after old new slot n same (zero_fewer old slot (used_at used slot) n le (known slot))
zero_written None (Some new) used slot n le same known = absurd same
zero_written (Some old) None used slot n le same known = tt

pub tails_written : (old new : Option Image) (used : List ℕ) (slot n : ℕ) → used_at used slot ≤ n → n ≤ 16 → StaysBut (IsInRange (slot_block slot) (slot_block slot + n)) old new → AreTailsAt old used → AreTailsAt new (set used slot n)
tails_written None None used slot n low le same known = tt
tails_written (Some old) None used slot n low le same known = tt
tails_written None (Some new) used slot n low le same known = absurd same
tails_written (Some old) (Some new) used slot n low le same known = λ other. elim (cases_eq other slot) [
  | inl here ↦ subst (λ (s : ℕ). IsZeroFrom new s (used_at (set used slot n) s)) (sym here)
      (noted_zero new used slot n le (zero_after old new slot n same (zero_fewer old slot (used_at used slot) n low (known slot))))
  | inr apart ↦ subst (λ (k : ℕ). IsZeroFrom new other k) (sym (used_other used slot n other apart))
      (zero_beside old new slot n other (used_at used other) le apart same (known other))
]

-- the whole slot has the bytes whose front was written
pub slot_written : (contents : Option Image) (slot n : ℕ) (bytes : List ℕ) → n ≤ 16 → length bytes ≡ 65536 → AreZeros (drop (n * 4096) bytes)
    → IfSome contents (λ image. IsZeroFrom image slot n) → IfSome contents (λ image. bytes_at image (slot_block slot) n ≡ take (n * 4096) bytes) → IfSome contents (λ image. slot_bytes image slot ≡ bytes)
slot_written None slot n bytes le size zeros_after zero front = tt
slot_written (Some image) slot n bytes le size zeros_after zero front =
    slot_parts image slot n le zero ∙ ap (λ (l : List ℕ). l ++ zeros ((16 - n) * 4096)) front ∙ sym (bytes_parts bytes n le size zeros_after)

-- the whole slot has the bytes whose front was read
pub slot_read : (contents : Option Image) (slot n : ℕ) (into bytes : List ℕ) → n ≤ 16 → IfSome contents (λ image. IsZeroFrom image slot n) → bytes ≡ take (n * 4096) into ++ zeros ((16 - n) * 4096)
    → IfSome contents (λ image. take (n * 4096) into ≡ bytes_at image (slot_block slot) n) → IfSome contents (λ image. slot_bytes image slot ≡ bytes)
slot_read None slot n into bytes le zero filled front = tt
slot_read (Some image) slot n into bytes le zero filled front =
    slot_parts image slot n le zero ∙ ap (λ (l : List ℕ). l ++ zeros ((16 - n) * 4096)) (sym front) ∙ sym filled

-- ---- what is given up

-- one more slot was given up
pub forgot_these : (slots : List ℕ) (used : List ℕ) (i k slot : ℕ) → ((k slot : ℕ) → k < i → get_or slots k slot ≡ slot → used_at used slot ≡ 16) → k < i + 1 → get_or slots k slot ≡ slot → i < length slots
    → used_at (set used (get_or slots i 0) 16) slot ≡ 16
forgot_these slots used i k slot was lt at inside = elim (cases_eq slot (get_or slots i 0)) [
  | inl same ↦ subst (λ (s : ℕ). used_at (set used (get_or slots i 0) 16) s ≡ 16) (sym same) (used_full used (get_or slots i 0))
  | inr apart ↦ used_other used (get_or slots i 0) 16 slot apart ∙ was k slot (earlier (cases_eq k i) apart) at
]
  where
    below : (k i : ℕ) → k < i + 1 → (k ≡ i → ⊥) → k < i
    below k i lt not = elim (cases_lt k i) [ inl l ↦ l | inr g ↦ absurd (not (omega (arith, lt, g))) ]

    earlier : (k ≡ i) ⊎ (k ≡ i → ⊥) → slot ≢ get_or slots i 0 → k < i
    earlier (inl e) apart = absurd (apart (sym at ∙ ap (λ (j : ℕ). get_or slots j slot) e ∙ get_or_default slots i slot 0 inside))
    earlier (inr not) apart = below k i lt not

pub forgot_others : (slots : List ℕ) (first used : List ℕ) (i slot : ℕ) → i < length slots → (used_at used slot ≡ used_at first slot) ⊎ ((used_at used slot ≡ 16) × Contains slots slot)
    → (used_at (set used (get_or slots i 0) 16) slot ≡ used_at first slot) ⊎ ((used_at (set used (get_or slots i 0) 16) slot ≡ 16) × Contains slots slot)
forgot_others slots first used i slot inside was = elim (cases_eq slot (get_or slots i 0)) [
  | inl same ↦ inr (subst (λ (s : ℕ). used_at (set used (get_or slots i 0) 16) s ≡ 16) (sym same) (used_full used (get_or slots i 0)), (i, inside, get_or_default slots i slot 0 inside ∙ sym same))
  | inr apart ↦ elim was [
    | inl stays ↦ inl (used_other used (get_or slots i 0) 16 slot apart ∙ stays)
    | inr gone ↦ inr (used_other used (get_or slots i 0) 16 slot apart ∙ gone.0, gone.1)
  ]
]

-- ---- how much is used

-- one more block was looked at, from the last one on, and it is zeros
pub look_back : (bytes : List ℕ) (zeros : ℕ) → zeros < 16 → AreZeros (take 4096 (drop ((16 - zeros - 1) * 4096) bytes)) → ((j : ℕ) → 16 - zeros ≤ j → j < 16 → AreZeros (take 4096 (drop (j * 4096) bytes)))
    → (j : ℕ) → 16 - (zeros + 1) ≤ j → j < 16 → AreZeros (take 4096 (drop (j * 4096) bytes))
look_back bytes count some here before = λ j low lt. elim (cases_lt j (16 - count)) [
  | inl l ↦ (let same : 16 - count - 1 ≡ j = omega (arith, low, l, some) in subst (λ (k : ℕ). AreZeros (take 4096 (drop (k * 4096) bytes))) same here)
  | inr g ↦ before j g lt
]

-- all were up to one that isn't
pub looked : (bytes : List ℕ) (used : ℕ) → length bytes ≡ 65536 → used ≤ 16 → ((j : ℕ) → used ≤ j → j < 16 → AreZeros (take 4096 (drop (j * 4096) bytes)))
    → (used ≡ 0) ⊎ ¬ AreZeros (take 4096 (drop ((used - 1) * 4096) bytes)) → AreUsed bytes used
looked bytes used size few zero last = record {
  few = few;
  zero = blocks_zeros bytes used (16 - used) (omega (arith, size, few)) (λ j low lt. zero j low (omega (arith, lt, few)));
  last = last;
}

-- more blocks are used than that
pub fewer_used : (bytes : List ℕ) (used n : ℕ) → used ≤ n → AreZeros (drop (used * 4096) bytes) → AreZeros (drop (n * 4096) bytes)
fewer_used bytes used n le zero =
    fewer_zeros bytes (used * 4096) (n * 4096) (omega (arith, le)) zero ∙ ap (λ (k : ℕ). zeros k) (sym (length-drop (n * 4096) bytes))

-- ---- whole slots, by way of their first blocks

-- what was read of a slot's first blocks, and zeros after it, is what it has
pub whole_read : (known : Option Image) (used : List ℕ) (slot n b : ℕ) (into bytes : List ℕ) → n ≡ used_at used slot → b ≡ slot_block slot → length into ≡ 65536 → AreTailsAt known used
    → bytes ≡ take (n * 4096) into ++ zeros (length into - n * 4096) → IfSome known (λ image. take (n * 4096) into ≡ bytes_at image b n) → IfSome known (λ image. slot_bytes image slot ≡ bytes)
whole_read known used slot n b into bytes few at size tails filled front =
    slot_read known slot n into bytes (omega (arith, few)) (zero_now known used slot n few tails)
    (filled ∙ ap (λ (k : ℕ). take (n * 4096) into ++ zeros k) (omega (arith, size, few)))
    (subst (λ (p : ℕ). IfSome known (λ image. take (n * 4096) into ≡ bytes_at image p n)) at front)

-- so many first blocks are written: as many as are used, and those that were
abbrev pub CoversUsed : List ℕ → ℕ → ℕ → ℕ → Type 0
CoversUsed used slot needed n = (needed ≤ n) × (used_at used slot ≤ n) × (n ≤ 16)

-- what was written to a slot's first blocks, and zeros after it, is what it has
pub whole_written : (old new : Option Image) (used : List ℕ) (slot needed n b : ℕ) (bytes : List ℕ) → CoversUsed used slot needed n → b ≡ slot_block slot → length bytes ≡ 65536 → AreZeros (drop (needed * 4096) bytes) → AreTailsAt old used
    → StaysBut (IsInRange b (b + n)) old new → IfSome new (λ image. bytes_at image b n ≡ take (n * 4096) bytes) → IfSome new (λ image. slot_bytes image slot ≡ bytes)
whole_written old new used slot needed n b bytes covers at size zero tails others front =
    slot_written new slot n bytes covers.2 size (fewer_used bytes needed n covers.0 zero)
    (zero_written old new used slot n covers.1 (subst (λ (p : ℕ). StaysBut (IsInRange p (p + n)) old new) at others) tails)
    (subst (λ (p : ℕ). IfSome new (λ image. bytes_at image p n ≡ take (n * 4096) bytes)) at front)

-- and of other slots as much is known as before
pub tails_kept : (old new : Option Image) (used after : List ℕ) (slot needed n b : ℕ) → CoversUsed used slot needed n → b ≡ slot_block slot → after ≡ set used slot n → AreTailsAt old used
    → StaysBut (IsInRange b (b + n)) old new → AreTailsAt new after
tails_kept old new used after slot needed n b covers at now tails others =
    subst (λ (l : List ℕ). AreTailsAt new l) (sym now)
    (tails_written old new used slot n covers.1 covers.2 (subst (λ (p : ℕ). StaysBut (IsInRange p (p + n)) old new) at others) tails)

-- a crash meanwhile leaves what it might have left before, but for the slot
pub slot_torn : {x y : ℕ} {before after : ℕ → Image → Type 0} (left : Image → Type 0) (slot n b : ℕ) → n ≤ 16 → b ≡ slot_block slot → Elapses x y before after (IsBeforeBut (IsInRange b (b + n)) left)
    → Elapses x y before after (IsBeforeBut (IsOfSlot slot) left)
slot_torn left slot n b few at time =
    within (IsBeforeBut (IsInRange b (b + n)) left) (IsBeforeBut (IsOfSlot slot) left) time
    (λ image. before_wider (IsInRange b (b + n)) (IsOfSlot slot) left image (λ i range. (omega (arith, range.0, at), omega (arith, range.1, at, few))))
