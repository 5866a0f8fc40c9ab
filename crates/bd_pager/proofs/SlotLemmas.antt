-- The bytes of slots: where they stay.
use Rattle.std.proofs.Common.{◌≡◌, ℕ, ◌+◌, ◌-◌, ◌<◌, ◌≤◌, List, [], Bool, true, false, Option, None, Some, IfSome, Result, Ok, Err, OnOk, length, take, drop, min, refl, sym, ap, subst, ◌∙◌, arith}
use Rattle.std.specs.Prelude.{IsSome, slice_get}
use Rattle.std.specs.List.{concat}
use Rattle.std.proofs.lemmas.Bool.{true≢false}
use Rattle.std.proofs.lemmas.List.{length-drop, length-take, ext_get_or, get_or-take, get_or-drop}
use Rattle.std.proofs.lemmas.Option.{IfSome_then}
use Rattle.bd_slots.specs.Layout.{slot_block}
use Rattle.bd_slots.specs.Slots.{IsHeld}
use Rattle.bd_device.specs.Blocks.{Image}
use Rattle.bd_device.specs.Changes.{SameBut, IsBeforeBut, IsInRange}
use Rattle.bd_device.specs.Moments.{Elapses}
use Rattle.bd_device.proofs.Moments.{goes_on}
use Rattle.bd_device.proofs.Changes.{same_then, same_wider, before_now}
use Rattle.bd_device.specs.Commits.{block_at}
use Rattle.bd_format.specs.Images.{IsImage}
use Rattle.bd_format.specs.Decoding.{node_in}
use Rattle.bd_format.proofs.Decodes.{decodes, decoded}
use Rattle.bd_node.specs.declared.node.Node.{Node}
use Rattle.bd_node.specs.Nodes.{level_of}
use Rattle.bd_node.specs.Shape.{IsShape}
use Rattle.bd_pager.specs.Places.{told}
use Rattle.bd_tails.specs.Tails.{slot_bytes, IsOfSlot}
use Rattle.bd_format.specs.Slots.{HasNode}
use Rattle.bd_pager.specs.Slots.{IsOfLevel, IsBadSlot, IsSpare}

-- ---- where the bytes stay

-- blocks in a row are the same where none of them has changed
row_same : (changed : ℕ → Type 0) (old new : Image) (b n : ℕ) → SameBut changed old new → ((i : ℕ) → b ≤ i → i < b + n → ¬ changed i)
    → take n (drop b new) ≡ take n (drop b old)
row_same changed old new b n same apart =
    let size : length (take n (drop b new)) ≡ length (take n (drop b old)) =
    length-take n (drop b new) ∙ ap (min n) (length-drop b new ∙ ap (λ k. k - b) same.size ∙ sym (length-drop b old)) ∙ sym (length-take n (drop b old)) in
    ext_get_or [] (take n (drop b new)) (take n (drop b old)) size
    (λ i lt.
    let below : i < n = omega (arith, lt, length-take n (drop b new)) in
    get_or-take n (drop b new) i [] below ∙ get_or-drop b new i []
    ∙ same.others (b + i) (apart (b + i) (omega arith) (omega arith))
    ∙ sym (get_or-drop b old i []) ∙ sym (get_or-take n (drop b old) i [] below))

-- a slot keeps its bytes where none of its blocks has changed
pub slot_same : (changed : ℕ → Type 0) (old new : Image) (slot : ℕ) → SameBut changed old new → ((i : ℕ) → IsOfSlot slot i → ¬ changed i)
    → slot_bytes new slot ≡ slot_bytes old slot
slot_same changed old new slot same apart = ap concat (row_same changed old new (slot_block slot) 16 same (λ i low high. apart i (low, high)))

-- a block is one of one slot alone
pub one_slot : (slot other i : ℕ) → IsOfSlot slot i → IsOfSlot other i → slot ≡ other
one_slot slot other i own his = omega (arith, own.0, own.1, his.0, his.1)

pub before_same : (from to : ℕ) (old new : Image) → to ≤ 132 → SameBut (IsInRange from to) old new → (slot : ℕ) → slot_bytes new slot ≡ slot_bytes old slot
before_same from to old new low same slot =
    slot_same (IsInRange from to) old new slot same (λ i own range. omega (arith, low, own.0, range.1))

pub held_same : (spare : List Bool) (old new : Image) → SameBut (IsSpare spare) old new → (slot : ℕ) → IsHeld spare slot → slot_bytes new slot ≡ slot_bytes old slot
held_same spare old new same slot held =
    slot_same (IsSpare spare) old new slot same
    (λ i own spared.
    let one : slot ≡ spared.0 = one_slot slot spared.0 i own spared.2 in
    let free : slice_get spare slot ≡ Some true = subst (λ (s : ℕ). slice_get spare s ≡ Some true) (sym one) spared.1 in
    true≢false (let e : true ≡ false = cc in e))

pub front_same : (spare : List Bool) (old new : Image) → SameBut (IsSpare spare) old new → (b : ℕ) → b < 132 → block_at new b ≡ block_at old b
front_same spare old new same b low = same.others b (λ spared. omega (arith, low, spared.2.0))

-- ---- slots that are written

-- a write more, after which a crash may leave what it may have left before but for its slot
pub written_then : {a b c : ℕ} {first mid last : ℕ → Image → Type 0} (all own : ℕ → Type 0) → ((i : ℕ) → own i → all i)
    → Elapses a b first mid (IsBeforeBut all (first a))
    → ((t u : ℕ) (image : Image) → t ≤ u → mid u image → mid t image)
    → Elapses b c mid last (IsBeforeBut own (mid b))
    → Elapses a c first last (IsBeforeBut all (first a))
written_then {a} {b} {c} {first} {mid} {last} all own wider so_far earlier time =
    goes_on (IsBeforeBut all (first a)) (IsBeforeBut own (mid b)) so_far time
    (λ image here.
    let was : IsBeforeBut all (first a) here.0 = before_now all so_far earlier here.0 here.1 in
    (was.0, was.1, same_then was.2 (same_wider own all wider here.2)))

-- a slot has the node whose image was written to it
pub written_has : {T E : Type 0} (contents : Option Image) (slot : ℕ) (n : Node) (bytes : List ℕ) (r : Result T E) → IsShape n → IsImage n bytes
    → OnOk r (IfSome contents (λ image. slot_bytes image slot ≡ bytes)) → OnOk r (IfSome contents (λ image. HasNode image slot (level_of n) n))
written_has contents slot n bytes (Ok x) shape is h =
    IfSome_then contents h (λ image e. record { shape = shape; level_is = refl; image_is = subst (IsImage n) (sym e) is })
written_has contents slot n bytes (Err x) shape is h = tt

-- ---- bad slots

-- a slot with a node of its level is none
pub not_bad : (contents : Option Image) (slot level b : ℕ) (n : Node) → IsSome contents → node_in (slot_bytes (told contents) slot) ≡ Some n → IsOfLevel level n → IsBadSlot contents slot level b → ⊥
not_bad None slot level b n some is of_level bad = let e : false ≡ true = some in cc
not_bad (Some image) slot level b n some is of_level bad =
    bad.1 n (record { shape = of_level.shape; level_is = of_level.level_is; image_is = decoded n (slot_bytes image slot) is })

-- and none becomes one whose bytes encode what they did
pub still_bad : (old new : Option Image) (slot level there after b : ℕ) → IsSome old → IsSome new → after ≡ level → there ≡ slot → node_in (slot_bytes (told new) there) ≡ node_in (slot_bytes (told old) slot) → IsBadSlot new there after b → IsBadSlot old slot level b
still_bad None new slot level there after b was now levels at same bad = absurd (let e : false ≡ true = was in cc)
still_bad (Some old) None slot level there after b was now levels at same bad = absurd (let e : false ≡ true = now in cc)
still_bad (Some old) (Some new) slot level there after b was now levels at same bad = (
  bad.0 ∙ ap slot_block at,
  λ n has. bad.1 n (record {
    shape = has.shape;
    level_is = has.level_is ∙ sym levels;
    image_is = decoded n (slot_bytes new there) (same ∙ decodes n (slot_bytes old slot) has.shape has.image_is);
  }),
)
