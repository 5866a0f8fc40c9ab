-- What a pager has of slots, where only blocks before them change.
use Rattle.std.proofs.Common.{◌≡◌, ℕ, ◌≤◌, ◌+◌, inl, inr, Bool, false, Option, None, Some, IfSome, refl, sym, ap, subst, ◌∙◌, arith}
use Rattle.std.specs.Prelude.{IsSome}
use Rattle.bd_slots.specs.Layout.{slot_block}
use Rattle.bd_device.specs.Blocks.{Image}
use Rattle.bd_device.specs.Changes.{StaysBut, IsInRange}
use Rattle.bd_device.specs.declared.device.Device.{Ghosts}
use Rattle.bd_cache.specs.declared.cache.NodeCache.{NodeCache}
use Rattle.bd_format.specs.Decoding.{node_in}
use Rattle.bd_format.specs.Images.{IsImage}
use Rattle.bd_node.specs.declared.node.Node.{Node}
use Rattle.bd_tails.specs.Tails.{AreTails, slot_bytes}
use Rattle.bd_tails.specs.declared.tails.Tails.{Tails}
use Rattle.bd_tails.proofs.Known.{zero_stays}
use Rattle.bd_pager.specs.declared.place.Place.{Place}
use Rattle.bd_pager.specs.declared.place.Place.TheVariants.{Memory, Slot}
use Rattle.bd_pager.specs.declared.place.Spot.{Spot}
use Rattle.bd_format.specs.Slots.{HasNode}
use Rattle.bd_pager.specs.Slots.{HasNoNode, IsBadSlot}
use Rattle.bd_pager.specs.Places.{Spots, node_at, node_of, told, nodes_at, IsReadAt, IsRead, AreCached, IsBadPlace, IsBadSpot}
use Rattle.bd_pager.specs.Pagers.{Paged, spots_of, IsRightPlace, IsKnownOver}
use Rattle.bd_super.specs.Published.{IsOfHalf}
use Rattle.bd_super.specs.declared.superblock.Half.{Half}
use Rattle.bd_log.specs.Logs.{IsLogHalf}
use Rattle.bd_image.proofs.Checkpoints.{not_slot}
use Rattle.bd_image.proofs.Frame.{bytes_same}
use Rattle.bd_checkpoint.specs.Surviving.{IsLow, SurvivesOn}

-- a pager whose device was lent, and which was told that its slots stayed
pub taken_back : {D : Type 0} (old new : Paged D) (d : D) → old.is_lent ≡ false → new ≡ record old { dev = d; is_lent = false } → new ≡ record old { dev = new.dev }
taken_back {D} old new d lent same =
    same ∙ ap (λ (b : Bool). let p : Paged D = record old { dev = d; is_lent = b } in p) (sym lent)
    ∙ ap (λ (x : D). let p : Paged D = record old { dev = x } in p) (sym (ap (λ (p : Paged D). p.dev) same))

-- where some blocks change, no others do
pub stays_wider : (changed wider : ℕ → Type 0) (known now : Option Image) → ((b : ℕ) → ¬ wider b → ¬ changed b) → StaysBut changed known now → StaysBut wider known now
stays_wider changed wider None None out same = same
stays_wider changed wider (Some old) (Some new) out same = record { size = same.size; others = λ b not. same.others b (out b not) }
stays_wider changed wider None (Some new) out same = absurd same
stays_wider changed wider (Some old) None out same = absurd same

pub stays_both : (changed : ℕ → Type 0) (known mid now : Option Image) → StaysBut changed known mid → StaysBut changed mid now → StaysBut changed known now
stays_both changed None None None first second = second
stays_both changed (Some old) (Some mid) (Some new) first second =
    record { size = second.size ∙ first.size; others = λ b not. second.others b not ∙ first.others b not }
stays_both changed None (Some mid) now first second = absurd first
stays_both changed (Some old) None now first second = absurd first
stays_both changed None None (Some new) first second = absurd second
stays_both changed (Some old) (Some mid) None first second = absurd second

pub stays_same : (changed : ℕ → Type 0) (known : Option Image) → StaysBut changed known known
stays_same changed None = tt
stays_same changed (Some image) = record { size = refl; others = λ b not. refl }

-- where some blocks change, no more is told than before
pub told_before : (changed : ℕ → Type 0) (known now : Option Image) → StaysBut changed known now → IsSome now → IsSome known
told_before changed None None same is = is
told_before changed (Some old) (Some new) same is = is
told_before changed None (Some new) same is = absurd same
told_before changed (Some old) None same is = absurd same

-- no block of a slot is one of these
abbrev pub AreBefore : (ℕ → Type 0) → Type 0
AreBefore changed = (b : ℕ) → 132 ≤ b → ¬ changed b

module _ (changed : ℕ → Type 0) (low : AreBefore changed) where
  slot_same : (known now : Option Image) → StaysBut changed known now → (slot : ℕ) → slot_bytes (told now) slot ≡ slot_bytes (told known) slot
  slot_same None None same slot = refl
  slot_same (Some old) (Some new) same slot = bytes_same old new (slot_block slot) 16 same.size (λ i from to. same.others i (low i (omega (arith, from))))
  slot_same None (Some new) same slot = absurd same
  slot_same (Some old) None same slot = absurd same

  told_same : (known now : Option Image) → StaysBut changed known now → IsSome known → IsSome now
  told_same None None same is = is
  told_same (Some old) (Some new) same is = is
  told_same None (Some new) same is = absurd same
  told_same (Some old) None same is = absurd same

  -- ---- nodes

  place_same : (known now : Option Image) → StaysBut changed known now → (p : Place) → node_at (told now) p ≡ node_at (told known) p
  place_same known now same (Memory node slot) = refl
  place_same known now same (Slot slot None) = ap node_in (slot_same known now same slot)
  place_same known now same (Slot slot (Some node)) = refl

  spot_same : (known now : Option Image) → StaysBut changed known now → (s : Option Spot) → node_of (told now) s ≡ node_of (told known) s
  spot_same known now same None = refl
  spot_same known now same (Some s) = place_same known now same s.place

  nodes_same : (known now : Option Image) (spots : Spots) → StaysBut changed known now → nodes_at now spots ≡ nodes_at known spots
  nodes_same known now spots same = λ i id. spot_same known now same (spots id) i

  right_same : (known now : Option Image) → StaysBut changed known now → (p : Place) → IsRightPlace (told known) p → IsRightPlace (told now) p
  right_same known now same (Memory node slot) h = tt
  right_same known now same (Slot slot None) h = tt
  right_same known now same (Slot slot (Some node)) h = ap node_in (slot_same known now same slot) ∙ h

  known_same : (known now : Option Image) (spots : Spots) → StaysBut changed known now → IsKnownOver known spots → IsKnownOver now spots
  known_same known now spots same h = record {
    contents_told = told_same known now same h.contents_told;
    right = λ id s there. right_same known now same s.place (h.right id s there);
  }

  -- ---- what is bad

  no_node_before : (old new : Image) (slot level : ℕ) → slot_bytes new slot ≡ slot_bytes old slot → HasNoNode new slot level → HasNoNode old slot level
  no_node_before old new slot level same none n h =
      none n (record { shape = h.shape; level_is = h.level_is; image_is = subst (IsImage n) (sym same) h.image_is })

  bad_slot_before : (known now : Option Image) (slot level b : ℕ) → StaysBut changed known now → IsBadSlot now slot level b → IsBadSlot known slot level b
  bad_slot_before None None slot level b same h = h
  bad_slot_before (Some old) (Some new) slot level b same h = (h.0, no_node_before old new slot level (slot_same (Some old) (Some new) same slot) h.1)
  bad_slot_before None (Some new) slot level b same h = absurd same
  bad_slot_before (Some old) None slot level b same h = absurd same

  bad_place_before : (known now : Option Image) (level b : ℕ) (p : Place) → StaysBut changed known now → IsBadPlace now level p b → IsBadPlace known level p b
  bad_place_before known now level b (Memory node slot) same h = h
  bad_place_before known now level b (Slot slot (Some node)) same h = h
  bad_place_before known now level b (Slot slot None) same h = bad_slot_before known now slot level b same h

  bad_spot_before : (known now : Option Image) (b : ℕ) (s : Option Spot) → StaysBut changed known now → IsBadSpot now s b → IsBadSpot known s b
  bad_spot_before known now b None same h = h
  bad_spot_before known now b (Some s) same h = bad_place_before known now s.level b s.place same h

  -- ---- what was read

  node_same : (known now : Option Image) (slot level : ℕ) (n : Node) → StaysBut changed known now → IfSome known (λ image. HasNode image slot level n) → IfSome now (λ image. HasNode image slot level n)
  node_same None None slot level n same h = tt
  node_same (Some old) (Some new) slot level n same h =
      record { shape = h.shape; level_is = h.level_is; image_is = subst (IsImage n) (sym (slot_same (Some old) (Some new) same slot)) h.image_is }
  node_same None (Some new) slot level n same h = absurd same
  node_same (Some old) None slot level n same h = tt

  read_at_same : (known now : Option Image) (level : ℕ) (p : Place) (n : Node) → StaysBut changed known now → IsReadAt known false level p n → IsReadAt now false level p n
  read_at_same known now level (Memory node slot) n same h = absurd h
  read_at_same known now level (Slot slot (Some node)) n same h = absurd h
  read_at_same known now level (Slot slot None) n same h = (h.0, λ e. node_same known now slot level n same (h.1 e))

  read_same : (known now : Option Image) (s : Option Spot) (n : Node) → StaysBut changed known now → IsRead known false s n → IsRead now false s n
  read_same known now None n same h = absurd h
  read_same known now (Some s) n same h = read_at_same known now s.level s.place n same h

  pub cached_same : (known now : Option Image) (is_lent : Bool) (spots : Spots) (cache : NodeCache) → is_lent ≡ false → StaysBut changed known now → AreCached known is_lent spots cache → AreCached now false spots cache
  cached_same known now is_lent spots cache lent same h =
      λ id n kept. read_same known now (spots id) n same (subst (λ (b : Bool). IsRead known b (spots id) n) lent (h id n kept))

  -- ---- what is known of tails

  pub tails_same : (known now : Option Image) (is_lent : Bool) (tails : Tails) → is_lent ≡ false → StaysBut changed known now → (is_lent ≡ false → AreTails known tails) → AreTails now tails
  tails_same None None is_lent tails lent same h = tt
  tails_same (Some old) None is_lent tails lent same h = tt
  tails_same None (Some new) is_lent tails lent same h = absurd same
  tails_same (Some old) (Some new) is_lent tails lent same h = λ slot i le lt.
      zero_stays changed old new (slot_block slot + i) same (low (slot_block slot + i) (omega arith)) (h lent slot i le lt)

  -- ---- a pager

  pub survives : {D : Type 0} (g : Ghosts D) (old new : Paged D) → new ≡ record old { dev = new.dev } → StaysBut changed (g.contents old.dev) (g.contents new.dev) → SurvivesOn g old new
  survives {D} g old new rest same =
      let at : Paged D = record old { dev = new.dev } in
      record {
        rest = rest;
        elsewhere = stays_wider changed IsLow (g.contents old.dev) (g.contents new.dev) (λ b high is. low b (omega (arith, high)) is) same;
        nodes = ap (λ (p : Paged D). nodes_at (g.contents new.dev) (spots_of p)) rest ∙ nodes_same (g.contents old.dev) (g.contents new.dev) (spots_of old) same;
        known = λ was. subst (λ (p : Paged D). IsKnownOver (g.contents new.dev) (spots_of p)) (sym rest) (known_same (g.contents old.dev) (g.contents new.dev) (spots_of old) same was);
        bad = λ id b h. bad_spot_before (g.contents old.dev) (g.contents new.dev) b (spots_of old id) same
            (subst (λ (p : Paged D). IsBadSpot (g.contents new.dev) (spots_of p id) b) rest h);
      }

-- ---- blocks before the slots

pub log_before : (first : ℕ) → IsLogHalf first → AreBefore (IsInRange first (first + 64))
log_before first (inl e) b high range = omega (arith, high, range.1, e)
log_before first (inr e) b high range = omega (arith, high, range.1, e)

pub super_before : (half : Half) → AreBefore (IsOfHalf half)
super_before half b high is = not_slot half b high is
