-- How nodes are found.
use Rattle.std.proofs.Common.{◌≡◌, ℕ, Bool, false, true, List, Option, None, Some, IfSome, Result, Ok, Err, IfOk, refl, subst, ap, ◌∙◌}
use Rattle.std.specs.Prelude.{IsSome}
use Rattle.std.proofs.lemmas.Option.{none-some}
use Rattle.bd_device.specs.Blocks.{Image}
use Rattle.bd_format.specs.Images.{IsImage}
use Rattle.bd_format.specs.Decoding.{node_in}
use Rattle.bd_node.specs.declared.node.Node.{Node}
use Rattle.bd_node.specs.Shape.{IsShape}
use Rattle.bd_pager.specs.declared.place.Place.{Place}
use Rattle.bd_pager.specs.declared.place.Place.TheVariants.{Memory, Slot}
use Rattle.bd_pager.specs.declared.place.Spot.{Spot}
use Rattle.bd_tails.specs.Tails.{slot_bytes}
use Rattle.bd_format.specs.Slots.{HasNode}
use Rattle.bd_pager.specs.Slots.{IsOfLevel}
use Rattle.bd_pager.specs.Places.{Spots, copy_at, copy_in, level_in, node_at, node_of, told, IsAlone, IsRead, IsReadAt, ArePlaced}

-- what was read of a node that is in a slot alone, since the device was lent last
read_alone : (contents : Option Image) (slot level : ℕ) (spot : Option Spot) (n : Node) → IsAlone slot level spot → IsRead contents false spot n
    → IsOfLevel level n × IfSome contents (λ image. HasNode image slot level n)
read_alone contents slot level None n alone read = absurd alone
read_alone contents slot level (Some s) n alone read =
    let at : IsReadAt contents false s.level (Slot slot None) n = subst (λ (p : Place). IsReadAt contents false s.level p n) alone.1 read in
    (subst (λ (l : ℕ). IsOfLevel l n) alone.0 at.0, subst (λ (l : ℕ). IfSome contents (λ image. HasNode image slot l n)) alone.0 (at.1 refl))

-- the same of a reader whose cache was emptied where the device was lent
pub trusted_read : (contents trusted : Option Image) (is_lent : Bool) (spot kept : Option Spot) (slot level : ℕ) (n : Node) → trusted ≡ contents → is_lent ≡ false → kept ≡ spot → IsAlone slot level spot
    → IsRead trusted is_lent kept n → IsOfLevel level n × IfSome contents (λ image. HasNode image slot level n)
trusted_read contents trusted is_lent spot kept slot level n same not_lent stays alone read =
    read_alone contents slot level spot n alone
    (subst (λ (c : Option Image). IsRead c false spot n) same
    (subst (λ (b : Bool). IsRead trusted b spot n) not_lent
    (subst (λ (s : Option Spot). IsRead trusted is_lent s n) stays read)))

-- the copy in memory is of its level
pub copy_of_level : (spots : Spots) (id : ℕ) (n : Node) → ArePlaced spots → copy_in (spots id) ≡ Some n → IsOfLevel (level_in (spots id)) n
copy_of_level spots id n placed is =
    (let each : (o : Option Spot) → spots id ≡ o → copy_in o ≡ Some n → IsOfLevel (level_in o) n =
    λ o. elim o as (λ v. spots id ≡ v → copy_in v ≡ Some n → IsOfLevel (level_in v) n) [
      | None ↦ λ there e. absurd (none-some n e)
      | Some s ↦ λ there e. subst (λ (v : Option Node). IfSome v (IsOfLevel s.level)) e (placed id s there)
    ] in each (spots id) refl is)

-- what was read isn't of a node that is in memory
pub copied_unread : (contents : Option Image) (is_lent : Bool) (level : ℕ) (p : Place) (n m : Node) → copy_at p ≡ Some n → IsReadAt contents is_lent level p m → ⊥
copied_unread contents is_lent level (Memory node slot) n m copy read = read
copied_unread contents is_lent level (Slot slot None) n m copy read = none-some n copy
copied_unread contents is_lent level (Slot slot (Some node)) n m copy read = read

-- the node that a slot has alone is the node that is there
alone_is_there : (image : Image) (slot level : ℕ) (spot : Option Spot) (n : Node) → ((m : Node) (bytes : List ℕ) → IsShape m → IsImage m bytes → node_in bytes ≡ Some m)
    → IsAlone slot level spot → HasNode image slot level n → node_of image spot ≡ Some n
alone_is_there image slot level None n decoded alone has = absurd alone
alone_is_there image slot level (Some s) n decoded alone has =
    ap (λ (p : Place). node_at image p) alone.1 ∙ decoded n (slot_bytes image slot) has.shape has.image_is

pub loaded_is_there : {T E : Type 0} (value : T → Node) (contents : Option Image) (slot level : ℕ) (spot : Option Spot) (r : Result T E)
    → ((m : Node) (bytes : List ℕ) → IsShape m → IsImage m bytes → node_in bytes ≡ Some m) → IsAlone slot level spot
    → IfSome contents (λ image. IfOk r (λ x. HasNode image slot level (value x))) → IsSome contents → IfOk r (λ x. node_of (told contents) spot ≡ Some (value x))
loaded_is_there value None slot level spot (Ok x) decoded alone held known = absurd (let e : false ≡ true = known in cc)
loaded_is_there value (Some image) slot level spot (Ok x) decoded alone held known = alone_is_there image slot level spot (value x) decoded alone held
loaded_is_there value contents slot level spot (Err e) decoded alone held known = tt
