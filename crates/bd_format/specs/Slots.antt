-- What the slots of an image have.
use Rattle.std.specs.Prelude.{◌≡◌, ◌<◌, ℕ, Option, None, Some}
use Rattle.std.specs.List.{AllByRecursion}
use Rattle.bd_device.specs.Blocks.{Image}
use Rattle.bd_tails.specs.Tails.{slot_bytes}
use Rattle.bd_node.specs.declared.node.Node.{Node}
use Rattle.bd_node.specs.Nodes.{level_of, names}
use Rattle.bd_node.specs.Shape.{IsShape}
use Rattle.bd_format.specs.Images.{IsImage}

-- the slot has this well-formed node, which is of this level
pub record HasNode (image : Image) (slot level : ℕ) (n : Node) : Type 0 where
  pub shape : IsShape n
  pub level_is : level_of n ≡ level
  pub image_is : IsImage n (slot_bytes image slot)

-- it is a level below this one
abbrev pub IsLowerLevel : ℕ → Option ℕ → Type 0
IsLowerLevel level None = ⊥
IsLowerLevel level (Some lower) = lower < level

-- the slot has this node, which is of this level and names nodes of lower levels alone, where this
-- says the level of each id that has a node
pub record IsGoodNode (image : Image) (levels : ℕ → Option ℕ) (slot level : ℕ) (n : Node)
    : Type 0 where
  pub held : HasNode image slot level n
  pub lower : AllByRecursion (λ c. IsLowerLevel level (levels c)) (names n)

-- the slot has none
abbrev pub HasNoGoodNode : Image → (ℕ → Option ℕ) → ℕ → ℕ → Type 0
HasNoGoodNode image levels slot level = (n : Node) → ¬ IsGoodNode image levels slot level n
