-- What the slots of an image have, and what they don't.
use Rattle.std.specs.Prelude.{◌≡◌, ℕ, List, Bool, Option, IfSome}
use Rattle.bd_slots.specs.Layout.{slot_block}
use Rattle.bd_slots.specs.Slots.{IsFree}
use Rattle.bd_device.specs.Blocks.{Image}
use Rattle.bd_tails.specs.Tails.{IsOfSlot}
use Rattle.bd_format.specs.Slots.{HasNode}
use Rattle.bd_node.specs.declared.node.Node.{Node}
use Rattle.bd_node.specs.Nodes.{level_of}
use Rattle.bd_node.specs.Shape.{IsShape}

-- the slot has no well-formed node of this level
abbrev pub HasNoNode : Image → ℕ → ℕ → Type 0
HasNoNode image slot level = (n : Node) → ¬ HasNode image slot level n

-- a well-formed node of this level
pub record IsOfLevel (level : ℕ) (n : Node) : Type 0 where
  pub shape : IsShape n
  pub level_is : level_of n ≡ level

-- the first block of a slot without a well-formed node of this level, as far as that is known
abbrev pub IsBadSlot : Option Image → ℕ → ℕ → ℕ → Type 0
IsBadSlot contents slot level b =
    (b ≡ slot_block slot) × IfSome contents (λ image. HasNoNode image slot level)

-- the block is one of a spare slot
abbrev pub IsSpare : List Bool → ℕ → Type 0
IsSpare spare b = (slot : ℕ) × IsFree spare slot × IsOfSlot slot b
