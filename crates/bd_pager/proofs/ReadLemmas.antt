-- What is read of slots: the node that a slot has, or that it has none.
use Rattle.std.proofs.Common.{◌≡◌, ◌≢◌, ℕ, ◌+◌, ◌-◌, ◌<◌, ◌≤◌, List, Option, None, Some, IfSome, length, replicate, sym, ap, subst, ◌∙◌, arith, length-append}
use Rattle.std.proofs.lemmas.List.{length-replicate}
use Rattle.std.proofs.lemmas.Option.{IfSome_then}
use Rattle.bd_slots.specs.Layout.{slot_block}
use Rattle.bd_device.specs.Blocks.{Image, HasBlocks}
use Rattle.bd_format.specs.Images.{node_bytes, image_of, IsImage, IsDecodedAs}
use Rattle.bd_node.specs.declared.node.Node.{Node}
use Rattle.bd_node.specs.Nodes.{level_of}
use Rattle.bd_node.specs.Shape.{IsShape}
use Rattle.bd_tails.proofs.Blocks.{row_size}
use Rattle.bd_tails.specs.Tails.{slot_bytes}
use Rattle.bd_format.specs.Slots.{HasNode}
use Rattle.bd_pager.specs.Slots.{HasNoNode, IsOfLevel}

-- ---- what a slot has

image_size : (n : Node) → length (node_bytes n) ≤ 65536 → length (image_of n) ≡ 65536
image_size n fits = omega (arith, length-append (node_bytes n) (replicate (65536 - length (node_bytes n)) 0), length-replicate {A = ℕ} (65536 - length (node_bytes n)) 0)

-- a slot past the end of a device has no node
pub past_end : (known : Option Image) (count slot level : ℕ) → ((n : Node) → IsShape n → length (node_bytes n) ≤ 65536) → IfSome known (HasBlocks count)
    → count < slot_block slot + 16 → IfSome known (λ image. HasNoNode image slot level)
past_end known count slot level fits has past = IfSome_then known has (λ image blocks n held.
    let long : length (slot_bytes image slot) ≡ 65536 = ap length held.image_is ∙ image_size n (fits n held.shape) in
    omega (arith, long, row_size count image (slot_block slot) 16 blocks, past))

-- they are the image of no node
pub none_there : (known : Option Image) (bytes : List ℕ) (slot level : ℕ) (found : Option Node) → IfSome known (λ image. slot_bytes image slot ≡ bytes) → IsDecodedAs bytes found → found ≡ None
    → IfSome known (λ image. HasNoNode image slot level)
none_there known bytes slot level found read is none =
    let gone : IsDecodedAs bytes None = subst (λ (o : Option Node). IsDecodedAs bytes o) none is in
    IfSome_then known read (λ image e n held. gone n held.shape (subst (IsImage n) e held.image_is))

-- they are the image of a node of another level
pub other_there : (known : Option Image) (bytes : List ℕ) (slot level : ℕ) (found : Option Node) (m : Node) → ((a b : Node) (bs : List ℕ) → IsShape a → IsShape b → IsImage a bs → IsImage b bs → a ≡ b)
    → IfSome known (λ image. slot_bytes image slot ≡ bytes) → IsDecodedAs bytes found → found ≡ Some m → level_of m ≢ level → IfSome known (λ image. HasNoNode image slot level)
other_there known bytes slot level found m one read is there other =
    let of_m : IsDecodedAs bytes (Some m) = subst (λ (o : Option Node). IsDecodedAs bytes o) there is in
    IfSome_then known read (λ image e n held.
    other (ap level_of (one m n bytes of_m.0 held.shape of_m.1 (subst (IsImage n) e held.image_is)) ∙ held.level_is))

-- they are the image of a node of this level
pub node_there : (known : Option Image) (bytes : List ℕ) (slot level : ℕ) (found : Option Node) (m n : Node) → IfSome known (λ image. slot_bytes image slot ≡ bytes) → IsDecodedAs bytes found → found ≡ Some m
    → n ≡ m → level_of m ≡ level → IfSome known (λ image. HasNode image slot level n)
node_there known bytes slot level found m n read is there same level_is =
    let of_m : IsDecodedAs bytes (Some m) = subst (λ (o : Option Node). IsDecodedAs bytes o) there is in
    subst (λ (v : Node). IfSome known (λ image. HasNode image slot level v)) (sym same)
    (IfSome_then known read (λ image e. record { shape = of_m.0; level_is = level_is; image_is = subst (IsImage m) (sym e) of_m.1 }))

-- and a node of this level, whatever is known
pub of_level_there : (bytes : List ℕ) (level : ℕ) (found : Option Node) (m n : Node) → IsDecodedAs bytes found → found ≡ Some m → n ≡ m → level_of m ≡ level → IsOfLevel level n
of_level_there bytes level found m n is there same level_is =
    let of_m : IsDecodedAs bytes (Some m) = subst (λ (o : Option Node). IsDecodedAs bytes o) there is in
    subst (IsOfLevel level) (sym same) (record { shape = of_m.0; level_is = level_is })
