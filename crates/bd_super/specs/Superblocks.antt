-- Superblocks: what they may hold, and the body that encodes them.
use Rattle.std.specs.Prelude.{◌≡◌, ◌≢◌, ◌-◌, ◌*◌, ◌^◌, ◌<◌, ◌≤◌, ℕ, List, [], ◌∷◌, ◌++◌, length, Option, Some, None}
use Rattle.std.specs.Int.{w32, w64}
use Rattle.std.specs.List.{flat_map}
use Rattle.bd_limits.specs.Limits.{block_size}
use Rattle.bd_limits.specs.Places.{first_log_block, second_log_block}
use Rattle.bd_slots.specs.Layout.{IsSlotCount, IsTablePlace}
use Rattle.bd_wire.specs.Numbers.{be}
use Rattle.bd_wire.specs.Text.{zeros}
use Rattle.bd_super.specs.declared.superblock.Half.{Half}
use Rattle.bd_super.specs.declared.superblock.Half.TheVariants.{A, B}
use Rattle.bd_super.specs.declared.superblock.Version.{Version}
use Rattle.bd_super.specs.declared.superblock.Version.TheVariants.{One, Two}
use Rattle.bd_super.specs.declared.superblock.Super.{Super}

-- the block that says whether a half's superblock is committed
abbrev pub commit_block : Half → ℕ
commit_block A = 0
commit_block B = 2

-- the block of a half's superblock
abbrev pub body_block : Half → ℕ
body_block A = 1
body_block B = 3

-- the first block of a half's log
abbrev pub log_block : Half → ℕ
log_block A = first_log_block
log_block B = second_log_block

-- the other half
abbrev pub other : Half → Half
other A = B
other B = A

-- an image has 24 to 65,536 slots, of which its table has some; the first epoch is 1
pub record IsSuper (s : Super) : Type 0 where
  pub slots : IsSlotCount s.slots
  pub epoch : 1 ≤ s.epoch
  pub last_epoch : s.epoch < 2 ^ 64
  pub count : s.count < 2 ^ 64
  pub table : IsTablePlace s.slots s.table

-- `BDSUPER1`
abbrev pub super_magic : List ℕ
super_magic = 66 ∷ 68 ∷ 83 ∷ 85 ∷ 80 ∷ 69 ∷ 82 ∷ 49 ∷ []

-- the number of a version
abbrev pub version_number : Version → ℕ
version_number One = 1
version_number Two = 2

-- the version of a superblock that is written today
abbrev pub written_version : Version
written_version = Two

-- the magic, the version, the image's slots, the epoch, the count and the number of the table's
-- slots
abbrev pub super_head : Version → ℕ → ℕ → ℕ → ℕ → List ℕ
super_head version slots epoch count table =
    super_magic ++ be w32 (version_number version)
    ++ be w32 slots ++ be w64 epoch ++ be w64 count ++ be w32 table

-- its bytes
abbrev pub super_head_size : ℕ
super_head_size = 36

-- the bytes of a slot's number
abbrev pub slot_number_size : ℕ
slot_number_size = 4

-- such fields are as wide as their numbers
abbrev pub FitsSuperHead : ℕ → ℕ → ℕ → ℕ → Type 0
FitsSuperHead slots epoch count table =
    (slots < 2 ^ 32) × (epoch < 2 ^ 64) × (count < 2 ^ 64) × (table < 2 ^ 32)

-- the head, the table's slots, and zeros to the end of the block
abbrev pub super_body : Super → List ℕ
super_body s =
    super_head s.version s.slots s.epoch s.count (length s.table) ++ flat_map (be w32) s.table
    ++ zeros (block_size - super_head_size - slot_number_size * length s.table)

-- the block is the body of the half's superblock, or of none
abbrev pub IsSuperIn : Half → List ℕ → Option Super → Type 0
IsSuperIn half bytes (Some s) = (s.half ≡ half) × IsSuper s × (bytes ≡ super_body s)
IsSuperIn half bytes None = (s : Super) → IsSuper s → bytes ≢ super_body s
