-- What a device over a file shows: its size and its counts, and not what the file holds.
use Rattle.std.specs.Prelude.{ℕ, Bool, false, Option, None, Some}
use Rattle.bd_filedev.specs.declared.image_file.ImageFile.{ImageFile}

-- how many whole blocks are attached, how many calls, faults, and failed writes and barriers there
-- were, and whether the last call failed
pub record FileCounts : Type 0 where
  pub blocks : ℕ
  pub calls : ℕ
  pub faults : ℕ
  pub write_faults : ℕ
  pub last_failed : Bool

-- nothing is attached, and there was no call
abbrev pub no_file : FileCounts
no_file = record { blocks = 0; calls = 0; faults = 0; write_faults = 0; last_failed = false }

-- how many blocks an attached file has
abbrev pub blocks_of : Option ImageFile → ℕ
blocks_of None = 0
blocks_of (Some image) = image.blocks
