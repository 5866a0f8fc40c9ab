-- What the version of an image says of its tree and of its log.
use Rattle.std.specs.Prelude.{◌≡◌, ◌<◌, ℕ, Bool, true, false}
use Rattle.std.specs.FinMap.{get}
use Rattle.bd_command.specs.Log.{IsLogged}
use Rattle.bd_command.specs.declared.Command.{Command}
use Rattle.bd_command.specs.declared.Command.TheVariants.{Mkdir, Create, Write, Truncate, Remove, Rename, Clone, Chmod, Read, Stat, List as Ls}
use Rattle.bd_model.specs.Tree.{Path, Tree}
use Rattle.bd_model.specs.Step.{mode_at}
use Rattle.bd_super.specs.Superblocks.{version_number}
use Rattle.bd_super.specs.declared.superblock.Super.{Super}

-- the version of the image that starts from a superblock
abbrev pub version_of : Super → ℕ
version_of s = version_number s.version

-- the first version with modes
abbrev pub mode_version : ℕ
mode_version = 2

-- each mode is 0, so that no record has one
abbrev pub HasNoModes : Tree → Type 0
HasNoModes t = (path : Path) → mode_at (get t path) ≡ 0

-- a tree of an image of this version: before modes there are none
abbrev pub IsOfVersion : ℕ → Tree → Type 0
IsOfVersion version t = version < mode_version → HasNoModes t

-- the command sets a mode
abbrev pub sets_mode : Command → Bool
sets_mode (Mkdir path) = false
sets_mode (Create path) = false
sets_mode (Write path off bytes) = false
sets_mode (Truncate path len) = false
sets_mode (Remove path) = false
sets_mode (Rename a b) = false
sets_mode (Clone a b) = false
sets_mode (Chmod path mode) = true
sets_mode (Read path off len) = false
sets_mode (Stat path) = false
sets_mode (Ls path after) = false

-- the commands that have a record in the log of an image of this version: before modes none that
-- sets one
abbrev pub IsLoggedIn : ℕ → Command → Type 0
IsLoggedIn version c = IsLogged c × (version < mode_version → sets_mode c ≡ false)
