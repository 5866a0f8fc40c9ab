-- Trees of key maps, and what of a key map stands below a key.
use Rattle.std.specs.Prelude.{◌≡◌, ℕ, Bool, false, if◌then◌else◌, List, [], ◌∷◌, ◌++◌, length, None}
use Rattle.std.specs.Ordering.{is_lt}
use Rattle.std.specs.FinMap.{get}
use Rattle.bd_keys.specs.Keys.{key_cmp}
use Rattle.bd_model.specs.Tree.{Path, Tree, IsTree}
use Rattle.bd_model.specs.Step.{mode_at}
use Rattle.bd_message.specs.KeyMaps.{At, IsNextEntry}
use Rattle.bd_represent.specs.Represents.{Represents}
use Rattle.bd_scan.specs.declared.scan.Found.{Found}
use Rattle.bd_scan.specs.Scans.{AreNext}

-- a mode is 0 where there are no modes
abbrev pub AllowsMode : Bool → ℕ → Type 0
AllowsMode has_modes mode = has_modes ≡ false → mode ≡ 0

-- so is each mode of a tree
abbrev pub AllowsModes : Bool → Tree → Type 0
AllowsModes has_modes t = (path : Path) → AllowsMode has_modes (mode_at (get t path))

-- the map represents the tree, whose modes are 0 where there are no modes
pub record IsTreeOf (has_modes : Bool) (at : At) (t : Tree) : Type 0 where
  pub tree : IsTree t
  pub modes : AllowsModes has_modes t
  pub represents : Represents at t

-- what stands at the keys is what a tree has there
abbrev pub HasTree : Bool → At → Type 0
HasTree has_modes at = (t : Tree) × IsTreeOf has_modes at t

-- no tree has it
abbrev pub HasNoTree : Bool → At → Type 0
HasNoTree has_modes at = (t : Tree) → ¬ IsTreeOf has_modes at t

-- what stands at the keys below one, and nothing at the others
abbrev pub before : At → List ℕ → At
before at low k = if is_lt (key_cmp k low) then at k else None

-- the key after the last one that was found from a key on
abbrev pub key_past : List ℕ → List Found → List ℕ
key_past from [] = from
key_past from (f ∷ fs) = key_past (f.key ++ 0 ∷ []) fs

-- so many keys are the first ones, and the given one is the next after the last of them
pub record HasBelow (at : At) (keys : ℕ) (low : List ℕ) : Type 0 where
  pub found : List Found
  pub each : AreNext at [] [] found
  pub count : length found ≡ keys
  pub past : low ≡ key_past [] found

-- no key from this one on has a value
abbrev pub EndsAt : At → List ℕ → Type 0
EndsAt at low = IsNextEntry at low [] None
