-- What stands at keys in a row.
use Rattle.std.specs.Prelude.{◌≡◌, ℕ, List, [], ◌∷◌, ◌++◌, None, Some, ⊤}
use Rattle.bd_message.specs.KeyMaps.{At, IsNextEntry}
use Rattle.bd_scan.specs.declared.scan.Found.{Found}

-- each is the next one after the last, from a key on
abbrev pub AreNext : At → List ℕ → List ℕ → List Found → Type 0
AreNext at from within [] = ⊤
AreNext at from within (f ∷ fs) =
    IsNextEntry at from within (Some (f.key, f.value)) × AreNext at (f.key ++ 0 ∷ []) within fs

-- each is the next one, and there is none only where no key has a value
pub record IsScan (at : At) (from within : List ℕ) (found : List Found) : Type 0 where
  pub each : AreNext at from within found
  pub none : found ≡ [] → IsNextEntry at from within None
