-- Keys in a row, and one more.
use Rattle.std.proofs.Common.{◌≡◌, ℕ, List, [], ◌∷◌, ◌++◌, refl, Some}
use Rattle.bd_message.specs.KeyMaps.{At, IsNextEntry}
use Rattle.bd_scan.specs.declared.scan.Found.{Found}
use Rattle.bd_scan.specs.Scans.{AreNext}

-- the key from which a scan goes on
pub low_after : List ℕ → List Found → List ℕ
low_after from [] = from
low_after from (f ∷ fs) = low_after (f.key ++ 0 ∷ []) fs

pub low_none : (from : List ℕ) → low_after from [] ≡ from
unfolding low_after
low_none from = refl

pub low_more : (from : List ℕ) (fs : List Found) (f : Found) → low_after from (fs ++ f ∷ []) ≡ f.key ++ 0 ∷ []
unfolding low_after
low_more from [] f = refl
low_more from (g ∷ fs) f = low_more (g.key ++ 0 ∷ []) fs f

pub next_more : (at : At) (from within : List ℕ) (fs : List Found) (f : Found) → AreNext at from within fs → IsNextEntry at (low_after from fs) within (Some (f.key, f.value)) → AreNext at from within (fs ++ f ∷ [])
unfolding low_after
next_more at from within [] f each next = (next, tt)
next_more at from within (g ∷ fs) f each next = (each.0, next_more at (g.key ++ 0 ∷ []) within fs f each.1 next)
