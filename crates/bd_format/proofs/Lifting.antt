-- A lift is common to the keys of a range exactly where it is at most the longest one.
use Rattle.std.proofs.Common.{◌≡◌, ℕ, ◌≤◌, List, take, length, sym, ap, ◌∙◌, arith}
use Rattle.std.specs.Prelude.{Option}
use Rattle.std.proofs.lemmas.List.{take-take, length-take-le}
use Rattle.bd_keys.specs.Keys.{Begins, IsCommon, IsLift}

shorter_begins : (k lo : List ℕ) (n lift : ℕ) → lift ≤ n → n ≤ length lo → Begins k (take n lo) → Begins k (take lift lo)
shorter_begins k lo n lift less within h =
    let whole : take n k ≡ take n lo = ap (λ j. take j k) (sym (length-take-le n lo within)) ∙ h in
    ap (λ j. take j k) (length-take-le lift lo (omega arith))
    ∙ sym (take-take lift n k less) ∙ ap (take lift) whole ∙ take-take lift n lo less

pub lift-common : (lo : List ℕ) (hi : Option (List ℕ)) (n lift : ℕ) → IsLift lo hi n → lift ≤ n → IsCommon lo hi (take lift lo)
lift-common lo hi n lift h less k key range = shorter_begins k lo n lift less h.within (h.common k key range)

pub lift-within : (lo : List ℕ) (hi : Option (List ℕ)) (n lift : ℕ) → IsLift lo hi n → lift ≤ length lo → IsCommon lo hi (take lift lo) → lift ≤ n
lift-within lo hi n lift h within common = omega (arith, h.longest (take lift lo) common, length-take-le lift lo within)
