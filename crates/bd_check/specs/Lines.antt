-- The line that tells a verdict.
use Rattle.std.specs.Prelude.{ℕ, List, [], ◌∷◌, ◌++◌, codes, decimal}
use Rattle.bd_check.specs.declared.verdict.Verdict.{Verdict}
use Rattle.bd_check.specs.declared.verdict.Verdict.TheVariants.{Yes, BadBlock, BadNode, Limit}

-- with its newline
abbrev pub verdict_line : Verdict → List ℕ
verdict_line (Yes nodes keys count) =
    codes "ok check nodes " ++ decimal nodes ++ codes " keys " ++ decimal keys ++ codes " count "
    ++ decimal count ++ 10 ∷ []
verdict_line (BadBlock block) = codes "no check block " ++ decimal block ++ 10 ∷ []
verdict_line (BadNode id) = codes "no check node " ++ decimal id ++ 10 ∷ []
verdict_line Limit = codes "no check limit 16777216" ++ 10 ∷ []
