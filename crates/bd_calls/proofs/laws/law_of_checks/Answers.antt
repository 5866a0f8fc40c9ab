-- What was found is right of the image.
use Rattle.bd_check.specs.Verdicts.{IsGoodAnswer}
use Rattle.bd_calls.specs.Check.{HasFoundTree}
use Rattle.bd_calls.proofs.Checks.{found_right, has_found}
use Rattle.bd_calls.proofs.laws.law_of_checks.Goals as goal

pub returns-clause-found : goal.returns-clause-found
returns-clause-found c image answer right =
    found_right answer image (HasFoundTree image) right (has_found image (c.yes_has_a_tree.ensures image))

pub returns-clause-good : goal.returns-clause-good
returns-clause-good c image t n stands answer right =
    found_right answer image (IsGoodAnswer n) right (λ v is. c.trees_have_a_yes.ensures image t n v stands is)
