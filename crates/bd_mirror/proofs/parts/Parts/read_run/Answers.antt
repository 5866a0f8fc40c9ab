use Rattle.std.proofs.Common.{◌∙◌}
use Rattle.bd_mirror.proofs.Since.{counted_from, moments_on}
use Rattle.bd_mirror.proofs.parts.Parts.read_run.Goals as goal

pub returns-clause-moments : goal.returns-clause-moments
returns-clause-moments g c = λ kept.
    let counts = c.args.self.now.counts in
    let did = c.read_run_halves-result in
    moments_on counts.calls _ _ _ _ (did.ensures.moments ∙ c.and-self.ensures) (counted_from counts _ did.ensures.counts c.settle.ensures.calls).counted kept
