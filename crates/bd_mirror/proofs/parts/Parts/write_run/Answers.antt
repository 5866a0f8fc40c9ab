use Rattle.std.proofs.Common.{◌∙◌}
use Rattle.bd_mirror.specs.Writing.{run_bytes}
use Rattle.bd_mirror.proofs.Marks.{either_way}
use Rattle.bd_mirror.proofs.Since.{counted_from, moments_on}
use Rattle.bd_mirror.proofs.parts.Parts.write_run.Goals as goal

pub returns-clause-others : goal.returns-clause-others
returns-clause-others g c =
    let halves = c.call_halves-result in
    either_way halves.result halves.ensures.done halves.ensures.others
    (λ done marked. (run_bytes c.args.first c.args.from.now, done marked)) (λ changed marked. changed marked)

pub returns-clause-moments : goal.returns-clause-moments
returns-clause-moments g c = λ kept.
    let counts = c.args.self.now.counts in
    let did = c.call_halves-result in
    moments_on counts.calls _ _ _ _ (did.ensures.moments ∙ c.and-self.ensures) (counted_from counts _ did.ensures.counts c.settle_writing.ensures.calls).counted kept
