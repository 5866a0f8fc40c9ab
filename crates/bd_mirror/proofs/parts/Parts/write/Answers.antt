use Rattle.std.proofs.Common.{◌≡◌, refl, ◌∙◌}
use Rattle.bd_device.proofs.Changes.{stays_written}
use Rattle.bd_device.proofs.Images.{OnErr-always}
use Rattle.bd_mirror.proofs.Marks.{either_way}
use Rattle.bd_mirror.proofs.Since.{counted_from, moments_on}
use Rattle.bd_mirror.proofs.parts.Parts.write.Goals as goal

pub returns-clause-others : goal.returns-clause-others
returns-clause-others g c =
    let halves = c.call_halves-result in
    either_way halves.result halves.ensures.done halves.ensures.others
    (λ done marked. stays_written (λ i. i ≡ c.args.b) c.args.b c.args.from.now _ _ refl (done marked))
    (λ changed marked. stays_written (λ i. i ≡ c.args.b) c.args.b ((changed marked).0 c.args.b) _ _ refl (changed marked).1)

pub returns-clause-moments : goal.returns-clause-moments
returns-clause-moments g c = λ kept.
    let counts = c.args.self.now.counts in
    let did = c.call_halves-result in
    moments_on counts.calls _ _ _ _ (did.ensures.moments ∙ c.and-self.ensures) (counted_from counts _ did.ensures.counts c.settle_writing.ensures.calls).counted kept

pub returns-clause-failed : goal.returns-clause-failed
returns-clause-failed g c =
    let halves = c.call_halves-result in
    OnErr-always c.settle_writing.result (either_way halves.result halves.ensures.done halves.ensures.others
    (λ done marked. (c.args.from.now, done marked)) (λ changed marked. ((changed marked).0 c.args.b, (changed marked).1)))
