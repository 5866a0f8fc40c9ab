use Rattle.std.proofs.Common.{◌∙◌}
use Rattle.bd_mirror.proofs.Joined.{left_settled}
use Rattle.bd_mirror.proofs.Marks.{settled_ok}
use Rattle.bd_mirror.proofs.Since.{counted_from, moments_on}
use Rattle.bd_mirror.proofs.parts.Parts.barrier.Goals as goal

pub returns-clause-left : goal.returns-clause-left
returns-clause-left g c =
    let did = c.call_halves-result in
    let m = did.new.self in
    settled_ok did.result c.settle_writing.result _ _ c.is_ok.ensures.value c.settle_writing.ensures.fails did.ensures.durable did.ensures.works (λ settled works marked keeps.
    left_settled m.attached (g.A.Device.block_count m.first) (g.B.Device.block_count m.second) (g.A.Device.contents m.first) (g.B.Device.contents m.second) _ _
    works (did.ensures.mirror marked) (did.ensures.marks marked keeps) (settled tt).first (settled tt).second)

pub returns-clause-moments : goal.returns-clause-moments
returns-clause-moments g c = λ kept.
    let counts = c.args.self.now.counts in
    let did = c.call_halves-result in
    moments_on counts.calls _ _ _ _ (did.ensures.moments ∙ c.and-self.ensures) (counted_from counts _ did.ensures.counts c.settle_writing.ensures.calls).counted kept
