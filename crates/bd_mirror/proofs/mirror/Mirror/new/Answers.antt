use Rattle.std.proofs.Common.{ap, arith, length}
use Rattle.bd_mirror.proofs.Methods.{sound_none}
use Rattle.bd_mirror.proofs.mirror.Mirror.new.Goals as goal

pub invariant_of-result : goal.invariant_of-result
invariant_of-result g c =
    let m = c.new-parts.result in
    sound_none g.A.Device g.B.Device m c.new-parts.ensures.attached (omega (arith, ap (λ k. k.calls) c.new-parts.ensures.counts, ap (λ l. length l) c.new-parts.ensures.moments)) c.are_whole.ensures
