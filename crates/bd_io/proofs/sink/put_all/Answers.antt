use Rattle.std.proofs.Common.{arith, ◌∙◌}
use Rattle.std.proofs.lemmas.Grind.{common_steps}
use Rattle.bd_io.proofs.Written.{WroteAllBut-more}
use Rattle.bd_io.proofs.sink.put_all.Goals as goal

pub loop-rest-preserved : goal.loop-rest-preserved
loop-rest-preserved g c = record {
  wrote = WroteAllBut-more c.loop-rest.rest.now _ _ _ _ _ c.in_ok-count.count (grind (arith, common_steps)) c.loop-rest.invariant.wrote c.in_ok-count.ensures.bytes;
  same_faults = c.in_ok-count.ensures.cause.kept ∙ c.loop-rest.invariant.same_faults;
}
