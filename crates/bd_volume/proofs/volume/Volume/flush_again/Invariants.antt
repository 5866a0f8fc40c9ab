-- So many flush steps were made.
use Rattle.bd_volume.proofs.Replayed.{FlushedOn}
use Rattle.bd_volume.proofs.volume.Volume.flush_again.Given as goal

abbrev pub invariant-loop-made : goal.invariant-loop-made
invariant-loop-made g l = FlushedOn g.D.Device l.how l.command l._made l.fn.self l.self
