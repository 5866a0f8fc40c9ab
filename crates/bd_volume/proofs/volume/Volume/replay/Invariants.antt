-- The commands so far were replayed.
use Rattle.std.proofs.Common.{drop}
use Rattle.bd_volume.specs.Faults.{HasNotFailed}
use Rattle.bd_volume.specs.Replays.{ReplaysFront}
use Rattle.bd_volume.proofs.Early.{GoesEarly}
use Rattle.bd_volume.proofs.volume.Volume.replay.Given as goal

abbrev pub invariant-loop-placed : goal.invariant-loop-placed
invariant-loop-placed g l = record {
  front : ReplaysFront g.D.Device l.commands (drop l.placed-index l.commands) l.fn.self l.self;
  goes : GoesEarly g.D.Device l.how l.fn.self l.self;
  faults : HasNotFailed g.D.Device l.fn.self l.self;
}
