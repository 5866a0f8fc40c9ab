-- So many flush steps were made, and checkpoints between.
use Rattle.std.proofs.Common.{◌≡◌}
use Rattle.bd_view.specs.Moves.{AreSteps}
use Rattle.bd_engine.specs.Engines.{flushed_on, IsSoundOn}
use Rattle.bd_volume.specs.Volume.{view_of}
use Rattle.bd_volume.specs.Steps.{GoesOn, KeepsStanding, HasLogRoom}
use Rattle.bd_volume.proofs.volume.Volume.make_ready.Given as goal

abbrev pub invariant-loop-made : goal.invariant-loop-made
invariant-loop-made g l = record {
  goes : GoesOn g.D.Device l.fn.self l.self;
  sound : IsSoundOn g.D.Device l.fn.self.engine → IsSoundOn g.D.Device l.self.engine;
  keeps : KeepsStanding g.D.Device l.fn.self l.self;
  log : HasLogRoom l.command (view_of g.D.Device l.self);
  made : l.self.engine.flushes ≡ flushed_on l.fn.self.engine.flushes l._made;
  steps : IsSoundOn g.D.Device l.fn.self.engine → AreSteps l.command l._made (view_of g.D.Device l.fn.self) (view_of g.D.Device l.self);
}
