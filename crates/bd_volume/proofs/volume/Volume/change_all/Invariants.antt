-- So many changes were made, and checkpoints between; each time with one push more.
use Rattle.std.proofs.Common.{◌≤◌}
use Rattle.bd_message.specs.KeyMaps.{SameAt}
use Rattle.bd_view.specs.Reclaiming.{push_limit, AreReclaims}
use Rattle.bd_engine.specs.Engines.{keys_of, IsSoundOn}
use Rattle.bd_volume.specs.Steps.{GoesOn, KeepsStanding}
use Rattle.bd_volume.specs.Volume.{view_of}
use Rattle.bd_volume.proofs.volume.Volume.change_all.Given as goal

abbrev pub invariant-loop-push : goal.invariant-loop-push
invariant-loop-push g l = record {
  goes : GoesOn g.D.Device l.fn.self l.self;
  sound : IsSoundOn g.D.Device l.fn.self.engine → IsSoundOn g.D.Device l.self.engine;
  same : IsSoundOn g.D.Device l.fn.self.engine → SameAt (keys_of g.D.Device l.fn.self.engine.pager) (keys_of g.D.Device l.self.engine.pager);
  keeps : KeepsStanding g.D.Device l.fn.self l.self;
  changes : IsSoundOn g.D.Device l.fn.self.engine → AreReclaims l.pushes (view_of g.D.Device l.fn.self) (view_of g.D.Device l.self);
  many : IsSoundOn g.D.Device l.fn.self.engine → l._push ≤ l.pushes;
  few : IsSoundOn g.D.Device l.fn.self.engine → l.pushes ≤ push_limit;
}
