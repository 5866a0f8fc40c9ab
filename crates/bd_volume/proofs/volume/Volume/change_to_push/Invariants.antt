-- So many changes and checkpoints were made, none of them a push; and the loop doesn't end before them.
use Rattle.std.proofs.Common.{◌-◌, ◌^◌}
use Rattle.bd_message.specs.KeyMaps.{SameAt}
use Rattle.bd_view.specs.Reclaiming.{AreReclaims}
use Rattle.bd_view.specs.Views.{View}
use Rattle.bd_engine.specs.Engines.{keys_of, IsSoundOn}
use Rattle.bd_volume.specs.Steps.{GoesOn, KeepsStanding}
use Rattle.bd_volume.specs.Volume.{view_of}
use Rattle.bd_volume.proofs.Reclaims.{IsWithin}
use Rattle.bd_volume.proofs.volume.Volume.change_to_push.Given as goal

abbrev pub invariant-loop-made : goal.invariant-loop-made
invariant-loop-made g l = record {
  goes : GoesOn g.D.Device l.fn.self l.self;
  sound : IsSoundOn g.D.Device l.fn.self.engine → IsSoundOn g.D.Device l.self.engine;
  same : IsSoundOn g.D.Device l.fn.self.engine → SameAt (keys_of g.D.Device l.fn.self.engine.pager) (keys_of g.D.Device l.self.engine.pager);
  keeps : KeepsStanding g.D.Device l.fn.self l.self;
  changes : IsSoundOn g.D.Device l.fn.self.engine → (first : View) → AreReclaims l.pushes first (view_of g.D.Device l.fn.self) → AreReclaims l.pushes first (view_of g.D.Device l.self);
  within : IsSoundOn g.D.Device l.fn.self.engine → IsWithin l._made l.most (view_of g.D.Device l.self);
}

abbrev pub decreases-loop-made : goal.decreases-loop-made
decreases-loop-made g l = 2 ^ 128 - l._made
