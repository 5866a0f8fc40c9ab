-- Where no checkpoint helps nothing is done.
use Rattle.std.proofs.Common.{refl}
use Rattle.bd_volume.proofs.Keeping.{keeps_none}
use Rattle.bd_volume.proofs.volume.Volume.save_for_edge.Goals as goal

pub returns-then-not-can_save-clause-keeps : goal.returns-then-not-can_save-clause-keeps
returns-then-not-can_save-clause-keeps g c = keeps_none g.D.Device c.args.self.now

pub returns-then-not-can_save-clause-same : goal.returns-then-not-can_save-clause-same
returns-then-not-can_save-clause-same g c = λ s k. refl

pub returns-clause-same : goal.returns-clause-same
returns-clause-same g c = c.save.ensures.same
