-- Nodes are written early where that may be, and else nothing is done.
use Rattle.std.proofs.Common.{refl, sym, subst}
use Rattle.bd_volume.specs.declared.volume.replaying.Replay.{Replay}
use Rattle.bd_volume.specs.Replays.{ReplaysEarly}
use Rattle.bd_volume.proofs.Early.{early_call, early_goes, goes_none}
use Rattle.bd_volume.proofs.Replayed.{cause_ok, cause_spill}
use Rattle.bd_volume.proofs.volume.Volume.make_space.Goals as goal

pub returns-in-Spills-clause-writes : goal.returns-in-Spills-clause-writes
returns-in-Spills-clause-writes g c =
    let h = c.spill.ensures in
    subst (λ (how : Replay). ReplaysEarly g.D.Device how c.args.self.now c.spill.new.self c.spill.result) (sym c.in-Spills.is) (early_call g.D.Device c.args.self.now c.spill.new.self c.spill.result h.early h.ends.stop)

pub returns-in-Spills-clause-cause : goal.returns-in-Spills-clause-cause
returns-in-Spills-clause-cause g c = cause_spill g.D.Device c.spill.result c.args.self.now c.spill.new.self c.spill.ensures.kind c.spill.ensures.ends.cause

pub returns-in-WritesNothing-clause-writes : goal.returns-in-WritesNothing-clause-writes
returns-in-WritesNothing-clause-writes g c = early_goes g.D.Device c.args.how c.args.self.now c.args.self.now _ (goes_none g.D.Device c.args.how c.args.self.now c.requires)

pub returns-in-WritesNothing-clause-cause : goal.returns-in-WritesNothing-clause-cause
returns-in-WritesNothing-clause-cause g c = cause_ok g.D.Device c.args.self.now c.args.self.now _ refl
