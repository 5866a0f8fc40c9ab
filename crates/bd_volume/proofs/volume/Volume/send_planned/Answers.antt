-- What is planned for a command of the log gives its step.
use Rattle.std.proofs.Common.{refl, inl, ap}
use Rattle.bd_effects.specs.Carrying.{accepts}
use Rattle.bd_volume.proofs.Early.{early_goes, goes_none}
use Rattle.bd_volume.proofs.Replayed.{cause_damaged, sends_fail, replays_messages, replays_graft}
use Rattle.bd_volume.proofs.volume.Volume.send_planned.Goals as goal

pub returns-in-Refused-clause-fails : goal.returns-in-Refused-clause-fails
returns-in-Refused-clause-fails g c = inl (refl, ap accepts c.in-Refused.is)

pub returns-in-Refused-clause-writes : goal.returns-in-Refused-clause-writes
returns-in-Refused-clause-writes g c = early_goes g.D.Device c.args.how c.args.self.now c.args.self.now _ (goes_none g.D.Device c.args.how c.args.self.now c.requires.going)

pub returns-in-Refused-clause-cause : goal.returns-in-Refused-clause-cause
returns-in-Refused-clause-cause g c = cause_damaged g.D.Device c.args.self.now c.args.self.now _ refl

pub returns-in-Apply-clause-replays : goal.returns-in-Apply-clause-replays
returns-in-Apply-clause-replays g c = λ t has h.
    let k = c.append_again.ensures in
    replays_messages g.D.Device c.append_again.result c.args.self.now c.append_again.new.self t c.args.placed.now.command c.args.plan c.in-Apply.list c.as_slice.result.now c.requires.logged c.in-Apply.is c.as_slice.ensures h has (k.sound has.nodes) (k.sends has.nodes) (k.applied has.nodes)

pub returns-in-Apply-clause-fails : goal.returns-in-Apply-clause-fails
returns-in-Apply-clause-fails g c = sends_fail g.D.Device c.append_again.result c.args.placed.now c.args.plan c.args.self.now c.append_again.ensures.fails

pub returns-in-Graft-clause-replays : goal.returns-in-Graft-clause-replays
returns-in-Graft-clause-replays g c = λ t has h.
    let k = c.graft_again.ensures in
    replays_graft g.D.Device c.graft_again.result c.args.self.now c.graft_again.new.self t c.args.placed.now.command c.args.plan c.in-Graft.s c.in-Graft.d c.as_slice-in-Graft.result.now c.as_slice-in-Graft-2.result.now c.in-Graft.keep c.requires.logged c.in-Graft.is c.as_slice-in-Graft.ensures c.as_slice-in-Graft-2.ensures
    h has (k.sound has.nodes) (k.sends has.nodes) (k.grafted has.nodes)

pub returns-in-Graft-clause-fails : goal.returns-in-Graft-clause-fails
returns-in-Graft-clause-fails g c = sends_fail g.D.Device c.graft_again.result c.args.placed.now c.args.plan c.args.self.now c.graft_again.ensures.fails
