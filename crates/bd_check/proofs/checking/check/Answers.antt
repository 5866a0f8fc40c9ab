-- What was found is said, of the same device.
use Rattle.bd_check.proofs.Settled.{can_stop, said_right, said_yes, said_cause}
use Rattle.bd_check.proofs.checking.check.Goals as goal

pub said-requires : goal.said-requires
said-requires g c = can_stop c.check_device-device.result.1 c.check_device-device.ensures.cause

pub returns-clause-verdict : goal.returns-clause-verdict
returns-clause-verdict g c =
    let h = c.check_device-device in
    said_right h.result.1 c.said.result c.said.ensures h.ensures.cause h.ensures.verdict

pub returns-clause-writes : goal.returns-clause-writes
returns-clause-writes g c =
    let h = c.check_device-device in
    said_yes h.result.1 c.said.result _ c.said.ensures h.ensures.writes

pub returns-clause-cause : goal.returns-clause-cause
returns-clause-cause g c =
    let h = c.check_device-device in
    said_cause g.D.Device c.args.dev h.result.0 h.result.1 c.said.result c.said.ensures h.ensures.cause
