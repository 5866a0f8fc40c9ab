-- Each record of the log is tried.
use Rattle.bd_check.specs.Recovered.{HasKeyCount}
use Rattle.bd_check.specs.Verdicts.{IsYes}
use Rattle.bd_check.proofs.Recoveries.{as_known, cause_ok, says_yes, records_stop}
use Rattle.bd_check.proofs.recovered.check_records.Goals as goal

pub returns-in-Ok-clause-verdict : goal.returns-in-Ok-clause-verdict
returns-in-Ok-clause-verdict g c =
    let D = g.D.Device in
    let r = c.args.recovered in
    let count = c.in-Ok.tried.0 in
    as_known (D.contents r.pager.dev) (HasKeyCount D r c.args.nodes c.args.keys) (λ image. IsYes image c.args.nodes c.args.keys count)
    (λ image k. says_yes D r c.args.nodes c.args.keys image count k c.in-Ok.ensures.done) c.requires.whole

pub returns-in-Ok-clause-cause : goal.returns-in-Ok-clause-cause
returns-in-Ok-clause-cause g c = cause_ok g.D.Device c.args.recovered.pager.dev c.in-Ok.tried.1 _ c.in-Ok.ensures.faults

pub returns-in-Err-clause-cause : goal.returns-in-Err-clause-cause
returns-in-Err-clause-cause g c =
    let refused = c.in-Err.refused in
    record { kept = tt; failed = records_stop g.D.Device c.args.recovered c.args.nodes c.args.keys refused.device refused.fault c.requires.whole c.in-Err.ensures.fails }
