-- The nodes are looked at, and then what is above them.
use Rattle.std.proofs.Common.{Option, sym, subst}
use Rattle.std.specs.Prelude.{IfOk}
use Rattle.bd_device.specs.Blocks.{Image}
use Rattle.bd_device.specs.Device.{OnlyReads}
use Rattle.bd_device.proofs.Calls.{reads_then}
use Rattle.bd_engine.proofs.Starting.{read_standing}
use Rattle.bd_check.specs.Verdicts.{IsRightOf}
use Rattle.bd_check.proofs.Recoveries.{wrong_right, told_none, cause_after, cause_lent, cause_image, table_named, may_start, lent_read, begins_soundly, count_in}
use Rattle.bd_check.proofs.recovered.check_recovered.Goals as goal

pub check_root-requires-clause-may : goal.check_root-requires-clause-may
check_root-requires-clause-may g c =
    let D = g.D.Device in
    let r = c.args.recovered in
    let q = c.check_table.new.pager in
    let h = c.in-Ok.ensures in
    read_standing D r.pager q r.log r.live (g.met.D.Device.since_earlier q.dev) (lent_read D r.pager q h.pager h.reads) (may_start D r c.requires)

pub check_root-requires-clause-logged : goal.check_root-requires-clause-logged
check_root-requires-clause-logged g c = λ k d within. (c.requires.commands.each k d within).0

pub check_root-requires-clause-sound : goal.check_root-requires-clause-sound
check_root-requires-clause-sound g c =
    let D = g.D.Device in
    let r = c.args.recovered in
    let q = c.check_table.new.pager in
    let h = c.in-Ok.ensures in
    count_in D r q c.in-Ok.told.0 (lent_read D r.pager q h.pager h.reads)
    (begins_soundly D r c.good_nodes_are_stored.ensures.held c.in-Ok.told.0 c.requires (told_none (D.contents r.pager.dev) r.live c.in-Ok.told.0 c.in-Ok.told.1 c.in-None.is h.told))

pub returns-in-None-clause-verdict : goal.returns-in-None-clause-verdict
returns-in-None-clause-verdict g c =
    subst (λ (o : Option Image). IfOk c.check_root.result.1 (IsRightOf o)) c.in-Ok.ensures.reads.kept c.check_root.ensures.verdict

pub returns-in-None-clause-reads : goal.returns-in-None-clause-reads
returns-in-None-clause-reads g c = reads_then c.in-Ok.ensures.reads c.check_root.ensures.reads

pub returns-in-None-clause-cause : goal.returns-in-None-clause-cause
returns-in-None-clause-cause g c =
    let h = c.in-Ok.ensures in
    cause_after g.D.Device c.check_root.result.1 c.args.recovered.pager.dev c.check_table.new.pager.dev c.check_root.result.0 h.reads.kept h.cause.kept c.check_root.ensures.cause

pub returns-in-Some-clause-verdict : goal.returns-in-Some-clause-verdict
returns-in-Some-clause-verdict g c =
    let r = c.args.recovered in
    wrong_right (g.D.Device.contents r.pager.dev) r.live c.in-Ok.told.0 c.in-Ok.told.1 c.in-Some.wrong c.in-Some.is c.requires.settled.live_is c.in-Ok.ensures.told

pub returns-in-Some-clause-reads : goal.returns-in-Some-clause-reads
returns-in-Some-clause-reads g c =
    subst (λ (d : g.row.D.Denot). OnlyReads g.D.Device c.args.recovered.pager.dev d) (sym c.into_device.ensures) c.in-Ok.ensures.reads

pub returns-in-Some-clause-cause : goal.returns-in-Some-clause-cause
returns-in-Some-clause-cause g c =
    cause_lent g.D.Device c.args.recovered.pager.dev c.check_table.new.pager.dev c.into_device.result _ c.into_device.ensures c.in-Ok.ensures.cause.kept

pub returns-in-Err-clause-reads : goal.returns-in-Err-clause-reads
returns-in-Err-clause-reads g c =
    subst (λ (d : g.row.D.Denot). OnlyReads g.D.Device c.args.recovered.pager.dev d) (sym c.into_device-in-Err.ensures) c.in-Err.ensures.reads

pub returns-in-Err-clause-cause : goal.returns-in-Err-clause-cause
returns-in-Err-clause-cause g c =
    let D = g.D.Device in
    let r = c.args.recovered in
    cause_image D r.pager.dev c.check_table.new.pager.dev c.into_device-in-Err.result _ c.in-Err.fault c.from.result c.from.ensures c.into_device-in-Err.ensures
    (λ block bad. table_named D (D.contents r.pager.dev) r.live block c.requires.settled.live_is bad) c.in-Err.ensures.cause.failed
