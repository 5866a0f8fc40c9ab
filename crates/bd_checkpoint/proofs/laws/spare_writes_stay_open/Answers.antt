use Rattle.bd_checkpoint.proofs.Starting.{PartsAreOne}
use Rattle.bd_checkpoint.proofs.Spare.{open_on, time_on, kept_on}
use Rattle.bd_checkpoint.proofs.laws.spare_writes_stay_open.Goals as goal

pub returns-clause-open : goal.returns-clause-open
returns-clause-open g c = λ live saved log spare given free writes.
    let one : PartsAreOne = record { tables = c.tables_are_read_again.ensures; batches = c.batches_are_one.ensures } in
    open_on g.D.Device c.args.first.now c.args.last.now (g.met.D.Device.since_earlier c.args.last.now) spare writes one live saved log given free

pub returns-clause-time : goal.returns-clause-time
returns-clause-time g c = λ live saved log spare given free writes.
    let one : PartsAreOne = record { tables = c.tables_are_read_again.ensures; batches = c.batches_are_one.ensures } in
    time_on g.D.Device c.args.first.now c.args.last.now (g.met.D.Device.since_earlier c.args.last.now) spare writes one live saved log given free

pub returns-clause-kept : goal.returns-clause-kept
returns-clause-kept g c = λ live saved log spare given free writes.
    let one : PartsAreOne = record { tables = c.tables_are_read_again.ensures; batches = c.batches_are_one.ensures } in
    kept_on g.D.Device c.args.first.now c.args.last.now (g.met.D.Device.since_earlier c.args.last.now) spare writes one live saved log given free
