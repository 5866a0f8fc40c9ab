use Rattle.bd_checkpoint.proofs.Handed.{open_after, all_after}
use Rattle.bd_checkpoint.proofs.laws.reads_stay_open.Goals as goal

pub returns-clause-open : goal.returns-clause-open
returns-clause-open g c = λ live saved log given reads.
    open_after g.D.Device c.args.first.now c.args.last.now (g.met.D.Device.since_earlier c.args.last.now) reads live saved log given

pub returns-clause-kept : goal.returns-clause-kept
returns-clause-kept g c = λ reads. all_after g.D.Device c.args.first.now c.args.last.now (g.met.D.Device.since_earlier c.args.last.now) reads
