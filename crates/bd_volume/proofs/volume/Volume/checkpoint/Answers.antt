-- Where none is made, nothing is written.
use Rattle.bd_volume.proofs.Writes.{writes_none}
use Rattle.bd_volume.proofs.volume.Volume.checkpoint.Goals as goal

pub returns-in-Some-clause-writes : goal.returns-in-Some-clause-writes
returns-in-Some-clause-writes g c = writes_none g.D.Device c.args.self.now.engine

pub returns-then-free-need-clause-writes : goal.returns-then-free-need-clause-writes
returns-then-free-need-clause-writes g c = writes_none g.D.Device c.args.self.now.engine

pub returns-clause-writes : goal.returns-clause-writes
returns-clause-writes g c = c.save.ensures.ends.writes
