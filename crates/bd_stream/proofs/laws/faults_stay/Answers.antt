use Rattle.bd_stream.proofs.FedLemmas.{bad_stays, long_stays, ended_turns}
use Rattle.bd_stream.proofs.laws.faults_stay.Goals as goal

pub returns-clause-bad : goal.returns-clause-bad
returns-clause-bad c = bad_stays

pub returns-clause-long : goal.returns-clause-long
returns-clause-long c = long_stays

pub returns-clause-ended : goal.returns-clause-ended
returns-clause-ended c = ended_turns
