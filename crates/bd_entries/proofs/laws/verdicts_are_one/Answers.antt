use Rattle.bd_entries.proofs.OneVerdict.{one_verdict}
use Rattle.bd_entries.proofs.laws.verdicts_are_one.Goals as goal

pub returns : goal.returns
returns c = one_verdict
