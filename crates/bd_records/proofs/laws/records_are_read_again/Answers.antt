use Rattle.bd_records.proofs.Lengths.{one_record}
use Rattle.bd_records.proofs.laws.records_are_read_again.Goals as goal

pub returns : goal.returns
returns c = one_record
