use Rattle.bd_command.proofs.Records.{record_alone}
use Rattle.bd_command.proofs.laws.log_records_are_prefix_free.Goals as goal

pub returns : goal.returns
returns c = record_alone
