use Rattle.bd_command.proofs.Records.{record_fits}
use Rattle.bd_command.proofs.laws.log_records_fit.Goals as goal

pub returns-clause-fit : goal.returns-clause-fit
returns-clause-fit c = record_fits
