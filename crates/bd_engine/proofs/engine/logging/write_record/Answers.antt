use Rattle.bd_engine.proofs.Logging.{is_record}
use Rattle.bd_engine.proofs.engine.logging.write_record.Goals as goal

pub returns-clause-is_record : goal.returns-clause-is_record
returns-clause-is_record c = is_record c.args.command.now (c.log_records_fit.ensures.fit c.args.command.now c.requires)
