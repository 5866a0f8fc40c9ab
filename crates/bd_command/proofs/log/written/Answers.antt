use Rattle.bd_command.proofs.Records.{not_written}
use Rattle.bd_command.proofs.log.written.Goals as goal

pub returns-then-not-is_written : goal.returns-then-not-is_written
returns-then-not-is_written c =
    not_written c.args.ahead.now.left c.text16.new.self.left c.in-Ok.bytes.now c.in-Ok.ensures.fits c.in-Ok.ensures.read.front (λ h. let is = c.is_written.ensures.1 h in let not = c.if-not-is_written.true in cc)
