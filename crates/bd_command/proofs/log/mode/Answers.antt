use Rattle.std.proofs.Common.{arith}
use Rattle.bd_command.proofs.Records.{no_mode, not_mode}
use Rattle.bd_command.proofs.log.mode.Goals as goal

pub returns-in_default : goal.returns-in_default
returns-in_default c =
    not_mode c.args.ahead.now.left c.u16.new.self.left c.in-Ok.mode (omega arith) c.in-Ok.ensures.read.front (omega arith)

pub returns-in_default-2 : goal.returns-in_default-2
returns-in_default-2 c = no_mode c.args.ahead.now.left c.in_default.ensures.short
