use Rattle.std.proofs.Common.{subst, refl}
use Rattle.bd_wire.specs.Reading.{Unread, Reads}
use Rattle.bd_wire.specs.Encoding.{BeginsNone}
use Rattle.bd_wire.specs.Text.{text16, FitsText16}
use Rattle.bd_command.specs.Log.{IsCommandOf}
use Rattle.bd_command.proofs.Records.{no_text, no_command}
use Rattle.bd_command.proofs.Command.log_read.Goals as goal

pub returns-in_default-clause-read : goal.returns-in_default-clause-read
returns-in_default-clause-read c =
    (no_text c.args.cursor.now.left (subst (λ (u : Unread). BeginsNone FitsText16 text16 u.left) c.ahead-ahead.ensures c.in_default.ensures.short), refl)

pub returns-in-None-clause-read : goal.returns-in-None-clause-read
returns-in-None-clause-read c =
    let read = subst (λ (u : Unread). Reads u c.text16.new.self (text16 c.in-Ok.record.now)) c.ahead-ahead.ensures c.in-Ok.ensures.read in
    let none = subst (IsCommandOf c.in-Ok.record.now) c.in-None.is c.in_ok-command.ensures in
    (no_command c.args.cursor.now.left c.text16.new.self.left c.in-Ok.record.now c.in-Ok.ensures.fits read.front none, refl)
