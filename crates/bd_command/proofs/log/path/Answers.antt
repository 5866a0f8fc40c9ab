use Rattle.std.proofs.Common.{Err, sym, ap, subst}
use Rattle.bd_names.proofs.NamesLaws.{path_of-some}
use Rattle.bd_wire.specs.Reading.{Reads}
use Rattle.bd_wire.specs.Text.{text16}
use Rattle.bd_command.proofs.Records.{no_path}
use Rattle.bd_command.proofs.log.path.Goals as goal

pub returns-in-Ok-read : goal.returns-in-Ok-read
returns-in-Ok-read c =
    let read = path_of-some c.in-Ok.text.now c.in-Ok-read.path c.in-Ok-read.ensures.path in
    ((read.0, read.1), subst (λ text. Reads c.args.ahead.now c.text16.new.self (text16 text)) (sym read.2) c.in-Ok.ensures.read)

pub returns-in-Err-BadPath : goal.returns-in-Err-BadPath
returns-in-Err-BadPath c =
    no_path c.args.ahead.now.left c.text16.new.self.left c.in-Ok.text.now c.in-Ok.ensures.fits c.in-Ok.ensures.read.front (c.in-Err-BadPath.ensures.bad_path.0 (ap Err c.in-Err-BadPath.field-0-is))
