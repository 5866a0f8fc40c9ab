use Rattle.std.proofs.Common.{subst, MatchOption}
use Rattle.bd_wire.specs.Reading.{Reads}
use Rattle.bd_wire.specs.Encoding.{BeginsNone}
use Rattle.bd_wire.specs.Text.{text16}
use Rattle.bd_wire.proofs.EncodingLemmas.{BeginsNone-second}
use Rattle.bd_command.specs.Command.{IsWritten}
use Rattle.bd_command.specs.Log.{FitsTruncate, encode_truncate}
use Rattle.bd_command.proofs.Records.{truncate_alone}
use Rattle.bd_command.proofs.log.write.Goals as goal

pub returns-in_default-2 : goal.returns-in_default-2
returns-in_default-2 c =
    let first = subst (λ found. MatchOption found (BeginsNone FitsTruncate encode_truncate c.args.ahead.now.left) (λ v. FitsTruncate v × Reads c.args.ahead.now c.truncate.new.ahead (encode_truncate v))) c.in-Some.is c.in_ok-path.ensures in
    let second = subst (λ found. MatchOption found (BeginsNone IsWritten text16 c.truncate.new.ahead.left) (λ bytes. IsWritten bytes × Reads c.truncate.new.ahead c.written.new.ahead (text16 bytes))) c.in_default-2.is c.in_ok-bytes.ensures in
    BeginsNone-second FitsTruncate IsWritten encode_truncate text16 c.args.ahead.now.left (c.in-Some.path, c.in-Some.off) c.truncate.new.ahead.left truncate_alone first.0 first.1.front second
