use Rattle.std.proofs.Common.{subst, MatchOption}
use Rattle.std.specs.Int.{w32}
use Rattle.bd_wire.specs.Numbers.{be, FitsWidth}
use Rattle.bd_wire.specs.Reading.{Reads}
use Rattle.bd_wire.specs.Encoding.{BeginsNone}
use Rattle.bd_wire.proofs.NumberLemmas.{BeginsNone-be}
use Rattle.bd_wire.proofs.EncodingLemmas.{BeginsNone-second}
use Rattle.bd_command.specs.Command.{IsShortPath}
use Rattle.bd_command.specs.Log.{path16}
use Rattle.bd_command.proofs.Records.{path_alone}
use Rattle.bd_command.proofs.log.truncate.Goals as goal

pub returns-in_default-u32 : goal.returns-in_default-u32
returns-in_default-u32 c =
    let first = subst (λ found. MatchOption found (BeginsNone IsShortPath path16 c.args.ahead.now.left) (λ p. IsShortPath p × Reads c.args.ahead.now c.path.new.ahead (path16 p))) c.in-Some.is c.in_ok-path.ensures in
    BeginsNone-second IsShortPath (FitsWidth w32) path16 (be w32) c.args.ahead.now.left c.in-Some.path c.path.new.ahead.left path_alone first.0 first.1.front
    (BeginsNone-be w32 c.path.new.ahead.left c.in_default-u32.ensures.short)
