use Rattle.std.proofs.Common.{subst, MatchOption}
use Rattle.std.specs.Int.{w16}
use Rattle.bd_wire.specs.Numbers.{be}
use Rattle.bd_wire.specs.Reading.{Reads}
use Rattle.bd_wire.specs.Encoding.{BeginsNone}
use Rattle.bd_wire.proofs.EncodingLemmas.{BeginsNone-second}
use Rattle.bd_command.specs.Command.{IsShortPath, IsMode}
use Rattle.bd_command.specs.Log.{path16}
use Rattle.bd_command.proofs.Records.{path_alone}
use Rattle.bd_command.proofs.log.chmod.Goals as goal

pub returns-in_default-mode : goal.returns-in_default-mode
returns-in_default-mode c =
    let first = subst (λ found. MatchOption found (BeginsNone IsShortPath path16 c.args.ahead.now.left) (λ p. IsShortPath p × Reads c.args.ahead.now c.path.new.ahead (path16 p))) c.in-Some.is c.in_ok-path.ensures in
    let second = subst (λ found. MatchOption found (BeginsNone IsMode (be w16) c.path.new.ahead.left) (λ m. IsMode m × Reads c.path.new.ahead c.mode.new.ahead (be w16 m))) c.in_default-mode.is c.mode.ensures in
    BeginsNone-second IsShortPath IsMode path16 (be w16) c.args.ahead.now.left c.in-Some.path c.path.new.ahead.left path_alone first.0 first.1.front second
