use Rattle.std.proofs.Common.{subst, MatchOption}
use Rattle.bd_wire.specs.Reading.{Reads}
use Rattle.bd_wire.specs.Encoding.{BeginsNone}
use Rattle.bd_wire.proofs.EncodingLemmas.{BeginsNone-second}
use Rattle.bd_command.specs.Command.{IsShortPath}
use Rattle.bd_command.specs.Log.{path16}
use Rattle.bd_command.proofs.Records.{path_alone}
use Rattle.bd_command.proofs.log.paths.Goals as goal

pub returns-in_default-2 : goal.returns-in_default-2
returns-in_default-2 c =
    let first = subst (λ found. MatchOption found (BeginsNone IsShortPath path16 c.args.ahead.now.left) (λ p. IsShortPath p × Reads c.args.ahead.now c.path.new.ahead (path16 p))) c.in-Some.is c.in_ok-first.ensures in
    let second = subst (λ found. MatchOption found (BeginsNone IsShortPath path16 c.path.new.ahead.left) (λ p. IsShortPath p × Reads c.path.new.ahead c.path-2.new.ahead (path16 p))) c.in_default-2.is c.in_ok-second.ensures in
    BeginsNone-second IsShortPath IsShortPath path16 path16 c.args.ahead.now.left c.in-Some.first c.path.new.ahead.left path_alone first.0 first.1.front second
