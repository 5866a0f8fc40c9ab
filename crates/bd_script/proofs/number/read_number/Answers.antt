use Rattle.std.proofs.Common.{◌+◌, arith}
use Rattle.bd_script.proofs.WordLemmas.{number_of-large, digits_next}
use Rattle.bd_script.proofs.number.read_number.Goals as goal
use Rattle.std.proofs.Common.{sym}

pub returns-then-number : goal.returns-then-number
returns-then-number c =
    let next = digits_next c.args.word.now c.loop-digit.digit-index c.loop-digit.number (omega arith) c.loop-digit.invariant.0 in
    sym (number_of-large c.args.word.now (c.loop-digit.digit-index + 1) (omega (arith, next, c.from.ensures)))
