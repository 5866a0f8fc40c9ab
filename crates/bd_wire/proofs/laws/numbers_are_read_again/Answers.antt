use Rattle.bd_wire.proofs.NumberLemmas.{number_at-be}
use Rattle.bd_wire.proofs.laws.numbers_are_read_again.Goals as goal

pub returns : goal.returns
returns c = number_at-be
