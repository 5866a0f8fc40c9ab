use Rattle.bd_wire.proofs.NumberLemmas.{be-number_at}
use Rattle.bd_wire.proofs.laws.numbers_were_written_so.Goals as goal

pub returns : goal.returns
returns c = be-number_at
