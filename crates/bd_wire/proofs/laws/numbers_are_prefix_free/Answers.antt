use Rattle.bd_wire.proofs.NumberLemmas.{IsPrefixFree-be}
use Rattle.bd_wire.proofs.laws.numbers_are_prefix_free.Goals as goal

pub returns : goal.returns
returns c = IsPrefixFree-be
