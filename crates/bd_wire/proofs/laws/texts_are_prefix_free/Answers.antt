use Rattle.bd_wire.proofs.TextLemmas.{IsPrefixFree-text16}
use Rattle.bd_wire.proofs.laws.texts_are_prefix_free.Goals as goal

pub returns : goal.returns
returns c = IsPrefixFree-text16
