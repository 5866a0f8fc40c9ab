use Rattle.bd_keys.proofs.EditLemmas.{length-overwritten, overwritten-new, overwritten-before, overwritten-gap, overwritten-after}
use Rattle.bd_keys.proofs.laws.overwritten.Goals as goal

pub returns : goal.returns
returns c = record { long = length-overwritten; new = overwritten-new; before = overwritten-before; gap = overwritten-gap; after = overwritten-after }
