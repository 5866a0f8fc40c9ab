use Rattle.std.proofs.Common.{ap}
use Rattle.bd_stream.specs.Importing.{Turn}
use Rattle.bd_stream.proofs.FedLemmas.{fed-append}
use Rattle.bd_stream.proofs.laws.pieces_are_one.Goals as goal

pub returns-clause-state : goal.returns-clause-state
returns-clause-state c = λ s a b. ap (λ (t : Turn). t.0) (fed-append s a b)

pub returns-clause-commands : goal.returns-clause-commands
returns-clause-commands c = λ s a b. ap (λ (t : Turn). t.1) (fed-append s a b)
