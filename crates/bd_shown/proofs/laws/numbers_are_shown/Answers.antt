use Rattle.bd_shown.proofs.Numbers.{changed_shown, free_shown}
use Rattle.bd_shown.proofs.laws.numbers_are_shown.Goals as goal

pub returns-clause-changed : goal.returns-clause-changed
returns-clause-changed g c = λ contents p walk version epoch place waiting h. changed_shown g.D.Device p walk version epoch place waiting contents h

pub returns-clause-free : goal.returns-clause-free
returns-clause-free g c = λ p walk version epoch place waiting h. free_shown g.D.Device p walk version epoch place waiting h
