use Rattle.bd_message.proofs.Freed.{stripped_effect, freed_effect, covering}
use Rattle.bd_message.proofs.laws.freed_messages.Goals as goal

pub returns-clause-stripped : goal.returns-clause-stripped
returns-clause-stripped c = stripped_effect

pub returns-clause-effect : goal.returns-clause-effect
returns-clause-effect c = freed_effect

pub returns-clause-covering : goal.returns-clause-covering
returns-clause-covering c = covering
