use Rattle.bd_stream.proofs.WellLemmas.{start_sound, start_well, fed_sound, fed_well, fed_commands}
use Rattle.bd_stream.proofs.laws.commands_are_within_limits.Goals as goal

pub returns-clause-start : goal.returns-clause-start
returns-clause-start c = λ target h. (start_sound target, start_well target h)

pub returns-clause-stays : goal.returns-clause-stays
returns-clause-stays c = λ s bytes sound well h. (fed_sound bytes s sound, fed_well s bytes sound well h)

pub returns-clause-commands : goal.returns-clause-commands
returns-clause-commands c = fed_commands
