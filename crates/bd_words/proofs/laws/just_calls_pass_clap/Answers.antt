use Rattle.bd_words.proofs.Commands.{just_calls}
use Rattle.bd_words.proofs.laws.just_calls_pass_clap.Goals as goal

pub returns : goal.returns
returns c = just_calls
