use Rattle.bd_stream.proofs.CompleteLemmas.{complete_stream}
use Rattle.bd_stream.proofs.laws.only_streams_are_complete.Goals as goal

pub returns : goal.returns
returns c = complete_stream
