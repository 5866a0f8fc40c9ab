use Rattle.bd_stream.proofs.TreeOrderLemmas.{at_stream}
use Rattle.bd_stream.proofs.laws.trees_have_streams.Goals as goal

pub returns : goal.returns
returns c = at_stream
