use Rattle.bd_stream.proofs.HeadLemmas.{head_again}
use Rattle.bd_stream.proofs.laws.heads_are_read_again.Goals as goal

pub returns : goal.returns
returns c = head_again
