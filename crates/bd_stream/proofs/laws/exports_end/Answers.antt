use Rattle.bd_stream.proofs.EndLemmas.{export_ends}
use Rattle.bd_stream.proofs.laws.exports_end.Goals as goal

pub returns : goal.returns
returns c = export_ends
