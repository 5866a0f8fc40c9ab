use Rattle.bd_stream.proofs.WrittenLemmas.{read_bytes, read_head}
use Rattle.bd_stream.proofs.laws.read_heads_were_written_so.Goals as goal

pub returns-clause-bytes : goal.returns-clause-bytes
returns-clause-bytes c = read_bytes

pub returns-clause-head : goal.returns-clause-head
returns-clause-head c = read_head
