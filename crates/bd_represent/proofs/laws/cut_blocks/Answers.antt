use Rattle.bd_represent.proofs.FileLemmas.{HasBytes-cut}
use Rattle.bd_represent.proofs.laws.cut_blocks.Goals as goal

pub returns : goal.returns
returns c = HasBytes-cut
