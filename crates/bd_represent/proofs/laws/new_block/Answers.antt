use Rattle.bd_represent.proofs.FileLemmas.{HasBytes-patched}
use Rattle.bd_represent.proofs.laws.new_block.Goals as goal

pub returns : goal.returns
returns c = HasBytes-patched
