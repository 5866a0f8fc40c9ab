use Rattle.bd_model.proofs.TreeLaws.{after-renamed, after-rename-gone, after-rename-others, rename_over}
use Rattle.bd_model.proofs.laws.renamed.Goals as goal

pub returns : goal.returns
returns c = record { moved = after-renamed; gone = after-rename-gone; beside = after-rename-others; over = rename_over }
