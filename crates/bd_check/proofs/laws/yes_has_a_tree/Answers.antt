use Rattle.bd_check.proofs.laws.yes_has_a_tree.Goals as goal

pub returns : goal.returns
returns c image nodes keys count y = (y.tree, (y.superblock, y.table, y.place, y.has))
