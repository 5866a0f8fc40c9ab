use Rattle.bd_node.proofs.index.position.Given as goal

abbrev pub ghosts-position_with : goal.ghosts-position_with
ghosts-position_with a = record { name = a.blank.name; parts = a.blank.parts }
