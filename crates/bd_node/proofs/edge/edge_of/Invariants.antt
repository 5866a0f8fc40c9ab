use Rattle.bd_node.proofs.edge.edge_of.Given as goal

abbrev pub ghosts-edge_with : goal.ghosts-edge_with
ghosts-edge_with a = record { name = a.blank.name; parts = a.blank.parts }
