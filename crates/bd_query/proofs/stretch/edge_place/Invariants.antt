use Rattle.bd_query.proofs.stretch.edge_place.Given as goal

abbrev pub ghosts-edge_place_with : goal.ghosts-edge_place_with
ghosts-edge_place_with a = record { name = a.blank.name; parts = a.blank.parts }
