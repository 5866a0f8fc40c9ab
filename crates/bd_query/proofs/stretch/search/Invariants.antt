use Rattle.bd_query.proofs.stretch.search.Given as goal

abbrev pub ghosts-search_with : goal.ghosts-search_with
ghosts-search_with a = record { name = a.blank.name; parts = a.blank.parts }
