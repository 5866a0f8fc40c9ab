use Rattle.std.proofs.Common.{◌≡◌, ◌∷◌, true, take}
use Rattle.std.specs.List.{flat_map, list_all}
use Rattle.bd_names.specs.Names.{is_name}
use Rattle.bd_sessions.proofs.paths.path_text.Given as goal

abbrev pub invariant-loop-name : goal.invariant-loop-name
invariant-loop-name l = record {
  text : l.text.items ≡ flat_map (λ m. 47 ∷ m) (take l.name-index l.names);
  names : list_all is_name (take l.name-index l.names) ≡ true;
}
