use Rattle.std.proofs.Common.{◌≡◌, drop}
use Rattle.std.specs.FinMap.{find}
use Rattle.bd_model.specs.Tree.{path_cmp}
use Rattle.bd_plain.proofs.entries.find.Given as goal

-- it is found in what is left
abbrev pub invariant-loop-placed : goal.invariant-loop-placed
invariant-loop-placed l = find path_cmp l.path (drop l.placed-index l.entries) ≡ find path_cmp l.path l.entries
