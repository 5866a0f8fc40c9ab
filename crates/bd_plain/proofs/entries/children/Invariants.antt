use Rattle.std.proofs.Common.{◌≡◌, ℕ, ◌++◌, List, drop}
use Rattle.std.specs.List.{filter_map}
use Rattle.bd_names.specs.Names.{rest_below}
use Rattle.bd_model.specs.Tree.{Entry}
use Rattle.bd_model.specs.Step.{child_of}
use Rattle.bd_plain.proofs.entries.children.Given as goal

-- the names so far, and those of what is left, are all
abbrev pub invariant-loop-placed : goal.invariant-loop-placed
invariant-loop-placed l =
    let names = filter_map (λ (e : List (List ℕ) × Entry). child_of (rest_below l.path e.0) e.1) in
    l.children.items ++ names (drop l.placed-index l.entries) ≡ names l.entries
