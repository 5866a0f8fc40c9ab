use Rattle.std.proofs.Common.{◌≡◌, ◌++◌, drop}
use Rattle.std.specs.List.{filter_map}
use Rattle.bd_model.specs.Step.{moved_entry}
use Rattle.bd_plain.proofs.entries.moved.Given as goal

-- the copies so far, and those of what is left, are all
abbrev pub invariant-loop-placed : goal.invariant-loop-placed
invariant-loop-placed l =
    let copies = filter_map (moved_entry l.a l.b) in
    l.moved.items ++ copies (drop l.placed-index l.entries) ≡ copies l.entries
