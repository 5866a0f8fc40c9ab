use Rattle.std.proofs.Common.{◌≡◌, ◌++◌, drop}
use Rattle.std.specs.List.{filter_map}
use Rattle.bd_message.specs.Entries.{moved_entry}
use Rattle.bd_message.proofs.entries.moved.Given as goal

-- the moved entries so far, and those of what is left, are all
abbrev pub invariant-loop-key : goal.invariant-loop-key
invariant-loop-key l =
    let copies = filter_map (moved_entry l.s l.d) in
    l.moved.items ++ copies (drop l.key-index l.entries) ≡ copies l.entries
