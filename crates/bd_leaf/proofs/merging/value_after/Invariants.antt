use Rattle.std.proofs.Common.{◌≡◌, drop}
use Rattle.std.specs.Option.{option_copied}
use Rattle.bd_leaf.specs.Points.{messages_of, value_after_all}
use Rattle.bd_leaf.specs.Merging.{bytes_of}
use Rattle.bd_leaf.proofs.merging.value_after.Given as goal

-- what is left makes the same of the value so far
abbrev pub invariant-loop-point : goal.invariant-loop-point
invariant-loop-point l =
    value_after_all (messages_of (drop l.point-index l.own)) (bytes_of l.value) ≡ value_after_all (messages_of l.own) (option_copied l.old)
