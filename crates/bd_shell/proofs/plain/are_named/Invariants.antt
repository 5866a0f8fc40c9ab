use Rattle.std.proofs.Common.{take}
use Rattle.std.specs.List.{All}
use Rattle.bd_script.specs.Replies.{IsNamed}
use Rattle.bd_shell.proofs.plain.are_named.Given as goal

abbrev pub invariant-loop-listed : goal.invariant-loop-listed
invariant-loop-listed l = All IsNamed (take l.listed-index l.names)
