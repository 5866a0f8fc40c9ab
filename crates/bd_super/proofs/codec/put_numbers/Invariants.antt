use Rattle.std.proofs.Common.{take}
use Rattle.std.specs.Int.{w32}
use Rattle.std.specs.List.{flat_map}
use Rattle.bd_wire.specs.Numbers.{be}
use Rattle.bd_wire.specs.Writing.{Puts}
use Rattle.bd_super.proofs.codec.put_numbers.Given as goal

abbrev pub invariant-loop-number : goal.invariant-loop-number
invariant-loop-number l = Puts l.initial.out l.out (flat_map (be w32) (take l.number-index l.numbers))
