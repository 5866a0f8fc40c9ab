use Rattle.std.proofs.Common.{◌≡◌, length, All}
use Rattle.std.specs.Int.{w32}
use Rattle.std.specs.List.{flat_map}
use Rattle.bd_wire.specs.Numbers.{be, FitsWidth}
use Rattle.bd_wire.specs.Reading.{Reads}
use Rattle.bd_super.proofs.codec.read_numbers.Given as goal

abbrev pub invariant-loop : goal.invariant-loop
invariant-loop l = record {
  read : Reads l.initial.cursor l.cursor (flat_map (be w32) l.numbers.items);
  fits : All (FitsWidth w32) l.numbers.items;
  count : length l.numbers.items ≡ l.counter;
}
