use Rattle.std.proofs.Common.{length, ap, arith, length-append}
use Rattle.std.specs.Int.{w32}
use Rattle.std.specs.List.{flat_map}
use Rattle.bd_slots.proofs.Items.{length-items}
use Rattle.bd_wire.specs.Numbers.{be}
use Rattle.bd_wire.proofs.NumberLemmas.{length-be}
use Rattle.bd_super.proofs.codec.read_numbers.Goals as goal

pub returns-in-Err-clause-short : goal.returns-in-Err-clause-short
returns-in-Err-clause-short c =
    let numbers = c.loop.numbers.items in
    omega (
      arith,
      c.loop-test.true,
      c.in-Err.ensures.short,
      ap length c.loop.invariant.read.front,
      c.loop.invariant.count,
      length-items (be w32) 4 (length-be w32) numbers,
      length-append (flat_map (be w32) numbers) c.loop.cursor.left,
    )
