use Rattle.std.proofs.Common.{ℕ, ◌<◌, length, take, ap, arith}
use Rattle.std.specs.Int.{w32}
use Rattle.std.proofs.lemmas.List.{length-take-le, length-drop}
use Rattle.bd_slots.proofs.Items.{length-items}
use Rattle.bd_wire.specs.Numbers.{be}
use Rattle.bd_wire.proofs.NumberLemmas.{length-be}
use Rattle.bd_super.proofs.codec.put_numbers.Goals as goal

pub put_u32-requires : goal.put_u32-requires
put_u32-requires c =
    let n = c.loop-number.number-index in
    let ns = c.args.numbers.now in
    let lt : n < length ns = c.loop-number-test.true in
    let some = length-items (be w32) 4 (length-be w32) (take n ns) in
    let all = length-items (be w32) 4 (length-be w32) ns in
    omega (arith, ap length c.loop-number.invariant.room, length-drop {A = ℕ}, some, all, length-take-le n ns (omega (arith, lt)), c.requires)
