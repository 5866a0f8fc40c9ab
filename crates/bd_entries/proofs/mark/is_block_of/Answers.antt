use Rattle.std.proofs.Common.{arith}
use Rattle.bd_entries.proofs.Numbers.{block_is}
use Rattle.bd_entries.proofs.mark.is_block_of.Goals as goal

pub returns-in-Some : goal.returns-in-Some
returns-in-Some c =
    block_is c.args.mark.now c.as_slice.result.now c.args.key.now c.args.value.now c.in-File.len c.in-File.field-1 c.in-Some.number c.is_inside.result c.in-File.is c.as_slice.ensures c.in-Some.ensures (omega arith) c.is_inside.ensures
