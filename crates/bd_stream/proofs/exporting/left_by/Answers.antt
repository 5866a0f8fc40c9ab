use Rattle.std.proofs.Common.{length, arith, ap, length-drop}
use Rattle.bd_wire.specs.Writing.{room}
use Rattle.bd_stream.specs.Heads.{head_bytes}
use Rattle.bd_stream.proofs.HeadLemmas.{length_head}
use Rattle.bd_stream.proofs.exporting.left_by.Goals as goal

pub write-requires-clause-room : goal.write-requires-clause-room
write-requires-clause-room c = omega (arith, length_head c.args.head.now c.requires, ap length c.new-out.ensures.room, c.told-array)

pub returns-clause-left : goal.returns-clause-left
returns-clause-left c =
    let bytes = head_bytes c.args.head.now in
    omega (arith, length_head c.args.head.now c.requires, ap length c.new-out.ensures.room, c.told-array, c.left.ensures, ap length c.write.ensures.room, length-drop (length bytes) (room c.new-out.result))
