use Rattle.bd_wire.proofs.Zeros.{AreZerosBut}
use Rattle.bd_wire.proofs.cursor.all_zero.Given as goal

abbrev pub invariant-loop-byte : goal.invariant-loop-byte
invariant-loop-byte l = AreZerosBut l.bytes l.byte-index l.zeros
