use Rattle.bd_wire.proofs.Zeros.{zeros_but, zeros_all}
use Rattle.bd_wire.proofs.cursor.all_zero.Goals as goal

pub loop-byte-preserved : goal.loop-byte-preserved
loop-byte-preserved c = zeros_but c.args.bytes.now c.loop-byte.byte-index c.loop-byte.zeros c.loop-byte-test.true c.loop-byte.invariant

pub returns : goal.returns
returns c = zeros_all c.args.bytes.now c.loop-byte.byte-index c.loop-byte.zeros c.loop-byte-test.false c.loop-byte.invariant
