use Rattle.std.proofs.Common.{arith, ap, length, length-append}
use Rattle.bd_log.specs.Batches.{header_bytes}
use Rattle.bd_log.proofs.Buffers.{header_length}
use Rattle.bd_log.proofs.Headers.{header_is}
use Rattle.bd_log.proofs.decode.named_blocks.Goals as goal

pub returns-in-Some : goal.returns-in-Some
returns-in-Some c = λ blocks epoch count size rest b e n s written.
    (header_is c.in-Some.header blocks epoch count size c.args.bytes.now c.in-Some.ensures.some.0 rest c.in-Some.ensures.fits b e n s c.in-Some.ensures.some.1 written).many

pub returns-in-None : goal.returns-in-None
returns-in-None c = λ blocks epoch count size rest b e n s written.
    absurd (omega (arith, c.in-None.ensures.none, ap length written, length-append (header_bytes blocks epoch count size) rest, header_length blocks epoch count size))
