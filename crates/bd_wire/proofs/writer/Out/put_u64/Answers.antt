use Rattle.std.proofs.Common.{refl}
use Rattle.std.specs.Int.{w64}
use Rattle.bd_wire.specs.Numbers.{be}
use Rattle.bd_wire.proofs.Put.{take-put_at, drop-put_at}
use Rattle.bd_wire.proofs.writer.Out.put_u64.Goals as goal

pub returns-clause-puts : goal.returns-clause-puts
unfolding be
returns-clause-puts c =
    let out = c.args.self.now in
    record {
      written = take-put_at out.at 8 out.bytes.now (be w64 c.args.n) c.write_u64.new.buf out.within refl c.write_u64.ensures;
      room = drop-put_at out.at 8 out.bytes.now (be w64 c.args.n) c.write_u64.new.buf out.within refl c.write_u64.ensures;
      array = refl;
    }
