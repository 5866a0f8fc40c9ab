use Rattle.std.proofs.Common.{refl}
use Rattle.std.specs.Int.{w32}
use Rattle.bd_wire.specs.Numbers.{be}
use Rattle.bd_wire.proofs.Put.{take-put_at, drop-put_at}
use Rattle.bd_wire.proofs.writer.Out.put_u32.Goals as goal

pub returns-clause-puts : goal.returns-clause-puts
unfolding be
returns-clause-puts c =
    let out = c.args.self.now in
    record {
      written = take-put_at out.at 4 out.bytes.now (be w32 c.args.n) c.write_u32.new.buf out.within refl c.write_u32.ensures;
      room = drop-put_at out.at 4 out.bytes.now (be w32 c.args.n) c.write_u32.new.buf out.within refl c.write_u32.ensures;
      array = refl;
    }
