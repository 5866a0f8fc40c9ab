use Rattle.std.proofs.Common.{refl, length}
use Rattle.bd_wire.proofs.Put.{take-put_at, drop-put_at}
use Rattle.bd_wire.proofs.writer.Out.put_bytes.Goals as goal

pub returns-clause-puts : goal.returns-clause-puts
returns-clause-puts c =
    let out = c.args.self.now in
    record {
      written = take-put_at out.at (length c.args.bytes.now) out.bytes.now c.args.bytes.now c.put_first.new.into out.within refl c.put_first.ensures;
      room = drop-put_at out.at (length c.args.bytes.now) out.bytes.now c.args.bytes.now c.put_first.new.into out.within refl c.put_first.ensures;
      array = refl;
    }
