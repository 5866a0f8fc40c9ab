use Rattle.std.proofs.Common.{rules}
use Rattle.bd_message.proofs.Finds.{acted_patch, on_ok}
use Rattle.bd_message.proofs.entries.patch.Goals as goal

pub returns : goal.returns
returns c = on_ok c.put.result (acted_patch c.args.entries.now.items c.put.new.entries.items c.args.key.now c.from_vec.result c.args.off c.args.bytes.now (search rules)) c.put.ensures
