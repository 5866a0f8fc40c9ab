use Rattle.bd_pager.proofs.SlotLemmas.{written_has}
use Rattle.bd_pager.proofs.slots.write_node.Goals as goal

pub returns-clause-held : goal.returns-clause-held
returns-clause-held g c =
    written_has (g.D.Device.contents c.write_slot.new.dev) c.args.slot c.args.node.now c.encode.new.into c.write_slot.result c.requires.shape c.encode.ensures c.write_slot.ensures.written
