use Rattle.std.proofs.Common.{arith}
use Rattle.bd_device.specs.Device.{left_now}
use Rattle.bd_tails.proofs.Known.{used_there, whole_written, tails_kept, slot_torn}
use Rattle.bd_tails.proofs.slots.write_slot.Goals as goal

pub returns-in_err-write_blocks-clause-tails : goal.returns-in_err-write_blocks-clause-tails
returns-in_err-write_blocks-clause-tails g c =
    tails_kept (g.D.Device.contents c.args.dev.now) (g.D.Device.contents c.write_blocks.new.dev) c.args.tails.now.used.items c.note.new.self.used.items c.args.slot c.used_blocks-needed.result c.max-used.result c.slot_block.result
    (omega (arith, c.max-used.ensures), omega (arith, c.max-used.ensures, c.used.ensures), omega (arith, c.max-used.ensures, c.used.ensures, c.used_blocks-needed.ensures.few))
    c.slot_block.ensures c.note.ensures c.requires.tails c.in_err-write_blocks.ensures.others

pub returns-in_err-write_blocks-clause-time : goal.returns-in_err-write_blocks-clause-time
returns-in_err-write_blocks-clause-time g c =
    slot_torn (left_now g.D.Device c.args.dev.now) c.args.slot c.max-used.result c.slot_block.result (omega (arith, c.max-used.ensures, c.used.ensures, c.used_blocks-needed.ensures.few)) c.slot_block.ensures c.write_blocks.ensures.time

pub learn-requires-clause-known : goal.learn-requires-clause-known
learn-requires-clause-known g c =
    tails_kept (g.D.Device.contents c.args.dev.now) (g.D.Device.contents c.write_blocks.new.dev) c.args.tails.now.used.items c.note.new.self.used.items c.args.slot c.used_blocks-needed.result c.max-used.result c.slot_block.result
    (omega (arith, c.max-used.ensures), omega (arith, c.max-used.ensures, c.used.ensures), omega (arith, c.max-used.ensures, c.used.ensures, c.used_blocks-needed.ensures.few))
    c.slot_block.ensures c.note.ensures c.requires.tails c.in_ok-write_blocks.ensures.others

pub learn-requires-clause-used : goal.learn-requires-clause-used
learn-requires-clause-used g c =
    used_there (g.D.Device.contents c.write_blocks.new.dev) c.args.slot c.used_blocks-needed.result c.args.bytes.now
    (whole_written (g.D.Device.contents c.args.dev.now) (g.D.Device.contents c.write_blocks.new.dev) c.args.tails.now.used.items c.args.slot c.used_blocks-needed.result c.max-used.result c.slot_block.result c.args.bytes.now
    (omega (arith, c.max-used.ensures), omega (arith, c.max-used.ensures, c.used.ensures), omega (arith, c.max-used.ensures, c.used.ensures, c.used_blocks-needed.ensures.few))
    c.slot_block.ensures c.told-bytes c.used_blocks-needed.ensures.zero c.requires.tails c.in_ok-write_blocks.ensures.others c.in_ok-write_blocks.ensures.written)
    c.used_blocks-needed.ensures

pub returns-clause-written : goal.returns-clause-written
returns-clause-written g c =
    whole_written (g.D.Device.contents c.args.dev.now) (g.D.Device.contents c.write_blocks.new.dev) c.args.tails.now.used.items c.args.slot c.used_blocks-needed.result c.max-used.result c.slot_block.result c.args.bytes.now
    (omega (arith, c.max-used.ensures), omega (arith, c.max-used.ensures, c.used.ensures), omega (arith, c.max-used.ensures, c.used.ensures, c.used_blocks-needed.ensures.few))
    c.slot_block.ensures c.told-bytes c.used_blocks-needed.ensures.zero c.requires.tails c.in_ok-write_blocks.ensures.others c.in_ok-write_blocks.ensures.written

pub returns-clause-time : goal.returns-clause-time
returns-clause-time g c =
    slot_torn (left_now g.D.Device c.args.dev.now) c.args.slot c.max-used.result c.slot_block.result (omega (arith, c.max-used.ensures, c.used.ensures, c.used_blocks-needed.ensures.few)) c.slot_block.ensures c.write_blocks.ensures.time
