use Rattle.std.proofs.Common.{◌≡◌, Option, IfSome, sym, subst, ◌∙◌}
use Rattle.bd_device.specs.Blocks.{Image}
use Rattle.bd_tails.specs.Tails.{slot_bytes}
use Rattle.bd_tails.proofs.Known.{used_there, whole_read}
use Rattle.bd_tails.proofs.slots.read_slot.Goals as goal

pub learn-requires-clause-used : goal.learn-requires-clause-used
learn-requires-clause-used g c =
    used_there (g.D.Device.contents c.read_blocks.new.dev) c.args.slot c.used_blocks.result c.clear_from.new.bytes
    (subst (λ (known : Option Image). IfSome known (λ image. slot_bytes image c.args.slot ≡ c.clear_from.new.bytes)) (sym c.in_ok-read_blocks.ensures.reads.kept)
    (whole_read (g.D.Device.contents c.args.dev.now) c.args.tails.now.used.items c.args.slot c.used-used.result c.slot_block.result c.read_blocks.new.into c.clear_from.new.bytes
    c.used-used.ensures c.slot_block.ensures (c.read_blocks.auto.into ∙ c.told-bytes) c.requires.tails c.clear_from.ensures c.in_ok-read_blocks.ensures.bytes))
    c.used_blocks.ensures

pub returns-then-used-eq-BLOCKS-clause-bytes : goal.returns-then-used-eq-BLOCKS-clause-bytes
returns-then-used-eq-BLOCKS-clause-bytes g c =
    whole_read (g.D.Device.contents c.args.dev.now) c.args.tails.now.used.items c.args.slot c.used-used.result c.slot_block.result c.read_blocks.new.into c.clear_from.new.bytes
    c.used-used.ensures c.slot_block.ensures (c.read_blocks.auto.into ∙ c.told-bytes) c.requires.tails c.clear_from.ensures c.in_ok-read_blocks.ensures.bytes

pub returns-else-used-eq-BLOCKS-clause-bytes : goal.returns-else-used-eq-BLOCKS-clause-bytes
returns-else-used-eq-BLOCKS-clause-bytes g c =
    whole_read (g.D.Device.contents c.args.dev.now) c.args.tails.now.used.items c.args.slot c.used-used.result c.slot_block.result c.read_blocks.new.into c.clear_from.new.bytes
    c.used-used.ensures c.slot_block.ensures (c.read_blocks.auto.into ∙ c.told-bytes) c.requires.tails c.clear_from.ensures c.in_ok-read_blocks.ensures.bytes
