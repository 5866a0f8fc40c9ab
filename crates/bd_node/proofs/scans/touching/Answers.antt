use Rattle.std.specs.Option.{option_copied}
use Rattle.bd_node.proofs.Marking.{touching_more}
use Rattle.bd_node.proofs.scans.touching.Goals as goal

pub loop-message-preserved : goal.loop-message-preserved
loop-message-preserved c =
    touching_more c.loop-message.mask.items _ c.can_touch.result c.args.items.now c.args.lo.now (option_copied c.args.hi) c.loop-message.message-index c.message-item.result c.loop-message.invariant c.loop-message-test.true c.message-item.is c.can_touch.ensures c.in_ok-push.ensures.items
