use Rattle.bd_check.proofs.SlotReads.{good_or_none}
use Rattle.bd_check.proofs.nodes.good_node.Goals as goal

pub returns-in_ok-is_good-in-Ok-clause-good : goal.returns-in_ok-is_good-in-Ok-clause-good
returns-in_ok-is_good-in-Ok-clause-good g c =
    good_or_none (g.D.Device.contents c.args.dev.now) c.args.entries.now c.args.entry c.in-Ok.node c.in_ok-is_good-in-Ok.is_good c.then_some.result c.then_some.ensures
    c.images_are_of_one_node.ensures c.in-Ok.ensures.held c.in_ok-is_good-in-Ok.ensures
