use Rattle.std.specs.Option.{option_copied}
use Rattle.bd_node.proofs.Touched.{touched_at_least, touched_within, first_of_cut, first_of_goto, point_can, point_else}
use Rattle.bd_node.proofs.touching.can_touch.Goals as goal

pub returns-in_default : goal.returns-in_default
returns-in_default c =
    point_can c.args.message.now c.own_key.result.now c.args.lo.now (option_copied c.args.hi) c.is_in_range-in_default.result (point_else c.args.message.now c.in_default.not-Cut c.in_default.not-Goto) c.own_key.ensures c.is_in_range-in_default.ensures

pub returns-then-touches : goal.returns-then-touches
returns-then-touches c = touched_at_least c.args.message.now c.args.lo.now (option_copied c.args.hi) c.touches.result c.requires c.if-touches.true c.touches.ensures

pub returns-else-touches : goal.returns-else-touches
returns-else-touches c =
    touched_within c.args.message.now c.args.lo.now (option_copied c.args.hi) c.touches.result c.is_joined_in.result _ c.if-touches.false c.touches.ensures
    (first_of_cut c.args.message.now c.in-Cut.prefix c.in-Cut.from c.as_slice.result.now c.as_slice-else-touches.result.now c.in-Cut.is c.as_slice.ensures c.as_slice-else-touches.ensures)
    c.is_joined_in.ensures

pub returns-then-touches-2 : goal.returns-then-touches-2
returns-then-touches-2 c = touched_at_least c.args.message.now c.args.lo.now (option_copied c.args.hi) c.touches-in-Goto.result c.requires c.if-touches-2.true c.touches-in-Goto.ensures

pub returns-else-touches-2 : goal.returns-else-touches-2
returns-else-touches-2 c =
    touched_within c.args.message.now c.args.lo.now (option_copied c.args.hi) c.touches-in-Goto.result c.is_in_range.result _ c.if-touches-2.false c.touches-in-Goto.ensures
    (first_of_goto c.args.message.now c.in-Goto.prefix c.in-Goto.source c.in-Goto.child c.as_slice-else-touches-2.result.now c.in-Goto.is c.as_slice-else-touches-2.ensures)
    c.is_in_range.ensures
