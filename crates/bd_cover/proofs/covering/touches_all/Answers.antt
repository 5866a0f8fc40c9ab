use Rattle.std.proofs.Common.{arith}
use Rattle.std.specs.Option.{option_copied}
use Rattle.bd_cover.proofs.Covers.{cut_decides, goto_decides}
use Rattle.bd_cover.proofs.covering.touches_all.Goals as goal

pub returns-then-is_common : goal.returns-then-is_common
returns-then-is_common c = λ cover says.
    cut_decides c.args.message.now c.in-Cut.prefix c.in-Cut.from c.as_slice.result.now c.args.lo.now (option_copied c.args.hi) c.is_common.result c.touches.result c.in-Cut.is c.as_slice.ensures c.is_common.ensures c.if-is_common.true c.touches.ensures

pub returns-in-Goto : goal.returns-in-Goto
returns-in-Goto c = λ cover says.
    goto_decides cover c.args.message.now c.in-Goto.prefix c.in-Goto.source c.in-Goto.child c.as_slice-in-Goto.result.now c.args.lo.now (option_copied c.args.hi) c.is_common-in-Goto.result c.in-Goto.is c.as_slice-in-Goto.ensures (λ i. omega (arith, c.type_inv.lo i)) c.requires c.is_common-in-Goto.ensures says
