use Rattle.std.proofs.Common.{◌<◌, length, get_or, arith}
use Rattle.bd_node.proofs.Owning.{given_none, given_more, given_all}
use Rattle.bd_node.proofs.owners.give.Goals as goal

pub index_mut-requires : goal.index_mut-requires
index_mut-requires c =
    let low : get_or c.args.points.now c.loop-at.at 0 < length c.args.owners.now.items = c.requires.below c.loop-at.at (omega arith) in
    omega (arith, c.loop-at.invariant.so_far.long)

pub loop-at-init : goal.loop-at-init
loop-at-init c = given_none c.args.owners.now.items c.args.points.now c.args.from c.args.to c.args.number

pub loop-at-preserved : goal.loop-at-preserved
loop-at-preserved c =
    let low : get_or c.args.points.now c.loop-at.at 0 < length c.args.owners.now.items = c.requires.below c.loop-at.at (omega arith) in
    given_more c.args.owners.now.items c.loop-at.owners.items c.args.points.now c.args.from c.loop-at.at c.args.to c.args.number c.loop-at.invariant c.loop-at.auto.at c.loop-at-test.true (omega (arith, c.loop-at.invariant.so_far.long))

pub returns : goal.returns
returns c =
    given_all c.args.owners.now.items c.loop-at.owners.items c.args.points.now c.args.from c.loop-at.at c.args.to c.args.number c.loop-at.invariant c.loop-at-test.false
