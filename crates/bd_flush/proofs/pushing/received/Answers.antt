use Rattle.std.proofs.Common.{◌≤◌, arith}
use Rattle.std.specs.List.{sum_by}
use Rattle.bd_limits.specs.Limits.{batch_limit}
use Rattle.bd_message.specs.Messages.{size}
use Rattle.bd_flush.proofs.Pushed.{batch_low}
use Rattle.bd_flush.proofs.Batches.{batch_messages, batch_fits, are_received, inner_descent, each_plain}
use Rattle.bd_flush.proofs.pushing.received.Goals as goal

pub relieved-requires-clause-there : goal.relieved-requires-clause-there
relieved-requires-clause-there c = λ e here. batch_low c.args.node.now c.args.place e c.in_ok-batch.batch c.requires.shape here (c.in_ok-batch.ensures e here)

pub receive-requires-clause-each : goal.receive-requires-clause-each
receive-requires-clause-each c = batch_messages c.args.node.now c.args.place c.in_ok-batch.batch c.requires.within c.in_ok-batch.ensures

pub receive-requires-clause-fits : goal.receive-requires-clause-fits
receive-requires-clause-fits c =
    let fits : sum_by size c.in_ok-batch.batch.messages ≤ batch_limit = batch_fits c.args.node.now c.args.place c.in_ok-batch.batch c.requires.within c.in_ok-batch.ensures in
    omega (arith, c.requires.soft, fits)

pub returns-then-are_plain : goal.returns-then-are_plain
returns-then-are_plain c =
    inner_descent c.args.node.now c.args.place c.args.child.now c.in_ok-batch.batch c.requires.within c.requires.inner c.requires.waiting c.in_ok-batch.ensures
    (each_plain c.as_slice.result.now c.in_ok-batch.batch.messages c.as_slice.ensures (c.are_plain.ensures.0 c.if-are_plain.true))

pub returns : goal.returns
returns c =
    are_received c.args.node.now c.args.place c.args.child.now c.args.next c.in_ok-batch.batch (record { node = c.in_ok-above.above; half = c.in_ok-half.half; made = c.new.result }) c.requires.within c.requires.inner c.in_ok-batch.ensures c.in_ok-above.ensures
    c.in_ok-half.ensures.node c.new.ensures.items
