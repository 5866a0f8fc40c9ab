use Rattle.std.proofs.Common.{sym, ◌∙◌}
use Rattle.bd_keys.proofs.Order.{not_false}
use Rattle.bd_flush.proofs.Batches.{batch_messages, batch_plain_at, all_messages, all_plain, is_leaf_batch, more_than_fits, leaf_room, split_over, leaf_descent}
use Rattle.bd_flush.proofs.GoingDown.{waits_move}
use Rattle.bd_flush.proofs.Pushed.{batch_low}
use Rattle.bd_flush.proofs.pushing.leaf_received.Goals as goal

pub edge_batch-requires-clause-waiting : goal.edge_batch-requires-clause-waiting
edge_batch-requires-clause-waiting c = λ e here. waits_move c.args.node.now c.args.place e (c.requires.waiting e here)

pub receive-requires-clause-messages : goal.receive-requires-clause-messages
receive-requires-clause-messages c =
    all_messages c.as_slice.result.now c.in_ok-batch.batch.messages c.as_slice.ensures (batch_messages c.args.node.now c.args.place c.in_ok-batch.batch c.requires.within c.in_ok-batch.ensures)

pub receive-requires-clause-plain : goal.receive-requires-clause-plain
receive-requires-clause-plain c =
    all_plain c.as_slice.result.now c.in_ok-batch.batch.messages c.as_slice.ensures (batch_plain_at c.args.node.now c.args.place c.in_ok-batch.batch c.requires.within c.requires.waiting c.in_ok-batch.ensures)

pub leaf_parted-requires-clause-there : goal.leaf_parted-requires-clause-there
leaf_parted-requires-clause-there c = λ e here. batch_low c.args.node.now c.args.place e c.in_ok-batch.batch c.requires.shape here (c.in_ok-batch.ensures e here)

pub leaf_parted-requires-clause-over : goal.leaf_parted-requires-clause-over
leaf_parted-requires-clause-over c = more_than_fits c.in_ok-new.new c.as_slice-2.result.now c.as_slice-2.ensures (λ small. not_false (sym c.if-fits.false ∙ c.fits.ensures.1 small))

pub leaf_parted-requires-clause-fits : goal.leaf_parted-requires-clause-fits
leaf_parted-requires-clause-fits c =
    leaf_room c.args.node.now c.args.place c.in_ok-batch.batch c.args.entries.now c.in_ok-new.new c.requires.leaf
    (is_leaf_batch c.args.node.now c.args.place c.in_ok-batch.batch c.args.entries.now c.in_ok-new.new c.as_slice.result.now c.requires.within c.in_ok-batch.ensures c.as_slice.ensures c.in_ok-new.ensures)

pub returns-then-fits : goal.returns-then-fits
returns-then-fits c =
    leaf_descent c.args.node.now c.args.place c.in_ok-batch.batch c.args.entries.now c.in_ok-new.new c.as_slice-2.result.now
    (is_leaf_batch c.args.node.now c.args.place c.in_ok-batch.batch c.args.entries.now c.in_ok-new.new c.as_slice.result.now c.requires.within c.in_ok-batch.ensures c.as_slice.ensures c.in_ok-new.ensures) c.requires.waiting c.as_slice-2.ensures
    (c.fits.ensures.0 c.if-fits.true)

pub returns : goal.returns
returns c =
    split_over c.args.node.now c.args.place c.args.next c.in_ok-batch.batch c.args.entries.now c.in_ok-new.new c.in_ok-halving.halving
    (is_leaf_batch c.args.node.now c.args.place c.in_ok-batch.batch c.args.entries.now c.in_ok-new.new c.as_slice.result.now c.requires.within c.in_ok-batch.ensures c.as_slice.ensures c.in_ok-new.ensures)
    (more_than_fits c.in_ok-new.new c.as_slice-2.result.now c.as_slice-2.ensures (λ small. not_false (sym c.if-fits.false ∙ c.fits.ensures.1 small))) c.in_ok-halving.ensures
