use Rattle.std.proofs.Common.{length, refl}
use Rattle.std.specs.Option.{option_copied}
use Rattle.std.proofs.lemmas.Option.{slice_get_read}
use Rattle.bd_node.specs.Tables.{IsKept}
use Rattle.bd_step.proofs.OldestGotos.{free_more, first_found, none_found, message_named}
use Rattle.bd_step.proofs.gotos.oldest_goto.Goals as goal

pub is_free-requires-clause-kept : goal.is_free-requires-clause-kept
is_free-requires-clause-kept g c = message_named (IsKept (g.S.NodeStore.table c.args.store.now)) c.args.buffer.now c.loop-index.index c.index-buffer-index.result c.requires.kept c.loop-index-test.true c.index-buffer-index.is

pub returns-then-not-is_free : goal.returns-then-not-is_free
returns-then-not-is_free g c =
    first_found (g.S.NodeStore.table c.args.store.now).level c.args.top c.args.buffer.now c.args.edge.now (option_copied c.args.hi) c.loop-index.index c.index-buffer-index.result c.loop-index.invariant
    (slice_get_read c.args.buffer.now (length c.args.buffer.now) c.loop-index.index c.index-buffer-index.result refl c.loop-index-test.true c.index-buffer-index.is)
    (c.is_free.ensures.held c.if-not-is_free.true)

pub loop-index-preserved : goal.loop-index-preserved
loop-index-preserved g c =
    free_more (g.S.NodeStore.table c.args.store.now).level c.args.top c.args.buffer.now c.args.edge.now (option_copied c.args.hi) c.loop-index.index c.index-buffer-index.result c.loop-index.invariant
    (slice_get_read c.args.buffer.now (length c.args.buffer.now) c.loop-index.index c.index-buffer-index.result refl c.loop-index-test.true c.index-buffer-index.is)
    (c.is_free.ensures.free c.if-not-is_free.false)

pub returns : goal.returns
returns g c = none_found (g.S.NodeStore.table c.args.store.now).level c.args.top c.args.buffer.now c.args.edge.now (option_copied c.args.hi) c.loop-index.index c.loop-index.invariant c.loop-index-test.false
