use Rattle.std.proofs.Common.{ℕ, ◌∙◌, ap, List, take, flat_map}
use Rattle.bd_node.specs.Nodes.{message_names}
use Rattle.bd_tally.specs.Counts.{counts_after}
use Rattle.bd_tally.proofs.CountLemmas.{after_first, after_more, after_all, rising_now}
use Rattle.bd_tally.proofs.counts.take_messages.Goals as goal

pub loop-message-init : goal.loop-message-init
loop-message-init c = after_first message_names c.args.messages.now c.args.counts.now

pub take_some-requires : goal.take_some-requires
take_some-requires c = rising_now (flat_map message_names (take c.loop-message.message-index c.args.messages.now)) c.args.counts.now c.loop-message.counts c.requires c.loop-message.invariant

pub loop-message-preserved : goal.loop-message-preserved
loop-message-preserved c =
    after_more message_names c.args.messages.now c.loop-message.message-index c.message-item.result c.args.counts.now c.loop-message.counts c.take_some.new.counts
    c.loop-message-test.true c.message-item.is c.loop-message.invariant (c.take_some.ensures ∙ ap (λ (xs : List ℕ). counts_after xs c.loop-message.counts) c.child_of.ensures)

pub returns : goal.returns
returns c = after_all message_names c.args.messages.now c.loop-message.message-index c.args.counts.now c.loop-message.counts c.loop-message-test.false c.loop-message.invariant
