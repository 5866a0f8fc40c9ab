use Rattle.std.proofs.Common.{◌<◌, ◌≤◌, List, length, get_or, ap, subst, ◌∙◌}
use Rattle.bd_message.specs.declared.message.Message.{Message}
use Rattle.bd_node.proofs.Going.{left_more, left_all}
use Rattle.bd_node.proofs.relief.left.Goals as goal

pub loop-at-preserved : goal.loop-at-preserved
loop-at-preserved c =
    left_more c.args.edges.now c.args.place c.args.from c.args.buffer.now c.loop-at.at c.loop-at.mask.items c.push.new.self.items c.in-Some.stays c.index-messages-at.result c.loop-at.invariant
    (subst (λ (l : List Message). c.loop-at.at < length l) c.as_slice-messages.ensures c.loop-at-test.true)
    (c.index-messages-at.is ∙ ap (λ (l : List Message). get_or l c.loop-at.at c.index-messages-at.result) c.as_slice-messages.ensures)
    c.in-Some.ensures.0 c.in-Some.ensures.1 c.in_ok-push.ensures.items

pub returns : goal.returns
returns c =
    left_all c.args.edges.now c.args.place c.args.from c.args.buffer.now c.loop-at.at c.loop-at.mask.items c.loop-at.invariant
    (subst (λ (l : List Message). length l ≤ c.loop-at.at) c.as_slice-messages.ensures c.loop-at-test.false)
