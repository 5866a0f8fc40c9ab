use Rattle.std.proofs.Common.{◌∙◌}
use Rattle.bd_message.proofs.Finds.{acts_more, found}
use Rattle.bd_message.proofs.entries.act_all.Goals as goal

pub loop-message-preserved : goal.loop-message-preserved
loop-message-preserved c = λ k.
    acts_more c.args.list.now c.loop-message.message-index c.message-item.result k (found k c.loop-message.entries.items) (found k c.act.new.entries.items) c.loop-message-test.true c.message-item.is (c.in_ok-act.ensures k)
    ∙ c.loop-message.invariant k
