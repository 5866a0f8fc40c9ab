use Rattle.bd_recall.proofs.Keeping.{follows_more}
use Rattle.bd_recall.proofs.recalled.Recalled.follow.Goals as goal

pub loop-message-preserved : goal.loop-message-preserved
loop-message-preserved c =
    follows_more c.args.self.now.found.keys c.loop-message.self.found.keys c.follow_one.new.self.found.keys c.args.list.now c.loop-message.message-index c.message-item.result
    c.loop-message-test.true c.message-item.is c.loop-message.invariant c.follow_one.ensures
