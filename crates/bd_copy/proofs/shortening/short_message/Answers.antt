use Rattle.bd_copy.proofs.Shortened.{goto_to_target}
use Rattle.bd_copy.proofs.shortening.short_message.Goals as goal

pub returns-in_ok-sent_keys-in-Goto-clause-same : goal.returns-in_ok-sent_keys-in-Goto-clause-same
returns-in_ok-sent_keys-in-Goto-clause-same g c = λ known sound.
    goto_to_target (g.S.NodeStore.nodes c.args.store.now) c.args.message.now c.in_ok-sent_keys-in-Goto.field-0 c.in-Goto.prefix c.in-Goto.source c.in-Goto.child c.in_ok-target-in-Goto.target c.in-Goto.is c.in_ok-sent_keys-in-Goto.ensures
    (c.in_ok-target-in-Goto.ensures.value known sound)
