use Rattle.bd_sessions.proofs.PlainTexts.{said_after}
use Rattle.bd_sessions.proofs.replies.turn_reply.Goals as goal

pub returns-clause-text : goal.returns-clause-text
returns-clause-text c =
    said_after c.args.client c.args.said.now c.put_tag-start.result c.put_turn.result _ c.put_turn.new.into _
    c.put_tag-start.ensures.text c.put_tag-start.ensures.length c.put_turn.ensures.text c.put_turn.ensures.length
