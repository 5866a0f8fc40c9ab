use Rattle.std.proofs.Common.{sym, subst}
use Rattle.bd_script.specs.Lines.{HasNoNewline}
use Rattle.bd_sessions.specs.declared.replies.TurnReply.{TurnReply}
use Rattle.bd_sessions.specs.Replies.{turn_text}
use Rattle.bd_sessions.proofs.PlainTexts.{opened_plain, no_plain}
use Rattle.bd_sessions.proofs.replies.put_turn.Goals as goal

pub returns-in-Opened-clause-one_line : goal.returns-in-Opened-clause-one_line
returns-in-Opened-clause-one_line c = subst (λ (said : TurnReply). HasNoNewline (turn_text said)) (sym c.in-Opened.is) (opened_plain c.in-Opened.number)

pub returns-in-No-clause-one_line : goal.returns-in-No-clause-one_line
returns-in-No-clause-one_line c = subst (λ (said : TurnReply). HasNoNewline (turn_text said)) (sym c.in-No.is) (no_plain c.in-No.denial)
