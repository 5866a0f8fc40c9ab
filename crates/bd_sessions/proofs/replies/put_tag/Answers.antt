use Rattle.bd_sessions.proofs.PlainTexts.{tag_plain}
use Rattle.bd_sessions.proofs.replies.put_tag.Goals as goal

pub returns-clause-one_line : goal.returns-clause-one_line
returns-clause-one_line c = tag_plain c.args.client
