-- What is listed are names.
use Rattle.bd_script.proofs.OneLine.{line_reply_plain}
use Rattle.bd_script.proofs.replies.line_reply.Goals as goal

pub returns-clause-one_line : goal.returns-clause-one_line
returns-clause-one_line c = line_reply_plain c.args.reply.now c.put_line_reply-end.ensures.names
