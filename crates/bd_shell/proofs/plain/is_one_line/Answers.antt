-- What is listed are names, and each of them is one line.
use Rattle.bd_script.proofs.OneLine.{line_reply_plain}
use Rattle.bd_shell.proofs.plain.is_one_line.Goals as goal

pub returns : goal.returns
returns c = line_reply_plain c.args.said.now c.lists_names.ensures
