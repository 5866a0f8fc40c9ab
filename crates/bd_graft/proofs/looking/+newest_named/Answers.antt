use Rattle.std.proofs.Common.{◌∙◌}
use Rattle.bd_graft.proofs.Looks.{last_some, last_none}
use Rattle.bd_graft.proofs.looking.+newest_named.Goals as goal

pub returns-in-Some : goal.returns-in-Some
returns-in-Some t c = last_some c.args.list.now c.in_ok-message.older.now c.in_ok-message.message.now c.named_whole.result c.in-Some.child c.in_ok-message.ensures.cases.0 c.named_whole.ensures c.in-Some.is

pub returns-in-None : goal.returns-in-None
returns-in-None t c = c.newest_named.ensures ∙ last_none c.args.list.now c.in_ok-message.older.now c.in_ok-message.message.now c.named_whole.result c.in_ok-message.ensures.cases.0 c.named_whole.ensures c.in-None.is
