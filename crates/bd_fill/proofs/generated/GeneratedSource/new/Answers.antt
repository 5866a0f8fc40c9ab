-- No line is begun.
use Rattle.std.proofs.Common.{ap, ◌∙◌, refl}
use Rattle.bd_fill.specs.Scripts.{generated_script, unread}
use Rattle.bd_fill.proofs.Unread.{unread_all}
use Rattle.bd_fill.proofs.generated.GeneratedSource.new.Goals as goal

pub returns-clause-left : goal.returns-clause-left
returns-clause-left c = unread_all c.new-2.result.items c.args.seed c.args.count c.new.result c.new-2.ensures.items c.new.ensures
