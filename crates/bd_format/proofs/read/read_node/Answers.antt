use Rattle.bd_format.proofs.Rest.{no_head}
use Rattle.bd_format.proofs.read.read_node.Goals as goal

pub returns-in_default : goal.returns-in_default
returns-in_default c = no_head c.args.cursor.now.left c.in_default.ensures
