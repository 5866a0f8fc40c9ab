use Rattle.bd_cover.proofs.Looks.{no_thin}
use Rattle.bd_cover.proofs.walking.thin_child.Goals as goal

pub returns-in_err-child : goal.returns-in_err-child
returns-in_err-child g c = no_thin (g.S.NodeStore.table c.args.store.now) c.deref.result.now c.args.here.now.node.value c.from_residual.result c.from_residual.ensures c.deref.ensures c.in_err-child.ensures
