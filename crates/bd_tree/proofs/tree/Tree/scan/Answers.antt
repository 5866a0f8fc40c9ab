use Rattle.std.proofs.Common.{ℕ, subst, IfOk}
use Rattle.bd_node.specs.Meaning.{at}
use Rattle.bd_scan.specs.Scans.{IsScan}
use Rattle.bd_tree.proofs.tree.Tree.scan.Goals as goal

pub returns-clause-found : goal.returns-clause-found
returns-clause-found g c =
    rw (← c.self.view_is) (λ known sound.
    subst (λ (id : ℕ). IfOk c.scan.result (λ found. IsScan (at (g.S.NodeStore.nodes c.self.inside.store) id) c.args.from.now c.args.within.now found.items)) c.root-root.ensures.value
    (c.scan.ensures.found known sound))
