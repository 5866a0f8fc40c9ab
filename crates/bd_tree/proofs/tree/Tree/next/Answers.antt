use Rattle.std.proofs.Common.{ℕ, subst, IfOk}
use Rattle.std.specs.Option.{option_map}
use Rattle.bd_message.specs.KeyMaps.{IsNextEntry}
use Rattle.bd_node.specs.Meaning.{at}
use Rattle.bd_tree.proofs.tree.Tree.next.Goals as goal

pub returns-clause-next : goal.returns-clause-next
returns-clause-next g c =
    rw (← c.self.view_is) (λ known sound.
    subst (λ (id : ℕ). IfOk c.next.result (λ found. IsNextEntry (at (g.S.NodeStore.nodes c.self.inside.store) id) c.args.from.now c.args.within.now (option_map (λ entry. (entry.0.items, entry.1.items)) found))) c.root-root.ensures.value
    (c.next.ensures.next known sound))
