-- What a tree ends as, where a `&mut` to its store is returned.
use Rattle.std.specs.Borrow.{Lends, Fml, RattleType, MutBor}
use Rattle.bd_node.specs.declared.store.NodeStore.{Ghosts}
use Rattle.bd_tree.specs.Trees.{TreeState}
use Rattle.bd_tree.specs.contracts.tree.Tree.{the_row}

module _ (S : RattleType) (g : Ghosts S.Denot) (tree : MutBor (TreeState S.Denot)) where
  -- once the borrow r ends, the tree stands on the store last left through r
  abbrev pub lends_store : MutBor S.Denot → Fml
  lends_store r = Lends (the_row S g) S tree r (λ s. record tree.now { store = s })
