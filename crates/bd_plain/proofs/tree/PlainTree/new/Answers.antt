use Rattle.std.proofs.Common.{◌≡◌, ap, ◌∙◌, [], ◌∷◌, rules}
use Rattle.bd_model.specs.Tree.{Directory}
use Rattle.bd_model.proofs.TreeGets.{Entries}
use Rattle.bd_plain.proofs.TreeViews.{seen, root_seen}
use Rattle.bd_plain.proofs.tree.PlainTree.new.Goals as goal

pub returns : goal.returns
returns c =
    let alone : ◌≡◌ {A = Entries} c.push.new.self.items (([], Directory 0) ∷ []) = search rules in
    ap seen alone ∙ root_seen
