use Rattle.std.proofs.Common.{◌≡◌, true, sym, ◌∙◌}
use Rattle.std.specs.FinMap.{get}
use Rattle.bd_represent.proofs.TreeLemmas.{Represents-along}
use Rattle.bd_files.specs.Smalls.{has_little, IsSmallAt}
use Rattle.bd_dirs.specs.Plans.{IsCarriedAt}
use Rattle.bd_dirs.proofs.News.{of_ok}
use Rattle.bd_dirs.proofs.Smalls.{small_along, carried_found}
use Rattle.bd_dirs.proofs.moving.carried_file.Goals as goal

pub returns-clause-found : goal.returns-clause-found
returns-clause-found g c = λ known t tree r.
    let a = c.args.a.now in
    let b = c.args.b.now in
    let left = c.in_ok-has_little.ensures.left in
    let old = g.M.KeyMap.has c.args.m.now in
    let new = g.M.KeyMap.has c.has_little.new.m in
    let later = Represents-along old new t (λ k key. left.kept known k) r in
    let little : has_little (get t b) ≡ true = sym (c.in_ok-has_little.ensures.little known t tree r) ∙ c.if-not-branch.false in
    of_ok c.small_file.result (IsSmallAt new a (get t a)) (IsCarriedAt old t a b) (c.small_file.ensures.found (left.known known) t tree later)
    (λ found h. carried_found old t a b found little (small_along old new a (get t a) found (λ k. left.kept known k) h))
