use Rattle.std.proofs.Common.{ℕ, Option, sym, subst}
use Rattle.bd_node.specs.Index.{IsNewestTouching}
use Rattle.bd_node.proofs.Asking.{newest_either}
use Rattle.bd_node.proofs.index.newest_touching.Goals as goal

pub returns : goal.returns
returns c =
    subst (λ (o : Option ℕ). IsNewestTouching c.args.items.now c.args.from c.args.key.now o) (sym c.last_of.ensures)
    (newest_either c.args.items.now c.args.from c.args.key.now c.newest_on-point.result c.newest_over-range.result c.newest_on-point.ensures c.newest_over-range.ensures)
