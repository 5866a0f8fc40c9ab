use Rattle.std.proofs.Common.{ℕ, Option, sym, subst}
use Rattle.bd_node.specs.Touching.{IsNextTouching}
use Rattle.bd_node.proofs.Asking.{next_either}
use Rattle.bd_node.proofs.index.next_touching.Goals as goal

pub returns : goal.returns
returns c =
    subst (λ (o : Option ℕ). IsNextTouching c.args.items.now c.args.from c.args.key.now o) (sym c.first_of.ensures)
    (next_either c.args.items.now c.args.from c.args.key.now c.next_on-point.result c.next_over-range.result c.next_on-point.ensures c.next_over-range.ensures)
