use Rattle.std.proofs.Common.{refl, ◌∙◌}
use Rattle.bd_leaf.proofs.Covers.{covered}
use Rattle.bd_leaf.proofs.points.covered.Goals as goal

pub returns : goal.returns
returns c =
    covered c.args.entries.now _ c.deref.result.now c.args.prefix.now c.args.from.now c.start_of-start.result c.end_of-end.result (c.deref.ensures.value ∙ c.in_ok-least.ensures) c.requires c.start_of-start.ensures c.end_of-end.ensures refl
