use Rattle.std.proofs.Common.{List, ℕ, ap, take}
use Rattle.std.specs.Option.{option_copied}
use Rattle.bd_inner.proofs.Moved.{if_moved, if_part}
use Rattle.bd_inner.proofs.batches.moved.Goals as goal

pub returns-clause-moved : goal.returns-clause-moved
returns-clause-moved c =
    if_moved c.args.edge.now (option_copied c.args.hi) c.args.message.now (take c.args.edge.now.lift c.as_slice.result.now) c.free.result c.requires.edge c.requires.message c.requires.goto
    (c.requires.touches.0 c.if-not-touches.false)
    (ap (λ (p : List ℕ). take c.args.edge.now.lift p) c.as_slice.ensures) c.free.ensures

pub returns-clause-part : goal.returns-clause-part
returns-clause-part c =
    if_part c.args.edge.now (option_copied c.args.hi) c.args.message.now (take c.args.edge.now.lift c.as_slice.result.now) c.free.result
    (c.requires.touches.0 c.if-not-touches.false)
    (ap (λ (p : List ℕ). take c.args.edge.now.lift p) c.as_slice.ensures) c.free.ensures
