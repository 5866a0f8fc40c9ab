use Rattle.std.specs.Option.{option_copied}
use Rattle.bd_flush.proofs.GoingDown.{lies_not, lies_open, lies_below}
use Rattle.bd_step.proofs.gotos.lies_within.Goals as goal

pub returns-then-not-begins_from : goal.returns-then-not-begins_from
returns-then-not-begins_from c = lies_not c.args.prefix.now c.args.lo.now (option_copied c.args.hi) c.begins_from.result c.if-not-begins_from.true c.begins_from.ensures.least

pub returns-in-Some : goal.returns-in-Some
returns-in-Some c =
    rw c.in-Some.is (lies_below c.args.prefix.now c.args.lo.now c.in-Some.hi.now c.ends_below.result c.begins_from.ensures.bytes (c.begins_from.ensures.least.0 c.if-not-begins_from.false) c.ends_below.ensures)

pub returns-in-None : goal.returns-in-None
returns-in-None c = rw c.in-None.is (lies_open c.args.prefix.now c.args.lo.now c.begins_from.ensures.bytes (c.begins_from.ensures.least.0 c.if-not-begins_from.false))
