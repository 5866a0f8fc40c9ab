use Rattle.std.specs.Option.{option_copied}
use Rattle.bd_resolve.proofs.Follows.{under_pivot, under_range}
use Rattle.bd_resolve.proofs.following.is_under.Goals as goal

pub returns-then-starts_with : goal.returns-then-starts_with
returns-then-starts_with c = under_pivot c.args.lo.now (option_copied c.args.hi) c.args.prefix.now c.starts_with.result c.requires c.if-starts_with.true c.starts_with.ensures.value

pub returns-else-starts_with : goal.returns-else-starts_with
returns-else-starts_with c = under_range c.args.lo.now (option_copied c.args.hi) c.args.prefix.now c.starts_with.result c.is_in_range.result c.if-starts_with.false c.starts_with.ensures.value c.is_in_range.ensures
