use Rattle.std.proofs.Common.{◌∙◌}
use Rattle.std.specs.Option.{option_copied}
use Rattle.bd_cover.proofs.Asks.{asks_childless, asks_none, asks_some, first_long, first_below}
use Rattle.bd_cover.proofs.asking.asked.Goals as goal

pub returns-in_default-clause-asked : goal.returns-in_default-clause-asked
returns-in_default-clause-asked c = asks_childless c.args.edge.now (option_copied c.args.end) c.args.lo.now (option_copied c.args.hi) c.in_default.is

pub returns-then-not-is_below_end-clause-asked : goal.returns-then-not-is_below_end-clause-asked
returns-then-not-is_below_end-clause-asked c =
    asks_none c.args.edge.now (option_copied c.args.end) c.args.lo.now (option_copied c.args.hi) c.as_slice.result.now c.later-first.result.now (option_copied c.earlier-past.result) c.is_below_end.result
    (record { pivot_is = c.as_slice.ensures; first_is = c.later-first.ensures.later; past_is = c.earlier-past.ensures; some_is = c.is_below_end.ensures }) c.if-not-is_below_end.true

pub translate-requires : goal.translate-requires
translate-requires c =
    first_long c.args.edge.now (option_copied c.args.end) c.args.lo.now (option_copied c.args.hi) c.as_slice.result.now c.later-first.result.now (option_copied c.earlier-past.result) c.is_below_end.result c.requires c.later-first.ensures.key
    (record { pivot_is = c.as_slice.ensures; first_is = c.later-first.ensures.later; past_is = c.earlier-past.ensures; some_is = c.is_below_end.ensures }) c.if-not-is_below_end.false

pub returns-clause-asked : goal.returns-clause-asked
returns-clause-asked c =
    asks_some c.args.edge.now (option_copied c.args.end) c.args.lo.now (option_copied c.args.hi) c.as_slice.result.now c.later-first.result.now (option_copied c.earlier-past.result) c.is_below_end.result c.in-Some.child c.as_slice-2.result.now c.from_vec.result c.in_ok-asked_end.field-0
    (record { pivot_is = c.as_slice.ensures; first_is = c.later-first.ensures.later; past_is = c.earlier-past.ensures; some_is = c.is_below_end.ensures }) c.if-not-is_below_end.false c.in-Some.is c.as_slice-2.ensures (c.from_vec.ensures ∙ c.in_ok-front.ensures) c.in_ok-asked_end.ensures

pub returns-clause-some : goal.returns-clause-some
returns-clause-some c =
    first_below c.args.edge.now (option_copied c.args.end) c.args.lo.now (option_copied c.args.hi) c.as_slice.result.now c.later-first.result.now (option_copied c.earlier-past.result) c.is_below_end.result c.as_slice-2.result.now c.from_vec.result c.in_ok-asked_end.field-0 c.requires c.later-first.ensures.key
    (record { pivot_is = c.as_slice.ensures; first_is = c.later-first.ensures.later; past_is = c.earlier-past.ensures; some_is = c.is_below_end.ensures }) c.if-not-is_below_end.false c.as_slice-2.ensures (c.from_vec.ensures ∙ c.in_ok-front.ensures) c.in_ok-asked_end.ensures
