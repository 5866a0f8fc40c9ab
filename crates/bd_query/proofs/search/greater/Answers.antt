use Rattle.std.proofs.Common.{sym, ap, ◌∙◌}
use Rattle.std.specs.Ordering.{is_lt}
use Rattle.bd_keys.specs.Keys.{key_cmp}
use Rattle.bd_keys.proofs.Order.{not_below_itself}
use Rattle.bd_node.proofs.Edges.{lt_is}
use Rattle.bd_node.proofs.Touched.{least_back}
use Rattle.bd_query.proofs.search.greater.Goals as goal

pub returns-then-is_lt-clause-first : goal.returns-then-is_lt-clause-first
returns-then-is_lt-clause-first c =
    least_back c.args.a.now c.args.b.now (lt_is (key_cmp c.args.a.now c.args.b.now) (sym (ap is_lt c.cmp.ensures) ∙ sym c.is_lt.ensures ∙ c.if-is_lt.true))

pub returns-then-is_lt-clause-second : goal.returns-then-is_lt-clause-second
returns-then-is_lt-clause-second c = not_below_itself c.args.b.now

pub returns-else-is_lt-clause-first : goal.returns-else-is_lt-clause-first
returns-else-is_lt-clause-first c = not_below_itself c.args.a.now
