use Rattle.std.proofs.Common.{sym, ap, ◌∙◌}
use Rattle.std.specs.Ordering.{is_lt}
use Rattle.bd_keys.specs.Keys.{key_cmp}
use Rattle.bd_node.proofs.Edges.{lt_is, lt_isnt}
use Rattle.bd_flush.proofs.GoingDown.{ends_below, ends_above}
use Rattle.bd_step.proofs.gotos.ends_below.Goals as goal

pub returns-then-is_lt : goal.returns-then-is_lt
returns-then-is_lt c =
    ends_below c.args.prefix.now c.args.key.now c.starts_with.result
    (lt_is (key_cmp c.args.prefix.now c.args.key.now) (sym (ap is_lt c.cmp.ensures) ∙ sym c.is_lt.ensures ∙ c.if-is_lt.true)) c.starts_with.ensures.value

pub returns-else-is_lt : goal.returns-else-is_lt
returns-else-is_lt c =
    ends_above c.args.prefix.now c.args.key.now c.is_lt.result c.if-is_lt.false
    (lt_isnt (key_cmp c.args.prefix.now c.args.key.now) (sym (ap is_lt c.cmp.ensures) ∙ sym c.is_lt.ensures ∙ c.if-is_lt.false))
