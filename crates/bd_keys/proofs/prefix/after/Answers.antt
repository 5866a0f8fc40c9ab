use Rattle.std.proofs.Common.{arith, refl, ◌∙◌, ◌-◌, ◌+◌, slice_set}
use Rattle.std.proofs.lemmas.List.{get_or_default}
use Rattle.bd_keys.proofs.PrefixRange.{prefix_range-all, prefix_range-found, none_above, IsAfter-prefix_range}
use Rattle.bd_keys.proofs.prefix.after.Goals as goal

pub returns-then-kept-eq0-clause-range : goal.returns-then-kept-eq0-clause-range
returns-then-kept-eq0-clause-range c =
    prefix_range-all c.args.prefix.now (λ i le lt. c.kept_len-kept.ensures.tops i (omega (arith, c.if-kept-eq0.true)) lt)

pub returns-then-kept-eq0-clause-none : goal.returns-then-kept-eq0-clause-none
returns-then-kept-eq0-clause-none c =
    none_above c.args.prefix.now (λ i. omega (arith, c.type_inv.prefix i))
    (prefix_range-all c.args.prefix.now (λ i le lt. c.kept_len-kept.ensures.tops i (omega (arith, c.if-kept-eq0.true)) lt))

pub returns-then-kept-eq0-clause-last : goal.returns-then-kept-eq0-clause-last
returns-then-kept-eq0-clause-last c =
    ((λ _ k d lt. get_or_default c.args.prefix.now k d 0 lt ∙ c.kept_len-kept.ensures.tops k (omega (arith, c.if-kept-eq0.true)) lt), λ _. refl)

pub returns-clause-range : goal.returns-clause-range
returns-clause-range c =
    prefix_range-found c.args.prefix.now c.in_ok-end.end.items c.kept_len-kept.result (c.kept_len-kept.result - 1) c.index_mut.result.now
    (λ i. omega (arith, c.type_inv.prefix i)) (omega (arith, c.if-kept-eq0.false)) c.kept_len-kept.ensures.within
    c.kept_len-kept.ensures.tops c.in_ok-end.ensures.items c.index_mut.ensures.value

pub returns-clause-after : goal.returns-clause-after
returns-clause-after c =
    IsAfter-prefix_range c.args.prefix.now (slice_set c.in_ok-end.end.items (c.kept_len-kept.result - 1) (c.index_mut.result.now + 1))
    (λ i. omega (arith, c.type_inv.prefix i)) (returns-clause-range c)
