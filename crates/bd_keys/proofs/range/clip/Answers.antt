use Rattle.std.proofs.Common.{refl, ◌≡◌}
use Rattle.std.specs.Option.{option_copied}
use Rattle.bd_keys.proofs.Order.{clone-end, in_both, none_between, not_below_itself, not_false}
use Rattle.bd_keys.proofs.range.clip.Goals as goal

pub returns-then-not-is_below_end-clause-none : goal.returns-then-not-is_below_end-clause-none
returns-then-not-is_below_end-clause-none c key in_a in_b =
    none_between c.max_key-lo.result.now (option_copied c.min_end-hi.result) key (λ h. not_false (c.if-not-is_below_end.ensures.1 h))
    ((c.max_key-lo.ensures key).1 (in_a.0, in_b.0)) ((c.min_end-hi.ensures key).1 (in_a.1, in_b.1))

pub returns-clause-both : goal.returns-clause-both
returns-clause-both c key =
    let lo : c.in_ok-lo.lo ≡ c.max_key-lo.result.now = c.in_ok-lo.ensures.cases in
    let hi : c.in_ok-hi.hi ≡ option_copied c.min_end-hi.result = clone-end c.min_end-hi.result c.in_ok-hi.hi c.in_ok-hi.ensures in
    in_both key c.in_ok-lo.lo c.args.a.now.lo c.args.b.now.lo c.in_ok-hi.hi c.args.a.now.hi c.args.b.now.hi
    (rw lo (c.max_key-lo.ensures key)) (rw hi (c.min_end-hi.ensures key))

pub returns-clause-some : goal.returns-clause-some
returns-clause-some c =
    let lo : c.in_ok-lo.lo ≡ c.max_key-lo.result.now = c.in_ok-lo.ensures.cases in
    let hi : c.in_ok-hi.hi ≡ option_copied c.min_end-hi.result = clone-end c.min_end-hi.result c.in_ok-hi.hi c.in_ok-hi.ensures in
    (not_below_itself c.in_ok-lo.lo, rw (lo, hi) (c.if-not-is_below_end.ensures.0 refl))
