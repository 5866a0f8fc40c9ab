use Rattle.std.proofs.Common.{◌≡◌, ◌+◌, arith, sym, ap, ◌∙◌, subst, Some, eqb}
use Rattle.std.specs.List.{common_prefix_len}
use Rattle.std.proofs.lemmas.List.{take_rest}
use Rattle.bd_keys.specs.Keys.{IsLift}
use Rattle.bd_keys.proofs.Lifts.{lift-closed, lift_after, lift_len, prefix_len-zip}
use Rattle.bd_keys.proofs.prefix.lift_below.Goals as goal

pub returns : goal.returns
returns c =
    let lo = c.args.lo.now in
    let hi = c.args.hi.now in
    let same : common_prefix_len eqb lo hi ≡ c.common_len-same.result = sym (prefix_len-zip lo hi) ∙ sym c.common_len-same.ensures.value in
    let value : lift_len lo hi ≡ c.common_len-same.result + c.len_apart.result = ap (λ n. lift_after n lo hi) same
    ∙ ap (λ n. c.common_len-same.result + n) (sym (rw (take_rest lo c.common_len-same.result, take_rest hi c.common_len-same.result) at c.len_apart.ensures.value)) in
    subst (IsLift lo (Some hi)) value (lift-closed lo hi (λ i. omega (arith, c.type_inv.lo i)) (λ i. omega (arith, c.type_inv.hi i)) c.requires)
