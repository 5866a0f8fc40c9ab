use Rattle.std.proofs.Common.{ap, arith}
use Rattle.std.specs.Option.{option_map}
use Rattle.bd_inner.proofs.CarvingOwned.{some_end, no_end}
use Rattle.bd_inner.proofs.carving.prefix_end.Goals as goal

pub returns-in-Some-clause-end : goal.returns-in-Some-clause-end
returns-in-Some-clause-end c =
    some_end c.args.prefix.now c.in-Some.end.items c.as_key.result.items (option_map (λ key. key.items) c.in_ok-end.field-0)
    (λ i. omega (arith, c.type_inv.prefix i)) c.in_ok-end.ensures.range (ap (λ end. option_map (λ key. key.items) end) c.in-Some.is) c.as_key.ensures.same c.as_key.ensures.key

pub returns-in-None-clause-end : goal.returns-in-None-clause-end
returns-in-None-clause-end c =
    no_end c.args.prefix.now (option_map (λ key. key.items) c.in_ok-end.field-0) c.in_ok-end.ensures.range (ap (λ end. option_map (λ key. key.items) end) c.in-None.is)
