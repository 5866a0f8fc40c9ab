use Rattle.std.proofs.Common.{sym, subst, List, ℕ, arith, Option, Vec, Global}
use Rattle.std.specs.Prelude.{IfSome}
use Rattle.bd_keys.specs.Keys.{IsKey, IsAfter}
use Rattle.bd_query.proofs.EndLemmas.{after_short}
use Rattle.bd_query.proofs.ends.past_prefix.Goals as goal

pub returns-in-Some-clause-short : goal.returns-in-Some-clause-short
returns-in-Some-clause-short c =
    let after : IsAfter c.args.prefix.now c.in-Some.end.items =
    subst (λ (o : Option (Vec ℕ Global)). IfSome o (λ v. IsAfter c.args.prefix.now v.items)) c.in-Some.is c.in_ok-end.ensures.after in
    after_short c.args.prefix.now c.from_vec-end.result (λ i. omega (arith, c.type_inv.prefix i))
    (subst (λ (k : List ℕ). IsKey k) c.as_slice.ensures c.bytes_of-bytes.ensures.bytes)
    (subst (λ (k : List ℕ). IsAfter c.args.prefix.now k) (sym c.from_vec-end.ensures) after)
