use Rattle.std.proofs.Common.{ℕ, List, Option, Some, Vec, Global, ap, subst, ◌∙◌, arith}
use Rattle.std.specs.Prelude.{IfSome, IfNone}
use Rattle.bd_keys.specs.Keys.{IsKey, IsAboveAll, IsAfter}
use Rattle.bd_cover.proofs.Asks.{prefix_end_is, prefix_end_none}
use Rattle.bd_cover.proofs.asking.prefix_end.Goals as goal

pub returns-in-Some : goal.returns-in-Some
returns-in-Some c =
    ap Some c.key_of.ensures.same
    ∙ prefix_end_is c.args.prefix.now c.in-Some.end.items (λ i. omega (arith, c.type_inv.prefix i)) c.key_of.ensures.key
    (subst (λ (o : Option (Vec ℕ Global)). IfSome o (λ v. IsAfter c.args.prefix.now v.items)) c.in-Some.is c.in_ok-end.ensures.after)

pub returns-in-None : goal.returns-in-None
returns-in-None c =
    prefix_end_none c.args.prefix.now (λ i. omega (arith, c.type_inv.prefix i))
    (subst (λ (o : Option (Vec ℕ Global)). IfNone o ((k : List ℕ) → IsKey k → ¬ IsAboveAll k c.args.prefix.now)) c.in-None.is c.in_ok-end.ensures.none)
