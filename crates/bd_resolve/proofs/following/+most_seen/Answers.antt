use Rattle.std.proofs.Common.{List, ℕ, Option, ◌≡◌, true, sym, subst}
use Rattle.std.specs.Option.{option_copied}
use Rattle.bd_keys.specs.Keys.{InRange}
use Rattle.bd_message.specs.Effect.{begins}
use Rattle.bd_message.proofs.Finds.{not_both}
use Rattle.bd_resolve.proofs.Follows.{most_under, most_beside}
use Rattle.bd_resolve.proofs.following.+most_seen.Goals as goal

pub returns-then-is_under : goal.returns-then-is_under
returns-then-is_under t c =
    most_under c.args.edges.now c.args.prefix.now c.edge-item.result c.most_seen-most.result c.max.result c.in-len1-up.len_at_least c.edge-item.is
    (subst (λ (o : Option (List ℕ)). (k : List ℕ) × InRange c.edge-item.result.pivot o k × (begins k c.args.prefix.now ≡ true)) c.end_before.ensures
    (subst (λ (l : List ℕ). (k : List ℕ) × InRange l (option_copied c.end_before.result) k × (begins k c.args.prefix.now ≡ true)) c.as_slice.ensures (c.is_under.ensures.0 c.if-is_under.true)))
    c.most_seen-most.ensures c.max.ensures

pub returns-else-is_under : goal.returns-else-is_under
returns-else-is_under t c =
    most_beside c.args.edges.now c.args.prefix.now c.edge-item.result c.most_seen-most.result c.in-len1-up.len_at_least c.edge-item.is
    (λ under. not_both (c.is_under.ensures.1
    (subst (λ (l : List ℕ). (k : List ℕ) × InRange l (option_copied c.end_before.result) k × (begins k c.args.prefix.now ≡ true)) (sym c.as_slice.ensures)
    (subst (λ (o : Option (List ℕ)). (k : List ℕ) × InRange c.edge-item.result.pivot o k × (begins k c.args.prefix.now ≡ true)) (sym c.end_before.ensures) under))) c.if-is_under.false)
    c.most_seen-most.ensures
