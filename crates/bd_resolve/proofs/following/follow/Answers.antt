use Rattle.std.proofs.Common.{arith, ap, ◌∙◌, eq-eqb, List, ℕ, length}
use Rattle.std.proofs.lemmas.Result.{IfOk-weaker}
use Rattle.bd_message.proofs.Finds.{not_both}
use Rattle.bd_resolve.specs.declared.following.Followed.{Followed}
use Rattle.bd_resolve.proofs.Follows.{follow_spread, follow_through}
use Rattle.bd_resolve.proofs.Leads.{lead_spread, lead_through}
use Rattle.bd_resolve.proofs.following.follow.Goals as goal

pub returns-then-is_spread-clause-followed : goal.returns-then-is_spread-clause-followed
returns-then-is_spread-clause-followed c =
    IfOk-weaker c.spread.result _ _ (λ (f : Followed) over.
    follow_spread c.args.node.now c.in-Inner.level c.in-Inner.edges c.as_slice.result.now c.as_slice-then-is_spread.result.now c.in-Inner.buffer c.as_slice-then-is_spread-2.result.now c.args.prefix.now f c.in-Inner.is c.requires c.as_slice.ensures c.as_slice-then-is_spread.ensures c.as_slice-then-is_spread-2.ensures
    (c.is_spread.ensures.0 c.if-is_spread.true) over) c.spread.ensures

pub returns-else-is_spread-clause-followed : goal.returns-else-is_spread-clause-followed
returns-else-is_spread-clause-followed c =
    IfOk-weaker c.through.result _ _ (λ (f : Followed) over.
    follow_through c.args.node.now c.in-Inner.level c.in-Inner.edges c.as_slice.result.now c.as_slice-else-is_spread.result.now c.in-Inner.buffer c.as_slice-else-is_spread-2.result.now c.args.prefix.now c.edge_of-edge.result.now f c.in-Inner.is c.requires (λ i. omega (arith, c.type_inv.prefix i)) c.as_slice.ensures c.as_slice-else-is_spread.ensures c.as_slice-else-is_spread-2.ensures
    (λ some. not_both (c.is_spread.ensures.1 some) c.if-is_spread.false) c.edge_of-edge.ensures over) c.through.ensures

pub returns-then-is_spread-clause-leads : goal.returns-then-is_spread-clause-leads
returns-then-is_spread-clause-leads c =
    IfOk-weaker c.spread.result _ _ (λ (f : Followed) over.
    lead_spread c.args.node.now c.in-Inner.level c.in-Inner.edges c.as_slice.result.now c.as_slice-then-is_spread.result.now c.in-Inner.buffer c.as_slice-then-is_spread-2.result.now c.args.prefix.now f c.in-Inner.is c.as_slice.ensures c.as_slice-then-is_spread.ensures c.as_slice-then-is_spread-2.ensures
    (λ none. not_both (c.is_empty.ensures ∙ eq-eqb (length c.args.prefix.now) 0 (ap (λ (q : List ℕ). length q) none)) c.if-is_empty.false) (c.is_spread.ensures.0 c.if-is_spread.true) over) c.spread.ensures

pub returns-else-is_spread-clause-leads : goal.returns-else-is_spread-clause-leads
returns-else-is_spread-clause-leads c =
    IfOk-weaker c.through.result _ _ (λ (f : Followed) over.
    lead_through c.args.node.now c.in-Inner.level c.in-Inner.edges c.as_slice.result.now c.as_slice-else-is_spread.result.now c.in-Inner.buffer c.as_slice-else-is_spread-2.result.now c.args.prefix.now c.edge_of-edge.result.now f c.in-Inner.is c.requires c.as_slice.ensures c.as_slice-else-is_spread.ensures c.as_slice-else-is_spread-2.ensures
    (λ none. not_both (c.is_empty.ensures ∙ eq-eqb (length c.args.prefix.now) 0 (ap (λ (q : List ℕ). length q) none)) c.if-is_empty.false) (λ some. not_both (c.is_spread.ensures.1 some) c.if-is_spread.false) c.edge_of-edge.ensures over) c.through.ensures
