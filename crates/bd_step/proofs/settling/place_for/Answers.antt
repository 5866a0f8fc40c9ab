use Rattle.std.proofs.Common.{List, ℕ, subst}
use Rattle.std.specs.Prelude.{◌↔◌, IsTrue}
use Rattle.std.specs.Option.{option_copied}
use Rattle.bd_node.proofs.Parts.{edge_here}
use Rattle.bd_flush.specs.GoingDown.{LiesWithin}
use Rattle.bd_flush.proofs.Batches.{end_is}
use Rattle.bd_step.proofs.Alongs.{none_more, none_at_all}
use Rattle.bd_step.proofs.Begins.{place_low, past_all}
use Rattle.bd_step.proofs.settling.place_for.Goals as goal

pub loop-place-preserved : goal.loop-place-preserved
loop-place-preserved c =
    none_more c.args.node.now c.args.prefix.now c.loop-place.place c.index-edges-place.result c.lies_within.result (option_copied c.end_of.result)
    (edge_here c.edges-edges.result.now c.args.node.now c.loop-place.place c.index-edges-place.result c.edges-edges.ensures (place_low c.args.node.now c.edges-edges.result.now c.loop-place.place c.edges-edges.ensures c.loop-place-test.true) c.index-edges-place.is)
    (end_is c.args.node.now c.loop-place.place c.edges-edges.result.now (option_copied c.end_of.result) c.edges-edges.ensures c.end_of.ensures) c.if-lies_within.false
    (subst (λ (l : List ℕ). IsTrue c.lies_within.result ↔ LiesWithin c.args.prefix.now l (option_copied c.end_of.result)) c.as_slice.ensures c.lies_within.ensures) c.loop-place.invariant

pub returns-clause-found : goal.returns-clause-found
returns-clause-found c =
    none_at_all c.args.node.now c.args.prefix.now c.loop-place.place c.loop-place.invariant (past_all c.args.node.now c.edges-edges.result.now c.loop-place.place c.edges-edges.ensures c.loop-place-test.false)
