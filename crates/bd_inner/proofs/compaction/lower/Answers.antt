use Rattle.std.proofs.Common.{ℕ, List, ap, ◌∙◌, sym, arith, count_by, take}
use Rattle.std.proofs.Math.ListN.{set}
use Rattle.std.proofs.lemmas.List.Edits.{map_over_more}
use Rattle.bd_node.specs.declared.node.Edge.{Edge}
use Rattle.bd_node.specs.Compaction.{lowered}
use Rattle.bd_inner.proofs.compaction.lower.Goals as goal

pub loop-edge-preserved : goal.loop-edge-preserved
loop-edge-preserved c =
    let items : List Edge = c.loop-edge.edge-items in
    let i : ℕ = c.loop-edge.edge-index in
    let e : Edge = c.edge-item.result in
    ap (λ (x : Edge). set items i (record x { seen = c.count_staying-edge.result })) (sym c.edge-item.is)
    ∙ ap (λ (n : ℕ). set items i (record e { seen = n })) c.count_staying-edge.ensures
    ∙ ap (λ (x : Edge). set items i (record e { seen = count_by (λ stays. stays) (take x.seen c.args.mask.now) })) (sym c.edge-item.is)
    ∙ map_over_more (lowered c.args.mask.now) c.deref_mut-edge-items.result.now items i e (omega arith) c.loop-edge.invariant c.edge-item.is
