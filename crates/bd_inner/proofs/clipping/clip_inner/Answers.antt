use Rattle.std.proofs.Common.{List, Option, arith, subst, ap, drop, ◌∙◌}
use Rattle.bd_message.specs.declared.message.Message.{Message}
use Rattle.bd_inner.specs.Clipping.{IsStart, AreClippedEdges}
use Rattle.bd_inner.proofs.Clipped.{clipped}
use Rattle.bd_inner.proofs.clipping.clip_inner.Goals as goal

pub returns : goal.returns
returns c =
    clipped c.args.level c.args.edges.now c.in_ok-edges.edges.items c.from_vec.result c.args.buffer.now c.in_ok-list.list.items c.in_ok-indexed.field-0 c.in_ok-parts.parts.items c.split_at.result.1.now c.args.s.now c.start_of-start.result
    c.requires.inner (λ i. omega (arith, c.type_inv.s i)) c.requires.short c.in_ok-parts.ensures
    (subst (λ (ps : List (Option Message)). IsStart ps c.start_of-start.result) c.deref.ensures.value c.start_of-start.ensures)
    (subst (λ (ps : List (Option Message)). AreClippedEdges c.args.s.now ps c.start_of-start.result c.args.edges.now c.in_ok-edges.edges.items) c.deref-2.ensures.value c.in_ok-edges.ensures)
    (c.split_at.ensures.back ∙ ap (λ (ps : List (Option Message)). drop c.start_of-start.result ps) c.as_slice.ensures.value) c.in_ok-list.ensures c.from_vec.ensures c.in_ok-indexed.ensures
