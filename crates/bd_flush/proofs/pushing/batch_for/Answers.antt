use Rattle.std.proofs.Common.{drop, refl, sym, subst}
use Rattle.std.specs.Prelude.{IfOk}
use Rattle.std.specs.Option.{option_copied}
use Rattle.bd_node.specs.declared.node.Node.{Node}
use Rattle.bd_node.specs.Parts.{buffer_of}
use Rattle.bd_inner.specs.Batches.{IsBatch}
use Rattle.bd_flush.proofs.Batches.{end_is, on_batch_for}
use Rattle.bd_flush.proofs.pushing.batch_for.Goals as goal

pub returns : goal.returns
returns c =
    on_batch_for c.args.node.now c.args.place c.args.edge.now (option_copied c.end_of-hi.result) (drop c.args.edge.now.seen (buffer_of c.args.node.now)) c.next_batch.result c.requires.shape c.requires.waiting
    (end_is c.args.node.now c.args.place c.edges.result.now (option_copied c.end_of-hi.result) c.edges.ensures c.end_of-hi.ensures) refl
    (subst (λ (n : Node). IfOk c.next_batch.result (IsBatch c.args.edge.now (option_copied c.end_of-hi.result) (drop c.args.edge.now.seen (buffer_of n)))) (sym c.in-Inner.is) c.next_batch.ensures)
