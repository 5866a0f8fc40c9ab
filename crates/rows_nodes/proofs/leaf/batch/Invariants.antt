use Rattle.std.specs.Prelude.{All}
use Rattle.bd_message.specs.Messages.{IsMessage, IsPlain}
use Rattle.rows_nodes.proofs.leaf.batch.Given as goal

abbrev pub invariant-loop-text : goal.invariant-loop-text
invariant-loop-text l = record {
  each : All IsMessage l.list.items;
  plain : All IsPlain l.list.items;
}
