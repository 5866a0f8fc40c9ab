use Rattle.std.proofs.lemmas.List.Elements.{All-push}
use Rattle.bd_message.specs.Messages.{IsMessage, IsPlain}
use Rattle.rows_nodes.proofs.leaf.batch.Goals as goal

pub loop-text-preserved : goal.loop-text-preserved
loop-text-preserved c = record {
  each = rw c.in_ok-push.ensures.items (All-push IsMessage _ _ c.loop-text.invariant.each (c.in_ok-plain.ensures.0));
  plain = rw c.in_ok-push.ensures.items (All-push IsPlain _ _ c.loop-text.invariant.plain (c.in_ok-plain.ensures.1));
}
