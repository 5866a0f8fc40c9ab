use Rattle.std.proofs.Common.{List, length, sym, subst}
use Rattle.bd_message.specs.declared.message.Message.{Message}
use Rattle.bd_node.specs.Index.{IsIndex}
use Rattle.bd_node.specs.Stems.{AreByStem}
use Rattle.bd_node.proofs.messages.Messages.newest_touching.Goals as goal

pub newest_touching-requires-clause-index : goal.newest_touching-requires-clause-index
newest_touching-requires-clause-index c =
    subst (λ (list : List Message). IsIndex list (length list) c.in-Some.index.points.items c.in-Some.index.ranges.items) (sym c.as_slice-items.ensures.value) (c.self.invariant c.in-Some.index c.in-Some.is).0

pub newest_touching-requires-clause-stems : goal.newest_touching-requires-clause-stems
newest_touching-requires-clause-stems c =
    subst (λ (list : List Message). AreByStem list (length list) c.in-Some.index.stems.items) (sym c.as_slice-items.ensures.value) (c.self.invariant c.in-Some.index c.in-Some.is).1
