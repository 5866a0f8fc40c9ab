use Rattle.std.proofs.Common.{List, length, sym, subst}
use Rattle.bd_message.specs.declared.message.Message.{Message}
use Rattle.bd_node.specs.Index.{IsIndex}
use Rattle.bd_node.proofs.messages.Messages.next_point.Goals as goal

pub next_point-requires : goal.next_point-requires
next_point-requires c =
    subst (λ (list : List Message). IsIndex list (length list) c.in-Some.index.points.items c.in-Some.index.ranges.items) (sym c.as_slice-items.ensures.value) (c.self.invariant c.in-Some.index c.in-Some.is).0
