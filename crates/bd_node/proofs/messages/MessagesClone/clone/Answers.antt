use Rattle.std.proofs.Common.{List, length, sym, subst}
use Rattle.bd_message.specs.declared.message.Message.{Message}
use Rattle.bd_node.specs.Index.{IsIndex}
use Rattle.bd_node.specs.Stems.{AreByStem}
use Rattle.bd_node.proofs.Asking.{copied_index}
use Rattle.bd_node.proofs.ByStem.{copied_stems}
use Rattle.bd_node.proofs.messages.MessagesClone.clone.Goals as goal

pub invariant_of-result : goal.invariant_of-result
invariant_of-result c =
    λ x is. subst (λ (list : List Message). IsIndex list (length list) x.points.items x.ranges.items × AreByStem list (length list) x.stems.items) (sym c.in_ok-copied.ensures) (
      copied_index c.self.inside.items.items (length c.self.inside.items.items) c.self.inside.index c.in_ok-copied-2.field-0 x c.in_ok-copied-2.ensures (λ y y_is. (c.self.invariant y y_is).0) is,
      copied_stems c.self.inside.items.items (length c.self.inside.items.items) c.self.inside.index c.in_ok-copied-2.field-0 x c.in_ok-copied-2.ensures (λ y y_is. (c.self.invariant y y_is).1) is,
    )
