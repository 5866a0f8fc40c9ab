use Rattle.std.proofs.Common.{◌≡◌, List, ◌++◌, length, sym, ap, subst, ◌∙◌}
use Rattle.bd_message.specs.declared.message.Message.{Message}
use Rattle.bd_node.specs.Index.{IsIndex}
use Rattle.bd_node.specs.Stems.{AreByStem}
use Rattle.bd_node.proofs.Asking.{copied_index}
use Rattle.bd_node.proofs.ByStem.{copied_stems, more_stems}
use Rattle.bd_node.proofs.Indexing.{with_more}
use Rattle.bd_node.proofs.messages.Messages.followed_by.Goals as goal

pub regrown-requires-clause-index : goal.regrown-requires-clause-index
regrown-requires-clause-index c =
    λ x is.
    let own = c.self.inside.items.items in
    let more = c.into_vec.result.items in
    let old = copied_index own (length own) c.self.inside.index c.in_ok-index.index x c.in_ok-index.ensures (λ y y_is. (c.self.invariant y y_is).0) is in
    let known : c.as_slice.result.now ≡ own ++ more = c.as_slice.ensures.value ∙ c.in_ok-all.ensures ∙ ap (λ (front : List Message). front ++ more) c.as_slice-items.ensures.value in
    subst (λ (list : List Message). IsIndex list (length c.as_slice-items.result.now) x.points.items x.ranges.items) (sym known)
    (subst (λ (front : List Message). IsIndex (own ++ more) (length front) x.points.items x.ranges.items) (sym c.as_slice-items.ensures.value)
    (with_more own more x.points.items x.ranges.items old))

pub regrown-requires-clause-stems : goal.regrown-requires-clause-stems
regrown-requires-clause-stems c =
    λ x is.
    let own = c.self.inside.items.items in
    let more = c.into_vec.result.items in
    let old = copied_stems own (length own) c.self.inside.index c.in_ok-index.index x c.in_ok-index.ensures (λ y y_is. (c.self.invariant y y_is).1) is in
    let known : c.as_slice.result.now ≡ own ++ more = c.as_slice.ensures.value ∙ c.in_ok-all.ensures ∙ ap (λ (front : List Message). front ++ more) c.as_slice-items.ensures.value in
    subst (λ (list : List Message). AreByStem list (length c.as_slice-items.result.now) x.stems.items) (sym known)
    (subst (λ (front : List Message). AreByStem (own ++ more) (length front) x.stems.items) (sym c.as_slice-items.ensures.value)
    (more_stems own more x.stems.items old))
