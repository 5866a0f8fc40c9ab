use Rattle.std.proofs.Common.{List, ◌++◌, length, sym, subst, ◌∙◌}
use Rattle.bd_message.specs.declared.message.Message.{Message}
use Rattle.bd_node.specs.Index.{IsIndex}
use Rattle.bd_node.specs.Stems.{AreByStem}
use Rattle.bd_node.proofs.Indexing.{with_more}
use Rattle.bd_node.proofs.ByStem.{more_stems}
use Rattle.bd_node.proofs.messages.Messages.append.Goals as goal

pub invariant_of-self : goal.invariant_of-self
invariant_of-self c =
    λ x is. subst (λ (list : List Message). IsIndex list (length list) x.points.items x.ranges.items × AreByStem list (length list) x.stems.items) (sym c.in_err-append.ensures.items) (c.self.invariant x is)

pub regrown-requires-clause-index : goal.regrown-requires-clause-index
regrown-requires-clause-index c =
    λ x is.
    let old : IsIndex c.self.inside.items.items (length c.self.inside.items.items) x.points.items x.ranges.items = (c.self.invariant x (sym c.take.ensures.value ∙ is)).0 in
    subst (λ (list : List Message). IsIndex list (length c.as_slice-count.result.now) x.points.items x.ranges.items) (sym (c.as_slice.ensures.value ∙ c.in_ok-append.ensures.items))
    (subst (λ (front : List Message). IsIndex (c.self.inside.items.items ++ c.into_vec-more.result.items) (length front) x.points.items x.ranges.items) (sym c.as_slice-count.ensures.value)
    (with_more c.self.inside.items.items c.into_vec-more.result.items x.points.items x.ranges.items old))

pub regrown-requires-clause-stems : goal.regrown-requires-clause-stems
regrown-requires-clause-stems c =
    λ x is.
    let old : AreByStem c.self.inside.items.items (length c.self.inside.items.items) x.stems.items = (c.self.invariant x (sym c.take.ensures.value ∙ is)).1 in
    subst (λ (list : List Message). AreByStem list (length c.as_slice-count.result.now) x.stems.items) (sym (c.as_slice.ensures.value ∙ c.in_ok-append.ensures.items))
    (subst (λ (front : List Message). AreByStem (c.self.inside.items.items ++ c.into_vec-more.result.items) (length front) x.stems.items) (sym c.as_slice-count.ensures.value)
    (more_stems c.self.inside.items.items c.into_vec-more.result.items x.stems.items old))
