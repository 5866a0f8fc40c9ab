use Rattle.std.proofs.Common.{◌≡◌, refl, ◌<◌, ℕ, List, length, take, get_or, sym, ap, subst, ◌∙◌, arith, Some}
use Rattle.std.specs.Prelude.{slice_get}
use Rattle.std.proofs.lemmas.List.{get_or_default}
use Rattle.std.proofs.lemmas.Option.{slice_get_read}
use Rattle.bd_message.specs.declared.message.Message.{Message}
use Rattle.bd_node.specs.Index.{own_key}
use Rattle.bd_node.specs.Owners.{IsOwner}
use Rattle.bd_node.specs.Shape.{SomeEdge, IsPending}
use Rattle.bd_node.proofs.Marking.{IsSaid, said_more}
use Rattle.bd_inner.proofs.compaction.pending_mask.Goals as goal

pub is_owned_pending-requires-clause-owner : goal.is_owned_pending-requires-clause-owner
is_owned_pending-requires-clause-owner c = λ point.
    let low : c.loop-place.place < length c.args.buffer.now = subst (λ (l : List Message). c.loop-place.place < length l) c.as_slice-messages.ensures c.loop-place-test.true in
    let read : c.index-messages-place.result ≡ get_or c.args.buffer.now c.loop-place.place c.index-messages-place.result = c.index-messages-place.is ∙ ap (λ (l : List Message). get_or l c.loop-place.place c.index-messages-place.result) c.as_slice-messages.ensures in
    let here : slice_get c.args.buffer.now c.loop-place.place ≡ Some c.index-messages-place.result = slice_get_read c.args.buffer.now (length c.args.buffer.now) c.loop-place.place c.index-messages-place.result refl low read in
    let same : c.index.result.now ≡ get_or c.in_ok-owners.owners.items c.loop-place.place 0 =
    c.index.ensures ∙ get_or_default c.in_ok-owners.owners.items c.loop-place.place c.index.result.now 0 (omega (arith, c.in_ok-owners.ensures.long)) in
    subst (λ (n : ℕ). IsOwner c.args.edges.now (own_key c.index-messages-place.result) n) (sym same)
    (c.in_ok-owners.ensures.each c.loop-place.place c.index-messages-place.result here point)

pub loop-place-preserved : goal.loop-place-preserved
loop-place-preserved c =
    let P = λ (place : ℕ) (m : Message). SomeEdge (IsPending place m) c.args.edges.now in
    let low : c.loop-place.place < length c.args.buffer.now = subst (λ (l : List Message). c.loop-place.place < length l) c.as_slice-messages.ensures c.loop-place-test.true in
    let read : c.index-messages-place.result ≡ get_or c.args.buffer.now c.loop-place.place c.index-messages-place.result = c.index-messages-place.is ∙ ap (λ (l : List Message). get_or l c.loop-place.place c.index-messages-place.result) c.as_slice-messages.ensures in
    let said : IsSaid P c.loop-place.mask.items (take c.loop-place.place c.args.buffer.now) = record { long = c.loop-place.invariant.long; each = c.loop-place.invariant.each } in
    let more = said_more P c.loop-place.mask.items c.push.new.self.items c.is_owned_pending.result c.args.buffer.now c.loop-place.place c.index-messages-place.result said low read c.is_owned_pending.ensures c.in_ok-push.ensures.items in
    record { long = more.long; each = more.each }
