use Rattle.std.proofs.Common.{◌≡◌, ◌<◌, ◌≤◌, ℕ, List, length, get_or, refl, sym, ap, subst, ◌∙◌, arith, Some}
use Rattle.std.specs.Prelude.{slice_get}
use Rattle.std.proofs.lemmas.List.{drop_all, get_or_default}
use Rattle.std.proofs.lemmas.Option.{slice_get_read}
use Rattle.bd_message.specs.declared.message.Message.{Message}
use Rattle.bd_node.specs.Index.{own_key}
use Rattle.bd_node.specs.Owners.{IsOwner}
use Rattle.bd_step.proofs.PendingAll.{sizes_more, sizes_room, sizes_all}
use Rattle.bd_step.proofs.filling.pending_sizes.Goals as goal

pub raise-requires-clause-owner : goal.raise-requires-clause-owner
raise-requires-clause-owner c = λ point.
    let low : c.loop-place.place < length c.args.buffer.now = subst (λ (l : List Message). c.loop-place.place < length l) c.as_slice-messages.ensures c.loop-place-test.true in
    let read : c.index-messages-place.result ≡ get_or c.args.buffer.now c.loop-place.place c.index-messages-place.result = c.index-messages-place.is ∙ ap (λ (l : List Message). get_or l c.loop-place.place c.index-messages-place.result) c.as_slice-messages.ensures in
    let here : slice_get c.args.buffer.now c.loop-place.place ≡ Some c.index-messages-place.result = slice_get_read c.args.buffer.now (length c.args.buffer.now) c.loop-place.place c.index-messages-place.result refl low read in
    let same : c.index.result.now ≡ get_or c.in_ok-owners.owners.items c.loop-place.place 0 =
    c.index.ensures ∙ get_or_default c.in_ok-owners.owners.items c.loop-place.place c.index.result.now 0 (omega (arith, c.in_ok-owners.ensures.long)) in
    subst (λ (n : ℕ). IsOwner c.args.edges.now (own_key c.index-messages-place.result) n) (sym same)
    (c.in_ok-owners.ensures.each c.loop-place.place c.index-messages-place.result here point)

pub raise-requires-clause-room : goal.raise-requires-clause-room
raise-requires-clause-room c =
    let low : c.loop-place.place < length c.args.buffer.now = subst (λ (l : List Message). c.loop-place.place < length l) c.as_slice-messages.ensures c.loop-place-test.true in
    let read : c.index-messages-place.result ≡ get_or c.args.buffer.now c.loop-place.place c.index-messages-place.result = c.index-messages-place.is ∙ ap (λ (l : List Message). get_or l c.loop-place.place c.index-messages-place.result) c.as_slice-messages.ensures in
    sizes_room c.args.edges.now c.args.buffer.now c.loop-place.place _ c.loop-place.sizes.items c.index-messages-place.result c.loop-place.invariant low read c.requires.size

pub loop-place-preserved : goal.loop-place-preserved
loop-place-preserved c =
    let low : c.loop-place.place < length c.args.buffer.now = subst (λ (l : List Message). c.loop-place.place < length l) c.as_slice-messages.ensures c.loop-place-test.true in
    let read : c.index-messages-place.result ≡ get_or c.args.buffer.now c.loop-place.place c.index-messages-place.result = c.index-messages-place.is ∙ ap (λ (l : List Message). get_or l c.loop-place.place c.index-messages-place.result) c.as_slice-messages.ensures in
    sizes_more c.args.edges.now c.args.buffer.now c.loop-place.place c.loop-place.sizes.items _ c.index-messages-place.result c.loop-place.invariant low read c.raise.ensures

pub returns : goal.returns
returns c =
    sizes_all c.args.edges.now c.args.buffer.now c.loop-place.place c.loop-place.sizes.items c.loop-place.invariant
    (drop_all c.loop-place.place c.args.buffer.now (subst (λ (l : List Message). length l ≤ c.loop-place.place) c.as_slice-messages.ensures c.loop-place-test.false))
