use Rattle.std.proofs.Common.{◌≡◌, ◌+◌, ◌<◌, drop, set, length, sym, subst, ◌∙◌, refl, arith, Some}
use Rattle.std.specs.Prelude.{slice_get}
use Rattle.std.proofs.lemmas.List.{get_or_default}
use Rattle.std.proofs.lemmas.Option.{same_Some, slice_get_read, slice_get_within}
use Rattle.bd_keys.specs.Keys.{InRange}
use Rattle.bd_node.specs.declared.node.Edge.{Edge}
use Rattle.bd_node.specs.Index.{own_key}
use Rattle.bd_node.specs.Shape.{end_before}
use Rattle.bd_node.proofs.Owning.{owner_of}
use Rattle.bd_step.specs.Filling.{IsWaiting, AreRaised}
use Rattle.bd_step.proofs.PendingSizes.{waiting_most}
use Rattle.bd_step.proofs.PendingAll.{raised_one}
use Rattle.bd_step.proofs.filling.raise_one.Goals as goal

pub overflow_add-index_mut : goal.overflow_add-index_mut
overflow_add-index_mut c =
    let es = c.args.edges.now in
    let at = c.args.owner in
    let e = c.index-edges-owner.result in
    let low : at < length es = slice_get_within es at c.requires.owner.0 c.requires.owner.1 in
    let here : slice_get es at ≡ Some e = slice_get_read es (length es) at e refl low c.index-edges-owner.is in
    let same : c.requires.owner.0 ≡ e = same_Some c.requires.owner.0 e (sym c.requires.owner.1 ∙ here) in
    let range : InRange e.pivot (end_before (drop (at + 1) es)) (own_key c.args.message.now) = subst (λ (d : Edge). InRange d.pivot (end_before (drop (at + 1) es)) (own_key c.args.message.now)) same c.requires.owner.2 in
    omega (
      arith,
      c.index_mut.ensures.value ∙ get_or_default c.args.sizes.now.items at c.index_mut.result.now 0 (omega (arith, c.requires.long, low)),
      c.requires.room at low,
      waiting_most c.args.place c.args.message.now e (end_before (drop (at + 1) es)) c.own_size.result (c.own_size.ensures (end_before (drop (at + 1) es)) range),
    )

pub returns : goal.returns
returns c =
    let es = c.args.edges.now in
    let at = c.args.owner in
    let e = c.index-edges-owner.result in
    let own = c.own_size.result in
    let low : at < length es = slice_get_within es at c.requires.owner.0 c.requires.owner.1 in
    let here : slice_get es at ≡ Some e = slice_get_read es (length es) at e refl low c.index-edges-owner.is in
    let same : c.requires.owner.0 ≡ e = same_Some c.requires.owner.0 e (sym c.requires.owner.1 ∙ here) in
    let range : InRange e.pivot (end_before (drop (at + 1) es)) (own_key c.args.message.now) = subst (λ (d : Edge). InRange d.pivot (end_before (drop (at + 1) es)) (own_key c.args.message.now)) same c.requires.owner.2 in
    let waits : IsWaiting c.args.place c.args.message.now e (end_before (drop (at + 1) es)) own = c.own_size.ensures (end_before (drop (at + 1) es)) range in
    subst (λ n. AreRaised c.args.place c.args.message.now es c.args.sizes.now.items (set c.args.sizes.now.items at (n + own))) (sym (c.index_mut.ensures.value ∙ get_or_default c.args.sizes.now.items at c.index_mut.result.now 0 (omega (arith, c.requires.long, low))))
    (raised_one c.args.place c.args.message.now es c.args.sizes.now.items at own e c.requires.rising c.requires.point c.requires.long
    (here ∙ sym (owner_of es (own_key c.args.message.now) at e c.requires.rising c.requires.owner here)) low c.index-edges-owner.is waits)
