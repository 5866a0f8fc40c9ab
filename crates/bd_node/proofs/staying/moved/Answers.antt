use Rattle.std.proofs.Common.{ℕ, true, false, [], ◌∷◌, ◌++◌, get_or, ap, ◌∙◌, sym, arith}
use Rattle.std.proofs.lemmas.List.{append-nil}
use Rattle.bd_node.proofs.Keeping.{read_stays, moved_more}
use Rattle.bd_node.proofs.staying.moved.Goals as goal
use Rattle.bd_node.proofs.staying.moved.Goals.{then-mask-place+in_ok-push, else-mask-place}

pub loop-place-preserved : goal.loop-place-preserved
loop-place-preserved c =
    let i : ℕ = c.loop-place.place-index in
    let p : ℕ = get_or c.args.places.now c.loop-place.place-index 0 in
    elim c.if-mask-place.branch [
      | then-mask-place+in_ok-push w ↦
          moved_more c.args.mask.now c.args.places.now c.loop-place.place-index true c.loop-place.list.items c.if-mask-place.list.items
          (omega arith) (read_stays c.args.mask.now p false true (c.requires.within c.loop-place.place-index (omega arith)) w.if-mask-place.true) c.loop-place.invariant
          (ap (λ v. v.items) w.list-is ∙ w.in_ok-push.ensures.items ∙ ap (λ (n : ℕ). c.loop-place.list.items ++ n ∷ []) (c.requires.each p (c.requires.within c.loop-place.place-index (omega arith))))
      | else-mask-place w ↦
          moved_more c.args.mask.now c.args.places.now c.loop-place.place-index false c.loop-place.list.items c.if-mask-place.list.items
          (omega arith) (read_stays c.args.mask.now p false false (c.requires.within c.loop-place.place-index (omega arith)) w.if-mask-place.false) c.loop-place.invariant
          (ap (λ v. v.items) w.list-is ∙ sym (append-nil c.loop-place.list.items))
    ]
