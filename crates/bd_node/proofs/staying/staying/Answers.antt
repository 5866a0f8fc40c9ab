use Rattle.std.proofs.Common.{true, false, [], ◌∷◌, ◌++◌, ap, ◌∙◌, sym, arith}
use Rattle.std.proofs.lemmas.List.{append-nil}
use Rattle.bd_message.specs.declared.message.Message.{Message}
use Rattle.bd_node.proofs.Keeping.{staying_more}
use Rattle.bd_node.proofs.staying.staying.Goals as goal
use Rattle.bd_node.proofs.staying.staying.Goals.{then-mask-place+in_ok-copy+in_ok-push, else-mask-place}

pub loop-place-preserved : goal.loop-place-preserved
loop-place-preserved c =
    elim c.if-mask-place.branch [
      | then-mask-place+in_ok-copy+in_ok-push w ↦
          staying_more c.args.mask.now c.args.items.now c.loop-place.place true c.index-items-place.result c.loop-place.list.items c.if-mask-place.list.items
          c.requires (omega arith) (sym w.if-mask-place.true) c.index-items-place.is c.loop-place.invariant
          (ap (λ v. v.items) w.list-is ∙ w.in_ok-push.ensures.items ∙ ap (λ (m : Message). c.loop-place.list.items ++ m ∷ []) w.in_ok-copy.ensures)
      | else-mask-place w ↦
          staying_more c.args.mask.now c.args.items.now c.loop-place.place false c.index-items-place.result c.loop-place.list.items c.if-mask-place.list.items
          c.requires (omega arith) (sym w.if-mask-place.false) c.index-items-place.is c.loop-place.invariant
          (ap (λ v. v.items) w.list-is ∙ sym (append-nil c.loop-place.list.items))
    ]
