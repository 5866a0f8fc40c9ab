use Rattle.std.proofs.Common.{◌≡◌, List, Bool, drop, sym, ap, subst, ◌∙◌}
use Rattle.std.specs.Option.{option_copied}
use Rattle.bd_message.specs.declared.message.Message.{Message}
use Rattle.bd_node.specs.Spans.{AreTouching}
use Rattle.bd_node.proofs.Marking.{touching_dropped}
use Rattle.bd_inner.proofs.batches.next_batch.Goals as goal

pub oldest-requires-clause-mask : goal.oldest-requires-clause-mask
oldest-requires-clause-mask c =
    let all = subst (λ lo. AreTouching c.in_ok-mask.mask.items c.args.buffer.now lo (option_copied c.args.hi)) c.as_slice.ensures c.in_ok-mask.ensures in
    let mask : c.split_at-2.result.1.now ≡ drop c.args.from c.in_ok-mask.mask.items = c.split_at-2.ensures.back ∙ ap (λ (b : List Bool). drop c.args.from b) c.as_slice-3.ensures.value in
    let list : c.split_at.result.1.now ≡ drop c.args.from c.args.buffer.now = c.split_at.ensures.back ∙ ap (λ (l : List Message). drop c.args.from l) c.as_slice-2.ensures in
    subst (λ (b : List Bool). AreTouching b c.split_at.result.1.now c.args.edge.now.pivot (option_copied c.args.hi)) (sym mask)
    (subst (λ (l : List Message). AreTouching (drop c.args.from c.in_ok-mask.mask.items) l c.args.edge.now.pivot (option_copied c.args.hi)) (sym list)
    (touching_dropped c.in_ok-mask.mask.items c.args.buffer.now c.args.edge.now.pivot (option_copied c.args.hi) c.args.from all))
