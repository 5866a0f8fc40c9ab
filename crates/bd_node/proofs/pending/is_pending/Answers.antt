use Rattle.std.proofs.Common.{◌≡◌, true, sym, ◌∙◌}
use Rattle.bd_node.specs.Index.{is_point}
use Rattle.bd_node.proofs.Unseen.{point_pending, pending_point}
use Rattle.bd_node.proofs.pending.is_pending.Goals as goal

pub returns-then-is_point : goal.returns-then-is_point
returns-then-is_point c =
    let point : is_point c.args.message.now ≡ true = sym c.is_point.ensures ∙ c.if-is_point.true in (
      (λ unseen. point_pending c.args.place c.args.message.now c.own_key.result.now c.args.edges.now point c.own_key.ensures (c.is_unseen.ensures.0 unseen)),
      (λ some. c.is_unseen.ensures.1 (pending_point c.args.place c.args.message.now c.own_key.result.now c.args.edges.now point c.own_key.ensures some)),
    )
