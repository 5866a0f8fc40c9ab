use Rattle.std.proofs.Common.{◌≤◌, Some, refl, inl, inr, arith}
use Rattle.bd_node.specs.Index.{own_key}
use Rattle.bd_node.proofs.Indexing.{point_touches}
use Rattle.bd_step.proofs.filling.own_size.Goals as goal

pub returns-then-edge-place : goal.returns-then-edge-place
returns-then-edge-place c = λ hi range.
    inl ((c.if-edge-place.true, (own_key c.args.message.now, range, point_touches (Some c.args.message.now) (own_key c.args.message.now) c.requires.point refl)), c.size.ensures)

pub returns-else-edge-place : goal.returns-else-edge-place
returns-else-edge-place c = λ hi range.
    inr ((λ pending. absurd (let seen : c.args.edge.now.seen ≤ c.args.place = pending.0 in omega arith)), refl)
