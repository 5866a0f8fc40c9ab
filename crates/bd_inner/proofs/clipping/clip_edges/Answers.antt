use Rattle.std.proofs.Common.{◌≡◌, ◌<◌, ◌≤◌, length, arith, ◌∙◌}
use Rattle.std.proofs.lemmas.List.Sums.{prefix_len-le-length}
use Rattle.bd_node.specs.declared.node.Edge.{Edge}
use Rattle.bd_message.specs.Effect.{begins}
use Rattle.bd_inner.specs.Clipping.{count_before, count_within}
use Rattle.bd_inner.proofs.ClippedEdges.{before_low, some_left, others_of, are_clipped}
use Rattle.bd_inner.proofs.clipping.clip_edges.Goals as goal

pub split_at-requires : goal.split_at-requires
split_at-requires c =
    let is : c.count_before.result ≡ count_before c.args.s.now c.args.edges.now = c.count_before.ensures in
    let low : count_before c.args.s.now c.args.edges.now < length c.args.edges.now = before_low c.args.s.now c.args.edges.now c.requires in
    omega arith

pub unreachable-requires : goal.unreachable-requires
unreachable-requires c =
    let some : 1 ≤ length c.split_at.result.1.now = some_left c.args.s.now c.args.edges.now c.split_at.result.1.now c.count_before.result c.requires c.count_before.ensures c.split_at.ensures.back in
    let none : length c.split_at.result.1.now < 1 = c.in_default.len_below in
    omega arith

pub split_at-requires-2 : goal.split_at-requires-2
split_at-requires-2 c =
    let is : c.count_within.result ≡ count_within c.args.s.now (others_of c.split_at.result.1.now) = c.count_within.ensures in
    let low : count_within c.args.s.now (others_of c.split_at.result.1.now) ≤ length (others_of c.split_at.result.1.now) = prefix_len-le-length (λ (e : Edge). begins e.pivot c.args.s.now) (others_of c.split_at.result.1.now) in
    omega arith

pub returns : goal.returns
returns c =
    are_clipped c.args.s.now c.args.parts.now c.args.start c.count_before.result c.count_within.result c.args.edges.now c.split_at.result.1.now c.split_at-2.result.0.now c.in_ok-made.made.items c.insert.new.self.items c.first-item.result c.in_ok-clip_edge.field-0 c.from_vec-pivot.result
    c.count_before.ensures c.split_at.ensures.back c.in-len1-up.len_at_least c.first-item.is c.count_within.ensures c.split_at-2.ensures.front c.in_ok-made.ensures (c.from_vec-pivot.ensures ∙ c.new.ensures.items) c.in_ok-clip_edge.ensures c.in_ok-insert.ensures.items
