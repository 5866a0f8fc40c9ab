use Rattle.std.proofs.Common.{ℕ, ◌/◌, ◌≤◌, List, [], ◌∷◌, ◌++◌, length, arith, refl, ap, ◌∙◌}
use Rattle.bd_node.specs.declared.node.Edge.{Edge}
use Rattle.bd_inner.specs.Halves.{bare_edge}
use Rattle.bd_node.proofs.Compacting.{few_wait}
use Rattle.bd_inner.proofs.Splitting.{lower_is, upper_is, sweep_lower, sweep_upper, halves_at}
use Rattle.bd_inner.proofs.halves.split_inner.Goals as goal

pub overflow_cast-seen : goal.overflow_cast-seen
overflow_cast-seen c = let few : length c.args.buffer.now ≤ 2048 = few_wait c.args.level c.args.edges.now c.args.buffer.now c.requires.inner in omega arith

pub sweep-requires : goal.sweep-requires
sweep-requires c =
    let es : List Edge = c.args.edges.now in
    let m : ℕ = length es / 2 in
    let full : 15 ≤ length es = c.requires.full in
    sweep_lower c.args.level es c.args.buffer.now m c.index-edges-middle.result c.in_ok-with_end.field-0 c.requires.inner (omega arith) c.index-edges-middle.is
    (lower_is es m (length c.args.buffer.now) c.index-edges-middle.result c.in_ok-pivot.pivot c.split_at.result.0.now c.in_ok-with_end.field-0 c.split_at.ensures.front c.in_ok-pivot.ensures.cases c.index-edges-middle.is (c.in_ok-with_end.ensures ∙ ap (λ (n : ℕ). c.split_at.result.0.now ++ bare_edge c.in_ok-pivot.pivot n ∷ []) c.len-seen.ensures))

pub sweep-requires-2 : goal.sweep-requires-2
sweep-requires-2 c =
    let es : List Edge = c.args.edges.now in
    let m : ℕ = length es / 2 in
    let full : 15 ≤ length es = c.requires.full in
    sweep_upper c.args.level es c.args.buffer.now m c.index-edges-middle.result c.in_ok-with_beginning.field-0 c.requires.inner (omega arith) (omega arith) c.index-edges-middle.is
    (upper_is es m (length c.args.buffer.now) c.index-edges-middle.result c.split_at.result.1.now c.in_ok-with_beginning.field-0 (omega arith) c.index-edges-middle.is c.split_at.ensures.back (c.in_ok-with_beginning.ensures ∙ ap (λ (n : ℕ). bare_edge [] n ∷ c.split_at.result.1.now) c.len-seen.ensures))

pub returns : goal.returns
returns c =
    let es : List Edge = c.args.edges.now in
    let m : ℕ = length es / 2 in
    let full : 15 ≤ length es = c.requires.full in
    halves_at c.args.level es c.args.buffer.now m c.index-edges-middle.result c.in_ok-pivot.pivot c.in_ok-with_end.field-0 c.in_ok-with_beginning.field-0 c.in_ok-first.first c.in_ok-second.second c.requires.inner full refl c.index-edges-middle.is
    (lower_is es m (length c.args.buffer.now) c.index-edges-middle.result c.in_ok-pivot.pivot c.split_at.result.0.now c.in_ok-with_end.field-0 c.split_at.ensures.front c.in_ok-pivot.ensures.cases c.index-edges-middle.is (c.in_ok-with_end.ensures ∙ ap (λ (n : ℕ). c.split_at.result.0.now ++ bare_edge c.in_ok-pivot.pivot n ∷ []) c.len-seen.ensures))
    (upper_is es m (length c.args.buffer.now) c.index-edges-middle.result c.split_at.result.1.now c.in_ok-with_beginning.field-0 (omega arith) c.index-edges-middle.is c.split_at.ensures.back (c.in_ok-with_beginning.ensures ∙ ap (λ (n : ℕ). bare_edge [] n ∷ c.split_at.result.1.now) c.len-seen.ensures))
    c.in_ok-pivot.ensures.cases c.in_ok-first.ensures c.in_ok-second.ensures
