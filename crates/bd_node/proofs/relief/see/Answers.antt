use Rattle.std.proofs.Common.{List, ℕ, ap, ◌∙◌}
use Rattle.std.proofs.lemmas.List.{take_all}
use Rattle.bd_node.specs.Pushes.{with_seen}
use Rattle.bd_node.proofs.Going.{see_more}
use Rattle.bd_node.proofs.relief.see.Goals as goal

pub loop-place-preserved : goal.loop-place-preserved
loop-place-preserved c =
    see_more c.args.seens.now c.args.edges.now c.loop-place.list.items c.loop-place.place c.index_mut.result.now c.requires c.loop-place-test.true c.loop-place.invariant c.index_mut.ensures.value

pub returns : goal.returns
returns c =
    c.from_vec.ensures
    ∙ c.loop-place.invariant
    ∙ ap (λ (l : List ℕ). with_seen l c.args.edges.now) (take_all c.loop-place.place c.args.seens.now c.loop-place-test.false)
