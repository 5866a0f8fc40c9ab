use Rattle.std.proofs.Common.{sym, ap, ◌∙◌}
use Rattle.bd_node.specs.declared.node.Entry.{Entry}
use Rattle.bd_flush.proofs.LeafHalves.{two_entries, are_leaf_halves}
use Rattle.bd_flush.proofs.pushing.leaf_halves.Goals as goal

pub split-requires-clause-two : goal.split-requires-clause-two
split-requires-clause-two c = two_entries c.args.new c.requires.entries.each c.requires.over

pub returns : goal.returns
returns c =
    are_leaf_halves c.args.new c.in_ok-first.first c.in_ok-first.second c.as_slice.result.now c.index-as_slice-0.result c.in_ok-pivot.pivot (c.in_ok-first.ensures.leaves c.requires.fits) c.in_ok-first.ensures.first.1 c.in_ok-first.ensures.second.1 c.in_ok-first.ensures.apart c.as_slice.ensures
    c.index-as_slice-0.is (c.in_ok-pivot.ensures.cases ∙ ap (λ (e : Entry). e.key) (sym c.index-as_slice-0.is))
