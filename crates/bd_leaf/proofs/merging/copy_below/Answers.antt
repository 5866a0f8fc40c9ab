use Rattle.std.proofs.Common.{sym, ap, ◌∙◌, List, ℕ}
use Rattle.std.specs.Ordering.{is_lt}
use Rattle.bd_keys.specs.Keys.{key_cmp}
use Rattle.bd_node.specs.declared.node.Entry.{Entry}
use Rattle.bd_leaf.proofs.Merges.{moved_done}
use Rattle.bd_leaf.proofs.merging.copy_below.Goals as goal

pub returns-else-is_lt : goal.returns-else-is_lt
returns-else-is_lt c =
    moved_done c.args.new.now.items c.args.rest.now c.loop-place.new.items c.args.key.now c.loop-place.place c.index-rest-place.result c.requires.rising c.loop-place.invariant.items c.loop-place.invariant.below c.loop-place-test.true c.index-rest-place.is
    (ap (λ (e : Entry). is_lt (key_cmp e.key c.args.key.now)) c.index-rest-place.is
    ∙ ap (λ (l : List ℕ). is_lt (key_cmp l c.args.key.now)) (sym c.as_slice.ensures)
    ∙ ap is_lt (sym c.cmp.ensures) ∙ sym c.is_lt.ensures ∙ c.if-is_lt.false)
