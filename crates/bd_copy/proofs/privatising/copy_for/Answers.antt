use Rattle.std.proofs.Common.{List, ℕ, length, ◌≤◌, subst, sym}
use Rattle.std.specs.Option.{option_copied}
use Rattle.bd_limits.specs.Limits.{key_limit}
use Rattle.bd_copy.proofs.Copied.{is_asked_of, whole_has, span_again, copy_own, copy_has}
use Rattle.bd_copy.proofs.privatising.copy_for.Goals as goal

pub freed-requires-clause-short : goal.freed-requires-clause-short
freed-requires-clause-short g c = subst (λ (l : List ℕ). length l ≤ key_limit) (sym c.as_slice.ensures) c.requires.asking.source

pub narrow-requires-clause-span : goal.narrow-requires-clause-span
narrow-requires-clause-span g c = span_again c.args.edge.now (option_copied c.args.hi) c.asked_from.result.now (option_copied c.asked_end.result) c.requires.asking c.asked_from.ensures c.asked_end.ensures

pub returns-clause-own : goal.returns-clause-own
returns-clause-own g c =
    copy_own (g.S.NodeStore.table c.args.store.now) c.args.node.now c.args.edge.now (option_copied c.args.hi) c.in_ok-whole.whole c.in_ok-copy.copy
    (is_asked_of (g.S.NodeStore.table c.args.store.now) c.args.node.now c.args.edge.now (option_copied c.args.hi) c.in_ok-whole.whole c.in_ok-copy.copy c.asked_from.result.now (option_copied c.asked_end.result) c.requires.asking c.narrow.ensures.bytes c.asked_from.ensures c.asked_end.ensures
    c.in_ok-whole.ensures.loose c.in_ok-whole.ensures.level c.in_ok-whole.ensures.lower c.in_ok-copy.ensures.node)

pub returns-clause-has : goal.returns-clause-has
returns-clause-has g c = λ known sound.
    copy_has (g.S.NodeStore.nodes c.args.store.now) (g.S.NodeStore.table c.args.store.now) c.args.node.now c.args.edge.now (option_copied c.args.hi) c.in_ok-whole.whole c.in_ok-copy.copy
    (is_asked_of (g.S.NodeStore.table c.args.store.now) c.args.node.now c.args.edge.now (option_copied c.args.hi) c.in_ok-whole.whole c.in_ok-copy.copy c.asked_from.result.now (option_copied c.asked_end.result) c.requires.asking c.narrow.ensures.bytes c.asked_from.ensures c.asked_end.ensures
    c.in_ok-whole.ensures.loose c.in_ok-whole.ensures.level c.in_ok-whole.ensures.lower c.in_ok-copy.ensures.node)
    (whole_has (g.S.NodeStore.nodes c.args.store.now) c.args.node.now c.in_ok-whole.whole c.args.edge.now c.as_slice.result.now c.as_slice.ensures (c.in_ok-whole.ensures.has known sound))
