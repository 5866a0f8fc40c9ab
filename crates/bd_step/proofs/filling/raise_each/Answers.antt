use Rattle.std.proofs.Common.{◌+◌, drop, set, sym, subst, ◌∙◌, arith}
use Rattle.std.proofs.lemmas.List.{get_or_default}
use Rattle.std.specs.Option.{option_copied}
use Rattle.bd_keys.specs.Keys.{IsBelowEnd}
use Rattle.bd_node.specs.Shape.{end_before}
use Rattle.bd_step.specs.Filling.{IsWaiting}
use Rattle.bd_step.proofs.PendingSizes.{waiting_most}
use Rattle.bd_step.proofs.PendingAll.{AreRaisedTo, rising_end, raised_more, raised_all}
use Rattle.bd_step.proofs.filling.raise_each.Goals as goal

pub waiting_size-requires-clause-rising : goal.waiting_size-requires-clause-rising
waiting_size-requires-clause-rising c =
    subst (λ o. IsBelowEnd c.index-edges-at.result.pivot o) (sym c.end_of.ensures)
    (rising_end c.args.edges.now c.loop-at.at c.index-edges-at.result c.requires.rising c.loop-at-test.true c.index-edges-at.is)

pub overflow_add-index_mut : goal.overflow_add-index_mut
overflow_add-index_mut c =
    omega (
      arith,
      c.index_mut.ensures.value ∙ get_or_default c.loop-at.sizes.items c.loop-at.at c.index_mut.result.now 0 (omega (arith, c.requires.long, c.loop-at.invariant.long, c.loop-at-test.true)),
      c.loop-at.invariant.rest c.loop-at.at (omega arith),
      c.requires.room c.loop-at.at c.loop-at-test.true,
      waiting_most c.args.place c.args.message.now c.index-edges-at.result (option_copied c.end_of.result) c.waiting_size.result c.waiting_size.ensures,
    )

pub loop-at-preserved : goal.loop-at-preserved
loop-at-preserved c =
    let own = c.waiting_size.result in
    let waits : IsWaiting c.args.place c.args.message.now c.index-edges-at.result (end_before (drop (c.loop-at.at + 1) c.args.edges.now)) own =
    subst (λ o. IsWaiting c.args.place c.args.message.now c.index-edges-at.result o own) c.end_of.ensures c.waiting_size.ensures in
    subst (λ n. AreRaisedTo c.args.place c.args.message.now c.args.edges.now c.args.sizes.now.items (set c.loop-at.sizes.items c.loop-at.at (n + own)) (c.loop-at.at + 1)) (sym (c.index_mut.ensures.value ∙ get_or_default c.loop-at.sizes.items c.loop-at.at c.index_mut.result.now 0 (omega (arith, c.requires.long, c.loop-at.invariant.long, c.loop-at-test.true))))
    (raised_more c.args.place c.args.message.now c.args.edges.now c.args.sizes.now.items c.loop-at.sizes.items c.loop-at.at own c.index-edges-at.result c.loop-at.invariant c.requires.long c.loop-at-test.true c.index-edges-at.is waits)

pub returns : goal.returns
returns c = raised_all c.args.place c.args.message.now c.args.edges.now c.args.sizes.now.items c.loop-at.sizes.items c.loop-at.at c.loop-at.invariant (omega (arith, c.loop-at-test.false))
