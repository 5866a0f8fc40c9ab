use Rattle.std.proofs.Common.{ℕ, IsTrue, sym, ap, subst, ◌∙◌}
use Rattle.bd_pager.specs.Counting.{is_in_memory}
use Rattle.bd_pager.specs.Places.{spots_in}
use Rattle.bd_pager.proofs.EarlyLemmas.{IsOver, over_all, over_done, over_next}
use Rattle.bd_pager.proofs.early.stale.Goals as goal

pub loop-id-init : goal.loop-id-init
loop-id-init c = (
  tt,
  tt,
  subst (λ l. IsOver (λ (id : ℕ). IsTrue (is_in_memory (spots_in c.args.spots.now id))) c.args.listed.now l) (sym c.into_iter-id-iterator.ensures.into_iter_gives.0)
      (over_all (λ (id : ℕ). IsTrue (is_in_memory (spots_in c.args.spots.now id))) c.args.listed.now),
)

pub loop-id-preserved : goal.loop-id-preserved
loop-id-preserved c =
    let P = λ (id : ℕ). IsTrue (is_in_memory (spots_in c.args.spots.now id)) in (
      tt,
      tt,
      over_next P P c.args.listed.now c.loop-id.id-iterator c.next.new.self c.in-Some.id.now c.in-Some.ensures.steps (λ id on. on)
          (sym (c.is_in_memory.ensures ∙ ap is_in_memory c.get.ensures.value) ∙ c.if-not-is_in_memory.false) c.loop-id.invariant.2,
    )

pub returns-clause-none : goal.returns-clause-none
returns-clause-none c =
    over_done (λ (id : ℕ). IsTrue (is_in_memory (spots_in c.args.spots.now id))) c.args.listed.now c.loop-id.id-iterator c.in-None.ensures.steps.0 c.loop-id.invariant.2
