use Rattle.std.proofs.Common.{refl, sym, ◌∙◌, subst, true≢false}
use Rattle.bd_pager.specs.Places.{spots_in}
use Rattle.bd_pager.proofs.EarlyLemmas.{IsFirstOf, IsOver, over_all, over_done, over_here, over_next, first_now, first_still}
use Rattle.bd_pager.proofs.early.first_of.Goals as goal

pub loop-id-init : goal.loop-id-init
loop-id-init c = (
  tt,
  tt,
  λ apart. absurd (apart refl),
  subst (λ l. IsOver (IsFirstOf c.args.root (spots_in c.args.spots.now) c.args.root) c.args.listed.now l) (sym c.into_iter-id-iterator.ensures.into_iter_gives.0)
      (over_all (IsFirstOf c.args.root (spots_in c.args.spots.now) c.args.root) c.args.listed.now),
)

pub loop-id-preserved-then-is_before : goal.loop-id-preserved-then-is_before
loop-id-preserved-then-is_before c =
    let was = c.loop-id.invariant in
    let spots = spots_in c.args.spots.now in
    let root = c.args.root in
    let id = c.in-Some.id.now in
    let first = c.loop-id.first in
    let steps = c.in-Some.ensures.steps in (
      tt,
      tt,
      λ apart. over_here (IsFirstOf root spots first) c.args.listed.now c.loop-id.id-iterator c.next.new.self id steps was.3,
      over_next (IsFirstOf root spots first) (IsFirstOf root spots id) c.args.listed.now c.loop-id.id-iterator c.next.new.self id steps
          (first_now root spots id first (c.is_before.ensures.0 c.if-is_before.true)) (λ apart. absurd (apart refl)) was.3,
    )

pub loop-id-preserved : goal.loop-id-preserved
loop-id-preserved c =
    let was = c.loop-id.invariant in
    let spots = spots_in c.args.spots.now in
    let root = c.args.root in
    let id = c.in-Some.id.now in
    let first = c.loop-id.first in (
      tt,
      tt,
      was.2,
      over_next (IsFirstOf root spots first) (IsFirstOf root spots first) c.args.listed.now c.loop-id.id-iterator c.next.new.self id c.in-Some.ensures.steps
          (λ other done. done) (first_still root spots id first (λ is. true≢false (sym (c.is_before.ensures.1 is) ∙ c.if-is_before.false))) was.3,
    )

pub returns-clause-first : goal.returns-clause-first
returns-clause-first c =
    over_done (IsFirstOf c.args.root (spots_in c.args.spots.now) c.loop-id.first) c.args.listed.now c.loop-id.id-iterator c.in-None.ensures.steps.0 c.loop-id.invariant.3
