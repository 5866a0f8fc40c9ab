use Rattle.std.proofs.Common.{◌≡◌, ◌++◌, subst, arith, drop, ℕ, List}
use Rattle.bd_query.specs.declared.turns.Turn.{Turn}
use Rattle.bd_query.specs.Stretches.{IsTurn, PassesTo}
use Rattle.bd_query.specs.Runs.{raised_run}
use Rattle.bd_query.proofs.RunLemmas.{raised_turn}
use Rattle.bd_query.proofs.TurnLemmas.{raised_empty, raised_found}
use Rattle.bd_query.proofs.turns.raised.Goals as goal

pub returns-in-Found-clause-turn : goal.returns-in-Found-clause-turn
returns-in-Found-clause-turn c most passes at child asked found =
    raised_found c.args.key.now c.args.source.now c.in-Found.value c.args.lift c.args.end at child (λ i. omega (arith, c.type_inv.key i)) c.requires.end.above asked
    (subst (λ (t : Turn). IsTurn child (c.args.source.now ++ drop c.args.lift c.args.key.now) t) c.in-Found.is found)

pub returns-in_ok-below-in-Passed-clause-turn : goal.returns-in_ok-below-in-Passed-clause-turn
returns-in_ok-below-in-Passed-clause-turn c most passes at child asked empty =
    let passed = subst (λ (t : Turn). PassesTo (c.args.source.now ++ drop c.args.lift c.args.key.now) most t) c.in-Passed.is passes in
    raised_empty c.args.key.now c.args.source.now c.args.lift most c.args.end c.in-Passed.below c.in_ok-below-in-Passed.below c.lesser-end.result at child
    (record {
      own = c.requires.end;
      few = c.requires.few;
      lower_end = passed;
      key_is = (λ i. omega (arith, c.type_inv.key i));
      source_is = (λ i. omega (arith, c.type_inv.source i));
      raised_end = c.in_ok-below-in-Passed.ensures.end most passed;
      inside = c.in_ok-below-in-Passed.ensures.inside most passed;
      least_is = c.lesser-end.ensures.below;
      one = c.lesser-end.ensures.one;
    }) asked (subst (λ (t : Turn). IsTurn child (c.args.source.now ++ drop c.args.lift c.args.key.now) t) c.in-Passed.is empty)

pub returns-in_ok-run-in-Run-clause-turn : goal.returns-in_ok-run-in-Run-clause-turn
returns-in_ok-run-in-Run-clause-turn c most passes at child asked found =
    raised_turn at child c.args.key.now c.args.source.now c.args.end c.args.lift c.in-Run.entries c.in_ok-run-in-Run.run' c.run_or_end.result asked c.requires.long (λ i. omega (arith, c.type_inv.source i))
    (subst (λ (t : Turn). IsTurn child (c.args.source.now ++ drop c.args.lift c.args.key.now) t) c.in-Run.is found)
    (subst (λ (l : List ℕ). c.in_ok-run-in-Run.run' ≡ raised_run c.args.end l c.args.source.now c.in-Run.entries) c.front.ensures c.in_ok-run-in-Run.ensures.run) c.in_ok-run-in-Run.ensures.keys
    (record { some = c.run_or_end.ensures.some; none = c.run_or_end.ensures.none })
