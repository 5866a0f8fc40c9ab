use Rattle.std.proofs.Common.{◌≡◌, ◌≢◌, ℕ, ◌<◌, ◌≤◌, Bool, true, false, List, length, take, get_or, eqb, sym, ◌∙◌, ap, arith}
use Rattle.std.specs.List.{IsAnyAnswer}
use Rattle.std.proofs.lemmas.Bool.{true≢false, eqb-false}
use Rattle.std.proofs.lemmas.Bool.Decides.{nat_tests}
use Rattle.std.proofs.lemmas.Grind.{common_steps}
use Rattle.std.proofs.lemmas.List.{get_or-take, length-take-le}
use Rattle.bd_slots.proofs.layout.are_slots.Goals as goal

-- what isn't among the first ones differs from each of them
none_before : (xs : List ℕ) (n x : ℕ) (r : Bool) → IsAnyAnswer (λ y b. eqb y x ≡ b) (take n xs) r → r ≡ false → n ≤ length xs
    → (k d : ℕ) → k < n → get_or xs k d ≢ x
none_before xs n x true answer e le k d lt = absurd (true≢false e)
none_before xs n x false answer e le k d lt =
    eqb-false (get_or xs k d) x
    (ap (λ y. eqb y x) (sym (get_or-take n xs k d lt)) ∙ answer k d (omega arith) (omega (arith, lt, length-take-le n xs le)))

pub loop-index-preserved : goal.loop-index-preserved
loop-index-preserved c =
    let xs = c.args.at.now in
    let n = c.loop-index.index in
    let inside : n < length xs = c.loop-index-test.true in
    let slot = get_or xs n 0 in
    let others = none_before xs n slot c.contains.result c.contains.ensures.cases c.if-contains.false (omega (arith, inside)) in
    record {
      below = λ k d lt. grind (arith, common_steps, nat_tests, c.loop-index.invariant.below k d);
      different = λ i j d before lt. grind (arith, common_steps, nat_tests, c.loop-index.invariant.different i j d before, others i d);
    }
