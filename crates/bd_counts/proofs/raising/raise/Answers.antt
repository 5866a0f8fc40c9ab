use Rattle.std.proofs.Common.{◌≡◌, ℕ, ◌+◌, refl, subst, arith, nat_eq, List, Some}
use Rattle.std.specs.Prelude.{slice_index}
use Rattle.std.specs.HashMap.{Updates}
use Rattle.bd_counts.specs.Counting.{overlaid}
use Rattle.bd_counts.proofs.Names.{worn_at}
use Rattle.bd_counts.proofs.Overlays.{overlaid_more}
use Rattle.bd_counts.proofs.raising.raise.Goals as goal

pub returns-then-count-clause-cause : goal.returns-then-count-clause-cause
returns-then-count-clause-cause g c =
    let counts : ℕ → ℕ = (g.S.Counted.table c.args.source.now).count in
    let raised : ℕ → ℕ = overlaid counts c.loop-name.counts in
    let xs : List ℕ = c.args.names.now in
    let i : ℕ = c.loop-name.name-index in
    let full : raised (slice_index xs i) + 1 ≡ 18446744073709551616 = omega (arith, c.count_of-count.ensures) in
    record { later = omega arith; kept = tt; stays = refl; failed = (slice_index xs i, worn_at counts raised xs i c.loop-name-test.true full c.loop-name.invariant) }

pub loop-name-preserved : goal.loop-name-preserved
loop-name-preserved g c =
    let counts : ℕ → ℕ = (g.S.Counted.table c.args.source.now).count in
    let xs : List ℕ = c.args.names.now in
    let x : ℕ = slice_index xs c.loop-name.name-index in
    let is : c.count_of-count.result ≡ overlaid counts c.loop-name.counts x = c.count_of-count.ensures in
    overlaid_more counts c.loop-name.counts c.insert.new.self xs c.loop-name.name-index c.loop-name-test.true
    (subst (λ (n : ℕ). Updates nat_eq c.loop-name.counts c.insert.new.self x (Some (n + 1))) is c.in_ok-insert.ensures.updates)
    c.loop-name.invariant
