use Rattle.std.proofs.Common.{ℕ, arith, refl, ◌≡◌, ◌+◌, subst, Some}
use Rattle.std.specs.Prelude.{slice_index}
use Rattle.std.specs.HashMap.{Updates}
use Rattle.std.specs.Prelude.{nat_eq}
use Rattle.bd_memnodes.specs.Maps.{count_in}
use Rattle.bd_counts.specs.Counting.{overlaid}
use Rattle.bd_counts.proofs.Overlays.{overlaid_empty, overlaid_more}
use Rattle.bd_counts.proofs.Names.{fits_more, worn_at}
use Rattle.bd_memnodes.proofs.plan.check_counts.Goals as goal

pub loop-name-init : goal.loop-name-init
loop-name-init c = record {
  raised = overlaid_empty (count_in c.args.counts.now) c.new-raised.result c.new-raised.ensures.empty;
  fits = λ k one. absurd (omega arith);
}

pub returns-then-count-clause-cause : goal.returns-then-count-clause-cause
returns-then-count-clause-cause c =
    let i : ℕ = c.loop-name.name-index in
    let full : overlaid (count_in c.args.counts.now) c.loop-name.raised (slice_index c.args.names.now i) + 1 ≡ 18446744073709551616 =
    omega (arith, c.raised_count-count.ensures) in
    record { later = omega arith; kept = tt; stays = refl; failed = (slice_index c.args.names.now i, worn_at (count_in c.args.counts.now) (overlaid (count_in c.args.counts.now) c.loop-name.raised) c.args.names.now i c.loop-name-test.true full c.loop-name.invariant.raised) }

pub loop-name-preserved : goal.loop-name-preserved
loop-name-preserved c =
    let i : ℕ = c.loop-name.name-index in
    let is : c.raised_count-count.result ≡ overlaid (count_in c.args.counts.now) c.loop-name.raised (slice_index c.args.names.now i) = c.raised_count-count.ensures in
    record {
      raised = overlaid_more (count_in c.args.counts.now) c.loop-name.raised c.insert.new.self c.args.names.now i c.loop-name-test.true
          (subst (λ (n : ℕ). Updates nat_eq c.loop-name.raised c.insert.new.self (slice_index c.args.names.now i) (Some (n + 1))) is c.in_ok-insert.ensures.updates)
          c.loop-name.invariant.raised;
      fits = fits_more (count_in c.args.counts.now) (overlaid (count_in c.args.counts.now) c.loop-name.raised) c.args.names.now i c.loop-name-test.true (omega arith)
          c.loop-name.invariant.raised c.loop-name.invariant.fits;
    }
