use Rattle.std.proofs.Common.{◌≡◌, ℕ, ◌≤◌, true, false, length, subst, arith, inl, inr}
use Rattle.std.proofs.lemmas.Bool.{cases_lt}
use Rattle.bd_node.specs.Index.{is_range_at}
use Rattle.bd_node.proofs.Asking.{range_read, range_past}
use Rattle.bd_node.proofs.scans.next_range.Goals as goal

pub returns-then-not-is_point : goal.returns-then-not-is_point
returns-then-not-is_point c =
    (c.loop-place.auto.place, range_read c.args.items.now c.loop-place.place c.index-items-place.result c.is_point.result false c.loop-place-test.true c.index-items-place.is c.is_point.ensures c.if-not-is_point.true, c.loop-place.invariant)

pub loop-place-preserved : goal.loop-place-preserved
loop-place-preserved c =
    λ i least high. elim (cases_lt i c.loop-place.place) [
      | inl less ↦ c.loop-place.invariant i least less
      | inr le ↦ (let e : c.loop-place.place ≡ i = omega arith in
          subst (λ (j : ℕ). is_range_at c.args.items.now j ≡ false) e
          (range_read c.args.items.now c.loop-place.place c.index-items-place.result c.is_point.result true c.loop-place-test.true c.index-items-place.is c.is_point.ensures c.if-not-is_point.false))
    ]

pub returns : goal.returns
returns c =
    λ i least. elim (cases_lt i c.loop-place.place) [
      | inl less ↦ c.loop-place.invariant i least less
      | inr le ↦ range_past c.args.items.now i (let past : length c.args.items.now ≤ c.loop-place.place = c.loop-place-test.false in omega arith)
    ]
