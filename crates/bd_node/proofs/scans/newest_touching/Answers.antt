use Rattle.std.proofs.Common.{◌≡◌, ℕ, ◌-◌, ◌<◌, ◌≤◌, true, false, length, subst, arith, inl, inr}
use Rattle.std.proofs.lemmas.Bool.{cases_lt}
use Rattle.bd_node.specs.Index.{touches_at}
use Rattle.bd_node.proofs.Indexing.{read_touches}
use Rattle.bd_node.proofs.scans.newest_touching.Goals as goal

pub returns-then-touches : goal.returns-then-touches
returns-then-touches c =
    let some : c.args.from < c.loop-place.place = c.loop-place-test.true in
    let fits : c.loop-place.place ≤ length c.args.items.now = c.loop-place.invariant.within in (
      omega arith,
      omega arith,
      read_touches c.args.items.now (c.loop-place.place - 1) c.index-items-place.result c.args.key.now c.touches.result true (omega arith) c.index-items-place.is c.touches.ensures c.if-touches.true,
      (λ i newer high. c.loop-place.invariant.none i (omega arith) high),
    )

pub loop-place-preserved : goal.loop-place-preserved
loop-place-preserved c =
    let some : c.args.from < c.loop-place.place = c.loop-place-test.true in
    let fits : c.loop-place.place ≤ length c.args.items.now = c.loop-place.invariant.within in
    record {
      within = omega arith;
      none = λ i least high. elim (cases_lt (c.loop-place.place - 1) i) [
        | inl more ↦ c.loop-place.invariant.none i (omega arith) high
        | inr le ↦ (let e : c.loop-place.place - 1 ≡ i = omega arith in
            subst (λ (j : ℕ). touches_at c.args.items.now j c.args.key.now ≡ false) e
            (read_touches c.args.items.now (c.loop-place.place - 1) c.index-items-place.result c.args.key.now c.touches.result false (omega arith) c.index-items-place.is c.touches.ensures c.if-touches.false))
      ];
    }

pub returns : goal.returns
returns c = λ i low high. c.loop-place.invariant.none i (let past : c.loop-place.place ≤ c.args.from = c.loop-place-test.false in omega arith) high
