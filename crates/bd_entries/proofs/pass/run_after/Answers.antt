use Rattle.std.proofs.Common.{◌≡◌, ◌+◌, drop, arith}
use Rattle.std.proofs.lemmas.List.{length-drop}
use Rattle.bd_entries.specs.Fronts.{key_past}
use Rattle.bd_entries.proofs.Options.{match_none, match_some}
use Rattle.bd_entries.proofs.Passing.{run_begins, run_here, run_on, run_ends, over_here, broken_more}
use Rattle.bd_entries.proofs.pass.run_after.Goals as goal

pub loop-each-init : goal.loop-each-init
loop-each-init c = record {
  few = c.requires;
  counted = omega arith;
  running = λ at low some passed next. run_begins c.args.has_modes at low c.args.found.now c.args.pass passed next;
}

pub returns-then-pass-most-clause-went : goal.returns-then-pass-most-clause-went
returns-then-pass-most-clause-went c = λ at low some passed next.
    let r = run_here c.args.has_modes at (key_past low c.args.found.now) c.args.found.now c.loop-each.each-index c.each-item.result c.loop-each.pass c.loop-each-test.true c.each-item.is (c.loop-each.invariant.running at low some passed next) in
    over_here c.args.has_modes at r.low c.each-item.result.key c.each-item.result.value c.args.most c.loop-each.pass some c.if-pass-most.true r.passed r.next.0

pub returns-clause-went : goal.returns-clause-went
returns-clause-went c = λ at low some passed next.
    run_ends c.args.has_modes at (key_past low c.args.found.now) (drop c.loop-each.each-index c.args.found.now) c.loop-each.pass (omega (arith, length-drop c.loop-each.each-index c.args.found.now)) (c.loop-each.invariant.running at low some passed next)

pub returns-in-None-clause-went : goal.returns-in-None-clause-went
returns-in-None-clause-went c = λ at low some passed next.
    let r = run_here c.args.has_modes at (key_past low c.args.found.now) c.args.found.now c.loop-each.each-index c.each-item.result c.loop-each.pass c.loop-each-test.true c.each-item.is (c.loop-each.invariant.running at low some passed next) in
    broken_more c.args.has_modes at (c.loop-each.pass.keys + 1) c.args.most (omega (arith, c.loop-each.invariant.few, c.if-pass-most.false)) (match_none c.in_ok-next.field-0 _ _ c.in-None.is (c.in_ok-next.ensures.passed at r.low r.passed r.next.0))

pub loop-each-preserved : goal.loop-each-preserved
loop-each-preserved c =
    let keys : c.in-Some.next.keys ≡ c.loop-each.pass.keys + 1 = match_some c.in_ok-next.field-0 _ _ c.in-Some.next c.in-Some.is c.in_ok-next.ensures.keys in
    record {
      few = omega (arith, keys, c.loop-each.invariant.few, c.if-pass-most.false);
      counted = omega (arith, keys, c.loop-each.invariant.counted);
      running = λ at low some passed next.
          let r = run_here c.args.has_modes at (key_past low c.args.found.now) c.args.found.now c.loop-each.each-index c.each-item.result c.loop-each.pass c.loop-each-test.true c.each-item.is (c.loop-each.invariant.running at low some passed next) in
          run_on c.args.has_modes at (key_past low c.args.found.now) c.each-item.result (drop (c.loop-each.each-index + 1) c.args.found.now) c.loop-each.pass c.in-Some.next r
          (match_some c.in_ok-next.field-0 _ _ c.in-Some.next c.in-Some.is (c.in_ok-next.ensures.passed at r.low r.passed r.next.0));
    }
