use Rattle.std.specs.Option.{option_copied}
use Rattle.bd_message.proofs.Finds.{not_both}
use Rattle.bd_message.proofs.Nexts.{step_passed, step_taken}
use Rattle.bd_message.proofs.entries.next.Goals as goal
use Rattle.bd_message.proofs.entries.next.Goals.{then-is_asked, else-is_asked}

pub loop-key-preserved : goal.loop-key-preserved
loop-key-preserved c =
    let from = c.args.from.now in
    let within = c.args.within.now in
    let es = c.args.entries.now in
    let i = c.loop-key.key-index in
    let item = c.loop-key-item.result in
    let least = option_copied c.loop-key.least in
    elim c.if-is_asked.branch [
      | then-is_asked w ↦ rw w.least-is (step_taken from within es i item c.as_slice.result.now w.as_slice-then-is_asked.result.now least w.lesser.result.now
          c.loop-key-test.true c.loop-key-item.is c.as_slice.ensures w.as_slice-then-is_asked.ensures (c.is_asked.ensures.0 w.if-is_asked.true) w.lesser.ensures c.loop-key.invariant)
      | else-is_asked w ↦ rw w.least-is (step_passed from within es i item c.as_slice.result.now least
          c.loop-key-test.true c.loop-key-item.is c.as_slice.ensures (λ asked. not_both (c.is_asked.ensures.1 asked) w.if-is_asked.false) c.loop-key.invariant)
    ]
