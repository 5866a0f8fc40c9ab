use Rattle.std.proofs.Common.{sym, ap, ◌∙◌, Some}
use Rattle.bd_message.proofs.Finds.{find_here, find_past}
use Rattle.bd_message.proofs.entries.find.Goals as goal

pub returns-then-eq : goal.returns-then-eq
returns-then-eq c =
    ap Some c.as_slice-then-eq.ensures ∙ sym (find_here c.args.entries.now c.loop-at.at-index c.loop-at-item.result c.as_slice.result.now c.args.key.now c.loop-at-test.true c.loop-at-item.is c.as_slice.ensures (sym c.eq.ensures ∙ c.if-eq.true)) ∙ c.loop-at.invariant

pub loop-at-preserved : goal.loop-at-preserved
loop-at-preserved c =
    find_past c.args.entries.now c.loop-at.at-index c.loop-at-item.result c.as_slice.result.now c.args.key.now c.loop-at-test.true c.loop-at-item.is c.as_slice.ensures (sym c.eq.ensures ∙ c.if-eq.false) ∙ c.loop-at.invariant
