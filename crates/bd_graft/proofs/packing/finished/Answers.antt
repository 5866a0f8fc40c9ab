use Rattle.std.proofs.Common.{ap, ◌∙◌, arith, eq-eqb, List, length}
use Rattle.std.specs.Vec.{vec_len}
use Rattle.bd_message.specs.declared.message.Message.{Message}
use Rattle.bd_graft.proofs.Packs.{not_some}
use Rattle.bd_message.proofs.Finds.{not_both}
use Rattle.bd_graft.specs.Packing.IsFinished.{made_too}
use Rattle.bd_graft.proofs.packing.finished.Goals.{else-is_empty-via-then-is_empty+else-is_some, else-is_empty-via-else-is_empty}
use Rattle.bd_graft.proofs.packing.finished.Goals as goal

pub returns : goal.returns
returns c =
    made_too c.in_ok-stack.stack
    (λ none. elim c.else-is_empty.branch [
      | else-is_empty-via-then-is_empty+else-is_some w ↦ not_some c.args.stack.under w.is_some.result w.is_some.ensures w.if-is_some.false
      | else-is_empty-via-else-is_empty w ↦ absurd (not_both (c.is_empty.ensures ∙ eq-eqb (vec_len c.args.stack.waiting) 0 (omega (arith, c.args.stack.waiting.ok, ap (λ (ms : List Message). length ms) none))) w.if-is_empty.false)
    ])
    c.in_ok-stack.ensures c.ended-2.ensures
