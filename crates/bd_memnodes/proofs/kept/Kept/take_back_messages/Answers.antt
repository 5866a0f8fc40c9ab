use Rattle.bd_node.specs.Nodes.{message_names}
use Rattle.std.proofs.Common.{sym, subst, drop, ◌+◌}
use Rattle.std.specs.Prelude.{flat_map}
use Rattle.bd_memnodes.specs.declared.kept.Kept.{Kept}
use Rattle.bd_memnodes.proofs.Loops.{IsTaking, loop_done, loop_one, loop_none, message_one, message_none}
use Rattle.bd_memnodes.proofs.kept.Kept.take_back_messages.Goals.{in-Goto, in_default}
use Rattle.bd_memnodes.proofs.kept.Kept.take_back_messages.Goals as goal

pub loop-message-preserved : goal.loop-message-preserved
loop-message-preserved c =
    let P : Kept → Type 0 = λ kept. IsTaking (flat_map message_names c.args.messages.now) (flat_map message_names (drop (c.loop-message.message-index + 1) c.args.messages.now)) c.args.self.now kept in
    elim c.match-message.branch [
      | in-Goto w ↦ subst P (sym w.self-is)
          (loop_one message_names c.args.messages.now c.loop-message.message-index c.message-item.result w.in-Goto.child c.args.self.now c.loop-message.self w.take_back.new.self
          c.loop-message-test.true c.message-item.is (message_one c.message-item.result _ _ w.in-Goto.child w.in-Goto.is) c.loop-message.invariant
          (record { counts = w.take_back.ensures.counts; taken = w.take_back.ensures.taken; room = w.take_back.ensures.room; moved = w.take_back.ensures.moved; head = w.take_back.ensures.head }))
      | in_default w ↦ subst P (sym w.self-is)
          (loop_none message_names c.args.messages.now c.loop-message.message-index c.message-item.result c.args.self.now c.loop-message.self
          c.loop-message-test.true c.message-item.is (message_none c.message-item.result w.in_default.not-Goto) c.loop-message.invariant)
    ]

pub returns-clause-taken : goal.returns-clause-taken
returns-clause-taken c = (loop_done message_names c.args.messages.now c.loop-message.message-index c.args.self.now c.loop-message.self c.loop-message-test.false c.loop-message.invariant).taken
