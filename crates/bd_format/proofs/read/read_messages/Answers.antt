use Rattle.std.proofs.Common.{arith, subst}
use Rattle.bd_message.specs.Messages.{IsMessage}
use Rattle.bd_message.specs.Codec.{IsReadAs, message_bytes}
use Rattle.bd_format.proofs.Lists.{BeginsNone-lists}
use Rattle.bd_format.proofs.read.read_messages.Goals as goal

pub returns-in-None : goal.returns-in-None
returns-in-None c =
    let none = subst (IsReadAs c.loop-place.cursor c.read.new.cursor) c.in-None.is c.in_ok-message.ensures.read in
    BeginsNone-lists IsMessage message_bytes c.messages_are_prefix_free.ensures c.args.count c.loop-place.messages.items c.args.cursor.now.left c.loop-place.cursor.left
    (omega (arith, c.loop-place.invariant.count, c.loop-place-test.true)) c.loop-place.invariant.fit c.loop-place.invariant.read.front none.0
