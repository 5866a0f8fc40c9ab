use Rattle.std.proofs.Common.{refl}
use Rattle.bd_message.proofs.Finds.{not_both}
use Rattle.bd_message.proofs.EncodingSizes.{encoded_other, encoded_none}
use Rattle.bd_message.proofs.message.Message.read.Goals as goal
use Rattle.bd_message.proofs.message.Message.read.Goals.{in_default-via-in-Some+else-is_message, in_default-via-in_default}

pub returns-in_default-clause-read : goal.returns-in_default-clause-read
returns-in_default-clause-read c =
    let old = c.args.cursor.now in
    let new = c.encoded.new.ahead in (
      elim c.in_default.branch [
        | in_default-via-in-Some+else-is_message w ↦ encoded_other old c.ahead-ahead.result new c.in_ok-message.field-0 w.in-Some.message c.ahead-ahead.ensures c.in_ok-message.ensures w.in-Some.is
            (λ is. not_both (w.is_message.ensures.1 is) w.if-is_message.false)
        | in_default-via-in_default w ↦ encoded_none old c.ahead-ahead.result new c.in_ok-message.field-0 c.ahead-ahead.ensures c.in_ok-message.ensures w.in_default.is
      ],
      refl,
    )
