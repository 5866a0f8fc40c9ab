use Rattle.std.proofs.Common.{sym, ◌∙◌, arith}
use Rattle.bd_sessions.proofs.TurnLemmas.{write_turn}
use Rattle.bd_sessions.proofs.reading.read_write.Goals as goal

pub returns : goal.returns
returns c =
    let hex = rw c.in_ok-len.ensures.ok_part at c.read_hex.ensures in
    let is = write_turn c.args.words.now _ c.in_ok-handle.handle c.in_ok-off.off _ c.in_ok-bytes.bytes (omega arith) (sym c.in_ok-handle.ensures.ok_part ∙ c.read_number.ensures)
    (sym c.in_ok-off.ensures.ok_part ∙ c.read_number-2.ensures) hex.1 c.in_ok-bytes.ensures in
    (is.0, (is.1, is.2))
