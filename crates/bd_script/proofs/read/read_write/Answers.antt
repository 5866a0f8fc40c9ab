use Rattle.std.proofs.Common.{sym, ◌∙◌, arith}
use Rattle.bd_script.proofs.ReadLemmas.{write_is}
use Rattle.bd_script.proofs.read.read_write.Goals as goal

pub returns : goal.returns
returns c =
    let hex = rw c.in_ok-len.ensures.ok_part at c.read_hex.ensures in
    let is = write_is c.args.words.now _ _ _ _ _ (omega arith) c.in_ok-path.ensures.0 (sym c.in_ok-off.ensures.ok_part ∙ c.read_number.ensures) hex.1 c.in_ok-bytes.ensures in
    (is.0, (c.in_ok-path.ensures.1, is.1, is.2))
