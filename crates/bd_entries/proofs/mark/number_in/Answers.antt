use Rattle.std.proofs.Common.{length, ap, sym, ◌∙◌, arith}
use Rattle.std.proofs.lemmas.Bool.{eqb-false, eqb-true}
use Rattle.bd_records.proofs.Lengths.{no_bytes}
use Rattle.bd_entries.proofs.Numbers.{number_is, none_left, too_short}
use Rattle.bd_entries.proofs.mark.number_in.Goals as goal

pub returns-in-Ok : goal.returns-in-Ok
returns-in-Ok c =
    number_is c.args.bytes.now c.u32.new.self.left c.in-Ok.number (sym c.new-cursor.ensures.left ∙ c.in-Ok.ensures.read.front)
    (sym c.left.ensures ∙ no_bytes c.left.result.now (eqb-true (length c.left.result.now) 0 (sym c.is_empty.ensures ∙ c.if-is_empty.true)))

pub returns-in_default : goal.returns-in_default
returns-in_default c = λ n small encoded.
    eqb-false (length c.left.result.now) 0 (sym c.is_empty.ensures ∙ c.if-is_empty.false)
    (ap length (c.left.ensures ∙ none_left c.args.bytes.now c.u32.new.self.left c.in-Ok.number n (sym c.new-cursor.ensures.left ∙ c.in-Ok.ensures.read.front) (omega arith) small encoded))

pub returns-in_default-2 : goal.returns-in_default-2
returns-in_default-2 c = λ n small encoded.
    too_short c.args.bytes.now n (omega (arith, c.in_default.ensures.short, ap length c.new-cursor.ensures.left)) encoded
