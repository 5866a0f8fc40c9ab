use Rattle.std.proofs.Common.{length, subst, ap, sym, ◌∙◌, arith}
use Rattle.bd_records.specs.Records.{IsModeReadAs}
use Rattle.bd_records.proofs.Lengths.{len_read, no_length}
use Rattle.bd_records.proofs.read_len_mode.Goals as goal

pub returns-in_default : goal.returns-in_default
returns-in_default c = λ v within encoded.
    let same = (len_read c.args.bytes.now c.u32.new.self.left c.in-Ok.len v (sym c.new-cursor.ensures.left ∙ c.in-Ok.ensures.read.front) (omega arith) within encoded).0 in
    omega (arith, same, within.0)

pub returns-in_default-2 : goal.returns-in_default-2
returns-in_default-2 c = λ v within encoded.
    no_length c.args.bytes.now v (omega (arith, c.in_default.ensures.short, ap length c.new-cursor.ensures.left)) encoded

pub returns-in-None : goal.returns-in-None
returns-in-None c = λ v within encoded.
    let rest = (len_read c.args.bytes.now c.u32.new.self.left c.in-Ok.len v (sym c.new-cursor.ensures.left ∙ c.in-Ok.ensures.read.front) (omega arith) within encoded).1 in
    let none = subst (IsModeReadAs c.left.result.now) c.in-None.is c.read_mode.ensures in
    none v.1 within.1 (c.left.ensures ∙ rest)
