use Rattle.std.proofs.Common.{ap, ◌∙◌, arith}
use Rattle.std.specs.Int.{w16}
use Rattle.bd_wire.specs.Numbers.{be}
use Rattle.bd_wire.proofs.NumberLemmas.{be-number_at}
use Rattle.bd_wire.proofs.cursor.number16.Goals as goal

pub returns : goal.returns
returns c = ap (be w16) c.read_u16.ensures ∙ be-number_at w16 c.args.bytes.now (λ i. omega (arith, c.type_inv.bytes i)) c.requires
