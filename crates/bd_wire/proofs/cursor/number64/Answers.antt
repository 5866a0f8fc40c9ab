use Rattle.std.proofs.Common.{ap, ◌∙◌, arith}
use Rattle.std.specs.Int.{w64}
use Rattle.bd_wire.specs.Numbers.{be}
use Rattle.bd_wire.proofs.NumberLemmas.{be-number_at}
use Rattle.bd_wire.proofs.cursor.number64.Goals as goal

pub returns : goal.returns
returns c = ap (be w64) c.read_u64.ensures ∙ be-number_at w64 c.args.bytes.now (λ i. omega (arith, c.type_inv.bytes i)) c.requires
