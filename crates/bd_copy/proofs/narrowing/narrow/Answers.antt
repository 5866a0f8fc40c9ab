use Rattle.std.proofs.Common.{List, length, ap, arith}
use Rattle.std.specs.Option.{option_copied}
use Rattle.bd_message.specs.declared.message.Message.{Message}
use Rattle.bd_copy.proofs.Narrowed.{few_wait, parts_loose, parts_narrowed}
use Rattle.bd_copy.proofs.narrowing.narrow.Goals as goal

pub overflow_cast-seen : goal.overflow_cast-seen
overflow_cast-seen c = omega (arith, few_wait c.args.node.now c.in-Inner.level c.in-Inner.edges c.in-Inner.buffer c.in-Inner.is c.requires.loose, ap (λ (l : List Message). length l) c.as_slice-in-Inner.ensures)

pub sweep-requires : goal.sweep-requires
sweep-requires c =
    parts_loose c.args.lo.now (option_copied c.args.hi) c.args.node.now c.in-Inner.level c.in-Inner.edges c.as_slice-in-Inner-2.result.now c.in_ok-edges-in-Inner.edges c.in-Inner.buffer (length c.as_slice-in-Inner.result.now)
    c.in-Inner.is (λ i. omega (arith, c.type_inv.lo i)) c.requires.span c.requires.loose c.as_slice-in-Inner-2.ensures (ap (λ (l : List Message). length l) c.as_slice-in-Inner.ensures) c.in_ok-edges-in-Inner.ensures

pub returns-in_ok-edges-in-Inner-clause-node : goal.returns-in_ok-edges-in-Inner-clause-node
returns-in_ok-edges-in-Inner-clause-node c =
    parts_narrowed c.args.lo.now (option_copied c.args.hi) c.args.node.now c.in-Inner.level c.in-Inner.edges c.as_slice-in-Inner-2.result.now c.in_ok-edges-in-Inner.edges c.in-Inner.buffer (length c.as_slice-in-Inner.result.now) c.sweep.result
    c.in-Inner.is c.as_slice-in-Inner-2.ensures (ap (λ (l : List Message). length l) c.as_slice-in-Inner.ensures) c.in_ok-edges-in-Inner.ensures c.sweep.ensures
