use Rattle.std.proofs.Common.{length, arith}
use Rattle.std.specs.Option.{option_copied}
use Rattle.std.proofs.lemmas.Bool.{leb-true, le-leb}
use Rattle.bd_cover.proofs.Covers.{is_common, common_iff, none_common}
use Rattle.bd_cover.proofs.covering.is_common.Goals as goal

pub returns-then-starts : goal.returns-then-starts
returns-then-starts c = (
  (λ short. is_common c.args.prefix.now c.args.lo.now (option_copied c.args.hi) c.lift.result c.starts.result (λ i. omega (arith, c.type_inv.lo i)) c.requires c.lift.ensures c.starts.ensures c.if-starts.true (leb-true (length c.args.prefix.now) c.lift.result short)),
  (λ common. le-leb (length c.args.prefix.now) c.lift.result (common_iff c.args.prefix.now c.args.lo.now (option_copied c.args.hi) c.lift.result (λ i. omega (arith, c.type_inv.lo i)) c.requires c.lift.ensures common).1),
)

pub returns-else-starts : goal.returns-else-starts
returns-else-starts c = none_common c.args.prefix.now c.args.lo.now (option_copied c.args.hi) c.starts.result (λ i. omega (arith, c.type_inv.lo i)) c.requires c.starts.ensures c.if-starts.false
