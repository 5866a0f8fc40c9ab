use Rattle.std.proofs.Common.{sym, ap, ◌∙◌}
use Rattle.bd_device.specs.Crash.{torn_bytes}
use Rattle.bd_device.specs.declared.torn.Torn.{Torn}
use Rattle.bd_device.proofs.torn.Torn.bytes.Goals as goal

pub returns-in-Fill-clause-torn : goal.returns-in-Fill-clause-torn
returns-in-Fill-clause-torn c = c.full_block.ensures.bytes ∙ ap (λ (how : Torn). torn_bytes how c.args.write.now c.args.now.now) (sym c.in-Fill.is)
