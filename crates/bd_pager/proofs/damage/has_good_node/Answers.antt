use Rattle.std.proofs.Common.{subst}
use Rattle.bd_device.specs.Device.{IsImageCause}
use Rattle.bd_device.specs.declared.fault.ImageFault.{ImageFault}
use Rattle.bd_pager.specs.Places.{spots_in}
use Rattle.bd_pager.specs.Slots.{IsBadSlot}
use Rattle.bd_pager.proofs.DamageLemmas.{good_or_not, none_good}
use Rattle.bd_pager.proofs.damage.has_good_node.Goals as goal

pub returns-in-Ok-clause-good : goal.returns-in-Ok-clause-good
returns-in-Ok-clause-good g c = λ entries are saved.
    good_or_not entries (spots_in c.args.saved.now) are saved (g.D.Device.contents c.args.dev.now) c.args.entry c.in-Ok.node c.names_lower.result c.images_are_of_one_node.ensures c.in-Ok.ensures.held c.names_lower.ensures

pub returns-in-Err-Damaged-clause-good : goal.returns-in-Err-Damaged-clause-good
returns-in-Err-Damaged-clause-good g c = λ entries are saved.
    let D = g.D.Device in
    let cause = subst (λ (f : ImageFault). IsImageCause D c.args.dev.now c.read_node.new.dev (IsBadSlot (D.contents c.args.dev.now) c.args.entry.slot c.args.entry.level) f) c.in-Err-Damaged.field-0-is c.in-Err-Damaged.ensures.cause.failed in
    none_good (D.contents c.args.dev.now) entries c.args.entry cause.0.1
