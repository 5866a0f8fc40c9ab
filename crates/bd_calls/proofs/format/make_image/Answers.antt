-- The image is made where the volume is.
use Rattle.std.proofs.Common.{rules, ◌<◌, Option, None, Some, ◌∙◌, arith}
use Rattle.std.specs.Prelude.{IfSome}
use Rattle.bd_device.specs.Blocks.{Image}
use Rattle.bd_model.specs.Tree.{root_only}
use Rattle.bd_image.specs.ImageTree.{ImageStandsFor}
use Rattle.bd_checkpoint.specs.Kept.{AllStandFor}
use Rattle.bd_volume.specs.Volume.{device_of}
use Rattle.bd_calls.specs.Format.{HasNewImage}
use Rattle.bd_calls.proofs.Runs.{as_last}
use Rattle.bd_calls.proofs.format.make_image.Goals as goal

-- where a crash may leave what reads give, that stands for what all that it may leave stands for
shown : (known : Option Image) (left : Image → Type 0) → IfSome known left → AllStandFor root_only 0 left → IfSome known (ImageStandsFor root_only 0)
shown None left stays kept = tt
shown (Some image) left stays kept = kept image stays

pub returns-in-Ok-clause-made : goal.returns-in-Ok-clause-made
returns-in-Ok-clause-made g c = λ some.
    as_last (λ e. (0 < g.D.Device.block_count e → IfSome (g.D.Device.contents e) (g.D.Device.left_since e (g.D.Device.call_count e))) → HasNewImage g.D.Device e)
    _ (device_of c.in-Ok.volume).now (search rules)
    (λ stays.
    let kept = c.in-Ok.ensures.kept some in
    let count = c.in-Ok.ensures.stays.count ∙ c.requires.size in
    record { stands = shown _ _ (stays (omega (arith, count))) kept; kept = kept })
    c.blocks-in-Ok.ensures.may_stay
