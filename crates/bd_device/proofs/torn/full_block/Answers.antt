use Rattle.bd_device.proofs.Images.{IsBlock-full}
use Rattle.bd_device.proofs.torn.full_block.Goals as goal

pub returns-clause-whole : goal.returns-clause-whole
returns-clause-whole c = IsBlock-full c.args.byte c.ranges.byte.fits
