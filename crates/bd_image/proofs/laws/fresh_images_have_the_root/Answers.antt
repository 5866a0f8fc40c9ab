use Rattle.bd_image.proofs.Fresh.{fresh_stands}
use Rattle.bd_image.proofs.laws.fresh_images_have_the_root.Goals as goal

pub returns : goal.returns
returns c = fresh_stands
