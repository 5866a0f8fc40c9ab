use Rattle.bd_image.proofs.FreshImage.{fresh_there}
use Rattle.bd_image.proofs.laws.fresh_images_are_there.Goals as goal

pub returns : goal.returns
returns c = fresh_there c.nodes_fit_slots.ensures.slot
