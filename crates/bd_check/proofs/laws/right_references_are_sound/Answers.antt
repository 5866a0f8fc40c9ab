use Rattle.bd_check.proofs.EntryNodes.{sound, all_named, miscounted}
use Rattle.bd_check.proofs.laws.right_references_are_sound.Goals as goal

pub returns-clause-sound : goal.returns-clause-sound
returns-clause-sound c image t are good = sound c.images_are_decoded.ensures.found image t good are

pub returns-clause-all : goal.returns-clause-all
returns-clause-all c image t are = all_named t are image

pub returns-clause-wrong : goal.returns-clause-wrong
returns-clause-wrong c image t are = miscounted t are image
