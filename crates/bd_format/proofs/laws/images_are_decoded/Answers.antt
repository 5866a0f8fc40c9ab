use Rattle.bd_format.proofs.Decodes.{decodes, decoded}
use Rattle.bd_format.proofs.laws.images_are_decoded.Goals as goal

pub returns-clause-found : goal.returns-clause-found
returns-clause-found c = decodes

pub returns-clause-image : goal.returns-clause-image
returns-clause-image c = decoded
