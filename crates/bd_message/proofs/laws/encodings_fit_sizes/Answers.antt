use Rattle.bd_message.proofs.EncodingSizes.{encoding_within}
use Rattle.bd_message.proofs.laws.encodings_fit_sizes.Goals as goal

pub returns : goal.returns
returns c = encoding_within
