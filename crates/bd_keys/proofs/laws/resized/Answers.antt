use Rattle.bd_keys.proofs.EditLemmas.{length-resized, resized-kept, resized-zero}
use Rattle.bd_keys.proofs.laws.resized.Goals as goal

pub returns : goal.returns
returns c = record { long = length-resized; kept = resized-kept; zero = resized-zero }
