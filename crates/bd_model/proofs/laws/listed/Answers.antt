use Rattle.bd_model.proofs.Listing.{names_each, names_only, names_rise}
use Rattle.bd_model.proofs.laws.listed.Goals as goal

pub returns : goal.returns
returns c = record { each = names_each; only = names_only; rising = names_rise }
