use Rattle.bd_shown.proofs.Kept.{kept_shown}
use Rattle.bd_shown.proofs.laws.kept_checkpoints_are_shown.Goals as goal

pub returns : goal.returns
returns g c = kept_shown g.D.Device
