use Rattle.bd_shown.proofs.Saved.{saved_shown}
use Rattle.bd_shown.proofs.laws.checkpoints_are_shown.Goals as goal

pub returns : goal.returns
returns g c = λ contents old new walk version epoch place waiting h s room. saved_shown g.D.Device contents old new h s c.kept_nodes_are_listed.ensures.one walk version epoch place waiting room
