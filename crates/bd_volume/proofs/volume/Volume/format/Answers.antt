-- A new image has the tree of `/`, and nothing waits.
use Rattle.std.proofs.Common.{refl}
use Rattle.bd_model.specs.Tree.{root_only}
use Rattle.bd_volume.specs.declared.volume.Volume.{Volume}
use Rattle.bd_volume.proofs.Started.{formatted_for}
use Rattle.bd_volume.proofs.volume.Volume.format.Goals as goal

pub returns-clause-stands : goal.returns-clause-stands
returns-clause-stands g c = λ told.
    let h = c.in_ok-engine.ensures in
    let v : Volume g.row.D.Denot = record { engine = c.in_ok-engine.engine; count = 0 } in
    formatted_for g.D.Device v h.fresh root_only 0 (h.known told) (h.tree told) refl (h.stands told) h.idle
