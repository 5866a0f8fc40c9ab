-- Reads wear no counter, and find no bad block where the nodes are sound.
use Rattle.std.proofs.Common.{ap}
use Rattle.std.proofs.lemmas.Result.{err_from_is_err_and}
use Rattle.bd_message.specs.KeyMaps.{NeverWorn}
use Rattle.bd_engine.specs.Engines.{EngineState}
use Rattle.bd_volume.specs.declared.volume.Volume.{Volume}
use Rattle.bd_volume.specs.Volume.{view_of}
use Rattle.bd_volume.proofs.Called.{read_fails}
use Rattle.bd_volume.proofs.Faulted.{read_halts}
use Rattle.bd_volume.proofs.Writes.{writes_read}
use Rattle.bd_volume.proofs.volume.Volume.plan.Goals as goal

pub returns-in_err-planned-clause-fails : goal.returns-in_err-planned-clause-fails
returns-in_err-planned-clause-fails g c = λ s.
    let p = err_from_is_err_and c.from_residual.result c.from_residual.ensures.1 in
    let h = c.in_err-planned.ensures in
    let a : Volume g.row.D.Denot = c.args.self.now in
    let b : Volume g.row.D.Denot = record a { engine = c.plan-planned.new.self } in
    rw (p.1, p.2) (read_halts g.D.Device _ _ _ b a.count c.args.command.now (view_of g.D.Device a) (view_of g.D.Device b) c.in_err-planned.field-0.0 (c.sound_nodes_are_undamaged.ensures (h.read.sound s)) h.cause.failed)

pub returns-in_err-planned-clause-ends : goal.returns-in_err-planned-clause-ends
returns-in_err-planned-clause-ends g c =
    let p = err_from_is_err_and c.from_residual.result c.from_residual.ensures.1 in
    let h = c.in_err-planned.ensures in
    let a : Volume g.row.D.Denot = c.args.self.now in
    rw (p.1, p.2) (read_fails g.D.Device a (record a { engine = c.plan-planned.new.self }) NeverWorn c.in_err-planned.field-0.0 c.requires.going (ap (λ (e : EngineState g.row.D.Denot). e.stop) h.read.rest) h.read.read.device h.cause (writes_read g.D.Device a.engine c.plan-planned.new.self h.read))
