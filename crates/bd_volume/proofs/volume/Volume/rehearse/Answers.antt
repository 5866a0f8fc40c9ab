-- The commands of the log are tried over what was found.
use Rattle.std.proofs.Common.{List, [], refl, sym, subst, ap, ◌∙◌}
use Rattle.bd_device.specs.Device.{OnlyReads}
use Rattle.bd_checkpoint.specs.declared.commands.PlacedCommand.{PlacedCommand}
use Rattle.bd_engine.specs.Engines.{EngineState}
use Rattle.bd_volume.specs.declared.volume.Volume.{Volume}
use Rattle.bd_volume.specs.Rehearsals.{IsRehearsalFault}
use Rattle.bd_volume.specs.Replays.{ReplaysFront, StopsReplaying}
use Rattle.bd_volume.proofs.Rehearsed.{rehearsed, rehearsal_fails}
use Rattle.bd_volume.proofs.volume.Volume.rehearse.Goals as goal

pub returns-in-Ok-clause-done : goal.returns-in-Ok-clause-done
returns-in-Ok-clause-done g c =
    let r = c.args.recovered in
    let e = c.over-engine.result in
    let a : Volume g.row.D.Denot = record { engine = e; count = c.saved_count-count.result } in
    rehearsed g.D.Device r e.recalled c.over-engine.ensures.fresh c.saved_count-count.result (c.saved_count-count.ensures ∙ ap (λ (x : EngineState g.row.D.Denot). x.live.count) c.over-engine.ensures.started) e c.replay.new.self c.over-engine.ensures.started
    (subst (λ (l : List PlacedCommand). ReplaysFront g.D.Device l [] a c.replay.new.self) c.deref.ensures.value c.in-Ok.ensures.replays)

pub returns-in-Ok-clause-reads : goal.returns-in-Ok-clause-reads
returns-in-Ok-clause-reads g c =
    let D = g.D.Device in
    subst (λ (d : g.row.D.Denot). OnlyReads D d c.into_device.result) (ap (λ (x : EngineState g.row.D.Denot). x.pager.dev) c.over-engine.ensures.started)
    (subst (λ (d : g.row.D.Denot). OnlyReads D c.over-engine.result.pager.dev d) (sym c.into_device.ensures) (c.in-Ok.ensures.writes.early.quiet refl))

pub returns-in-Ok-clause-faults : goal.returns-in-Ok-clause-faults
returns-in-Ok-clause-faults g c =
    let D = g.D.Device in
    ap (λ (d : g.row.D.Denot). D.fault_count d) c.into_device.ensures ∙ c.in-Ok.ensures.cause.kept ∙ ap (λ (x : EngineState g.row.D.Denot). D.fault_count x.pager.dev) c.over-engine.ensures.started

pub returns-clause-fails : goal.returns-clause-fails
returns-clause-fails g c =
    let r = c.args.recovered in
    let e = c.over-engine.result in
    let a : Volume g.row.D.Denot = record { engine = e; count = c.saved_count-count.result } in
    subst (λ (d : g.row.D.Denot). IsRehearsalFault g.D.Device r d c.in-Err.fault) (sym c.into_device-in-Err.ensures)
    (rehearsal_fails g.D.Device r e.recalled c.over-engine.ensures.fresh c.saved_count-count.result (c.saved_count-count.ensures ∙ ap (λ (x : EngineState g.row.D.Denot). x.live.count) c.over-engine.ensures.started) e c.replay.new.self c.in-Err.fault c.over-engine.ensures.started
    c.sound_nodes_are_undamaged.ensures (subst (λ (l : List PlacedCommand). StopsReplaying g.D.Device c.in-Err.fault l a) c.deref.ensures.value c.in-Err.ensures.fails) c.in-Err.ensures.cause.failed)

pub returns-clause-left : goal.returns-clause-left
returns-clause-left g c =
    let D = g.D.Device in
    subst (λ (d : g.row.D.Denot). OnlyReads D d c.into_device-in-Err.result) (ap (λ (x : EngineState g.row.D.Denot). x.pager.dev) c.over-engine.ensures.started)
    (subst (λ (d : g.row.D.Denot). OnlyReads D c.over-engine.result.pager.dev d) (sym c.into_device-in-Err.ensures) (c.in-Err.ensures.writes.early.quiet refl))
