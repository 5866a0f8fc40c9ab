-- The engine looks, and a fault has its cause.
use Rattle.std.proofs.Common.{Bool, subst, ap}
use Rattle.std.specs.Prelude.{MatchOption}
use Rattle.std.proofs.lemmas.Result.{err_from_is_err_and}
use Rattle.bd_message.specs.KeyMaps.{NeverWorn}
use Rattle.bd_pager.specs.Pagers.{is_bad}
use Rattle.bd_cover.specs.Walking.{IsDue, HasNone}
use Rattle.bd_engine.specs.Engines.{EngineState}
use Rattle.bd_volume.specs.Volume.{view_of}
use Rattle.bd_volume.proofs.Called.{read_fails}
use Rattle.bd_volume.proofs.Reclaims.{look_fails, look_shows}
use Rattle.bd_volume.proofs.Writes.{writes_read}
use Rattle.bd_volume.proofs.volume.Volume.look.Goals as goal

pub returns-in_err-found-clause-fails : goal.returns-in_err-found-clause-fails
returns-in_err-found-clause-fails g c =
    let p = err_from_is_err_and c.from_residual.result c.from_residual.ensures.1 in
    let h = c.in_err-found.ensures in
    rw (p.1, p.2) (λ s. look_fails _ _ _ (is_bad g.D.Device c.next_change-found.new.self.pager) c.args.pushes _ c.in_err-found.field-0.0
    (c.sound_nodes_are_undamaged.ensures (h.read.sound s)) h.cause.failed)

pub returns-in_err-found-clause-ends : goal.returns-in_err-found-clause-ends
returns-in_err-found-clause-ends g c =
    let p = err_from_is_err_and c.from_residual.result c.from_residual.ensures.1 in
    let h = c.in_err-found.ensures in
    rw (p.1, p.2) (read_fails g.D.Device c.args.self.now (record { engine = c.next_change-found.new.self; count = c.args.self.now.count }) NeverWorn c.in_err-found.field-0.0
    c.requires (ap (λ (e : EngineState g.row.D.Denot). e.stop) h.read.rest) h.read.read.device h.cause (writes_read g.D.Device c.args.self.now.engine c.next_change-found.new.self h.read))

pub returns-clause-due : goal.returns-clause-due
returns-clause-due g c = λ s.
    let v = view_of g.D.Device c.args.self.now in
    subst (λ (b : Bool). MatchOption c.in_ok-found.field-0 (HasNone b v.tree.nodes v.tree.table v.tree.table.root) (λ change. IsDue b v.tree.nodes v.tree.table change v.tree.table.root)) c.allows_push-asked.ensures (c.in_ok-found.ensures.due s)

pub returns-in_err-found-clause-shows : goal.returns-in_err-found-clause-shows
returns-in_err-found-clause-shows g c =
    let p = err_from_is_err_and c.from_residual.result c.from_residual.ensures.1 in
    rw (p.1, p.2) (look_shows g.D.Device _ _ _ (is_bad g.D.Device c.next_change-found.new.self.pager) c.next_change-found.new.self c.in_err-found.field-0.0 c.in_err-found.ensures.cause.failed)
