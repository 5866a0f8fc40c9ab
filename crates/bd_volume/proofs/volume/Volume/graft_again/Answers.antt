-- The graft of a command of the log, after its flush steps.
use Rattle.std.proofs.Common.{arith}
use Rattle.std.proofs.lemmas.Result.{err_from_is_err_and}
use Rattle.bd_dirs.specs.Sendings.{Move}
use Rattle.bd_graft.specs.Grafting.{IsWornForGraft}
use Rattle.bd_pager.specs.Pagers.{table_of}
use Rattle.bd_engine.specs.Engines.{keys_of}
use Rattle.bd_volume.specs.declared.volume.Volume.{Volume}
use Rattle.bd_volume.specs.Volume.{view_of}
use Rattle.bd_volume.proofs.Early.{early_goes, goes_ok, goes_both, goes_nodes}
use Rattle.bd_volume.proofs.Bad.{good_both, good_kept}
use Rattle.bd_volume.proofs.Faulted.{graft_shows}
use Rattle.bd_volume.proofs.Replayed.{cause_map, cause_ok, cause_then, graft_fails, sends_again}
use Rattle.bd_volume.proofs.Sent.{graft_source, grafted_over}
use Rattle.bd_volume.proofs.volume.Volume.graft_again.Goals as goal

pub flush_again-requires-clause-source : goal.flush_again-requires-clause-source
flush_again-requires-clause-source g c = graft_source c.args.command.now c.args.s.now c.args.d.now c.args.keep c.requires.kind

pub returns-in_err-graft-clause-fails : goal.returns-in_err-graft-clause-fails
returns-in_err-graft-clause-fails g c =
    let p = err_from_is_err_and c.from_residual-in_err-graft.result c.from_residual-in_err-graft.ensures.1 in
    let f = c.in_ok-flush_again.ensures in
    let h = c.in_err-graft.ensures in
    let a : Volume g.row.D.Denot = c.flush_again.new.self in
    let b : Volume g.row.D.Denot = record a { engine = c.graft.new.self } in
    rw (p.1, p.2) (graft_fails g.D.Device _ _ _ (IsWornForGraft (table_of a.engine.pager)) c.args.self.now a b c.args.command.now c.args.s.now c.args.d.now c.args.keep c.in_err-graft.field-0.0
    c.requires.kind f.sound h.sound (good_both g.D.Device c.args.self.now.engine a.engine b.engine f.writes.early.good (good_kept g.D.Device a.engine b.engine h.only.keeps)) f.flushed f.enough h.cause.failed h.worn)

pub returns-in_err-graft-clause-writes : goal.returns-in_err-graft-clause-writes
returns-in_err-graft-clause-writes g c =
    let a : Volume g.row.D.Denot = c.flush_again.new.self in
    let b : Volume g.row.D.Denot = record a { engine = c.graft.new.self } in
    let first = goes_ok g.D.Device c.args.how c.args.self.now a _ c.in_ok-flush_again.ensures.writes in
    early_goes g.D.Device c.args.how c.args.self.now b _ (goes_both g.D.Device c.args.how c.args.self.now a b first (goes_nodes g.D.Device c.args.how a b (g.met.D.Device.since_earlier b.engine.pager.dev) first.going.stop_is c.in_err-graft.ensures.only))

pub returns-in_err-graft-clause-cause : goal.returns-in_err-graft-clause-cause
returns-in_err-graft-clause-cause g c =
    let p = err_from_is_err_and c.from_residual-in_err-graft.result c.from_residual-in_err-graft.ensures.1 in
    let a : Volume g.row.D.Denot = c.flush_again.new.self in
    let b : Volume g.row.D.Denot = record a { engine = c.graft.new.self } in
    rw (p.1, p.2) (cause_then g.D.Device _ c.args.self.now a b c.in_ok-flush_again.ensures.cause.kept (cause_map g.D.Device a b (IsWornForGraft (table_of a.engine.pager)) c.in_err-graft.field-0.0 c.in_err-graft.ensures.cause))

pub returns-clause-sends : goal.returns-clause-sends
returns-clause-sends g c = λ s.
    let a : Volume g.row.D.Denot = c.flush_again.new.self in
    let b : Volume g.row.D.Denot = record a { engine = c.graft.new.self } in
    let f = c.in_ok-flush_again.ensures in
    let h = c.in_ok-graft.ensures in
    sends_again g.D.Device c.args.command.now (Move c.args.s.now c.args.d.now c.args.keep) (view_of g.D.Device c.args.self.now) (view_of g.D.Device a) (view_of g.D.Device b) (f.flushed s) f.enough (h.grafts (f.sound s)) (h.only.view (f.sound s).known)

pub returns-clause-grafted : goal.returns-clause-grafted
returns-clause-grafted g c = λ s.
    let f = c.in_ok-flush_again.ensures in
    grafted_over (keys_of g.D.Device c.args.self.now.engine.pager) (keys_of g.D.Device c.flush_again.new.self.engine.pager) (keys_of g.D.Device c.graft.new.self.pager) c.args.s.now c.args.d.now c.args.keep (f.same s) (c.in_ok-graft.ensures.grafted (f.sound s))

pub returns-clause-writes : goal.returns-clause-writes
returns-clause-writes g c =
    let a : Volume g.row.D.Denot = c.flush_again.new.self in
    let b : Volume g.row.D.Denot = record a { engine = c.graft.new.self } in
    let first = goes_ok g.D.Device c.args.how c.args.self.now a _ c.in_ok-flush_again.ensures.writes in
    early_goes g.D.Device c.args.how c.args.self.now b _ (goes_both g.D.Device c.args.how c.args.self.now a b first (goes_nodes g.D.Device c.args.how a b (g.met.D.Device.since_earlier b.engine.pager.dev) first.going.stop_is c.in_ok-graft.ensures.only))

pub returns-clause-cause : goal.returns-clause-cause
returns-clause-cause g c =
    let a : Volume g.row.D.Denot = c.flush_again.new.self in
    let b : Volume g.row.D.Denot = record a { engine = c.graft.new.self } in
    cause_then g.D.Device _ c.args.self.now a b c.in_ok-flush_again.ensures.cause.kept (cause_ok g.D.Device a b _ c.in_ok-graft.ensures.cause.kept)

pub returns-in_err-graft-clause-shows : goal.returns-in_err-graft-clause-shows
returns-in_err-graft-clause-shows g c =
    let p = err_from_is_err_and c.from_residual-in_err-graft.result c.from_residual-in_err-graft.ensures.1 in
    let h = c.in_err-graft.ensures in
    let a : Volume g.row.D.Denot = c.flush_again.new.self in
    let b : Volume g.row.D.Denot = record a { engine = c.graft.new.self } in
    rw (p.1, p.2) (graft_shows g.D.Device _ _ _ a b c.args.self.now.count c.args.self.now.engine.flushes c.args.command.now c.args.s.now c.args.d.now c.args.keep c.in_err-graft.field-0.0
    c.requires.kind c.in_ok-flush_again.ensures.enough h.err.read h.cause.failed)

pub returns-in_err-graft-clause-few : goal.returns-in_err-graft-clause-few
returns-in_err-graft-clause-few g c = omega (arith, c.in_ok-flush_again.ensures.few, c.in_err-graft.ensures.flushes)

pub returns-clause-few : goal.returns-clause-few
returns-clause-few g c = omega (arith, c.in_ok-flush_again.ensures.few, c.in_ok-graft.ensures.flushes)
