-- The messages of a command of the log, after its flush steps.
use Rattle.std.proofs.Common.{arith}
use Rattle.std.proofs.lemmas.Result.{err_from_is_err_and}
use Rattle.bd_message.specs.KeyMaps.{NeverWorn}
use Rattle.bd_dirs.specs.Sendings.{Batch}
use Rattle.bd_engine.specs.Engines.{keys_of}
use Rattle.bd_volume.specs.declared.volume.Volume.{Volume}
use Rattle.bd_volume.specs.Volume.{view_of}
use Rattle.bd_volume.proofs.Early.{early_goes, goes_ok, goes_both, goes_nodes}
use Rattle.bd_volume.proofs.Bad.{good_both, good_kept}
use Rattle.bd_volume.proofs.Replayed.{cause_map, cause_ok, cause_then, append_fails, sends_again}
use Rattle.bd_volume.proofs.Sent.{applied_over}
use Rattle.bd_volume.proofs.volume.Volume.append_again.Goals as goal

pub returns-in_err-append-clause-fails : goal.returns-in_err-append-clause-fails
returns-in_err-append-clause-fails g c =
    let p = err_from_is_err_and c.from_residual-in_err-append.result c.from_residual-in_err-append.ensures.1 in
    let h = c.in_err-append.ensures in
    let a : Volume g.row.D.Denot = c.flush_again.new.self in
    let b : Volume g.row.D.Denot = record a { engine = c.append.new.self } in
    rw (p.1, p.2) (append_fails g.D.Device _ _ _ c.args.self.now b c.args.command.now c.in_err-append.field-0.0 (λ s. h.sound (c.in_ok-flush_again.ensures.sound s))
    (good_both g.D.Device c.args.self.now.engine a.engine b.engine c.in_ok-flush_again.ensures.writes.early.good (good_kept g.D.Device a.engine b.engine h.only.keeps)) h.cause.failed)

pub returns-in_err-append-clause-writes : goal.returns-in_err-append-clause-writes
returns-in_err-append-clause-writes g c =
    let a : Volume g.row.D.Denot = c.flush_again.new.self in
    let b : Volume g.row.D.Denot = record a { engine = c.append.new.self } in
    let first = goes_ok g.D.Device c.args.how c.args.self.now a _ c.in_ok-flush_again.ensures.writes in
    early_goes g.D.Device c.args.how c.args.self.now b _ (goes_both g.D.Device c.args.how c.args.self.now a b first (goes_nodes g.D.Device c.args.how a b (g.met.D.Device.since_earlier b.engine.pager.dev) first.going.stop_is c.in_err-append.ensures.only))

pub returns-in_err-append-clause-cause : goal.returns-in_err-append-clause-cause
returns-in_err-append-clause-cause g c =
    let p = err_from_is_err_and c.from_residual-in_err-append.result c.from_residual-in_err-append.ensures.1 in
    let a : Volume g.row.D.Denot = c.flush_again.new.self in
    let b : Volume g.row.D.Denot = record a { engine = c.append.new.self } in
    rw (p.1, p.2) (cause_then g.D.Device _ c.args.self.now a b c.in_ok-flush_again.ensures.cause.kept (cause_map g.D.Device a b NeverWorn c.in_err-append.field-0.0 c.in_err-append.ensures.cause))

pub returns-clause-sends : goal.returns-clause-sends
returns-clause-sends g c = λ s.
    let a : Volume g.row.D.Denot = c.flush_again.new.self in
    let b : Volume g.row.D.Denot = record a { engine = c.append.new.self } in
    let f = c.in_ok-flush_again.ensures in
    let h = c.in_ok-append.ensures in
    sends_again g.D.Device c.args.command.now (Batch c.args.list.now) (view_of g.D.Device c.args.self.now) (view_of g.D.Device a) (view_of g.D.Device b) (f.flushed s) f.enough (h.appended (f.sound s)) (h.only.view (f.sound s).known)

pub returns-clause-applied : goal.returns-clause-applied
returns-clause-applied g c = λ s.
    let f = c.in_ok-flush_again.ensures in
    applied_over (keys_of g.D.Device c.args.self.now.engine.pager) (keys_of g.D.Device c.flush_again.new.self.engine.pager) (keys_of g.D.Device c.append.new.self.pager) c.args.list.now (f.same s) (c.in_ok-append.ensures.applied (f.sound s))

pub returns-clause-writes : goal.returns-clause-writes
returns-clause-writes g c =
    let a : Volume g.row.D.Denot = c.flush_again.new.self in
    let b : Volume g.row.D.Denot = record a { engine = c.append.new.self } in
    let first = goes_ok g.D.Device c.args.how c.args.self.now a _ c.in_ok-flush_again.ensures.writes in
    early_goes g.D.Device c.args.how c.args.self.now b _ (goes_both g.D.Device c.args.how c.args.self.now a b first (goes_nodes g.D.Device c.args.how a b (g.met.D.Device.since_earlier b.engine.pager.dev) first.going.stop_is c.in_ok-append.ensures.only))

pub returns-clause-cause : goal.returns-clause-cause
returns-clause-cause g c =
    let a : Volume g.row.D.Denot = c.flush_again.new.self in
    let b : Volume g.row.D.Denot = record a { engine = c.append.new.self } in
    cause_then g.D.Device _ c.args.self.now a b c.in_ok-flush_again.ensures.cause.kept (cause_ok g.D.Device a b _ c.in_ok-append.ensures.cause.kept)

pub returns-in_err-append-clause-few : goal.returns-in_err-append-clause-few
returns-in_err-append-clause-few g c = omega (arith, c.in_ok-flush_again.ensures.few, c.in_err-append.ensures.flushes)

pub returns-clause-few : goal.returns-clause-few
returns-clause-few g c = omega (arith, c.in_ok-flush_again.ensures.few, c.in_ok-append.ensures.flushes)
