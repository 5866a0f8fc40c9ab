-- Nodes are written early, a flush step is one of the command's, and a fault has its cause.
use Rattle.std.proofs.Common.{◌≡◌, ℕ, true, false, ap, sym, subst, ◌∙◌}
use Rattle.std.specs.Prelude.{Ok}
use Rattle.std.proofs.lemmas.Result.{err_from_is_err_and}
use Rattle.std.specs.Option.{option_copied}
use Rattle.bd_view.specs.Trees.{IsSettledFor}
use Rattle.bd_view.specs.Views.{View}
use Rattle.bd_view.specs.Moves.{FlushesAgain}
use Rattle.bd_engine.specs.Engines.{flushes_after, IsWornIn}
use Rattle.bd_volume.specs.declared.volume.Volume.{Volume}
use Rattle.bd_volume.specs.declared.fault.Fault.{Fault}
use Rattle.bd_volume.specs.Steps.{ShowsStep}
use Rattle.bd_volume.specs.Volume.{view_of}
use Rattle.bd_volume.proofs.Bad.{good_kept}
use Rattle.bd_volume.proofs.Early.{early_keys, early_goes, goes_ok, goes_both, goes_nodes}
use Rattle.bd_volume.proofs.Faulted.{flush_shows}
use Rattle.bd_volume.proofs.Replayed.{cause_map, cause_ok, cause_then, device_flush_fails, early_flush_fails, flush_again_fails}
use Rattle.bd_volume.proofs.volume.Volume.flush_once.Goals as goal

-- ---- a write failed

pub returns-in_err-make_space-clause-fails : goal.returns-in_err-make_space-clause-fails
returns-in_err-make_space-clause-fails g c =
    let p = err_from_is_err_and c.from_residual.result c.from_residual.ensures.1 in
    rw (p.1, p.2) (device_flush_fails g.D.Device c.in_err-make_space.field-0.0 c.args.command.now c.args.self.now c.in_err-make_space.ensures.kind)

pub returns-in_err-make_space-clause-same : goal.returns-in_err-make_space-clause-same
returns-in_err-make_space-clause-same g c = λ s. early_keys g.D.Device c.args.self.now c.make_space.new.self (c.in_err-make_space.ensures.view s)

pub returns-in_err-make_space-clause-writes : goal.returns-in_err-make_space-clause-writes
returns-in_err-make_space-clause-writes g c =
    let p = err_from_is_err_and c.from_residual.result c.from_residual.ensures.1 in
    let h = c.in_err-make_space.ensures.writes in
    rw (p.1, p.2) (record { early = h.early; stop = record { ok = tt; err = h.stop.err } })

pub returns-in_err-make_space-clause-cause : goal.returns-in_err-make_space-clause-cause
returns-in_err-make_space-clause-cause g c =
    let p = err_from_is_err_and c.from_residual.result c.from_residual.ensures.1 in
    rw (p.1, p.2) (record { kept = tt; failed = c.in_err-make_space.ensures.cause.failed })

-- ---- the step isn't made

pub returns-in_err-flush-clause-fails : goal.returns-in_err-flush-clause-fails
returns-in_err-flush-clause-fails g c =
    let p = err_from_is_err_and c.from_residual-in_err-flush.result c.from_residual-in_err-flush.ensures.1 in
    let k = c.in_ok-make_space.ensures in
    let h = c.in_err-flush.ensures in
    let a : Volume g.row.D.Denot = c.make_space.new.self in
    let b : Volume g.row.D.Denot = record a { engine = c.flush.new.self } in
    rw (p.1, p.2) (early_flush_fails g.D.Device _ c.args.command.now c.args.self.now a k.writes.early.good k.sound k.view
    (flush_again_fails g.D.Device _ _ _ a b c.args.command.now c.in_err-flush.field-0.0 h.sound (good_kept g.D.Device a.engine b.engine h.only.keeps) h.cause.failed))

pub returns-in_err-flush-clause-rest : goal.returns-in_err-flush-clause-rest
returns-in_err-flush-clause-rest g c = λ s off. (c.in_err-flush.ensures.rest (λ e. cc)).view ∙ c.in_ok-make_space.ensures.view s

pub returns-in_err-flush-clause-same : goal.returns-in_err-flush-clause-same
returns-in_err-flush-clause-same g c = λ s k. c.in_err-flush.ensures.same (c.in_ok-make_space.ensures.sound s) k ∙ early_keys g.D.Device c.args.self.now c.make_space.new.self (c.in_ok-make_space.ensures.view s) k

pub returns-in_err-flush-clause-writes : goal.returns-in_err-flush-clause-writes
returns-in_err-flush-clause-writes g c =
    let k = c.in_ok-make_space.ensures in
    let a : Volume g.row.D.Denot = c.make_space.new.self in
    let b : Volume g.row.D.Denot = record a { engine = c.flush.new.self } in
    early_goes g.D.Device c.args.how c.args.self.now b _
    (goes_both g.D.Device c.args.how c.args.self.now a b (goes_ok g.D.Device c.args.how c.args.self.now a _ k.writes) (goes_nodes g.D.Device c.args.how a b (g.met.D.Device.since_earlier b.engine.pager.dev) k.writes.stop.ok.stop_is c.in_err-flush.ensures.only))

pub returns-in_err-flush-clause-cause : goal.returns-in_err-flush-clause-cause
returns-in_err-flush-clause-cause g c =
    let p = err_from_is_err_and c.from_residual-in_err-flush.result c.from_residual-in_err-flush.ensures.1 in
    let a : Volume g.row.D.Denot = c.make_space.new.self in
    let b : Volume g.row.D.Denot = record a { engine = c.flush.new.self } in
    rw (p.1, p.2) (cause_then g.D.Device _ c.args.self.now a b c.in_ok-make_space.ensures.cause.kept (cause_map g.D.Device a b (IsWornIn g.D.Device a.engine.pager c.args.command.now) c.in_err-flush.field-0.0 c.in_err-flush.ensures.cause))

-- ---- it is made, or none is needed

pub returns-clause-flushed : goal.returns-clause-flushed
returns-clause-flushed g c = λ s is.
    let k = c.in_ok-make_space.ensures in
    let h = c.in_ok-flush.ensures in
    let a : Volume g.row.D.Denot = c.make_space.new.self in
    let b : Volume g.row.D.Denot = record a { engine = c.flush.new.self } in
    let sound = k.sound s in
    let on : c.in_ok-flush.field-0 ≡ true = cc in
    subst (λ (v : View). FlushesAgain c.args.command.now v (view_of g.D.Device b)) (k.view s) (record { flushes = h.flushes sound (ap Ok on); rest = h.only.view sound.known })

pub returns-clause-rest : goal.returns-clause-rest
returns-clause-rest g c = λ s off.
    let other = c.in_ok-flush.ensures.rest (λ e.
    let on : c.in_ok-flush.field-0 ≡ true = cc in
    off (ap Ok on)) in
    other.view ∙ c.in_ok-make_space.ensures.view s

pub returns-clause-settled : goal.returns-clause-settled
returns-clause-settled g c = λ s is.
    let h = c.in_ok-flush.ensures in
    let off : c.in_ok-flush.field-0 ≡ false = cc in
    subst (λ (v : View). IsSettledFor (option_copied c.args.source) v.tree) (sym (h.rest (λ e. cc)).view) (h.settled (c.in_ok-make_space.ensures.sound s) (ap Ok off))

pub returns-clause-same : goal.returns-clause-same
returns-clause-same g c = λ s k. c.in_ok-flush.ensures.same (c.in_ok-make_space.ensures.sound s) k ∙ early_keys g.D.Device c.args.self.now c.make_space.new.self (c.in_ok-make_space.ensures.view s) k

pub returns-clause-writes : goal.returns-clause-writes
returns-clause-writes g c =
    let k = c.in_ok-make_space.ensures in
    let a : Volume g.row.D.Denot = c.make_space.new.self in
    let b : Volume g.row.D.Denot = record a { engine = c.flush.new.self } in
    early_goes g.D.Device c.args.how c.args.self.now b _
    (goes_both g.D.Device c.args.how c.args.self.now a b (goes_ok g.D.Device c.args.how c.args.self.now a _ k.writes) (goes_nodes g.D.Device c.args.how a b (g.met.D.Device.since_earlier b.engine.pager.dev) k.writes.stop.ok.stop_is c.in_ok-flush.ensures.only))

pub returns-clause-cause : goal.returns-clause-cause
returns-clause-cause g c =
    let a : Volume g.row.D.Denot = c.make_space.new.self in
    let b : Volume g.row.D.Denot = record a { engine = c.flush.new.self } in
    cause_then g.D.Device _ c.args.self.now a b c.in_ok-make_space.ensures.cause.kept (cause_ok g.D.Device a b _ c.in_ok-flush.ensures.cause.kept)

-- ---- what is told where the nodes may not be known

pub returns-in_err-make_space-clause-shows : goal.returns-in_err-make_space-clause-shows
returns-in_err-make_space-clause-shows g c =
    let p = err_from_is_err_and c.from_residual.result c.from_residual.ensures.1 in
    rw (p.1, p.2) (subst (λ (fault : Fault). ShowsStep g.D.Device fault c.args.command.now c.make_space.new.self.engine) (sym c.in_err-make_space.ensures.kind) tt)

pub returns-in_err-make_space-clause-counted : goal.returns-in_err-make_space-clause-counted
returns-in_err-make_space-clause-counted g c =
    let p = err_from_is_err_and c.from_residual.result c.from_residual.ensures.1 in
    rw p.1 c.in_err-make_space.ensures.flushes

pub returns-in_err-flush-clause-shows : goal.returns-in_err-flush-clause-shows
returns-in_err-flush-clause-shows g c =
    let p = err_from_is_err_and c.from_residual-in_err-flush.result c.from_residual-in_err-flush.ensures.1 in
    let h = c.in_err-flush.ensures in
    let a : Volume g.row.D.Denot = c.make_space.new.self in
    let b : Volume g.row.D.Denot = record a { engine = c.flush.new.self } in
    rw (p.1, p.2) (flush_shows g.D.Device _ _ _ a b c.args.command.now c.in_err-flush.field-0.0 (h.rest (λ e. cc)).read h.cause.failed)

pub returns-in_err-flush-clause-counted : goal.returns-in_err-flush-clause-counted
returns-in_err-flush-clause-counted g c =
    let p = err_from_is_err_and c.from_residual-in_err-flush.result c.from_residual-in_err-flush.ensures.1 in
    rw p.1 (c.in_err-flush.ensures.counts ∙ c.in_ok-make_space.ensures.flushes)

pub returns-clause-counted : goal.returns-clause-counted
returns-clause-counted g c = c.in_ok-flush.ensures.counts ∙ ap (λ (n : ℕ). flushes_after {E = Fault} n (Ok c.in_ok-flush.field-0)) c.in_ok-make_space.ensures.flushes
