-- A command is planned, and what is planned is done.
use Rattle.std.proofs.Common.{◌+◌, refl, arith, sym, subst, ap}
use Rattle.std.specs.Prelude.{⊤, Err}
use Rattle.std.proofs.lemmas.Result.{err_from_is_err_and}
use Rattle.bd_message.specs.KeyMaps.{NeverWorn}
use Rattle.bd_dirs.specs.Plans.{IsPlan}
use Rattle.bd_engine.specs.Engines.{EngineState, keys_of}
use Rattle.bd_node.specs.Tables.{root_at}
use Rattle.bd_view.specs.Views.{View}
use Rattle.bd_volume.specs.declared.volume.Volume.{Volume}
use Rattle.bd_volume.specs.Volume.{view_of}
use Rattle.bd_volume.proofs.Early.{early_goes, early_fails, goes_none, goes_ok, goes_both, goes_counted, goes_read}
use Rattle.bd_volume.proofs.Faulted.{shows_same}
use Rattle.bd_volume.proofs.Replayed.{cause_worn, cause_map, cause_ok, cause_then, count_again, plan_fails, replay_fails, read_has, replays_read}
use Rattle.bd_volume.proofs.volume.Volume.replay_one.Goals as goal

pub returns-then-self-clause-fails : goal.returns-then-self-clause-fails
returns-then-self-clause-fails g c = λ s. count_again g.D.Device c.args.self.now.count c.args.placed.now.command (view_of g.D.Device c.args.self.now) (omega arith)

pub returns-then-self-clause-writes : goal.returns-then-self-clause-writes
returns-then-self-clause-writes g c = early_goes g.D.Device c.args.how c.args.self.now c.args.self.now _ (goes_none g.D.Device c.args.how c.args.self.now c.requires.going)

pub returns-then-self-clause-cause : goal.returns-then-self-clause-cause
returns-then-self-clause-cause g c = cause_worn g.D.Device c.args.self.now c.args.self.now _ refl

pub returns-in_err-plan-clause-fails : goal.returns-in_err-plan-clause-fails
returns-in_err-plan-clause-fails g c =
    let p = err_from_is_err_and c.from_residual.result c.from_residual.ensures.1 in
    let h = c.in_err-plan.ensures in
    let a : Volume g.row.D.Denot = c.args.self.now in
    let b : Volume g.row.D.Denot = record a { engine = c.plan.new.self } in
    rw (p.1, p.2) (plan_fails g.D.Device _ _ _ a b c.args.placed.now c.in_err-plan.field-0.0 h.read h.cause.failed)

pub returns-in_err-plan-clause-writes : goal.returns-in_err-plan-clause-writes
returns-in_err-plan-clause-writes g c =
    let a : Volume g.row.D.Denot = c.args.self.now in
    let b : Volume g.row.D.Denot = record a { engine = c.plan.new.self } in
    early_goes g.D.Device c.args.how a b _ (goes_read g.D.Device c.args.how a b (g.met.D.Device.since_earlier b.engine.pager.dev) c.requires.going c.in_err-plan.ensures.read)

pub returns-in_err-plan-clause-cause : goal.returns-in_err-plan-clause-cause
returns-in_err-plan-clause-cause g c =
    let p = err_from_is_err_and c.from_residual.result c.from_residual.ensures.1 in
    let a : Volume g.row.D.Denot = c.args.self.now in
    rw (p.1, p.2) (cause_map g.D.Device a (record a { engine = c.plan.new.self }) NeverWorn c.in_err-plan.field-0.0 c.in_err-plan.ensures.cause)

pub returns-in_err-send_planned-clause-fails : goal.returns-in_err-send_planned-clause-fails
returns-in_err-send_planned-clause-fails g c =
    let p = err_from_is_err_and c.from_residual-in_err-send_planned.result c.from_residual-in_err-send_planned.ensures.1 in
    let h = c.in_ok-plan.ensures in
    let a : Volume g.row.D.Denot = c.args.self.now in
    let b : Volume g.row.D.Denot = record a { engine = c.plan.new.self } in
    rw (p.1, p.2) (replay_fails g.D.Device c.in_err-send_planned.field-0.0 c.args.placed.now c.in_ok-plan.plan a b h.read refl (λ t has. h.plan has.nodes t has.is_tree has.represents) c.in_err-send_planned.ensures.fails)

pub returns-in_err-send_planned-clause-writes : goal.returns-in_err-send_planned-clause-writes
returns-in_err-send_planned-clause-writes g c =
    let a : Volume g.row.D.Denot = c.args.self.now in
    let b : Volume g.row.D.Denot = record a { engine = c.plan.new.self } in
    let p = err_from_is_err_and c.from_residual-in_err-send_planned.result c.from_residual-in_err-send_planned.ensures.1 in
    rw (p.1, p.2) (early_fails g.D.Device c.args.how a b c.send_planned.new.self c.in_err-send_planned.field-0.0 (goes_read g.D.Device c.args.how a b (g.met.D.Device.since_earlier b.engine.pager.dev) c.requires.going c.in_ok-plan.ensures.read) c.in_ok-plan.ensures.cause.kept c.in_err-send_planned.ensures.writes)

pub returns-in_err-send_planned-clause-cause : goal.returns-in_err-send_planned-clause-cause
returns-in_err-send_planned-clause-cause g c =
    let p = err_from_is_err_and c.from_residual-in_err-send_planned.result c.from_residual-in_err-send_planned.ensures.1 in
    let a : Volume g.row.D.Denot = c.args.self.now in
    let b : Volume g.row.D.Denot = record a { engine = c.plan.new.self } in
    rw (p.1, p.2) (cause_then g.D.Device _ a b c.send_planned.new.self c.in_ok-plan.ensures.cause.kept (record { kept = tt; failed = c.in_err-send_planned.ensures.cause.failed }))

pub returns-clause-replays : goal.returns-clause-replays
returns-clause-replays g c = λ t has.
    let h = c.in_ok-plan.ensures in
    let a : Volume g.row.D.Denot = c.args.self.now in
    let b : Volume g.row.D.Denot = record a { engine = c.plan.new.self } in
    let d : Volume g.row.D.Denot = record { engine = c.send_planned.new.self.engine; count = c.send_planned.new.self.count + 1 } in
    let plan : IsPlan (keys_of g.D.Device b.engine.pager) t c.args.placed.now.command c.in_ok-plan.plan =
    subst (λ (v : View). IsPlan (root_at v.tree.nodes v.tree.table) t c.args.placed.now.command c.in_ok-plan.plan) (sym h.read.view) (h.plan has.nodes t has.is_tree has.represents) in
    replays_read g.D.Device a b c.send_planned.new.self d t c.args.placed.now.command h.read refl (c.in_ok-send_planned.ensures.replays t (read_has g.D.Device a b t h.read has) plan)

pub returns-clause-sound : goal.returns-clause-sound
returns-clause-sound g c = λ s.
    c.in_ok-send_planned.ensures.sound (c.in_ok-plan.ensures.read.sound s)

pub returns-clause-writes : goal.returns-clause-writes
returns-clause-writes g c =
    let a : Volume g.row.D.Denot = c.args.self.now in
    let b : Volume g.row.D.Denot = record a { engine = c.plan.new.self } in
    let d : Volume g.row.D.Denot = c.send_planned.new.self in
    let read = goes_read g.D.Device c.args.how a b (g.met.D.Device.since_earlier b.engine.pager.dev) c.requires.going c.in_ok-plan.ensures.read in
    early_goes g.D.Device c.args.how a (record d { count = d.count + 1 }) _ (goes_counted g.D.Device c.args.how a d (d.count + 1) (goes_both g.D.Device c.args.how a b d read (goes_ok g.D.Device c.args.how b d _ c.in_ok-send_planned.ensures.writes)))

pub returns-clause-cause : goal.returns-clause-cause
returns-clause-cause g c =
    let a : Volume g.row.D.Denot = c.args.self.now in
    let b : Volume g.row.D.Denot = record a { engine = c.plan.new.self } in
    let d : Volume g.row.D.Denot = record c.send_planned.new.self { count = c.send_planned.new.self.count + 1 } in
    cause_then g.D.Device _ a b d c.in_ok-plan.ensures.cause.kept (cause_ok g.D.Device b d _ c.in_ok-send_planned.ensures.cause.kept)

-- ---- what is told where the nodes may not be known

pub returns-in_err-send_planned-clause-shows : goal.returns-in_err-send_planned-clause-shows
returns-in_err-send_planned-clause-shows g c =
    let p = err_from_is_err_and c.from_residual-in_err-send_planned.result c.from_residual-in_err-send_planned.ensures.1 in
    let read = c.in_ok-plan.ensures.read in
    rw (p.1, p.2) (shows_same g.D.Device {T = ⊤} (Err c.in_err-send_planned.field-0.0) c.args.self.now.count c.plan.new.self.flushes c.args.self.now.engine.flushes c.args.placed.now.command c.send_planned.new.self.engine (ap (λ (e : EngineState g.row.D.Denot). e.flushes) read.rest) c.in_err-send_planned.ensures.shows)

pub returns-in_err-send_planned-clause-few : goal.returns-in_err-send_planned-clause-few
returns-in_err-send_planned-clause-few g c =
    let same = ap (λ (e : EngineState g.row.D.Denot). e.flushes) c.in_ok-plan.ensures.read.rest in
    omega (arith, same, c.in_err-send_planned.ensures.few)

pub returns-clause-few : goal.returns-clause-few
returns-clause-few g c =
    let same = ap (λ (e : EngineState g.row.D.Denot). e.flushes) c.in_ok-plan.ensures.read.rest in
    omega (arith, same, c.in_ok-send_planned.ensures.few)

pub returns-in_err-plan-clause-few : goal.returns-in_err-plan-clause-few
returns-in_err-plan-clause-few g c =
    let same = ap (λ (e : EngineState g.row.D.Denot). e.flushes) c.in_err-plan.ensures.read.rest in
    omega (arith, same)
