use Rattle.std.proofs.Common.{◌≡◌, sym, ap, subst, ◌∙◌}
use Rattle.bd_log.specs.Logs.{LogState}
use Rattle.bd_view.specs.Moves.{logged}
use Rattle.bd_engine.specs.Engines.{EngineState, seen, view_of, IsStanding}
use Rattle.bd_engine.proofs.Logging.{logged_standing, logged_view}
use Rattle.bd_engine.proofs.engine.Engine.log.Goals as goal

pub invariant_of-self : goal.invariant_of-self
invariant_of-self g c =
    let D = g.D.Device in
    let i = c.self.inside in
    let e = seen i.tree.map.store i.tree.recalled.found.keys i.log i.live i.stop i.tree.map.walk i.flushes in
    subst (λ (l : LogState). IsStanding D (seen i.tree.map.store i.tree.recalled.found.keys l i.live i.stop i.tree.map.walk i.flushes)) (sym c.append_record.ensures.log)
    (logged_standing D e c.args.command.now c.self.invariant c.append_record.ensures.is_record)

pub returns-clause-view : goal.returns-clause-view
returns-clause-view g c =
    let D = g.D.Device in
    let i = c.self.inside in
    let e = seen i.tree.map.store i.tree.recalled.found.keys i.log i.live i.stop i.tree.map.walk i.flushes in
    subst (λ (x : EngineState g.row.D.Denot). view_of D (seen i.tree.map.store i.tree.recalled.found.keys c.append_record.new.log i.live i.stop i.tree.map.walk i.flushes) ≡ logged c.args.command.now (view_of D x)) c.self.view_is
    (ap (λ (l : LogState). view_of D (seen i.tree.map.store i.tree.recalled.found.keys l i.live i.stop i.tree.map.walk i.flushes)) c.append_record.ensures.log ∙ logged_view D e c.args.command.now)
