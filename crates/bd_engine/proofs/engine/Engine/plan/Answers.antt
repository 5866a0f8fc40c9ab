-- Reads leave what holds between two calls.
use Rattle.std.proofs.Common.{refl, subst}
use Rattle.std.specs.Prelude.{IfOk}
use Rattle.bd_dirs.specs.Plans.{IsPlan}
use Rattle.bd_model.specs.Tree.{Tree, IsTree}
use Rattle.bd_represent.specs.Represents.{Represents}
use Rattle.bd_pager.specs.Calling.{read_keeps}
use Rattle.bd_engine.specs.Engines.{EngineState, seen, keys_of, IsSoundOn, IsReadOn}
use Rattle.bd_engine.proofs.Left.{kept_standing, read_on, read_sound}
use Rattle.bd_engine.proofs.engine.Engine.plan.Goals as goal

pub invariant_of-self : goal.invariant_of-self
invariant_of-self g c =
    let i = c.self.inside in
    kept_standing g.D.Device (seen i.tree.map.store i.tree.recalled.found.keys i.log i.live i.stop i.tree.map.walk i.flushes) c.plan_command.new.m.map.store c.plan_command.new.m.recalled.found.keys c.plan_command.new.m.map.walk i.flushes (g.met.D.Device.since_earlier c.plan_command.new.m.map.store.dev) c.self.invariant
    (read_keeps g.D.Device i.tree.map.store c.plan_command.new.m.map.store c.plan_command.ensures.left.read.0) (read_sound g.D.Device i.tree.map.store c.plan_command.new.m.map.store c.plan_command.ensures.left.read.0)

pub returns-clause-read : goal.returns-clause-read
returns-clause-read g c =
    let i = c.self.inside in
    let left = c.plan_command.ensures.left in
    subst (λ (e : EngineState g.row.D.Denot). IsReadOn g.D.Device e (seen c.plan_command.new.m.map.store c.plan_command.new.m.recalled.found.keys i.log i.live i.stop c.plan_command.new.m.map.walk i.flushes)) c.self.view_is
    (read_on g.D.Device (seen i.tree.map.store i.tree.recalled.found.keys i.log i.live i.stop i.tree.map.walk i.flushes) c.plan_command.new.m.map.store c.plan_command.new.m.recalled.found.keys c.plan_command.new.m.map.walk i.flushes left.read.1 refl left.read.0
    (λ s. let known = left.known ((s.known, s.sound), s.kept) in record { known = known.0.0; sound = known.0.1; kept = known.1 }))

pub returns-clause-plan : goal.returns-clause-plan
returns-clause-plan g c =
    subst (λ (e : EngineState g.row.D.Denot). IsSoundOn g.D.Device e → (t : Tree) → IsTree t → Represents (keys_of g.D.Device e.pager) t → IfOk c.plan_command.result (IsPlan (keys_of g.D.Device e.pager) t c.args.command.now)) c.self.view_is
    (λ s. c.plan_command.ensures.plan ((s.known, s.sound), s.kept))
