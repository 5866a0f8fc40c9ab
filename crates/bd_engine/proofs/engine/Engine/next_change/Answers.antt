-- What the tree finds the engine finds.
use Rattle.std.proofs.Common.{refl, subst}
use Rattle.std.specs.Prelude.{IfOk, MatchOption}
use Rattle.bd_pager.specs.Calling.{read_keeps}
use Rattle.bd_pager.specs.Pagers.{nodes_of, table_of}
use Rattle.bd_cover.specs.Walking.{IsDue, HasNone}
use Rattle.bd_engine.specs.Engines.{EngineState, seen, IsSoundOn, IsReadOn}
use Rattle.bd_engine.proofs.Left.{kept_standing, read_on, read_sound, read_keeps_sound}
use Rattle.bd_engine.proofs.Reclaims.{may_make}
use Rattle.bd_engine.proofs.engine.Engine.next_change.Goals as goal

pub invariant_of-self : goal.invariant_of-self
invariant_of-self g c =
    let i = c.self.inside in
    kept_standing g.D.Device (seen i.tree.map.store i.tree.recalled.found.keys i.log i.live i.stop i.tree.map.walk i.flushes) c.reclaim_next.new.self.store i.tree.recalled.found.keys c.reclaim_next.new.self.walk i.flushes (g.met.D.Device.since_earlier c.reclaim_next.new.self.store.dev) c.self.invariant
    (read_keeps g.D.Device i.tree.map.store c.reclaim_next.new.self.store c.reclaim_next.ensures.left.read) (read_sound g.D.Device i.tree.map.store c.reclaim_next.new.self.store c.reclaim_next.ensures.left.read)

pub returns-clause-due : goal.returns-clause-due
returns-clause-due g c =
    subst (λ (e : EngineState g.row.D.Denot). IsSoundOn g.D.Device e → IfOk c.reclaim_next.result (λ found. MatchOption found (HasNone c.args.pushes (nodes_of g.D.Device e.pager) (table_of e.pager) (table_of e.pager).root) (λ change. IsDue c.args.pushes (nodes_of g.D.Device e.pager) (table_of e.pager) change (table_of e.pager).root))) c.self.view_is
    (λ s. c.reclaim_next.ensures.due s.known s.sound)

pub returns-clause-may : goal.returns-clause-may
returns-clause-may g c =
    let i = c.self.inside in
    may_make g.D.Device i.tree.map.store c.reclaim_next.new.self.store c.reclaim_next.result c.reclaim_next.ensures.left.read c.reclaim_next.ensures.to_do c.reclaim_next.ensures.at

pub returns-clause-read : goal.returns-clause-read
returns-clause-read g c =
    let i = c.self.inside in
    let read = c.reclaim_next.ensures.left.read in
    subst (λ (e : EngineState g.row.D.Denot). IsReadOn g.D.Device e (seen c.reclaim_next.new.self.store i.tree.recalled.found.keys i.log i.live i.stop c.reclaim_next.new.self.walk i.flushes)) c.self.view_is
    (read_on g.D.Device (seen i.tree.map.store i.tree.recalled.found.keys i.log i.live i.stop i.tree.map.walk i.flushes) c.reclaim_next.new.self.store i.tree.recalled.found.keys c.reclaim_next.new.self.walk i.flushes c.reclaim_next.ensures.walk refl read
    (read_keeps_sound g.D.Device (seen i.tree.map.store i.tree.recalled.found.keys i.log i.live i.stop i.tree.map.walk i.flushes) c.reclaim_next.new.self.store c.reclaim_next.new.self.walk i.flushes read))
