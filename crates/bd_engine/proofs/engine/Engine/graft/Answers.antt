-- What the call does to the tree it does to the engine.
use Rattle.std.proofs.Common.{OnOk, OnErr, IfErr, subst}
use Rattle.bd_message.specs.KeyMaps.{IsGrafted}
use Rattle.bd_graft.specs.Grafting.{IsWornByGraft, OnWorn}
use Rattle.bd_pager.specs.Pagers.{nodes_of, table_of}
use Rattle.bd_view.specs.Trees.{HasGrafted}
use Rattle.bd_engine.specs.Engines.{EngineState, seen, view_of, keys_of, IsSoundOn, IsReadOn, OnlyNodesOn}
use Rattle.bd_engine.proofs.Left.{kept_standing, only_nodes_on, paged_at, is_grafted, err_read, err_same, stays_sound}
use Rattle.bd_engine.proofs.Recalls.{sound_nodes, sound_grafted}
use Rattle.bd_engine.proofs.Reclaims.{on_read}
use Rattle.bd_engine.proofs.engine.Engine.graft.Goals as goal

pub invariant_of-self : goal.invariant_of-self
invariant_of-self g c =
    let i = c.self.inside in
    kept_standing g.D.Device (seen i.tree.map.store i.tree.recalled.found.keys i.log i.live i.stop i.tree.map.walk i.flushes) c.graft-grafted.new.tree.store c.forget_grafted.new.self.found.keys c.graft-grafted.new.tree.walk i.flushes (g.met.D.Device.since_earlier c.graft-grafted.new.tree.store.dev) c.self.invariant c.graft-grafted.ensures.stays.beside
    (λ s. stays_sound g.D.Device i.tree.map.store c.graft-grafted.new.tree.store c.graft-grafted.result (on_read g.D.Device i.tree.map.store c.graft-grafted.new.tree.store c.graft-grafted.result c.graft-grafted.ensures.err) (c.graft-grafted.ensures.sound s.known s.sound) (c.graft-grafted.ensures.stays.known s.known) s)

pub returns-clause-only : goal.returns-clause-only
returns-clause-only g c =
    let i = c.self.inside in
    subst (λ (e : EngineState g.row.D.Denot). OnlyNodesOn g.D.Device e (seen c.graft-grafted.new.tree.store c.forget_grafted.new.self.found.keys i.log i.live i.stop c.graft-grafted.new.tree.walk i.flushes)) c.self.view_is
    (only_nodes_on g.D.Device (seen i.tree.map.store i.tree.recalled.found.keys i.log i.live i.stop i.tree.map.walk i.flushes) c.graft-grafted.new.tree.store c.forget_grafted.new.self.found.keys c.graft-grafted.new.tree.walk i.flushes c.self.invariant (paged_at g.D.Device _ _ c.store.ensures c.nodes_are_placed.ensures) (paged_at g.D.Device _ _ c.store-2.ensures c.nodes_are_placed-2.ensures) c.graft-grafted.ensures.stays.known c.graft-grafted.ensures.stays.beside)

pub returns-clause-grafts : goal.returns-clause-grafts
returns-clause-grafts g c =
    let i = c.self.inside in
    subst (λ (e : EngineState g.row.D.Denot). IsSoundOn g.D.Device e → OnOk c.graft-grafted.result (HasGrafted c.args.s.now c.args.d.now c.args.keep (view_of g.D.Device e).tree (view_of g.D.Device (seen c.graft-grafted.new.tree.store c.forget_grafted.new.self.found.keys i.log i.live i.stop c.graft-grafted.new.tree.walk i.flushes)).tree)) c.self.view_is
    (λ s. is_grafted c.graft-grafted.result c.args.s.now c.args.d.now c.args.keep (view_of g.D.Device (seen i.tree.map.store i.tree.recalled.found.keys i.log i.live i.stop i.tree.map.walk i.flushes)).tree (view_of g.D.Device (seen c.graft-grafted.new.tree.store c.forget_grafted.new.self.found.keys i.log i.live i.stop c.graft-grafted.new.tree.walk i.flushes)).tree (c.graft-grafted.ensures.made s.known s.sound) c.graft-grafted.ensures.walked)

pub returns-clause-grafted : goal.returns-clause-grafted
returns-clause-grafted g c =
    let i = c.self.inside in
    subst (λ (e : EngineState g.row.D.Denot). IsSoundOn g.D.Device e → OnOk c.graft-grafted.result (IsGrafted (keys_of g.D.Device e.pager) c.args.s.now c.args.d.now c.args.keep (keys_of g.D.Device c.graft-grafted.new.tree.store))) c.self.view_is
    (λ s. c.graft-grafted.ensures.grafted s.known s.sound)

pub returns-clause-worn : goal.returns-clause-worn
returns-clause-worn g c =
    let i = c.self.inside in
    subst (λ (e : EngineState g.row.D.Denot). IsSoundOn g.D.Device e → IfErr c.graft-grafted.result (OnWorn (IsWornByGraft (nodes_of g.D.Device e.pager) (table_of e.pager) c.args.s.now c.args.d.now c.args.keep))) c.self.view_is
    (λ s. c.graft-grafted.ensures.worn s.known s.sound)

pub returns-clause-err : goal.returns-clause-err
returns-clause-err g c =
    let i = c.self.inside in
    subst (λ (e : EngineState g.row.D.Denot). OnErr c.graft-grafted.result (IsReadOn g.D.Device e (seen c.graft-grafted.new.tree.store c.forget_grafted.new.self.found.keys i.log i.live i.stop c.graft-grafted.new.tree.walk i.flushes))) c.self.view_is
    (err_read g.D.Device (seen i.tree.map.store i.tree.recalled.found.keys i.log i.live i.stop i.tree.map.walk i.flushes) c.graft-grafted.new.tree.store c.forget_grafted.new.self.found.keys c.graft-grafted.new.tree.walk c.graft-grafted.result c.graft-grafted.ensures.err_walk (on_read g.D.Device i.tree.map.store c.graft-grafted.new.tree.store c.graft-grafted.result c.graft-grafted.ensures.err)
    (λ s. sound_grafted g.D.Device (seen i.tree.map.store i.tree.recalled.found.keys i.log i.live i.stop i.tree.map.walk i.flushes) (seen c.graft-grafted.new.tree.store c.forget_grafted.new.self.found.keys i.log i.live i.stop c.graft-grafted.new.tree.walk i.flushes) c.args.s.now c.args.d.now c.args.keep c.graft-grafted.result c.forget_grafted.ensures (c.graft-grafted.ensures.grafted s.known s.sound)
    (err_same g.D.Device i.tree.map.store c.graft-grafted.new.tree.store c.graft-grafted.result (on_read g.D.Device i.tree.map.store c.graft-grafted.new.tree.store c.graft-grafted.result c.graft-grafted.ensures.err))
    (stays_sound g.D.Device i.tree.map.store c.graft-grafted.new.tree.store c.graft-grafted.result (on_read g.D.Device i.tree.map.store c.graft-grafted.new.tree.store c.graft-grafted.result c.graft-grafted.ensures.err) (c.graft-grafted.ensures.sound s.known s.sound) (c.graft-grafted.ensures.stays.known s.known) (sound_nodes g.D.Device (seen i.tree.map.store i.tree.recalled.found.keys i.log i.live i.stop i.tree.map.walk i.flushes) s)) s))

pub returns-clause-sound : goal.returns-clause-sound
returns-clause-sound g c =
    let i = c.self.inside in
    subst (λ (e : EngineState g.row.D.Denot). IsSoundOn g.D.Device e → IsSoundOn g.D.Device (seen c.graft-grafted.new.tree.store c.forget_grafted.new.self.found.keys i.log i.live i.stop c.graft-grafted.new.tree.walk i.flushes)) c.self.view_is
    (λ s. sound_grafted g.D.Device (seen i.tree.map.store i.tree.recalled.found.keys i.log i.live i.stop i.tree.map.walk i.flushes) (seen c.graft-grafted.new.tree.store c.forget_grafted.new.self.found.keys i.log i.live i.stop c.graft-grafted.new.tree.walk i.flushes) c.args.s.now c.args.d.now c.args.keep c.graft-grafted.result c.forget_grafted.ensures (c.graft-grafted.ensures.grafted s.known s.sound)
    (err_same g.D.Device i.tree.map.store c.graft-grafted.new.tree.store c.graft-grafted.result (on_read g.D.Device i.tree.map.store c.graft-grafted.new.tree.store c.graft-grafted.result c.graft-grafted.ensures.err))
    (stays_sound g.D.Device i.tree.map.store c.graft-grafted.new.tree.store c.graft-grafted.result (on_read g.D.Device i.tree.map.store c.graft-grafted.new.tree.store c.graft-grafted.result c.graft-grafted.ensures.err) (c.graft-grafted.ensures.sound s.known s.sound) (c.graft-grafted.ensures.stays.known s.known) (sound_nodes g.D.Device (seen i.tree.map.store i.tree.recalled.found.keys i.log i.live i.stop i.tree.map.walk i.flushes) s)) s)
