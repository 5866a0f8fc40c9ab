-- What the call does to the tree it does to the engine.
use Rattle.std.proofs.Common.{OnOk, OnErr, subst}
use Rattle.std.proofs.lemmas.Result.{on_ok_weaker}
use Rattle.bd_message.specs.KeyMaps.{IsApplied}
use Rattle.bd_view.specs.Trees.{HasAppended}
use Rattle.bd_engine.specs.Engines.{EngineState, seen, view_of, keys_of, IsSoundOn, IsReadOn, OnlyNodesOn}
use Rattle.bd_engine.proofs.Left.{kept_standing, only_nodes_on, paged_at, is_appended, err_read, err_same, stays_sound}
use Rattle.bd_engine.proofs.Recalls.{sound_nodes, sound_applied}
use Rattle.bd_engine.proofs.Reclaims.{on_any, on_read}
use Rattle.bd_engine.proofs.engine.Engine.append.Goals as goal

pub invariant_of-self : goal.invariant_of-self
invariant_of-self g c =
    let i = c.self.inside in
    kept_standing g.D.Device (seen i.tree.map.store i.tree.recalled.found.keys i.log i.live i.stop i.tree.map.walk i.flushes) c.append-appended.new.tree.store c.follow.new.recalled.found.keys c.append-appended.new.tree.walk i.flushes (g.met.D.Device.since_earlier c.append-appended.new.tree.store.dev) c.self.invariant c.append-appended.ensures.stays.beside
    (λ s. stays_sound g.D.Device i.tree.map.store c.append-appended.new.tree.store c.append-appended.result (on_read g.D.Device i.tree.map.store c.append-appended.new.tree.store c.append-appended.result c.append-appended.ensures.err)
    (on_ok_weaker c.append-appended.result (λ made. made.node_is.sound) (c.append-appended.ensures.appended s.known s.sound)) (c.append-appended.ensures.stays.known s.known) s)

pub returns-clause-only : goal.returns-clause-only
returns-clause-only g c =
    let i = c.self.inside in
    subst (λ (e : EngineState g.row.D.Denot). OnlyNodesOn g.D.Device e (seen c.append-appended.new.tree.store c.follow.new.recalled.found.keys i.log i.live i.stop c.append-appended.new.tree.walk i.flushes)) c.self.view_is
    (only_nodes_on g.D.Device (seen i.tree.map.store i.tree.recalled.found.keys i.log i.live i.stop i.tree.map.walk i.flushes) c.append-appended.new.tree.store c.follow.new.recalled.found.keys c.append-appended.new.tree.walk i.flushes c.self.invariant (paged_at g.D.Device _ _ c.store.ensures c.nodes_are_placed.ensures) (paged_at g.D.Device _ _ c.store-2.ensures c.nodes_are_placed-2.ensures) c.append-appended.ensures.stays.known c.append-appended.ensures.stays.beside)

pub returns-clause-appended : goal.returns-clause-appended
returns-clause-appended g c =
    let i = c.self.inside in
    subst (λ (e : EngineState g.row.D.Denot). IsSoundOn g.D.Device e → OnOk c.append-appended.result (HasAppended c.args.list.now (view_of g.D.Device e).tree (view_of g.D.Device (seen c.append-appended.new.tree.store c.follow.new.recalled.found.keys i.log i.live i.stop c.append-appended.new.tree.walk i.flushes)).tree)) c.self.view_is
    (λ s. is_appended c.append-appended.result c.args.list.now (view_of g.D.Device (seen i.tree.map.store i.tree.recalled.found.keys i.log i.live i.stop i.tree.map.walk i.flushes)).tree (view_of g.D.Device (seen c.append-appended.new.tree.store c.follow.new.recalled.found.keys i.log i.live i.stop c.append-appended.new.tree.walk i.flushes)).tree (c.append-appended.ensures.appended s.known s.sound) c.append-appended.ensures.table c.append-appended.ensures.walk)

pub returns-clause-applied : goal.returns-clause-applied
returns-clause-applied g c =
    let i = c.self.inside in
    subst (λ (e : EngineState g.row.D.Denot). IsSoundOn g.D.Device e → OnOk c.append-appended.result (IsApplied (keys_of g.D.Device e.pager) c.args.list.now (keys_of g.D.Device c.append-appended.new.tree.store))) c.self.view_is
    (λ s. c.append-appended.ensures.applied s.known s.sound)

pub returns-clause-err : goal.returns-clause-err
returns-clause-err g c =
    let i = c.self.inside in
    subst (λ (e : EngineState g.row.D.Denot). OnErr c.append-appended.result (IsReadOn g.D.Device e (seen c.append-appended.new.tree.store c.follow.new.recalled.found.keys i.log i.live i.stop c.append-appended.new.tree.walk i.flushes))) c.self.view_is
    (err_read g.D.Device (seen i.tree.map.store i.tree.recalled.found.keys i.log i.live i.stop i.tree.map.walk i.flushes) c.append-appended.new.tree.store c.follow.new.recalled.found.keys c.append-appended.new.tree.walk c.append-appended.result (on_any c.append-appended.result c.append-appended.ensures.walk) (on_read g.D.Device i.tree.map.store c.append-appended.new.tree.store c.append-appended.result c.append-appended.ensures.err)
    (λ s. sound_applied g.D.Device (seen i.tree.map.store i.tree.recalled.found.keys i.log i.live i.stop i.tree.map.walk i.flushes) (seen c.append-appended.new.tree.store c.follow.new.recalled.found.keys i.log i.live i.stop c.append-appended.new.tree.walk i.flushes) c.args.list.now c.append-appended.result c.follow.ensures.put c.follow.ensures.failed (c.append-appended.ensures.applied s.known s.sound)
    (err_same g.D.Device i.tree.map.store c.append-appended.new.tree.store c.append-appended.result (on_read g.D.Device i.tree.map.store c.append-appended.new.tree.store c.append-appended.result c.append-appended.ensures.err))
    (stays_sound g.D.Device i.tree.map.store c.append-appended.new.tree.store c.append-appended.result (on_read g.D.Device i.tree.map.store c.append-appended.new.tree.store c.append-appended.result c.append-appended.ensures.err)
    (on_ok_weaker c.append-appended.result (λ made. made.node_is.sound) (c.append-appended.ensures.appended s.known s.sound)) (c.append-appended.ensures.stays.known s.known) (sound_nodes g.D.Device (seen i.tree.map.store i.tree.recalled.found.keys i.log i.live i.stop i.tree.map.walk i.flushes) s)) s))

pub returns-clause-sound : goal.returns-clause-sound
returns-clause-sound g c =
    let i = c.self.inside in
    subst (λ (e : EngineState g.row.D.Denot). IsSoundOn g.D.Device e → IsSoundOn g.D.Device (seen c.append-appended.new.tree.store c.follow.new.recalled.found.keys i.log i.live i.stop c.append-appended.new.tree.walk i.flushes)) c.self.view_is
    (λ s. sound_applied g.D.Device (seen i.tree.map.store i.tree.recalled.found.keys i.log i.live i.stop i.tree.map.walk i.flushes) (seen c.append-appended.new.tree.store c.follow.new.recalled.found.keys i.log i.live i.stop c.append-appended.new.tree.walk i.flushes) c.args.list.now c.append-appended.result c.follow.ensures.put c.follow.ensures.failed (c.append-appended.ensures.applied s.known s.sound)
    (err_same g.D.Device i.tree.map.store c.append-appended.new.tree.store c.append-appended.result (on_read g.D.Device i.tree.map.store c.append-appended.new.tree.store c.append-appended.result c.append-appended.ensures.err))
    (stays_sound g.D.Device i.tree.map.store c.append-appended.new.tree.store c.append-appended.result (on_read g.D.Device i.tree.map.store c.append-appended.new.tree.store c.append-appended.result c.append-appended.ensures.err)
    (on_ok_weaker c.append-appended.result (λ made. made.node_is.sound) (c.append-appended.ensures.appended s.known s.sound)) (c.append-appended.ensures.stays.known s.known) (sound_nodes g.D.Device (seen i.tree.map.store i.tree.recalled.found.keys i.log i.live i.stop i.tree.map.walk i.flushes) s)) s)
