-- What the call does to the tree it does to the engine.
use Rattle.std.proofs.Common.{refl, subst, sym}
use Rattle.std.specs.Prelude.{OnOk, OnErr}
use Rattle.bd_message.specs.KeyMaps.{SameAt}
use Rattle.bd_pager.specs.Pagers.{nodes_of, table_of}
use Rattle.bd_cover.specs.Reclaimed.{IsReclaimed}
use Rattle.bd_reclaim.specs.Changes.{IsReclaimMade, LeavesLess}
use Rattle.bd_engine.specs.Engines.{EngineState, seen, keys_of, IsSoundOn, HasCause, IsReadOn, OnlyNodesOn}
use Rattle.bd_engine.specs.Reclaiming.{MayMake, IsWornToChange}
use Rattle.bd_engine.proofs.Left.{kept_standing, only_nodes_on, paged_at, stays_sound, err_read}
use Rattle.bd_engine.proofs.Recalls.{sound_nodes, sound_same}
use Rattle.bd_engine.proofs.Reclaims.{on_any, on_read, reclaimed_sound}
use Rattle.bd_engine.proofs.engine.Engine.make_change.Goals as goal

pub reclaim_step-made-requires-clause-to_do : goal.reclaim_step-made-requires-clause-to_do
reclaim_step-made-requires-clause-to_do g c =
    (subst (λ (e : EngineState g.row.D.Denot). MayMake g.D.Device e.pager c.args.change) (sym c.self.view_is) c.requires).to_do

pub reclaim_step-made-requires-clause-at : goal.reclaim_step-made-requires-clause-at
reclaim_step-made-requires-clause-at g c = λ known sound.
    (subst (λ (e : EngineState g.row.D.Denot). MayMake g.D.Device e.pager c.args.change) (sym c.self.view_is) c.requires).at (record { known = known; sound = sound })

pub invariant_of-self : goal.invariant_of-self
invariant_of-self g c =
    let i = c.self.inside in
    kept_standing g.D.Device (seen i.tree.map.store i.tree.recalled.found.keys i.log i.live i.stop i.tree.map.walk i.flushes) c.reclaim_step-made.new.self.store i.tree.recalled.found.keys c.reclaim_step-made.new.self.walk i.flushes (g.met.D.Device.since_earlier c.reclaim_step-made.new.self.store.dev) c.self.invariant c.reclaim_step-made.ensures.stays.beside
    (λ s. stays_sound g.D.Device i.tree.map.store c.reclaim_step-made.new.self.store c.reclaim_step-made.result (on_read g.D.Device i.tree.map.store c.reclaim_step-made.new.self.store c.reclaim_step-made.result c.reclaim_step-made.ensures.err) (reclaimed_sound _ _ _ _ c.reclaim_step-made.result (c.reclaim_step-made.ensures.reclaimed s.known s.sound)) (c.reclaim_step-made.ensures.stays.known s.known) s)

pub returns-clause-only : goal.returns-clause-only
returns-clause-only g c =
    let i = c.self.inside in
    subst (λ (e : EngineState g.row.D.Denot). OnlyNodesOn g.D.Device e (seen c.reclaim_step-made.new.self.store i.tree.recalled.found.keys i.log i.live i.stop c.reclaim_step-made.new.self.walk i.flushes)) c.self.view_is
    (only_nodes_on g.D.Device (seen i.tree.map.store i.tree.recalled.found.keys i.log i.live i.stop i.tree.map.walk i.flushes) c.reclaim_step-made.new.self.store i.tree.recalled.found.keys c.reclaim_step-made.new.self.walk i.flushes c.self.invariant (paged_at g.D.Device _ _ c.store.ensures c.nodes_are_placed.ensures) (paged_at g.D.Device _ _ c.store-2.ensures c.nodes_are_placed-2.ensures) c.reclaim_step-made.ensures.stays.known c.reclaim_step-made.ensures.stays.beside)

pub returns-clause-err : goal.returns-clause-err
returns-clause-err g c =
    let i = c.self.inside in
    subst (λ (e : EngineState g.row.D.Denot). OnErr c.reclaim_step-made.result (IsReadOn g.D.Device e (seen c.reclaim_step-made.new.self.store i.tree.recalled.found.keys i.log i.live i.stop c.reclaim_step-made.new.self.walk i.flushes))) c.self.view_is
    (err_read g.D.Device (seen i.tree.map.store i.tree.recalled.found.keys i.log i.live i.stop i.tree.map.walk i.flushes) c.reclaim_step-made.new.self.store i.tree.recalled.found.keys c.reclaim_step-made.new.self.walk c.reclaim_step-made.result (on_any c.reclaim_step-made.result c.reclaim_step-made.ensures.walk) (on_read g.D.Device i.tree.map.store c.reclaim_step-made.new.self.store c.reclaim_step-made.result c.reclaim_step-made.ensures.err)
    (λ s. sound_same g.D.Device (seen i.tree.map.store i.tree.recalled.found.keys i.log i.live i.stop i.tree.map.walk i.flushes) (seen c.reclaim_step-made.new.self.store i.tree.recalled.found.keys i.log i.live i.stop c.reclaim_step-made.new.self.walk i.flushes) refl
    (stays_sound g.D.Device i.tree.map.store c.reclaim_step-made.new.self.store c.reclaim_step-made.result (on_read g.D.Device i.tree.map.store c.reclaim_step-made.new.self.store c.reclaim_step-made.result c.reclaim_step-made.ensures.err) (reclaimed_sound _ _ _ _ c.reclaim_step-made.result (c.reclaim_step-made.ensures.reclaimed s.known s.sound)) (c.reclaim_step-made.ensures.stays.known s.known) (sound_nodes g.D.Device (seen i.tree.map.store i.tree.recalled.found.keys i.log i.live i.stop i.tree.map.walk i.flushes) s))
    (c.reclaim_step-made.ensures.same s.known s.sound) s))

pub returns-clause-cause : goal.returns-clause-cause
returns-clause-cause g c =
    subst (λ (e : EngineState g.row.D.Denot). HasCause g.D.Device e.pager c.reclaim_step-made.new.self.store (IsWornToChange g.D.Device e.pager c.args.change) c.reclaim_step-made.result) c.self.view_is
    (c.reclaim_step-made.ensures.cause)

pub returns-clause-made : goal.returns-clause-made
returns-clause-made g c =
    subst (λ (e : EngineState g.row.D.Denot). IsSoundOn g.D.Device e → OnOk c.reclaim_step-made.result (IsReclaimMade (nodes_of g.D.Device e.pager) (table_of e.pager) c.args.change (nodes_of g.D.Device c.reclaim_step-made.new.self.store) (table_of c.reclaim_step-made.new.self.store))) c.self.view_is
    (λ s. c.reclaim_step-made.ensures.made s.known s.sound)

pub returns-clause-reclaimed : goal.returns-clause-reclaimed
returns-clause-reclaimed g c =
    subst (λ (e : EngineState g.row.D.Denot). IsSoundOn g.D.Device e → OnOk c.reclaim_step-made.result (IsReclaimed (nodes_of g.D.Device e.pager) (table_of e.pager) (nodes_of g.D.Device c.reclaim_step-made.new.self.store) (table_of c.reclaim_step-made.new.self.store))) c.self.view_is
    (λ s. c.reclaim_step-made.ensures.reclaimed s.known s.sound)

pub returns-clause-less : goal.returns-clause-less
returns-clause-less g c =
    subst (λ (e : EngineState g.row.D.Denot). IsSoundOn g.D.Device e → OnOk c.reclaim_step-made.result (LeavesLess (nodes_of g.D.Device e.pager) (table_of e.pager) c.args.change (nodes_of g.D.Device c.reclaim_step-made.new.self.store) (table_of c.reclaim_step-made.new.self.store))) c.self.view_is
    (λ s. c.reclaim_step-made.ensures.falls s.known s.sound)

pub returns-clause-sound : goal.returns-clause-sound
returns-clause-sound g c =
    let i = c.self.inside in
    let old : EngineState g.row.D.Denot = seen i.tree.map.store i.tree.recalled.found.keys i.log i.live i.stop i.tree.map.walk i.flushes in
    subst (λ (e : EngineState g.row.D.Denot). IsSoundOn g.D.Device e → IsSoundOn g.D.Device (seen c.reclaim_step-made.new.self.store i.tree.recalled.found.keys i.log i.live i.stop c.reclaim_step-made.new.self.walk i.flushes)) c.self.view_is
    (λ s. sound_same g.D.Device old (seen c.reclaim_step-made.new.self.store i.tree.recalled.found.keys i.log i.live i.stop c.reclaim_step-made.new.self.walk i.flushes) refl
    (stays_sound g.D.Device i.tree.map.store c.reclaim_step-made.new.self.store c.reclaim_step-made.result (on_read g.D.Device i.tree.map.store c.reclaim_step-made.new.self.store c.reclaim_step-made.result c.reclaim_step-made.ensures.err) (reclaimed_sound _ _ _ _ c.reclaim_step-made.result (c.reclaim_step-made.ensures.reclaimed s.known s.sound)) (c.reclaim_step-made.ensures.stays.known s.known) (sound_nodes g.D.Device old s))
    (c.reclaim_step-made.ensures.same s.known s.sound) s)

pub returns-clause-same : goal.returns-clause-same
returns-clause-same g c =
    subst (λ (e : EngineState g.row.D.Denot). IsSoundOn g.D.Device e → SameAt (keys_of g.D.Device e.pager) (keys_of g.D.Device c.reclaim_step-made.new.self.store)) c.self.view_is
    (λ s. c.reclaim_step-made.ensures.same s.known s.sound)
