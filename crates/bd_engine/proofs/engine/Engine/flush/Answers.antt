-- What the call does to the tree it does to the engine.
use Rattle.std.proofs.Common.{◌≡◌, true, refl, subst}
use Rattle.std.specs.Prelude.{Ok}
use Rattle.bd_message.specs.KeyMaps.{SameAt}
use Rattle.bd_pager.specs.Pagers.{table_of}
use Rattle.bd_shown.specs.Shown.{tree_of}
use Rattle.bd_view.specs.Trees.{FlushesFor, IsStepFound}
use Rattle.bd_view.proofs.Standing.{step_flushed}
use Rattle.bd_engine.specs.Engines.{EngineState, seen, keys_of, IsSoundOn, HasCause, IsWornIn, IsReadOn, OnlyNodesOn}
use Rattle.bd_engine.proofs.Left.{kept_standing, only_nodes_on, paged_at, read_on, read_keeps_sound, flush_sound, flush_same, not_counted}
use Rattle.bd_engine.proofs.Recalls.{sound_nodes, sound_same}
use Rattle.bd_engine.proofs.engine.Engine.flush.Goals as goal

pub invariant_of-self : goal.invariant_of-self
invariant_of-self g c =
    let i = c.self.inside in
    kept_standing g.D.Device (seen i.tree.map.store i.tree.recalled.found.keys i.log i.live i.stop i.tree.map.walk i.flushes) c.flush-flushed.new.tree.store i.tree.recalled.found.keys c.flush-flushed.new.tree.walk c.flushes_after-self-inside.result (g.met.D.Device.since_earlier c.flush-flushed.new.tree.store.dev) c.self.invariant c.flush-flushed.ensures.stays.beside
    (λ s. flush_sound g.D.Device i.tree.map.store c.flush-flushed.new.tree.store c.flush-flushed.result (λ no. (c.flush-flushed.ensures.rest no).read) (λ is. step_flushed c.args.command.now _ _ _ _ (c.flush-flushed.ensures.step s.known s.sound is)) (c.flush-flushed.ensures.stays.known s.known) s)

pub returns-clause-only : goal.returns-clause-only
returns-clause-only g c =
    let i = c.self.inside in
    subst (λ (e : EngineState g.row.D.Denot). OnlyNodesOn g.D.Device e (seen c.flush-flushed.new.tree.store i.tree.recalled.found.keys i.log i.live i.stop c.flush-flushed.new.tree.walk c.flushes_after-self-inside.result)) c.self.view_is
    (only_nodes_on g.D.Device (seen i.tree.map.store i.tree.recalled.found.keys i.log i.live i.stop i.tree.map.walk i.flushes) c.flush-flushed.new.tree.store i.tree.recalled.found.keys c.flush-flushed.new.tree.walk c.flushes_after-self-inside.result c.self.invariant (paged_at g.D.Device _ _ c.store.ensures c.nodes_are_placed.ensures) (paged_at g.D.Device _ _ c.store-2.ensures c.nodes_are_placed-2.ensures) c.flush-flushed.ensures.stays.known c.flush-flushed.ensures.stays.beside)

pub returns-clause-cause : goal.returns-clause-cause
returns-clause-cause g c =
    let i = c.self.inside in
    subst (λ (e : EngineState g.row.D.Denot). HasCause g.D.Device e.pager c.flush-flushed.new.tree.store (IsWornIn g.D.Device e.pager c.args.command.now) c.flush-flushed.result) c.self.view_is
    (c.flush-flushed.ensures.cause)

pub returns-clause-found : goal.returns-clause-found
returns-clause-found g c =
    subst (λ (e : EngineState g.row.D.Denot). c.flush-flushed.result ≡ Ok true → IsStepFound c.args.command.now (table_of e.pager) (table_of c.flush-flushed.new.tree.store)) c.self.view_is c.flush-flushed.ensures.found

pub returns-clause-flushes : goal.returns-clause-flushes
returns-clause-flushes g c =
    subst (λ (e : EngineState g.row.D.Denot). IsSoundOn g.D.Device e → c.flush-flushed.result ≡ Ok true → FlushesFor c.args.command.now (tree_of g.D.Device e.pager e.walk) (tree_of g.D.Device c.flush-flushed.new.tree.store c.flush-flushed.new.tree.walk)) c.self.view_is
    (λ s is. record {
      writing = c.requires.writes;
      step = c.flush-flushed.ensures.step s.known s.sound is;
      walk_is = c.flush-flushed.ensures.walk;
    })

pub returns-clause-rest : goal.returns-clause-rest
returns-clause-rest g c = λ no.
    let i = c.self.inside in
    let read = (c.flush-flushed.ensures.rest no).read in
    subst (λ (e : EngineState g.row.D.Denot). IsReadOn g.D.Device e (seen c.flush-flushed.new.tree.store i.tree.recalled.found.keys i.log i.live i.stop c.flush-flushed.new.tree.walk c.flushes_after-self-inside.result)) c.self.view_is
    (read_on g.D.Device (seen i.tree.map.store i.tree.recalled.found.keys i.log i.live i.stop i.tree.map.walk i.flushes) c.flush-flushed.new.tree.store i.tree.recalled.found.keys c.flush-flushed.new.tree.walk c.flushes_after-self-inside.result c.flush-flushed.ensures.walk (not_counted c.flush-flushed.result i.flushes c.flushes_after-self-inside.result no c.flushes_after-self-inside.ensures) read
    (read_keeps_sound g.D.Device (seen i.tree.map.store i.tree.recalled.found.keys i.log i.live i.stop i.tree.map.walk i.flushes) c.flush-flushed.new.tree.store c.flush-flushed.new.tree.walk c.flushes_after-self-inside.result read))

pub returns-clause-sound : goal.returns-clause-sound
returns-clause-sound g c =
    let i = c.self.inside in
    let old : EngineState g.row.D.Denot = seen i.tree.map.store i.tree.recalled.found.keys i.log i.live i.stop i.tree.map.walk i.flushes in
    let p = c.flush-flushed.new.tree.store in
    let r = c.flush-flushed.result in
    subst (λ (e : EngineState g.row.D.Denot). IsSoundOn g.D.Device e → IsSoundOn g.D.Device (seen c.flush-flushed.new.tree.store i.tree.recalled.found.keys i.log i.live i.stop c.flush-flushed.new.tree.walk c.flushes_after-self-inside.result)) c.self.view_is
    (λ s. sound_same g.D.Device old (seen c.flush-flushed.new.tree.store i.tree.recalled.found.keys i.log i.live i.stop c.flush-flushed.new.tree.walk c.flushes_after-self-inside.result) refl
    (flush_sound g.D.Device i.tree.map.store p r (λ no. (c.flush-flushed.ensures.rest no).read) (λ is. step_flushed c.args.command.now _ _ _ _ (c.flush-flushed.ensures.step s.known s.sound is)) (c.flush-flushed.ensures.stays.known s.known) (sound_nodes g.D.Device old s))
    (flush_same g.D.Device i.tree.map.store p r (λ no. (c.flush-flushed.ensures.rest no).read) (λ is. step_flushed c.args.command.now _ _ _ _ (c.flush-flushed.ensures.step s.known s.sound is))) s)

pub returns-clause-same : goal.returns-clause-same
returns-clause-same g c =
    let i = c.self.inside in
    subst (λ (e : EngineState g.row.D.Denot). IsSoundOn g.D.Device e → SameAt (keys_of g.D.Device e.pager) (keys_of g.D.Device c.flush-flushed.new.tree.store)) c.self.view_is
    (λ s. flush_same g.D.Device i.tree.map.store c.flush-flushed.new.tree.store c.flush-flushed.result (λ no. (c.flush-flushed.ensures.rest no).read) (λ is. step_flushed c.args.command.now _ _ _ _ (c.flush-flushed.ensures.step s.known s.sound is)))
