-- What the sync does to the parts it does to the engine.
use Rattle.std.proofs.Common.{◌≡◌, ℕ, None, Option, OnOk, length, refl, sym, ap, subst, ◌∙◌}
use Rattle.std.specs.List.{concat}
use Rattle.std.specs.Prelude.{IsTrue, is_ok}
use Rattle.std.proofs.lemmas.Result.{on_ok_weaker}
use Rattle.bd_device.specs.Blocks.{Image}
use Rattle.bd_device.specs.Device.{left_now, Goes}
use Rattle.bd_pager.specs.Pagers.{Paged}
use Rattle.bd_checkpoint.specs.Kept.{IsWithWaiting, IsWithAllOrNone}
use Rattle.bd_checkpoint.specs.Recovering.{saved_of}
use Rattle.bd_view.specs.Moves.{synced}
use Rattle.bd_engine.specs.Engines.{EngineState, seen, view_of, stop_by, IsStanding, KeepsNodesOn}
use Rattle.bd_engine.proofs.Logging.{none_wait}
use Rattle.bd_engine.proofs.Syncing.{synced_standing, synced_view, keeps_nodes_on}
use Rattle.bd_engine.proofs.engine.Engine.sync.Goals as goal

pub invariant_of-self : goal.invariant_of-self
invariant_of-self g c =
    let D = g.D.Device in
    let i = c.self.inside in
    let lent = c.store_mut.ensures.value in
    let q = c.store_mut.result.now in
    let e = seen q i.tree.recalled.found.keys i.log i.live i.stop i.tree.map.walk i.flushes in
    let same : e ≡ c.args.self.now = ap (λ (p : Paged g.row.D.Denot). seen p i.tree.recalled.found.keys i.log i.live i.stop i.tree.map.walk i.flushes) lent ∙ c.self.view_is in
    let standing : IsStanding D e = subst (λ (p : Paged g.row.D.Denot). IsStanding D (seen p i.tree.recalled.found.keys i.log i.live i.stop i.tree.map.walk i.flushes)) (sym lent) c.self.invariant in
    let p = c.sync_by-synced.new.pager in
    let r = c.sync_by-synced.result in
    let k = c.sync_by-synced.ensures in
    let on : i.stop ≡ None = ap (λ (x : EngineState g.row.D.Denot). x.stop) same ∙ c.requires.going in
    let stop : c.stop_by-self-inside.result ≡ stop_by (D.call_count p.dev) r = c.stop_by-self-inside.ensures ∙ (λ j. stop_by (D.call_count (c.store.ensures j).dev) r) in
    subst (λ (o : Option ℕ). IsStanding D (seen p i.tree.recalled.found.keys c.sync_by-synced.new.log i.live o i.tree.map.walk i.flushes)) (sym stop)
    (synced_standing D e p c.sync_by-synced.new.log r k.pager standing on k.stays k.ok k.err (on_ok_weaker r (λ known. known i.live (saved_of q) (standing.going on)) k.open))

pub returns-clause-view : goal.returns-clause-view
returns-clause-view g c =
    let D = g.D.Device in
    let i = c.self.inside in
    let lent = c.store_mut.ensures.value in
    let q = c.store_mut.result.now in
    let e = seen q i.tree.recalled.found.keys i.log i.live i.stop i.tree.map.walk i.flushes in
    let same : e ≡ c.args.self.now = ap (λ (p : Paged g.row.D.Denot). seen p i.tree.recalled.found.keys i.log i.live i.stop i.tree.map.walk i.flushes) lent ∙ c.self.view_is in
    let standing : IsStanding D e = subst (λ (p : Paged g.row.D.Denot). IsStanding D (seen p i.tree.recalled.found.keys i.log i.live i.stop i.tree.map.walk i.flushes)) (sym lent) c.self.invariant in
    let p = c.sync_by-synced.new.pager in
    let r = c.sync_by-synced.result in
    let k = c.sync_by-synced.ensures in
    subst (λ (x : EngineState g.row.D.Denot). OnOk r (view_of D (seen p i.tree.recalled.found.keys c.sync_by-synced.new.log i.live c.stop_by-self-inside.result i.tree.map.walk i.flushes) ≡ synced (view_of D x))) same
    (synced_view D e p c.sync_by-synced.new.log c.logs_have_the_same_numbers.ensures.place r c.stop_by-self-inside.result k.pager standing k.ok)

pub returns-clause-time : goal.returns-clause-time
returns-clause-time g c =
    let D = g.D.Device in
    let i = c.self.inside in
    let lent = c.store_mut.ensures.value in
    let q = c.store_mut.result.now in
    let e = seen q i.tree.recalled.found.keys i.log i.live i.stop i.tree.map.walk i.flushes in
    let same : e ≡ c.args.self.now = ap (λ (p : Paged g.row.D.Denot). seen p i.tree.recalled.found.keys i.log i.live i.stop i.tree.map.walk i.flushes) lent ∙ c.self.view_is in
    let standing : IsStanding D e = subst (λ (p : Paged g.row.D.Denot). IsStanding D (seen p i.tree.recalled.found.keys i.log i.live i.stop i.tree.map.walk i.flushes)) (sym lent) c.self.invariant in
    let p = c.sync_by-synced.new.pager in
    let on : i.stop ≡ None = ap (λ (x : EngineState g.row.D.Denot). x.stop) same ∙ c.requires.going in
    subst (λ (x : EngineState g.row.D.Denot). Goes D x.pager.dev p.dev (IsWithAllOrNone x.live x.log (left_now D x.pager.dev))) same
    (c.sync_by-synced.ensures.time i.live (saved_of q) (standing.going on))

pub returns-clause-kept : goal.returns-clause-kept
returns-clause-kept g c =
    let D = g.D.Device in
    let i = c.self.inside in
    let lent = c.store_mut.ensures.value in
    let q = c.store_mut.result.now in
    let e = seen q i.tree.recalled.found.keys i.log i.live i.stop i.tree.map.walk i.flushes in
    let same : e ≡ c.args.self.now = ap (λ (p : Paged g.row.D.Denot). seen p i.tree.recalled.found.keys i.log i.live i.stop i.tree.map.walk i.flushes) lent ∙ c.self.view_is in
    let standing : IsStanding D e = subst (λ (p : Paged g.row.D.Denot). IsStanding D (seen p i.tree.recalled.found.keys i.log i.live i.stop i.tree.map.walk i.flushes)) (sym lent) c.self.invariant in
    let p = c.sync_by-synced.new.pager in
    let r = c.sync_by-synced.result in
    let on : i.stop ≡ None = ap (λ (x : EngineState g.row.D.Denot). x.stop) same ∙ c.requires.going in
    subst (λ (x : EngineState g.row.D.Denot). OnOk r ((image : Image) → left_now D p.dev image → IsWithWaiting x.live x.log (left_now D x.pager.dev) image)) same
    (on_ok_weaker r (λ kept. kept i.live (saved_of q) (standing.going on)) c.sync_by-synced.ensures.kept)

pub returns-clause-idle : goal.returns-clause-idle
returns-clause-idle g c =
    let i = c.self.inside in
    let lent = c.store_mut.ensures.value in
    let q = c.store_mut.result.now in
    let e = seen q i.tree.recalled.found.keys i.log i.live i.stop i.tree.map.walk i.flushes in
    let same : e ≡ c.args.self.now = ap (λ (p : Paged g.row.D.Denot). seen p i.tree.recalled.found.keys i.log i.live i.stop i.tree.map.walk i.flushes) lent ∙ c.self.view_is in
    let p = c.sync_by-synced.new.pager in
    subst (λ (x : EngineState g.row.D.Denot). length (concat x.log.waiting) ≡ 0 → p.dev ≡ x.pager.dev) same
    (λ none. c.sync_by-synced.ensures.idle (none_wait i.log.waiting c.self.invariant.records none))

pub returns-clause-idle_ok : goal.returns-clause-idle_ok
returns-clause-idle_ok g c =
    let i = c.self.inside in
    subst (λ (x : EngineState g.row.D.Denot). length (concat x.log.waiting) ≡ 0 → IsTrue (is_ok c.sync_by-synced.result)) c.self.view_is
    (λ none. c.sync_by-synced.ensures.idle_ok (none_wait i.log.waiting c.self.invariant.records none))

pub returns-clause-nodes : goal.returns-clause-nodes
returns-clause-nodes g c =
    let D = g.D.Device in
    let i = c.self.inside in
    let lent = c.store_mut.ensures.value in
    let e : EngineState g.row.D.Denot = seen c.store_mut.result.now i.tree.recalled.found.keys i.log i.live i.stop i.tree.map.walk i.flushes in
    let same : e ≡ c.args.self.now = ap (λ (p : Paged g.row.D.Denot). seen p i.tree.recalled.found.keys i.log i.live i.stop i.tree.map.walk i.flushes) lent ∙ c.self.view_is in
    let new : EngineState g.row.D.Denot = seen c.sync_by-synced.new.pager i.tree.recalled.found.keys c.sync_by-synced.new.log i.live c.stop_by-self-inside.result i.tree.map.walk i.flushes in
    subst (λ (x : EngineState g.row.D.Denot). KeepsNodesOn D x new) same (keeps_nodes_on D e new c.sync_by-synced.ensures.pager refl refl refl refl)
