-- What holds between two calls has nothing to do with the last graft.
use Rattle.std.proofs.Common.{sym, subst, ap, ◌∙◌}
use Rattle.bd_pager.specs.Pagers.{Paged}
use Rattle.bd_recall.specs.Kept.{findings}
use Rattle.bd_engine.specs.Engines.{EngineState, seen, IsStanding}
use Rattle.bd_engine.proofs.engine.Engine.forget_walk.Goals as goal

pub invariant_of-result : goal.invariant_of-result
invariant_of-result g c =
    let D = g.D.Device in
    let i = c.self.inside in
    let h = c.self.invariant in
    let kept = findings i.tree.recalled in
    subst (λ (p : Paged g.row.D.Denot). IsStanding D (seen p kept i.log i.live i.stop c.over.result.walk i.flushes)) (sym (c.over.ensures.store ∙ c.into_store.ensures))
    (record { fits = h.fits; size = h.size; slots = h.slots; table = h.table; unlent = h.unlent; room = h.room; records = h.records; going = h.going; no_worse = h.no_worse })

pub returns : goal.returns
returns g c =
    let i = c.self.inside in
    let kept = findings i.tree.recalled in
    (λ j. seen ((c.over.ensures.store ∙ c.into_store.ensures) j) kept i.log i.live i.stop (c.over.ensures.walk j) i.flushes)
    ∙ ap (λ (e : EngineState g.row.D.Denot). record e { walk = record { visits = 0; height = 0 } }) c.self.view_is
