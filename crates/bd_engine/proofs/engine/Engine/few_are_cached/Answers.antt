use Rattle.std.proofs.Common.{◌≤◌, subst, arith}
use Rattle.bd_limits.specs.Limits.{cached_limit}
use Rattle.bd_pager.specs.Pagers.{Paged, cached_of, cache_room}
use Rattle.bd_engine.specs.Engines.{EngineState}
use Rattle.bd_engine.proofs.engine.Engine.few_are_cached.Goals as goal

pub returns : goal.returns
returns g c =
    let few = subst (λ (p : Paged g.row.D.Denot). cached_of p ≤ cache_room p) c.store.ensures c.few_are_cached.ensures in
    subst (λ (e : EngineState g.row.D.Denot). cached_of e.pager ≤ cached_limit) c.self.view_is (omega (arith, few, c.self.invariant.room))
