use Rattle.std.proofs.Common.{◌≤◌, subst, arith}
use Rattle.bd_pager.specs.Pagers.{Paged, cached_of, cache_room}
use Rattle.bd_pager.proofs.pager.Pager.few_are_cached.Goals as goal

pub returns : goal.returns
returns g c =
    subst (λ (p : Paged g.row.D.Denot). cached_of p ≤ cache_room p) c.self.view_is (omega (arith, c.len.ensures.count, c.len.ensures.within))
