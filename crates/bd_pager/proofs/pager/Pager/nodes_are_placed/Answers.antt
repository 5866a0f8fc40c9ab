use Rattle.std.proofs.Common.{subst}
use Rattle.bd_pager.specs.Pagers.{Paged, IsPaged}
use Rattle.bd_pager.proofs.pager.Pager.nodes_are_placed.Goals as goal

pub returns : goal.returns
returns g c =
    subst (λ (p : Paged g.row.D.Denot). IsPaged (g.D.Device.contents p.dev) p) c.self.view_is c.self.invariant.0
