-- What may start stands, whatever is kept of look-ups.
use Rattle.std.proofs.Common.{None, sym, subst}
use Rattle.bd_graft.specs.declared.grafting.Walk.{Walk}
use Rattle.bd_pager.specs.Pagers.{Paged}
use Rattle.bd_recall.specs.Kept.{findings}
use Rattle.bd_engine.specs.Engines.{seen, IsStanding}
use Rattle.bd_engine.proofs.engine.Engine.over.Goals as goal

pub invariant_of-result : goal.invariant_of-result
invariant_of-result g c =
    subst (λ (p : Paged g.row.D.Denot). IsStanding g.D.Device (seen p (findings c.new.result) c.args.log c.args.live None c.over.result.walk 0)) (sym c.over.ensures.store)
    (subst (λ (w : Walk). IsStanding g.D.Device (seen c.args.pager (findings c.new.result) c.args.log c.args.live None w 0)) (sym c.over.ensures.walk) (c.requires (findings c.new.result)))
