use Rattle.std.proofs.Common.{◌≡◌, ◌<◌, None, IfSome, refl, subst}
use Rattle.bd_device.specs.Device.{left_now}
use Rattle.bd_pager.specs.Pagers.{Paged}
use Rattle.bd_checkpoint.specs.Recovering.{saved_of}
use Rattle.bd_engine.specs.Engines.{EngineState, seen, view_of}
use Rattle.bd_engine.specs.Stored.{HasSaved}
use Rattle.bd_engine.proofs.Saving.{has_saved}
use Rattle.bd_engine.proofs.engine.Engine.saved_is_shown.Goals as goal

pub returns : goal.returns
returns g c =
    let D = g.D.Device in
    let i = c.self.inside in
    let e = seen i.tree.map.store i.tree.recalled.found.keys i.log i.live i.stop i.tree.map.walk i.flushes in
    let stays = subst (λ (p : Paged g.row.D.Denot). 0 < D.block_count p.dev → IfSome (D.contents p.dev) (left_now D p.dev)) c.store.ensures c.blocks-2.ensures.may_stay in
    subst (λ (e : EngineState g.row.D.Denot). e.stop ≡ None → IfSome (D.contents e.pager.dev) (HasSaved (view_of D e))) c.self.view_is
    (λ on. has_saved (D.contents e.pager.dev) (left_now D e.pager.dev) (D.block_count e.pager.dev) i.live (saved_of e.pager) i.log (view_of D e) (c.self.invariant.going on) stays refl)
