-- What reads give shows a bad block.
use Rattle.std.proofs.Common.{◌≡◌, ◌<◌, ℕ, None, IfSome, subst}
use Rattle.bd_device.specs.Device.{left_now}
use Rattle.bd_pager.specs.Pagers.{Paged, is_bad}
use Rattle.bd_checkpoint.specs.Recovering.{IsBadIn}
use Rattle.bd_engine.specs.Engines.{EngineState, seen}
use Rattle.bd_engine.proofs.Damage.{damage_shown}
use Rattle.bd_engine.proofs.Left.{paged_at}
use Rattle.bd_engine.proofs.engine.Engine.damage_is_shown.Goals as goal

pub returns : goal.returns
returns g c =
    let D = g.D.Device in
    let i = c.self.inside in
    let e = seen i.tree.map.store i.tree.recalled.found.keys i.log i.live i.stop i.tree.map.walk i.flushes in
    let stays = subst (λ (p : Paged g.row.D.Denot). 0 < D.block_count p.dev → IfSome (D.contents p.dev) (left_now D p.dev)) c.store-pager.ensures c.blocks-2.ensures.may_stay in
    subst (λ (x : EngineState g.row.D.Denot). (block : ℕ) → x.stop ≡ None → is_bad D x.pager block → IsBadIn (D.contents x.pager.dev) block) c.self.view_is
    (λ block on bad. damage_shown D e c.self.invariant on (paged_at D _ _ c.store-pager.ensures c.nodes_are_placed.ensures) stays block bad)
