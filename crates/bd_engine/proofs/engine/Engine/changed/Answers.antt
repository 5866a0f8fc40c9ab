-- The pager's number is the view's.
use Rattle.std.proofs.Common.{◌≡◌, length, subst, ap, ◌∙◌}
use Rattle.std.specs.List.{concat}
use Rattle.bd_pager.specs.Pagers.{Paged}
use Rattle.bd_image.specs.Versions.{version_of}
use Rattle.bd_view.specs.Views.{changed_count}
use Rattle.bd_engine.specs.Engines.{EngineState, seen, view_of}
use Rattle.bd_engine.proofs.engine.Engine.changed.Goals as goal

pub returns : goal.returns
returns g c =
    let same = c.numbers_are_shown.ensures.changed (g.D.Device.contents c.store-pager.result.now.dev) c.store-pager.result.now c.self.inside.tree.map.walk (version_of c.self.inside.live) c.self.inside.live.epoch c.self.inside.log.place (length (concat c.self.inside.log.waiting)) c.nodes_are_placed.ensures in
    subst (λ (e : EngineState g.row.D.Denot). c.changed.result ≡ changed_count (view_of g.D.Device e))
    (ap (λ (p : Paged g.row.D.Denot). seen p c.self.inside.tree.recalled.found.keys c.self.inside.log c.self.inside.live c.self.inside.stop c.self.inside.tree.map.walk c.self.inside.flushes) c.store-pager.ensures ∙ c.self.view_is)
    (c.changed.ensures ∙ same)
