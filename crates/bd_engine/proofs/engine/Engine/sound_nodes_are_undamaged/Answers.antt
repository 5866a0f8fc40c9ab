-- A sound node's slot has it.
use Rattle.std.proofs.Common.{ℕ, subst, ap, ◌∙◌}
use Rattle.bd_pager.specs.Pagers.{Paged, is_bad}
use Rattle.bd_engine.specs.Engines.{EngineState, seen, IsSoundOn}
use Rattle.bd_engine.proofs.Undamaged.{none_bad}
use Rattle.bd_engine.proofs.engine.Engine.sound_nodes_are_undamaged.Goals as goal

pub returns : goal.returns
returns g c =
    subst (λ (e : EngineState g.row.D.Denot). IsSoundOn g.D.Device e → (block : ℕ) → is_bad g.D.Device e.pager block → ⊥)
    (ap (λ (p : Paged g.row.D.Denot). seen p c.self.inside.tree.recalled.found.keys c.self.inside.log c.self.inside.live c.self.inside.stop c.self.inside.tree.map.walk c.self.inside.flushes) c.store.ensures ∙ c.self.view_is)
    (λ s block. none_bad g.D.Device c.store.result.now c.images_are_decoded.ensures.image c.nodes_are_placed.ensures (record { known = s.known; sound = s.sound }) block)
