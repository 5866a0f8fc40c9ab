use Rattle.std.proofs.Common.{◌≡◌, ℕ, ◌+◌, ◌≤◌, length, arith, subst, ap, ◌∙◌}
use Rattle.std.specs.List.{concat}
use Rattle.bd_slots.specs.Layout.{table_length}
use Rattle.bd_node.specs.Tables.{kept_count}
use Rattle.bd_pager.specs.Pagers.{Paged}
use Rattle.bd_image.specs.Versions.{version_of}
use Rattle.bd_view.specs.Views.{View, changed_count, save_slots}
use Rattle.bd_engine.specs.Engines.{EngineState, seen, view_of}
use Rattle.bd_engine.proofs.Numbers.{few_changed}
use Rattle.bd_engine.proofs.engine.Engine.save_need.Goals as goal

pub overflow_add-result : goal.overflow_add-result
overflow_add-result g c =
    let v : View = view_of g.D.Device (seen c.store-pager.result.now c.self.inside.tree.recalled.found.keys c.self.inside.log c.self.inside.live c.self.inside.stop c.self.inside.tree.map.walk c.self.inside.flushes) in
    let same = c.numbers_are_shown.ensures.changed (g.D.Device.contents c.store-pager.result.now.dev) c.store-pager.result.now c.self.inside.tree.map.walk (version_of c.self.inside.live) c.self.inside.live.epoch c.self.inside.log.place (length (concat c.self.inside.log.waiting)) c.nodes_are_placed.ensures in
    let few : changed_count v ≤ kept_count v.tree.table = few_changed v in
    let table : c.table_length.result ≡ table_length c.kept.result = c.table_length.ensures in
    omega (arith, c.changed.ensures, same, few, c.kept.ensures.value, c.kept.ensures.small, table)

pub returns-clause-small : goal.returns-clause-small
returns-clause-small g c =
    let v : View = view_of g.D.Device (seen c.store-pager.result.now c.self.inside.tree.recalled.found.keys c.self.inside.log c.self.inside.live c.self.inside.stop c.self.inside.tree.map.walk c.self.inside.flushes) in
    let same = c.numbers_are_shown.ensures.changed (g.D.Device.contents c.store-pager.result.now.dev) c.store-pager.result.now c.self.inside.tree.map.walk (version_of c.self.inside.live) c.self.inside.live.epoch c.self.inside.log.place (length (concat c.self.inside.log.waiting)) c.nodes_are_placed.ensures in
    let few : changed_count v ≤ kept_count v.tree.table = few_changed v in
    let table : c.table_length.result ≡ table_length c.kept.result = c.table_length.ensures in
    omega (arith, c.changed.ensures, same, few, c.kept.ensures.value, c.kept.ensures.small, table)

pub returns-clause-value : goal.returns-clause-value
returns-clause-value g c =
    let v : View = view_of g.D.Device (seen c.store-pager.result.now c.self.inside.tree.recalled.found.keys c.self.inside.log c.self.inside.live c.self.inside.stop c.self.inside.tree.map.walk c.self.inside.flushes) in
    let same = c.numbers_are_shown.ensures.changed (g.D.Device.contents c.store-pager.result.now.dev) c.store-pager.result.now c.self.inside.tree.map.walk (version_of c.self.inside.live) c.self.inside.live.epoch c.self.inside.log.place (length (concat c.self.inside.log.waiting)) c.nodes_are_placed.ensures in
    subst (λ (e : EngineState g.row.D.Denot). c.changed.result + c.table_length.result ≡ save_slots (view_of g.D.Device e))
    (ap (λ (p : Paged g.row.D.Denot). seen p c.self.inside.tree.recalled.found.keys c.self.inside.log c.self.inside.live c.self.inside.stop c.self.inside.tree.map.walk c.self.inside.flushes) c.store-pager.ensures ∙ c.self.view_is)
    (ap (λ (n : ℕ). n + c.table_length.result) (c.changed.ensures ∙ same) ∙ ap (λ (n : ℕ). changed_count v + n) (c.table_length.ensures ∙ ap table_length c.kept.ensures.value))
