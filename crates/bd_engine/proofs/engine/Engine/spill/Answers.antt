-- What the writes do to the pager they do to the engine.
use Rattle.std.proofs.Common.{◌≡◌, None, refl, sym, ap, subst, ◌∙◌}
use Rattle.bd_message.specs.KeyMaps.{SameAt}
use Rattle.bd_slots.specs.Layout.{image_blocks}
use Rattle.bd_pager.specs.Pagers.{Paged}
use Rattle.bd_checkpoint.proofs.Starting.{PartsAreOne}
use Rattle.bd_engine.specs.Engines.{EngineState, seen, keys_of, IsSoundOn, IsStanding, WritesEarly}
use Rattle.bd_engine.proofs.Left.{paged_at}
use Rattle.bd_engine.proofs.Recalls.{sound_nodes, sound_same}
use Rattle.bd_engine.proofs.Spilling.{ChangesNothing, due_if, spilled_sound, spilled_same, spilled_standing, writes_early}
use Rattle.bd_engine.proofs.engine.Engine.spill.Goals as goal

pub spill-spilled-requires : goal.spill-spilled-requires
spill-spilled-requires g c =
    let D = g.D.Device in
    let i = c.self.inside in
    let lent = c.store_mut.ensures.value in
    let standing : IsStanding D (seen c.store_mut.result.now i.tree.recalled.found.keys i.log i.live i.stop i.tree.map.walk i.flushes) = subst (λ (p : Paged g.row.D.Denot). IsStanding D (seen p i.tree.recalled.found.keys i.log i.live i.stop i.tree.map.walk i.flushes)) (sym lent) c.self.invariant in
    standing.size ∙ ap image_blocks (sym standing.slots)

pub invariant_of-self : goal.invariant_of-self
invariant_of-self g c =
    let D = g.D.Device in
    let i = c.self.inside in
    let lent = c.store_mut.ensures.value in
    let q = c.store_mut.result.now in
    let e = seen q i.tree.recalled.found.keys i.log i.live i.stop i.tree.map.walk i.flushes in
    let same : e ≡ c.args.self.now = ap (λ (p : Paged g.row.D.Denot). seen p i.tree.recalled.found.keys i.log i.live i.stop i.tree.map.walk i.flushes) lent ∙ c.self.view_is in
    let standing : IsStanding D e = subst (λ (p : Paged g.row.D.Denot). IsStanding D (seen p i.tree.recalled.found.keys i.log i.live i.stop i.tree.map.walk i.flushes)) (sym lent) c.self.invariant in
    let p = c.spill-spilled.new.self in
    let on : i.stop ≡ None = ap (λ (x : EngineState g.row.D.Denot). x.stop) same ∙ c.requires.going in
    let one : PartsAreOne = record { tables = c.tables_are_read_again.ensures; batches = c.batches_are_one.ensures } in
    let law : ChangesNothing D = record { table = c.spills_change_nothing.ensures.table; known = c.spills_change_nothing.ensures.known; nodes = c.spills_change_nothing.ensures.nodes } in
    spilled_standing D one e p (g.met.D.Device.since_earlier p.dev) standing on (paged_at D _ _ (c.store.ensures ∙ sym lent) c.nodes_are_placed.ensures) c.spill-spilled.ensures.spills c.stop_by-self-inside.result
    (spilled_sound D law q p c.spill-spilled.ensures.spills)

pub returns-clause-early : goal.returns-clause-early
returns-clause-early g c =
    let D = g.D.Device in
    let i = c.self.inside in
    let lent = c.store_mut.ensures.value in
    let q = c.store_mut.result.now in
    let e = seen q i.tree.recalled.found.keys i.log i.live i.stop i.tree.map.walk i.flushes in
    let same : e ≡ c.args.self.now = ap (λ (p : Paged g.row.D.Denot). seen p i.tree.recalled.found.keys i.log i.live i.stop i.tree.map.walk i.flushes) lent ∙ c.self.view_is in
    let standing : IsStanding D e = subst (λ (p : Paged g.row.D.Denot). IsStanding D (seen p i.tree.recalled.found.keys i.log i.live i.stop i.tree.map.walk i.flushes)) (sym lent) c.self.invariant in
    let p = c.spill-spilled.new.self in
    let on : i.stop ≡ None = ap (λ (x : EngineState g.row.D.Denot). x.stop) same ∙ c.requires.going in
    let one : PartsAreOne = record { tables = c.tables_are_read_again.ensures; batches = c.batches_are_one.ensures } in
    let law : ChangesNothing D = record { table = c.spills_change_nothing.ensures.table; known = c.spills_change_nothing.ensures.known; nodes = c.spills_change_nothing.ensures.nodes } in
    subst (λ (x : EngineState g.row.D.Denot). WritesEarly D x (seen p i.tree.recalled.found.keys i.log i.live c.stop_by-self-inside.result i.tree.map.walk i.flushes)) same
    (writes_early D one e p (g.met.D.Device.since_earlier p.dev) standing on (paged_at D _ _ (c.store.ensures ∙ sym lent) c.nodes_are_placed.ensures) c.spill-spilled.ensures.spills c.stop_by-self-inside.result law
    (due_if D q p _ c.spill-spilled.result c.stop_by-self-inside.result c.stop_by-self-inside.ensures c.spill-spilled.ensures.due))

pub returns-clause-sound : goal.returns-clause-sound
returns-clause-sound g c =
    let D = g.D.Device in
    let i = c.self.inside in
    let same = ap (λ (p : Paged g.row.D.Denot). seen p i.tree.recalled.found.keys i.log i.live i.stop i.tree.map.walk i.flushes) c.store_mut.ensures.value ∙ c.self.view_is in
    let law : ChangesNothing D = record { table = c.spills_change_nothing.ensures.table; known = c.spills_change_nothing.ensures.known; nodes = c.spills_change_nothing.ensures.nodes } in
    let e : EngineState g.row.D.Denot = seen c.store_mut.result.now i.tree.recalled.found.keys i.log i.live i.stop i.tree.map.walk i.flushes in
    let new : EngineState g.row.D.Denot = seen c.spill-spilled.new.self i.tree.recalled.found.keys i.log i.live c.stop_by-self-inside.result i.tree.map.walk i.flushes in
    subst (λ (x : EngineState g.row.D.Denot). IsSoundOn D x → IsSoundOn D new) same
    (λ s. sound_same D e new refl (spilled_sound D law e.pager new.pager c.spill-spilled.ensures.spills (sound_nodes D e s)) (spilled_same D law e.pager new.pager c.spill-spilled.ensures.spills (sound_nodes D e s)) s)

pub returns-clause-same : goal.returns-clause-same
returns-clause-same g c =
    let D = g.D.Device in
    let i = c.self.inside in
    let same = ap (λ (p : Paged g.row.D.Denot). seen p i.tree.recalled.found.keys i.log i.live i.stop i.tree.map.walk i.flushes) c.store_mut.ensures.value ∙ c.self.view_is in
    let law : ChangesNothing D = record { table = c.spills_change_nothing.ensures.table; known = c.spills_change_nothing.ensures.known; nodes = c.spills_change_nothing.ensures.nodes } in
    let e : EngineState g.row.D.Denot = seen c.store_mut.result.now i.tree.recalled.found.keys i.log i.live i.stop i.tree.map.walk i.flushes in
    subst (λ (x : EngineState g.row.D.Denot). IsSoundOn D x → SameAt (keys_of D x.pager) (keys_of D c.spill-spilled.new.self)) same
    (λ s. spilled_same D law e.pager c.spill-spilled.new.self c.spill-spilled.ensures.spills (sound_nodes D e s))
