-- What the checkpoint does to the parts it does to the engine.
use Rattle.std.proofs.Common.{◌≡◌, ◌⊎◌, ◌^◌, ◌<◌, ◌≤◌, ℕ, None, Option, OnOk, OnErr, IfErr, sym, ap, subst, ◌∙◌, refl, arith}
use Rattle.bd_checkpoint.proofs.Opened.{AreDecoded}
use Rattle.bd_message.specs.KeyMaps.{SameAt}
use Rattle.bd_message.specs.declared.fault.MapFault.TheVariants.{DeviceFault}
use Rattle.bd_pager.specs.Pagers.{Paged, is_known}
use Rattle.bd_view.specs.Moves.{Saves}
use Rattle.bd_view.specs.Views.{free_slots, save_slots}
use Rattle.bd_engine.specs.Engines.{EngineState, seen, view_of, keys_of, stop_after, IsSoundOn, IsGoingOn, IsStopped, IsStanding}
use Rattle.bd_engine.specs.Writes.{WritesOn}
use Rattle.bd_engine.proofs.Left.{paged_at}
use Rattle.bd_engine.proofs.Recalls.{sound_nodes, sound_same}
use Rattle.bd_engine.proofs.Saving.{has_room, saved_standing, stop_err, writes, saves, begun, none_changed, kept_sound, kept_same}
use Rattle.bd_engine.proofs.engine.Engine.save.Goals as goal

pub checkpoint-saved-requires-clause-room : goal.checkpoint-saved-requires-clause-room
checkpoint-saved-requires-clause-room g c =
    let D = g.D.Device in
    let i = c.self.inside in
    let lent = c.store_mut.ensures.value in
    let e = seen c.store_mut.result.now i.tree.recalled.found.keys i.log i.live i.stop i.tree.map.walk i.flushes in
    let same : e ≡ c.args.self.now = ap (λ (p : Paged g.row.D.Denot). seen p i.tree.recalled.found.keys i.log i.live i.stop i.tree.map.walk i.flushes) lent ∙ c.self.view_is in
    let standing : IsStanding D e = subst (λ (p : Paged g.row.D.Denot). IsStanding D (seen p i.tree.recalled.found.keys i.log i.live i.stop i.tree.map.walk i.flushes)) (sym lent) c.self.invariant in
    let room : save_slots (view_of D e) ≤ free_slots (view_of D e) = subst (λ (x : EngineState g.row.D.Denot). save_slots (view_of D x) ≤ free_slots (view_of D x)) (sym same) c.requires.room in
    has_room D c.numbers_are_shown.ensures.changed c.numbers_are_shown.ensures.free e standing (paged_at D _ _ (c.store-2.ensures ∙ sym lent) c.nodes_are_placed.ensures) room

pub invariant_of-self : goal.invariant_of-self
invariant_of-self g c =
    let D = g.D.Device in
    let i = c.self.inside in
    let lent = c.store_mut.ensures.value in
    let q = c.store_mut.result.now in
    let e = seen q i.tree.recalled.found.keys i.log i.live i.stop i.tree.map.walk i.flushes in
    let same : e ≡ c.args.self.now = ap (λ (p : Paged g.row.D.Denot). seen p i.tree.recalled.found.keys i.log i.live i.stop i.tree.map.walk i.flushes) lent ∙ c.self.view_is in
    let standing : IsStanding D e = subst (λ (p : Paged g.row.D.Denot). IsStanding D (seen p i.tree.recalled.found.keys i.log i.live i.stop i.tree.map.walk i.flushes)) (sym lent) c.self.invariant in
    let p = c.checkpoint-saved.new.pager in
    let r = c.checkpoint-saved.result in
    let k = c.checkpoint-saved.ensures in
    let before : c.write_faults-before.result ≡ D.write_fault_count q.dev = c.write_faults-before.ensures ∙ ap (λ (x : Paged g.row.D.Denot). D.write_fault_count x.dev) (c.store.ensures ∙ sym lent) in
    let fits : D.write_fault_count q.dev < 2 ^ 64 = omega (arith, before, c.write_faults-before.type_inv) in
    let stop : c.stop_after-self-inside.result ≡ stop_after (D.write_fault_count q.dev) (D.write_fault_count p.dev) (D.call_count p.dev) r =
    c.stop_after-self-inside.ensures ∙ (λ j. stop_after (before j) (D.write_fault_count (c.store-4.ensures j).dev) (D.call_count (c.store-4.ensures j).dev) r) in
    let on : i.stop ≡ None = ap (λ (x : EngineState g.row.D.Denot). x.stop) same ∙ c.requires.going in
    let decoded : AreDecoded = record { found = c.images_are_decoded.ensures.found; image = c.images_are_decoded.ensures.image; one = c.images_are_of_one_node.ensures } in
    subst (λ (o : Option ℕ). IsStanding D (seen p i.tree.recalled.found.keys c.checkpoint-saved.new.log c.checkpoint-saved.new.live o i.tree.map.walk i.flushes)) (sym stop)
    (saved_standing D e p c.checkpoint-saved.new.log c.checkpoint-saved.new.live i.tree.map.walk c.args.count decoded (paged_at D _ _ (c.store-2.ensures ∙ sym lent) c.nodes_are_placed.ensures) (paged_at D _ _ c.store-3.ensures c.nodes_are_placed-2.ensures) r standing on fits k.open k.live k.log k.saved k.unsaved k.same_live k.same_log k.goes_on k.cause k.stays)

pub returns-clause-stop : goal.returns-clause-stop
returns-clause-stop g c =
    let D = g.D.Device in
    let i = c.self.inside in
    let lent = c.store_mut.ensures.value in
    let q = c.store_mut.result.now in
    let e = seen q i.tree.recalled.found.keys i.log i.live i.stop i.tree.map.walk i.flushes in
    let same : e ≡ c.args.self.now = ap (λ (p : Paged g.row.D.Denot). seen p i.tree.recalled.found.keys i.log i.live i.stop i.tree.map.walk i.flushes) lent ∙ c.self.view_is in
    let standing : IsStanding D e = subst (λ (p : Paged g.row.D.Denot). IsStanding D (seen p i.tree.recalled.found.keys i.log i.live i.stop i.tree.map.walk i.flushes)) (sym lent) c.self.invariant in
    let p = c.checkpoint-saved.new.pager in
    let r = c.checkpoint-saved.result in
    let k = c.checkpoint-saved.ensures in
    let before : c.write_faults-before.result ≡ D.write_fault_count q.dev = c.write_faults-before.ensures ∙ ap (λ (x : Paged g.row.D.Denot). D.write_fault_count x.dev) (c.store.ensures ∙ sym lent) in
    let fits : D.write_fault_count q.dev < 2 ^ 64 = omega (arith, before, c.write_faults-before.type_inv) in
    let stop : c.stop_after-self-inside.result ≡ stop_after (D.write_fault_count q.dev) (D.write_fault_count p.dev) (D.call_count p.dev) r =
    c.stop_after-self-inside.ensures ∙ (λ j. stop_after (before j) (D.write_fault_count (c.store-4.ensures j).dev) (D.call_count (c.store-4.ensures j).dev) r) in
    let on : i.stop ≡ None = ap (λ (x : EngineState g.row.D.Denot). x.stop) same ∙ c.requires.going in
    subst (λ (x : EngineState g.row.D.Denot). IfErr r (λ fault. (IsStopped D x (seen p i.tree.recalled.found.keys c.checkpoint-saved.new.log c.checkpoint-saved.new.live c.stop_after-self-inside.result i.tree.map.walk i.flushes) × (fault ≡ DeviceFault))
    ⊎ IsGoingOn D x (seen p i.tree.recalled.found.keys c.checkpoint-saved.new.log c.checkpoint-saved.new.live c.stop_after-self-inside.result i.tree.map.walk i.flushes))) same
    (subst (λ (o : Option ℕ). IfErr r (λ fault. (IsStopped D e (seen p i.tree.recalled.found.keys c.checkpoint-saved.new.log c.checkpoint-saved.new.live o i.tree.map.walk i.flushes) × (fault ≡ DeviceFault))
    ⊎ IsGoingOn D e (seen p i.tree.recalled.found.keys c.checkpoint-saved.new.log c.checkpoint-saved.new.live o i.tree.map.walk i.flushes))) (sym stop)
    (stop_err D e p c.checkpoint-saved.new.log c.checkpoint-saved.new.live i.tree.map.walk c.args.count r standing on fits k.goes_on k.cause))

pub returns-clause-writes : goal.returns-clause-writes
returns-clause-writes g c =
    let D = g.D.Device in
    let i = c.self.inside in
    let lent = c.store_mut.ensures.value in
    let q = c.store_mut.result.now in
    let e = seen q i.tree.recalled.found.keys i.log i.live i.stop i.tree.map.walk i.flushes in
    let same : e ≡ c.args.self.now = ap (λ (p : Paged g.row.D.Denot). seen p i.tree.recalled.found.keys i.log i.live i.stop i.tree.map.walk i.flushes) lent ∙ c.self.view_is in
    let standing : IsStanding D e = subst (λ (p : Paged g.row.D.Denot). IsStanding D (seen p i.tree.recalled.found.keys i.log i.live i.stop i.tree.map.walk i.flushes)) (sym lent) c.self.invariant in
    let p = c.checkpoint-saved.new.pager in
    let r = c.checkpoint-saved.result in
    let k = c.checkpoint-saved.ensures in
    let before : c.write_faults-before.result ≡ D.write_fault_count q.dev = c.write_faults-before.ensures ∙ ap (λ (x : Paged g.row.D.Denot). D.write_fault_count x.dev) (c.store.ensures ∙ sym lent) in
    let fits : D.write_fault_count q.dev < 2 ^ 64 = omega (arith, before, c.write_faults-before.type_inv) in
    let stop : c.stop_after-self-inside.result ≡ stop_after (D.write_fault_count q.dev) (D.write_fault_count p.dev) (D.call_count p.dev) r =
    c.stop_after-self-inside.ensures ∙ (λ j. stop_after (before j) (D.write_fault_count (c.store-4.ensures j).dev) (D.call_count (c.store-4.ensures j).dev) r) in
    let on : i.stop ≡ None = ap (λ (x : EngineState g.row.D.Denot). x.stop) same ∙ c.requires.going in
    subst (λ (x : EngineState g.row.D.Denot). WritesOn D x (seen p i.tree.recalled.found.keys c.checkpoint-saved.new.log c.checkpoint-saved.new.live c.stop_after-self-inside.result i.tree.map.walk i.flushes)) same
    (subst (λ (o : Option ℕ). WritesOn D e (seen p i.tree.recalled.found.keys c.checkpoint-saved.new.log c.checkpoint-saved.new.live o i.tree.map.walk i.flushes)) (sym stop)
    (writes D e p c.checkpoint-saved.new.log c.checkpoint-saved.new.live i.tree.map.walk c.args.count r k.live k.same_live k.unsaved
    (stop_err D e p c.checkpoint-saved.new.log c.checkpoint-saved.new.live i.tree.map.walk c.args.count r standing on fits k.goes_on k.cause) k.writes))

pub returns-clause-saves : goal.returns-clause-saves
returns-clause-saves g c =
    let D = g.D.Device in
    let i = c.self.inside in
    let lent = c.store_mut.ensures.value in
    let q = c.store_mut.result.now in
    let e = seen q i.tree.recalled.found.keys i.log i.live i.stop i.tree.map.walk i.flushes in
    let same : e ≡ c.args.self.now = ap (λ (p : Paged g.row.D.Denot). seen p i.tree.recalled.found.keys i.log i.live i.stop i.tree.map.walk i.flushes) lent ∙ c.self.view_is in
    let p = c.checkpoint-saved.new.pager in
    let r = c.checkpoint-saved.result in
    let k = c.checkpoint-saved.ensures in
    let log = c.checkpoint-saved.new.log in
    let live = c.checkpoint-saved.new.live in
    let room : save_slots (view_of D e) ≤ free_slots (view_of D e) = subst (λ (x : EngineState g.row.D.Denot). save_slots (view_of D x) ≤ free_slots (view_of D x)) (sym same) c.requires.room in
    subst (λ (x : EngineState g.row.D.Denot). is_known D x.pager → OnOk r (Saves (view_of D x) (view_of D (seen p i.tree.recalled.found.keys log live c.stop_after-self-inside.result i.tree.map.walk i.flushes)))) same
    (saves D e p log live i.tree.map.walk c.args.count c.checkpoints_are_shown.ensures r (paged_at D _ _ c.store-3.ensures c.nodes_are_placed-2.ensures) refl room k.live k.log k.saved)

pub returns-clause-none : goal.returns-clause-none
returns-clause-none g c =
    let D = g.D.Device in
    let i = c.self.inside in
    let lent = c.store_mut.ensures.value in
    let q = c.store_mut.result.now in
    let e = seen q i.tree.recalled.found.keys i.log i.live i.stop i.tree.map.walk i.flushes in
    let same : e ≡ c.args.self.now = ap (λ (p : Paged g.row.D.Denot). seen p i.tree.recalled.found.keys i.log i.live i.stop i.tree.map.walk i.flushes) lent ∙ c.self.view_is in
    let p = c.checkpoint-saved.new.pager in
    let room : save_slots (view_of D e) ≤ free_slots (view_of D e) = subst (λ (x : EngineState g.row.D.Denot). save_slots (view_of D x) ≤ free_slots (view_of D x)) (sym same) c.requires.room in
    none_changed D e p c.checkpoint-saved.new.log c.checkpoint-saved.new.live i.tree.map.walk c.args.count c.kept_nodes_are_listed.ensures.one c.checkpoints_keep_all.ensures.none c.checkpoint-saved.result (paged_at D _ _ c.store-3.ensures c.nodes_are_placed-2.ensures) room c.checkpoint-saved.ensures.saved

pub returns-clause-sound : goal.returns-clause-sound
returns-clause-sound g c =
    let D = g.D.Device in
    let i = c.self.inside in
    let same = ap (λ (p : Paged g.row.D.Denot). seen p i.tree.recalled.found.keys i.log i.live i.stop i.tree.map.walk i.flushes) c.store_mut.ensures.value ∙ c.self.view_is in
    let e : EngineState g.row.D.Denot = seen c.store_mut.result.now i.tree.recalled.found.keys i.log i.live i.stop i.tree.map.walk i.flushes in
    let p = c.checkpoint-saved.new.pager in
    let r = c.checkpoint-saved.result in
    let k = c.checkpoint-saved.ensures in
    let new : EngineState g.row.D.Denot = seen p i.tree.recalled.found.keys c.checkpoint-saved.new.log c.checkpoint-saved.new.live c.stop_after-self-inside.result i.tree.map.walk i.flushes in
    subst (λ (x : EngineState g.row.D.Denot). IsSoundOn D x → IsSoundOn D new) same
    (λ s. sound_same D e new refl (kept_sound D e.pager p r k.saved k.unsaved (sound_nodes D e s)) (kept_same D e.pager p r k.saved k.unsaved (sound_nodes D e s)) s)

pub returns-clause-same : goal.returns-clause-same
returns-clause-same g c =
    let D = g.D.Device in
    let i = c.self.inside in
    let same = ap (λ (p : Paged g.row.D.Denot). seen p i.tree.recalled.found.keys i.log i.live i.stop i.tree.map.walk i.flushes) c.store_mut.ensures.value ∙ c.self.view_is in
    let e : EngineState g.row.D.Denot = seen c.store_mut.result.now i.tree.recalled.found.keys i.log i.live i.stop i.tree.map.walk i.flushes in
    subst (λ (x : EngineState g.row.D.Denot). IsSoundOn D x → SameAt (keys_of D x.pager) (keys_of D c.checkpoint-saved.new.pager)) same
    (λ s. kept_same D e.pager c.checkpoint-saved.new.pager c.checkpoint-saved.result c.checkpoint-saved.ensures.saved c.checkpoint-saved.ensures.unsaved (sound_nodes D e s))

pub returns-clause-anew : goal.returns-clause-anew
returns-clause-anew g c =
    let D = g.D.Device in
    let i = c.self.inside in
    let e = seen c.store_mut.result.now i.tree.recalled.found.keys i.log i.live i.stop i.tree.map.walk i.flushes in
    let k = c.checkpoint-saved.ensures in
    begun D e c.checkpoint-saved.new.pager c.checkpoint-saved.new.log c.checkpoint-saved.new.live i.tree.map.walk c.args.count c.checkpoint-saved.result c.stop_after-self-inside.result k.live k.log

pub returns-clause-same_log : goal.returns-clause-same_log
returns-clause-same_log g c =
    subst (λ (x : EngineState g.row.D.Denot). OnErr c.checkpoint-saved.result (c.checkpoint-saved.new.log ≡ x.log)) c.self.view_is c.checkpoint-saved.ensures.same_log
